-- What a sheet knows of a history and what it shows of it, and when it is the sheet of a history.
use Rattle.std.specs.Prelude.{◌≡◌, ℕ, ◌+◌, ◌*◌, ◌<◌, ◌≤◌, true, false, if◌then◌else◌, List, [], ◌∷◌, drop, is_some, Some, None, vec_items, slice_index_or}
use Rattle.estimators.specs.Meaning.{Meaning}
use Rattle.rules.specs.Figures.{estimate, estimates_sum, figure, load, share_on, is_active, counted_estimate, supplied_figure}
use Rattle.rules.specs.History.{History, Setting, covers, covering_reading}
use Rattle.rules.specs.declared.entry.Entry.{Entry}
use Rattle.rules.specs.declared.entry.Entry.TheVariants.{DegreeDaysEntered}
use Rattle.rules.specs.declared.entry.Reading.{Reading}
use Rattle.ledger.specs.declared.ledger.Ledger.{Ledger}
use Rattle.sheet.specs.Account.{HasBoundedEstimates}
use Rattle.sheet.specs.Coverage.{CoversTo}
use Rattle.sheet.specs.Sheet.{figure_at}
use Rattle.sheet.specs.declared.sheet.DayNote.TheVariants.{EstimatesShown, NothingEstimated, NothingKnown, NothingLeft}
use Rattle.sheet.specs.declared.sheet.DayNote.{DayNote}
use Rattle.sheet.specs.declared.sheet.PointStatus.TheVariants.{Absent, Covered, Estimated}
use Rattle.sheet.specs.declared.sheet.PointStatus.{PointStatus}
use Rattle.sheet.specs.declared.sheet.Sheet.{Sheet}
use Rattle.rules.specs.Calls.{IsLawful}
use Rattle.rules.specs.FigureLaws.{DiffersInLoad}
use Rattle.rules.specs.Readings.{are_joined}
use Rattle.ledger.specs.Ledger.{IsLedgerOf}

-- the status of a point on a day: covered where a reading covers it, else estimated from its start day on
abbrev pub status_of : History → ℕ → ℕ → PointStatus
status_of h p d = if is_some (covering_reading h p d) then Covered else (if is_active h p d then Estimated else Absent)

-- What a sheet shows of a day.

-- its supplied figures
abbrev pub ShowsSupplied : Setting → History → Sheet → ℕ → Type 0
ShowsSupplied s h sheet d =
    (p x : ℕ) → 1 ≤ p → p ≤ s.points → supplied_figure s h p d ≡ Some x → figure_at sheet p d ≡ x

-- all its figures
abbrev pub ShowsDay : Setting → History → Sheet → ℕ → Type 0
ShowsDay s h sheet d = (p : ℕ) → 1 ≤ p → p ≤ s.points → figure_at sheet p d ≡ figure s h p d

-- of each point that no reading covers its estimate as it is
abbrev pub ShowsEstimates : Setting → History → Sheet → ℕ → Type 0
ShowsEstimates s h sheet d =
    (p : ℕ) → 1 ≤ p → p ≤ s.points → is_some (covering_reading h p d) ≡ false
    → figure_at sheet p d ≡ counted_estimate s h p d

-- of each point that no reading covers 0
abbrev pub ShowsNothing : Setting → History → Sheet → ℕ → Type 0
ShowsNothing s h sheet d =
    (p : ℕ) → 1 ≤ p → p ≤ s.points → is_some (covering_reading h p d) ≡ false → figure_at sheet p d ≡ 0

-- What a sheet notes of its days, so that most of those whose figures stand are not settled again.

-- what a note says of a day is so
abbrev pub IsTrueNote : Setting → History → Sheet → ℕ → DayNote → Type 0
IsTrueNote s h sheet d NothingKnown = Unit {0}
IsTrueNote s h sheet d NothingEstimated = (estimates_sum s h d ≡ 0) × ShowsEstimates s h sheet d
IsTrueNote s h sheet d EstimatesShown = ShowsEstimates s h sheet d
IsTrueNote s h sheet d NothingLeft = ShowsNothing s h sheet d

-- what a sheet has noted of a day is so
abbrev pub HasTrueNote : Setting → History → Sheet → ℕ → Type 0
HasTrueNote s h sheet d = IsTrueNote s h sheet d (slice_index_or sheet.notes d NothingKnown)

-- a day can be settled again by its note: its supplied figures are shown, and what is noted of it is so
abbrev pub IsReadyToSettle : Setting → History → Sheet → ℕ → Type 0
IsReadyToSettle s h sheet d = ShowsSupplied s h sheet d × HasTrueNote s h sheet d

-- a day is settled: its figures are shown, and what is noted of it is so
abbrev pub IsSettled : Setting → History → Sheet → ℕ → Type 0
IsSettled s h sheet d = ShowsDay s h sheet d × HasTrueNote s h sheet d

-- The shares of readings that a sheet shows.

-- the days of a reading show its shares, and all other figures stand
abbrev pub ShowsShares : Setting → History → Reading → Sheet → Sheet → Type 0
ShowsShares s h r old new =
    (p d : ℕ) → 1 ≤ p → p ≤ s.points
    → figure_at new p d ≡ (if covers r p d then share_on s h d r else figure_at old p d)

-- the readings over day g show their shares, all other figures stand, and the days joined to g lie between
-- two days
pub record ShowsSharesOver (s : Setting) (h : History) (g from to : ℕ) (old new : Sheet) : Type 0 where
  pub shared : (p d : ℕ) (r : Reading) → covering_reading h p d ≡ Some r → covers r r.point g ≡ true
      → figure_at new p d ≡ share_on s h d r
  pub kept : (p d : ℕ) (r : Reading) → covering_reading h p d ≡ Some r → covers r r.point g ≡ false
      → figure_at new p d ≡ figure_at old p d
  pub free : (p d : ℕ) → 1 ≤ p → p ≤ s.points → is_some (covering_reading h p d) ≡ false
      → figure_at new p d ≡ figure_at old p d
  pub between : (d : ℕ) → are_joined h d g ≡ true → (from ≤ d) × (d < to)

-- The sheet of a history.

-- an estimator means the latest estimates of a day, and of every day
abbrev pub MeansEstimatesOn : Setting → History → ℕ → Meaning → Type 0
MeansEstimatesOn s h d meaning = (p : ℕ) → meaning p (d + 1) ≡ estimate s h p d

abbrev pub MeansEstimates : Setting → History → Meaning → Type 0
MeansEstimates s h meaning = (d : ℕ) → MeansEstimatesOn s h d meaning

-- a ledger is that of a history, and a sheet of its days and points knows the load of each day and up to
-- which day each point is covered
pub record KnowsHistory (s : Setting) (h : History) (ledger : Ledger) (sheet : Sheet) : Type 0 where
  pub lawful : IsLawful s h
  pub follows : IsLedgerOf s h ledger
  pub days : sheet.days ≡ s.days
  pub points : sheet.points ≡ s.points
  pub loads : (d : ℕ) → d < s.days → slice_index_or sheet.loads d None ≡ load s h d
  pub covered : CoversTo h s.points sheet.cover_ends

-- a sheet is that of a history: it knows its loads and what is covered, shows the figures of each day, and
-- its notes are so; the rest of its list, beyond the book's places, is as it was at the opening
pub record IsSheetOf (s : Setting) (rest : List ℕ) (h : History) (sheet : Sheet) : Type 0 where
  pub days : sheet.days ≡ s.days
  pub points : sheet.points ≡ s.points
  pub loads : (d : ℕ) → d < s.days → slice_index_or sheet.loads d None ≡ load s h d
  pub covered : CoversTo h s.points sheet.cover_ends
  pub shown : (d : ℕ) → d < s.days → ShowsDay s h sheet d
  pub noted : (d : ℕ) → d < s.days → HasTrueNote s h sheet d
  pub beyond : drop (s.days * s.points) (vec_items sheet.figures) ≡ rest

-- What is said of a sheet, of every history.

-- of each history that ledger and sheet know
abbrev pub ForKnown : Ledger → Sheet → (Setting → History → Type 0) → Type 0
ForKnown ledger sheet Says = (s : Setting) (h : History) → KnowsHistory s h ledger sheet → Says s h

-- of each whose estimates of a day an estimator means beside them
abbrev pub ForKnownOn : ℕ → Ledger → Meaning → Sheet → (Setting → History → Type 0) → Type 0
ForKnownOn day ledger meaning sheet Says =
    ForKnown ledger sheet (λ s h. MeansEstimatesOn s h day meaning → Says s h)

-- of each that a sheet is that of, where estimates are bounded
abbrev pub ForShown : Ledger → Sheet → (Setting → History → Type 0) → Type 0
ForShown ledger sheet Says =
    (s : Setting) (rest : List ℕ) (h : History)
    → KnowsHistory s h ledger sheet → IsSheetOf s rest h sheet → HasBoundedEstimates s → Says s h

-- a sheet opened over a list is that of no entry, in every setting of its days and points
abbrev pub OpensSheet : ℕ → ℕ → List ℕ → Sheet → Type 0
OpensSheet days points list sheet =
    (s : Setting) → s.days ≡ days → s.points ≡ points → IsSheetOf s (drop (days * points) list) [] sheet

-- from the sheet of a history it becomes that of the history with one more entry, whose ledger and estimator
-- are there already
abbrev pub TakesEntry : Entry → Ledger → Meaning → Sheet → Sheet → Type 0
TakesEntry entry ledger meaning old new =
    (s : Setting) (rest : List ℕ) (h : History)
    → IsLawful s (entry ∷ h) → IsLedgerOf s (entry ∷ h) ledger → MeansEstimates s (entry ∷ h) meaning
    → IsSheetOf s rest h old → IsSheetOf s rest (entry ∷ h) new

-- the same of a degree-day count, whichever it is
abbrev pub TakesDayCount : ℕ → Ledger → Meaning → Sheet → Sheet → Type 0
TakesDayCount day ledger meaning old new =
    (s : Setting) (rest : List ℕ) (h : History) (count : ℕ)
    → IsLawful s (DegreeDaysEntered day count ∷ h) → IsLedgerOf s (DegreeDaysEntered day count ∷ h) ledger
    → MeansEstimates s (DegreeDaysEntered day count ∷ h) meaning
    → IsSheetOf s rest h old → IsSheetOf s rest (DegreeDaysEntered day count ∷ h) new

-- and of an entry that moves the load of a day alone
abbrev pub TakesLoad : ℕ → Ledger → Meaning → Sheet → Sheet → Type 0
TakesLoad day ledger meaning old new =
    (s : Setting) (rest : List ℕ) (h longer : History)
    → DiffersInLoad s h longer day → IsLedgerOf s longer ledger → MeansEstimates s longer meaning → day < s.days
    → IsSheetOf s rest h old → IsSheetOf s rest longer new
