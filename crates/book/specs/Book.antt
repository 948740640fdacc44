-- A book kept in a case, and what its calls promise of every case.
use Rattle.std.specs.Prelude.{◌≡◌, ℕ, Bool, true, false, List, ◌∷◌, OnErr, Result}
use Rattle.estimators.specs.Meaning.{Meaning, Meanings}
use Rattle.rules.specs.History.{History, Setting}
use Rattle.rules.specs.declared.call.Call.{Call}
use Rattle.rules.specs.declared.call.Call.TheVariants.{EnterDegreeDays}
use Rattle.rules.specs.declared.entry.Entry.{Entry}
use Rattle.ledger.specs.declared.ledger.Ledger.{Ledger}
use Rattle.terms.specs.declared.refusal.Refusal.{Refusal}
use Rattle.sheet.specs.declared.sheet.Sheet.{Sheet}
use Rattle.book.specs.Case.{Case, case_after_call}
use Rattle.book.specs.Replies.{Reply, due_reply, entry_reply, reply_of}
use Rattle.book.specs.declared.book.Book.{Book}
use Rattle.book.specs.declared.book.Lists.{Lists}
use Rattle.rules.specs.Calls.{IsLawful}
use Rattle.ledger.specs.Ledger.{beyond_days, EntersByLaw, IsLedgerOf}
use Rattle.sheet.specs.Account.{HasBoundedEstimates}
use Rattle.sheet.specs.SheetOfHistory.{MeansEstimates, IsSheetOf}

-- the three lists in whose memory a book is kept
abbrev pub lists_of : Book → Lists
lists_of b = record { sheet = b.sheet.figures; intervals = b.ledger.intervals; readings = b.ledger.places }

-- a book is kept in a case, beside an estimator
pub record IsBookOf (c : Case) (b : Book) (m : Meanings) : Type 0 where
  -- every entry of the history was accepted after those before it
  pub lawful : IsLawful c.setting c.history
  -- every figure of the estimator, at the opening and under each count, is within its limit
  pub limited : HasBoundedEstimates c.setting
  -- gates, interval energies, enrolments and held readings lie where they should, each held reading in one place
  pub entries : IsLedgerOf c.setting c.history b.ledger
  -- the sheet shows every figure as the rules make it, and what lies beyond its places stays
  pub figures : IsSheetOf c.setting c.rest.sheet c.history b.sheet
  -- and so does what lies beyond the places of the interval list
  pub intervals : beyond_days b.ledger ≡ c.rest.intervals
  -- the estimator means the latest estimates, and under each count what it meant at the opening
  pub estimates : MeansEstimates c.setting c.history m.current
  pub weather : (count p d : ℕ) → m.under count p d ≡ c.setting.weather count p d

-- P holds of every case that the book is kept in beside an estimator that means this
abbrev pub InEveryCase : Book → Meanings → (Case → Type 0) → Type 0
InEveryCase b m P = (c : Case) → IsBookOf c b m → P c

-- a call is served: in every case its answer is the reply due, and the book then is that of the case after the call
pub record IsServedByLaw
    {X : Type 0} (call : Call) (says : X → Reply) (r : Result X Refusal)
    (b : Book) (m : Meanings) (b' : Book) (m' : Meanings)
    : Type 0 where
  pub law :
      InEveryCase b m
      (λ c. (reply_of says r ≡ due_reply c.setting c.history call) × IsBookOf (case_after_call c call) b' m')

-- an entry beside an estimator that stays as it is
abbrev pub IsEnteredBeside : Meanings → Call → Result (Unit {0}) Refusal → Book → Book → Type 0
IsEnteredBeside m call r b b' = IsServedByLaw call entry_reply r b m b' m

-- a question is answered: in every case by the reply due
pub record IsAnsweredByLaw
    {X : Type 0} (call : Call) (says : X → Reply) (r : Result X Refusal) (b : Book) (m : Meanings)
    : Type 0 where
  pub law : InEveryCase b m (λ c. reply_of says r ≡ due_reply c.setting c.history call)

-- a call enters a degree-day count
abbrev pub enters_count : Call → Bool
enters_count (EnterDegreeDays date count) = true
enters_count call = false

-- the ledger of a book has answered an entry, and nothing else of the book has changed: a refusal leaves the ledger
pub record LeavesBookIfRefused (r : Result Entry Refusal) (b b' : Book) : Type 0 where
  pub sheet : b'.sheet ≡ b.sheet
  pub ledger : OnErr r (b'.ledger ≡ b.ledger)

-- and an entry other than a degree-day count is answered as the ledger promises
pub record ChangesLedgerOnly (call : Call) (r : Result Entry Refusal) (b b' : Book) : Type 0 where
  pub sheet : b'.sheet ≡ b.sheet
  pub answered : EntersByLaw call b.ledger r b'.ledger
  pub beyond : beyond_days b'.ledger ≡ beyond_days b.ledger
  pub no_count : enters_count call ≡ false

-- a sheet takes in an entry that the ledger holds already, beside an estimator that means the latest estimates
abbrev pub SheetTakes : Entry → Ledger → Meaning → Sheet → Sheet → Type 0
SheetTakes e l m b b' =
    (s : Setting) (rest : List ℕ) (h : History)
    → IsLawful s (e ∷ h) → IsLedgerOf s (e ∷ h) l → MeansEstimates s (e ∷ h) m → IsSheetOf s rest h b
    → IsSheetOf s rest (e ∷ h) b'
