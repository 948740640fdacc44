-- A sheet of daily figures: its points, days and figures, and what a change leaves of them.
use Rattle.std.specs.Prelude.{◌≡◌, ℕ, ◌+◌, ◌-◌, ◌*◌, ◌^◌, ◌<◌, ◌≤◌, min, Bool, true, false, if◌then◌else◌, ◌&&◌, List, map, Some, None, Option, sum, vec_items, vec_len, nat_le, nat_lt, slice_index, slice_index_or, slice_set, Vec}
use Rattle.std.specs.List.{range_with_len}
use Rattle.std.specs.declared.alloc.Global.{Global}
use Rattle.estimators.specs.Limits.{last_day, last_point}
use Rattle.rules.specs.declared.entry.Reading.{Reading}
use Rattle.sheet.specs.declared.sheet.DayNote.TheVariants.{EstimatesShown, NothingEstimated, NothingKnown, NothingLeft}
use Rattle.sheet.specs.declared.sheet.DayNote.{DayNote}
use Rattle.sheet.specs.declared.sheet.Sheet.{Sheet}
use Rattle.terms.specs.Limits.{largest_energy}

-- a sheet can have so many days and points in a list of so many places
abbrev pub can_open_sheet : ℕ → ℕ → ℕ → Bool
can_open_sheet days points places = nat_le days last_day && (nat_le points last_point && nat_le (days * points) places)

-- a point of a sheet, a day of it, and both
abbrev pub IsPointOfSheet : Sheet → ℕ → Type 0
IsPointOfSheet sheet point = (1 ≤ point) × (point ≤ sheet.points)

abbrev pub IsDayOfSheet : Sheet → ℕ → Type 0
IsDayOfSheet sheet day = day < sheet.days

abbrev pub IsInSheet : Sheet → ℕ → ℕ → Type 0
IsInSheet sheet point day = IsPointOfSheet sheet point × IsDayOfSheet sheet day

-- the same as a test
abbrev pub is_in_sheet : Sheet → ℕ → ℕ → Bool
is_in_sheet sheet point day = nat_le 1 point && (nat_le point sheet.points && nat_lt day sheet.days)

-- the list of a sheet: its figures, day by day and by point, and what lies beyond them
abbrev pub list_of_sheet : Sheet → Vec ℕ Global
list_of_sheet sheet = sheet.figures

abbrev pub figures_of_sheet : Sheet → List ℕ
figures_of_sheet sheet = vec_items sheet.figures

-- the place of a point and day in that list, and the figure that a sheet shows of them
abbrev pub figure_place : Sheet → ℕ → ℕ → ℕ
figure_place sheet point day = day * sheet.points + (point - 1)

abbrev pub figure_at : Sheet → ℕ → ℕ → ℕ
figure_at sheet point day = slice_index (vec_items sheet.figures) (day * sheet.points + (point - 1))

-- what the figures of a day come to at those of the first n points that pass a test
unfoldable pub sum_where : (ℕ → Bool) → Sheet → ℕ → ℕ → ℕ
sum_where test sheet day n =
    sum (map (λ point. if test point then figure_at sheet point day else 0) (range_with_len 1 n))

-- a reading lies in a sheet: its point and its days are those of the sheet, it covers a day, and its energy is
-- within its limit
pub record LiesInSheet (sheet : Sheet) (r : Reading) : Type 0 where
  pub low : 1 ≤ r.point
  pub high : r.point ≤ sheet.points
  pub some : r.start < r.end
  pub last : r.end ≤ sheet.days
  pub light : r.energy ≤ largest_energy

-- the same as a test
abbrev pub lies_in_sheet : Sheet → Reading → Bool
lies_in_sheet sheet r =
    nat_le 1 r.point
    && (nat_le r.point sheet.points
    && (nat_lt r.start r.end && (nat_le r.end sheet.days && nat_le r.energy largest_energy)))

-- a note lets a day with this load stand, where all its figures come to so much: always where it has no
-- estimates; where it shows them as they are, without a load or within it; where nothing was left for them,
-- with a load that all figures reach
abbrev pub lets_stand : DayNote → Option ℕ → ℕ → Bool
lets_stand NothingKnown load total = false
lets_stand NothingEstimated load total = true
lets_stand EstimatesShown None total = true
lets_stand EstimatesShown (Some n) total = nat_le total n
lets_stand NothingLeft None total = false
lets_stand NothingLeft (Some n) total = nat_le n total

-- the note of a day of a sheet does so
abbrev pub stands_by_note : Sheet → ℕ → Bool
stands_by_note sheet day =
    lets_stand (slice_index_or sheet.notes day NothingKnown) (slice_index_or sheet.loads day None)
    (min (sum_where (λ point. true) sheet day sheet.points) (2 ^ 64 - 1))

-- Changes.

-- at most the figures of the days from one day up to another differ, and what is known of loads and coverage
-- stands; of notes it says nothing
pub record ChangesOnlyDays (from to : ℕ) (old new : Sheet) : Type 0 where
  pub days : new.days ≡ old.days
  pub points : new.points ≡ old.points
  pub loads : new.loads ≡ old.loads
  pub covered : new.cover_ends ≡ old.cover_ends
  pub len : vec_len new.figures ≡ vec_len old.figures
  pub before : (k : ℕ) → k < from * old.points
      → slice_index (vec_items new.figures) k ≡ slice_index (vec_items old.figures) k
  pub after : (k : ℕ) → to * old.points ≤ k
      → slice_index (vec_items new.figures) k ≡ slice_index (vec_items old.figures) k

-- at most the notes of those days differ
pub record ChangesOnlyNotes (from to : ℕ) (old new : Sheet) : Type 0 where
  pub before : (day : ℕ) → day < from
      → slice_index_or new.notes day NothingKnown ≡ slice_index_or old.notes day NothingKnown
  pub after : (day : ℕ) → to ≤ day
      → slice_index_or new.notes day NothingKnown ≡ slice_index_or old.notes day NothingKnown

-- the figure of a point and day is another one, and nothing else has changed
pub record SetsFigure (point day figure : ℕ) (old new : Sheet) : Type 0 where
  pub days : new.days ≡ old.days
  pub points : new.points ≡ old.points
  pub loads : new.loads ≡ old.loads
  pub reading_days : new.reading_days ≡ old.reading_days
  pub covered : new.cover_ends ≡ old.cover_ends
  pub notes : new.notes ≡ old.notes
  pub figures : vec_items new.figures ≡ slice_set (vec_items old.figures) (day * old.points + (point - 1)) figure
  pub within : day * old.points + (point - 1) < vec_len old.figures

-- a sheet learns the load of a day, its figures standing
pub record SetsLoad (day : ℕ) (load : Option ℕ) (old new : Sheet) : Type 0 where
  pub days : new.days ≡ old.days
  pub points : new.points ≡ old.points
  pub figures : new.figures ≡ old.figures
  pub loads : new.loads ≡ slice_set old.loads day load
  pub covered : new.cover_ends ≡ old.cover_ends

-- or the day before which the days of a point are covered
pub record SetsCover (point end : ℕ) (old new : Sheet) : Type 0 where
  pub days : new.days ≡ old.days
  pub points : new.points ≡ old.points
  pub figures : new.figures ≡ old.figures
  pub loads : new.loads ≡ old.loads
  pub covered : new.cover_ends ≡ slice_set old.cover_ends (point - 1) end

-- or notes something of a day
pub record SetsNote (day : ℕ) (note : DayNote) (old new : Sheet) : Type 0 where
  pub days : new.days ≡ old.days
  pub points : new.points ≡ old.points
  pub figures : new.figures ≡ old.figures
  pub loads : new.loads ≡ old.loads
  pub covered : new.cover_ends ≡ old.cover_ends
  pub notes : new.notes ≡ slice_set old.notes day note
