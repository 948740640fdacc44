-- The readings in the places of a ledger are the held ones.
use Rattle.std.specs.Prelude.{◌≡◌, ℕ, ◌<◌, Bool, true, ◌&&◌, length, Some, None, vec_items, ◌==◌, slice_index_or}
use Rattle.terms.specs.declared.reading_type.ReadingType.{ReadingType}
use Rattle.terms.specs.declared.reading_type.ReadingType.TheVariants.{Actual, CustomersOwn, Estimated, Substituted}
use Rattle.rules.specs.History.{History, Setting}
use Rattle.rules.specs.declared.entry.Reading.{Reading}
use Rattle.ledger.specs.declared.ledger.Ledger.{Ledger}
use Rattle.rules.specs.Readings.{Holds}
use Rattle.ledger.specs.Ledger.{IsLedgerOf}

-- the types of readings by number
abbrev pub type_number : ReadingType → ℕ
type_number Actual = 0
type_number Substituted = 1
type_number Estimated = 2
type_number CustomersOwn = 3

-- two readings agree in everything
abbrev pub same_reading : Reading → Reading → Bool
same_reading a b =
    (a.point == b.point)
    && (a.start == b.start
    && (a.end == b.end
    && (a.energy == b.energy && type_number a.reading_type == type_number b.reading_type)))

pub record PlacesHoldHeldReadings : Type 0 where
  -- readings that agree are one
  pub same_reading_is : (a b : Reading) → same_reading a b ≡ true → a ≡ b
  pub same_reading_self : (a : Reading) → same_reading a a ≡ true
  -- what stands in a place is held, and what is held stands in a place
  pub placed_is_held :
      {s : Setting} {h : History} {l : Ledger}
      → IsLedgerOf s h l → (k : ℕ) (r : Reading) → slice_index_or (vec_items l.places) k None ≡ Some r → Holds h r
  pub held_is_placed :
      {s : Setting} {h : History} {l : Ledger}
      → IsLedgerOf s h l → (r : Reading) → Holds h r
      → (k : ℕ) × (k < length (vec_items l.places)) × (slice_index_or (vec_items l.places) k None ≡ Some r)
