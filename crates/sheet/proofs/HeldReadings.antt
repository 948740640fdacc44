-- Why the readings in the places of a ledger are the held ones.
use Rattle.std.proofs.Common.{◌≡◌, ℕ, suc, ◌<◌, ◌≤◌, Bool, true, cond, eqb, List, [], ◌∷◌, length, get_or, is_some, Some, None, vec_items, count_by, Option, sym, refl, ap, ◌∙◌, ⊎_elim, arith}
use Rattle.std.proofs.lemmas.List.{get_or_past}
use Rattle.std.proofs.lemmas.List.Sums.{get_or-le-sum_by}
use Rattle.std.proofs.lemmas.Bool.{and_from, and_parts, cases_Bool, cases_lt, cond-false, cond-true, eq-eqb, eqb-true, false≢true, lt-ltb}
use Rattle.terms.specs.declared.reading_type.ReadingType.{ReadingType}
use Rattle.terms.specs.declared.reading_type.ReadingType.TheVariants.{Actual, CustomersOwn, Estimated, Substituted}
use Rattle.rules.specs.History.{History, Setting}
use Rattle.rules.specs.declared.entry.Reading.{Reading}
use Rattle.ledger.proofs.PlaceCounts.{count_cons, some_counted}
use Rattle.ledger.specs.declared.ledger.Ledger.{Ledger}
use Rattle.sheet.specs.HeldReadings.{same_reading, type_number}
use Rattle.rules.specs.Readings.{held_readings, IsOneOf, Holds}
use Rattle.rules.proofs.Readings.{count_some, some_among}
use Rattle.ledger.specs.Places.{holds_passing}
use Rattle.ledger.specs.Ledger.{IsLedgerOf}

-- the type of a number
abbrev type_numbered : ℕ → ReadingType
type_numbered n = cond (eqb n 0) Actual (cond (eqb n 1) Substituted (cond (eqb n 2) Estimated CustomersOwn))

numbered_back : (t : ReadingType) → type_numbered (type_number t) ≡ t
numbered_back Actual = refl
numbered_back Substituted = refl
numbered_back Estimated = refl
numbered_back CustomersOwn = refl

same_type : (a b : ReadingType) → type_number a ≡ type_number b → a ≡ b
same_type a b e = sym (numbered_back a) ∙ ap type_numbered e ∙ numbered_back b

-- readings that agree are one
pub same_reading_is : (a b : Reading) → same_reading a b ≡ true → a ≡ b
same_reading_is a b e =
    let one = and_parts (eqb a.point b.point) _ e in
    let two = and_parts (eqb a.start b.start) _ one.1 in
    let three = and_parts (eqb a.end b.end) _ two.1 in
    let four = and_parts (eqb a.energy b.energy) _ three.1 in
    let points = eqb-true a.point b.point one.0 in
    let starts = eqb-true a.start b.start two.0 in
    let ends = eqb-true a.end b.end three.0 in
    let energies = eqb-true a.energy b.energy four.0 in
    let types = same_type a.reading_type b.reading_type (eqb-true (type_number a.reading_type) (type_number b.reading_type) four.1) in
    λ i. record { point = points i; start = starts i; end = ends i; energy = energies i; reading_type = types i }

pub same_reading_self : (a : Reading) → same_reading a a ≡ true
same_reading_self a =
    and_from (eqb a.point a.point) _ (eq-eqb a.point a.point refl)
    (and_from (eqb a.start a.start) _ (eq-eqb a.start a.start refl)
    (and_from (eqb a.end a.end) _ (eq-eqb a.end a.end refl)
    (and_from (eqb a.energy a.energy) _ (eq-eqb a.energy a.energy refl)
    (eq-eqb (type_number a.reading_type) (type_number a.reading_type) refl))))

-- where one or more of a list pass a test, one at a place does
pub count_found : {X : Type 0} (p : X → Bool) (xs : List X) (d : X) → 1 ≤ count_by p xs → (k : ℕ) × (k < length xs) × (p (get_or xs k d) ≡ true)
count_found p [] d some = absurd (omega arith)
count_found p (x ∷ xs) d some =
    ⊎_elim (λ here. (0, omega arith, here))
    (λ not_here.
    let fewer = cond-false {A = ℕ} (p x) 1 0 not_here in
    let found = count_found p xs d (omega (arith, count_cons p x xs, fewer)) in
    (suc found.0, omega (arith, found.1), found.2))
    (cases_Bool (p x))

-- a place that holds a reading which agrees with one holds that one
placed_same : (r : Reading) (o : Option Reading) → holds_passing (same_reading r) o ≡ true → o ≡ Some r
placed_same r None e = absurd (false≢true e)
placed_same r (Some x) e = ap Some (sym (same_reading_is r x e))

-- Places and readings of which as many pass, whatever the test.
module _
    (places : List (Option Reading)) (readings : List Reading)
    (passes : (test : Reading → Bool) → count_by (holds_passing test) places ≡ count_by test readings) where
  pub placed_is_among : (k : ℕ) (r : Reading) → get_or places k None ≡ Some r → IsOneOf r readings
  placed_is_among k r e =
      let test : Reading → Bool = same_reading r in
      let within : k < length places =
      ⊎_elim (λ (low : k < length places). low)
      (λ high. absurd (false≢true (ap is_some (sym (get_or_past places k None high) ∙ e)))) (cases_lt k (length places)) in
      let one = get_or-le-sum_by (λ o. cond (holds_passing test o) 1 0) places k None within in
      let here : ◌≡◌ {A = ℕ} (cond (holds_passing test (get_or places k None)) 1 0) 1 = ap (λ o. cond (holds_passing test o) 1 0) e ∙ cond-true (same_reading r r) 1 0 (same_reading_self r) in
      let some : 0 < count_by test readings = omega (arith, one, here, passes test) in
      let found = some_among test readings (some_counted test readings ∙ lt-ltb 0 (count_by test readings) some) in
      let same : r ≡ found.0 = same_reading_is r found.0 found.2 in
      rw same found.1

  pub among_is_placed : (r : Reading) → IsOneOf r readings → (k : ℕ) × (k < length places) × (get_or places k None ≡ Some r)
  among_is_placed r a =
      let test : Reading → Bool = same_reading r in
      let found = count_found (holds_passing test) places None (omega (arith, passes test, count_some test readings r a (same_reading_self r))) in
      (found.0, found.1, placed_same r (get_or places found.0 None) found.2)

pub placed_is_held : {s : Setting} {h : History} {l : Ledger} → IsLedgerOf s h l → (k : ℕ) (r : Reading) → get_or (vec_items l.places) k None ≡ Some r → Holds h r
placed_is_held {s} {h} {l} follows = placed_is_among (vec_items l.places) (held_readings h) follows.readings

pub held_is_placed : {s : Setting} {h : History} {l : Ledger} → IsLedgerOf s h l → (r : Reading) → Holds h r
    → (k : ℕ) × (k < length (vec_items l.places)) × (get_or (vec_items l.places) k None ≡ Some r)
held_is_placed {s} {h} {l} follows = among_is_placed (vec_items l.places) (held_readings h) follows.readings
