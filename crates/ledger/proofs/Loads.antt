-- The load of a day, from what a ledger says of it. Assumes nothing.
use Rattle.std.proofs.Common.{◌≡◌, ℕ, zero, suc, ◌+◌, ◌-◌, ◌*◌, ◌/◌, ◌<◌, ◌≤◌, Bool, true, false, cond, not, T, ltb, leb, List, [], ◌∷◌, map, length, get_or, take, drop, is_some, Some, None, Ok, Err, vec_items, sum, Option, Result, sym, refl, ap, ◌∙◌, subst, div-lt_iff_lt-mul, arith, get_or-take}
use Rattle.std.proofs.lemmas.List.FromFn.{map-range_with_len_more}
use Rattle.std.proofs.lemmas.List.{get_or-drop, length-drop, take_more}
use Rattle.std.proofs.lemmas.List.Sums.{sum_by_push}
use Rattle.std.proofs.lemmas.Bool.{and_from, and_parts, le-leb, le-ltb, lt-ltb, leb-true}
use Rattle.std.proofs.lemmas.Bool.Decides.{nat_tests}
use Rattle.std.specs.List.{find, range_with_len}
use Rattle.std.specs.Option.{option_map}
use Rattle.estimators.proofs.Tables.{read_passes}
use Rattle.rules.specs.Figures as figures
use Rattle.rules.specs.History.{History, Setting, gate_of}
use Rattle.rules.specs.declared.entry.GateDay.{GateDay}
use Rattle.allocation.specs.Loads as loads
use Rattle.terms.specs.Answers.{Answers}
use Rattle.terms.specs.declared.refusal.Refusal.{Refusal}
use Rattle.ledger.specs.Ledger.{IsLedgerOf, interval_at, load_at, meters_sum}
use Rattle.ledger.specs.Limits.{gate_within, interval_within, opening_within}
use Rattle.ledger.specs.declared.opening.Opening.{Opening}
use Rattle.ledger.specs.declared.ledger.Ledger.{Ledger}
use Rattle.rules.specs.Calls.{first_day_without_load}

is_true : (t : Bool) → T t → t ≡ true
is_true true passes = refl
is_true false passes = absurd passes

pub opened_unaccounted : (o : Opening) → T (opening_within o) → o.unaccounted ≤ 2000
opened_unaccounted o passes = let all = is_true _ passes in grind (arith, nat_tests)

meters_none : (l : Ledger) (d : ℕ) → 0 ≡ meters_sum l d 0
unfolding meters_sum
meters_none l d = refl

meters_more : (l : Ledger) (d n : ℕ) → meters_sum l d (n + 1) ≡ meters_sum l d n + interval_at l (n + 1) d
unfolding meters_sum
meters_more l d n =
    ap sum (map-range_with_len_more (λ m. interval_at l m d) 1 n (n + 1) (omega arith)) ∙ sum_by_push (λ x. x) (map (λ m. interval_at l m d) (range_with_len 1 n)) (interval_at l (n + 1) d)

-- the energy of meter n + 1 stands n places after the first of its day
interval_read : (l : Ledger) (d n : ℕ) → d < l.opening.days → n < 32
    → get_or (vec_items l.intervals) (d * 32 + n) 0 ≡ interval_at l (n + 1) d
interval_read l d n within few =
    let inside : ltb d l.opening.days ≡ true = lt-ltb d _ within in
    let low : leb 1 (n + 1) ≡ true = le-leb 1 (n + 1) (omega arith) in
    let high : leb (n + 1) 32 ≡ true = le-leb (n + 1) 32 (omega arith) in
    let back : n + 1 - 1 ≡ n = omega arith in
    rw (inside, low, high, back) refl

-- every interval energy of a day of the book is within its limit
interval_bounded : (l : Ledger) (d n : ℕ) → d < l.opening.days → n < 32
    → get_or (vec_items l.intervals) (d * 32 + n) 0 ≤ 100000000
interval_bounded l d n within few =
    let inside : d * 32 + n < l.opening.days * 32 = omega arith in
    let passes : T (interval_within (get_or (take (l.opening.days * 32) (vec_items l.intervals)) (d * 32 + n) 0)) =
    read_passes interval_within (take (l.opening.days * 32) (vec_items l.intervals)) (d * 32 + n) 0 tt l.intervals_within in
    let same = get_or-take (l.opening.days * 32) (vec_items l.intervals) (d * 32 + n) 0 inside in
    leb-true _ _ (is_true _ (rw same at passes))

-- the energies of a day stand in a row, and each is within its limit
pub day_energies : (l : Ledger) (d n : ℕ) → d < l.opening.days → n ≤ 32
    → (sum (take n (drop (d * 32) (vec_items l.intervals))) ≡ meters_sum l d n) × (sum (take n (drop (d * 32) (vec_items l.intervals))) ≤ n * 100000000)
day_energies l d zero within few = (meters_none l d, omega arith)
day_energies l d (suc n) within few =
    let row = drop (d * 32) (vec_items l.intervals) in
    let before = day_energies l d n within (omega arith) in
    let long : n < length row = omega (arith, length-drop (d * 32) (vec_items l.intervals), l.intervals_long, l.intervals.ok.0) in
    let read : get_or row n 0 ≡ get_or (vec_items l.intervals) (d * 32 + n) 0 = get_or-drop (d * 32) (vec_items l.intervals) n 0 in
    let more : sum (take (n + 1) row) ≡ sum (take n row) + get_or row n 0 = ap sum (take_more row n 0 long) ∙ sum_by_push (λ x. x) (take n row) (get_or row n 0) in
    let next : n + 1 ≡ suc n = omega arith in
    let here = interval_read l d n within few in
    let bound = interval_bounded l d n within few in (
      ap (λ k. sum (take k row)) (sym next) ∙ omega (arith, more, read, here, before.0, meters_more l d n) ∙ ap (meters_sum l d) next,
      subst (λ k. sum (take k row) ≤ k * 100000000) next (omega (arith, more, read, bound, before.1)),
    )

pub row_of : {xs ys : List ℕ} (d : ℕ) → xs ≡ ys
    → take (d * 32 + 32 - d * 32) (drop (d * 32) xs) ≡ take 32 (drop (d * 32) ys)
row_of {xs} {ys} d same = let few : d * 32 + 32 - d * 32 ≡ 32 = omega arith in ap (λ k. take k (drop (d * 32) xs)) few ∙ ap (λ l. take 32 (drop (d * 32) l)) same

map_same : (f g : ℕ → ℕ) → ((k : ℕ) → f k ≡ g k) → (xs : List ℕ) → map f xs ≡ map g xs
map_same f g same [] = refl
map_same f g same (x ∷ xs) = rw (same x, map_same f g same xs) refl

pub total_followed : {s : Setting} {h : History} {l : Ledger} (d : ℕ) → IsLedgerOf s h l
    → meters_sum l d 32 ≡ figures.interval_total h d
unfolding meters_sum
total_followed {s} {h} {l} d f = ap sum (map_same _ _ (λ m. f.intervals m d) (range_with_len 1 32))

-- no interval total adjusts to more than 4,000,000,000
pub adjusted_within : (total u : ℕ) → total ≤ 3200000000 → u ≤ 2000 → loads.adjusted total u ≤ 4000000000
adjusted_within total u few small =
    let below : (2 * (total * 10000) + (10000 - u)) / (2 * (10000 - u)) < 4000000001 = (div-lt_iff_lt-mul (omega arith)).1 (omega arith) in
    omega arith

pub ok_same : {r : Result ℕ Refusal} {x y : ℕ} → r ≡ Ok x → r ≡ Ok y → x ≡ y
ok_same here there = cc

-- a call that its test accepts answers its value
pub answered_ok : {X : Type 0} (r : Result X Refusal) (ok : Bool) (v : X) (n : ℕ) → ok ≡ true
    → Answers r ok v n → r ≡ Ok v
answered_ok (Ok x) true v n passes a = ap Ok a
answered_ok (Err e) true v n passes a = absurd a
answered_ok r false v n passes a = let z : ◌≡◌ {A = ℕ} 0 1 = cc in absurd (omega arith)

-- a day outside the book has no load
pub no_load : {s : Setting} {h : History} {l : Ledger} (d : ℕ) → IsLedgerOf s h l
    → l.opening.days ≤ d → None ≡ figures.load s h d
no_load {s} {h} {l} d f outside =
    let out : ltb d l.opening.days ≡ false = le-ltb d _ outside in
    let none : None ≡ gate_of h d = rw out at (f.gates d) in
    rw (sym none) refl

-- the load of a day of the book with the gate energies of the day
pub load_followed : {s : Setting} {h : History} {l : Ledger} (d : ℕ) (gate : GateDay)
    → IsLedgerOf s h l → d < l.opening.days → get_or l.gates d None ≡ Some gate
    → Some (load_at l d gate) ≡ figures.load s h d
load_followed {s} {h} {l} d gate f within here =
    let inside : ltb d l.opening.days ≡ true = lt-ltb d _ within in
    let told : get_or l.gates d None ≡ gate_of h d = rw inside at (f.gates d) in
    let found : gate_of h d ≡ Some gate = sym told ∙ here in
    rw (found, ← f.unaccounted, ← total_followed d f) refl

-- the gate energies that are read from a ledger are within their limits
pub gate_bounded : (l : Ledger) (d : ℕ) (gate : GateDay) → get_or l.gates d None ≡ Some gate
    → T (gate_within (Some gate))
gate_bounded l d gate here = rw here at (read_passes gate_within l.gates d None tt l.gates_within)

-- no step of a load is refused: the interval total of a day can be adjusted, and the load taken from it
pub total_adjusts : (l : Ledger) (total : ℕ) → total ≤ loads.largest_interval_total
    → loads.interval_within_limits total l.opening.unaccounted ≡ true
total_adjusts l total bound = and_from _ _ (le-leb total _ bound) (le-leb _ 2000 (opened_unaccounted l.opening l.opened))

pub gate_loads : (l : Ledger) (total adjusted : ℕ) (gate : GateDay) → T (gate_within (Some gate))
    → total ≤ loads.largest_interval_total → adjusted ≡ loads.adjusted total l.opening.unaccounted
    → loads.gate_within_limits gate.energy_in gate.energy_out adjusted ≡ true
gate_loads l total adjusted gate limited bound value =
    let parts = and_parts (leb gate.energy_in loads.largest_gate) (leb gate.energy_out loads.largest_gate) (is_true _ limited) in
    let short : adjusted ≤ 4000000000 = rw value (adjusted_within total _ bound (opened_unaccounted l.opening l.opened)) in
    and_from _ _ parts.0 (and_from _ _ parts.1 (le-leb adjusted _ short))

-- no load is more than what enters through the gate
pub load_bounded : (l : Ledger) (d : ℕ) (gate : GateDay) → T (gate_within (Some gate))
    → load_at l d gate ≤ loads.largest_gate
load_bounded l d gate limited =
    let enters : gate.energy_in ≤ loads.largest_gate = leb-true gate.energy_in loads.largest_gate (and_parts (leb gate.energy_in loads.largest_gate) (leb gate.energy_out loads.largest_gate) (is_true _ limited)).0 in
    omega (arith, enters)

some_mapped : {X Y : Type 0} (f : X → Y) (o : Option X) → is_some (option_map f o) ≡ is_some o
some_mapped f None = refl
some_mapped f (Some x) = refl

-- a day of the book has a load where it has a gate entry
pub has_load : {s : Setting} {h : History} {l : Ledger} (d : ℕ) → IsLedgerOf s h l
    → d < l.opening.days → is_some (figures.load s h d) ≡ is_some (get_or l.gates d None)
has_load {s} {h} {l} d f within =
    let inside : ltb d l.opening.days ≡ true = lt-ltb d _ within in
    let told : get_or l.gates d None ≡ gate_of h d = rw inside at (f.gates d) in
    some_mapped (figures.load_from_gate s h d) (gate_of h d) ∙ ap is_some (sym told)

chosen : (b : Bool) (x y : Option ℕ) → cond (not b) x y ≡ cond b y x
chosen true x y = refl
chosen false x y = refl

-- the first of some days of the book that has no gate entry is the first that has no load
pub first_followed : {s : Setting} {h : History} {l : Ledger} (n day : ℕ) → IsLedgerOf s h l
    → (0 < n → day + n ≤ l.opening.days)
    → find (λ d. not (is_some (get_or l.gates d None))) (range_with_len day n) ≡ first_day_without_load s h (range_with_len day n)
first_followed zero day f within = refl
first_followed {s} {h} {l} (suc n) day f within =
    let inside : day + suc n ≤ l.opening.days = within (omega arith) in
    chosen (is_some (get_or l.gates day None)) (Some day) (find (λ d. not (is_some (get_or l.gates d None))) (range_with_len (day + 1) n))
    ∙ ap (λ b. cond b (find (λ d. not (is_some (get_or l.gates d None))) (range_with_len (day + 1) n)) (Some day)) (sym (has_load day f (omega arith)))
    ∙ ap (λ o. cond (is_some (figures.load s h day)) o (Some day)) (first_followed n (day + 1) f (λ some. omega arith))

pub mapped_same : {X : Type 0} (o : Option X) → option_map (λ x. x) o ≡ o
mapped_same None = refl
mapped_same (Some x) = refl
