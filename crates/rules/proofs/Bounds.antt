-- Why no number of a sheet passes its limit.
use Rattle.std.proofs.Common.{◌≡◌, ℕ, ◌+◌, ◌-◌, ◌*◌, ◌<◌, ◌≤◌, Bool, true, false, cond, ◌&&◌, eqb, ltb, leb, List, [], ◌∷◌, map, length, get_or, Some, None, sum, Option, unwrap_or, sym, refl, ap, ◌∙◌, ⊎_elim, arith}
use Rattle.std.specs.List.{range_with_len, AllByRecursion}
use Rattle.std.specs.Option.{option_map, option_or}
use Rattle.std.proofs.lemmas.Nat.{mul-le}
use Rattle.std.proofs.lemmas.List.FromFn.{get_or-range_with_len, get_or-map-range_with_len, length-range_with_len, length-map-range_with_len}
use Rattle.std.proofs.ByRecursion.{All-from_get_or, sum_by_le}
use Rattle.std.proofs.lemmas.List.{get_or_past}
use Rattle.std.proofs.lemmas.List.Sums.{get_or-le-sum_by, sum-map}
use Rattle.std.proofs.lemmas.Bool.{and_from, and_parts, cases_lt, cond_both, eqb-false, le-leb, leb-true, lt-ltb, not-false}
use Rattle.estimators.specs.Limits.{last_day, last_point}
use Rattle.allocation.specs.Loads.{largest_gate}
use Rattle.allocation.specs.ShareLaws.{sum_shares}
use Rattle.allocation.specs.SharingLimits.{largest_product}
use Rattle.allocation.specs.Sharing.{can_share, shares}
use Rattle.rules.specs.Calls.{IsLawful, entry_of, is_beyond_limits}
use Rattle.rules.specs.Figures.{estimate, counted_estimate, is_estimated, estimates, figure, generated_figures, load, load_from_gate, share_on, supplied_figure, supplied_sum, weight_on, covered_weights}
use Rattle.rules.specs.History.{History, Setting, covering_reading, gate_of}
use Rattle.rules.specs.declared.call.Call.{Call}
use Rattle.rules.specs.declared.call.Call.TheVariants.{EnterGate}
use Rattle.rules.specs.declared.entry.Entry.{Entry}
use Rattle.rules.specs.declared.entry.Entry.TheVariants.{GateEntered}
use Rattle.rules.specs.declared.entry.GateDay.{GateDay}
use Rattle.rules.specs.declared.entry.Reading.{Reading}
use Rattle.rules.specs.Readings.{Holds}
use Rattle.rules.proofs.AcceptedEntries.{accepted, held_in_book}
use Rattle.rules.proofs.HeldReadings.{end_to_end, covering_held}
use Rattle.rules.proofs.Balance.{scaling_only_lowers}
use Rattle.terms.specs.Limits.{largest_energy, greatest_figure}

-- a share is at most the whole amount
pub share_most : (c : ℕ) (ws : List ℕ) (k : ℕ) → 0 < sum ws → get_or (shares c ws) k 0 ≤ c
share_most c ws k some =
    ⊎_elim
    (λ within. omega (arith, get_or-le-sum_by (λ x. x) (shares c ws) k 0 within, sum_shares c ws some))
    (λ past. omega (arith, get_or_past (shares c ws) k 0 past)) (cases_lt k (length (shares c ws)))

-- a row of n comes to at most n times its largest
pub sum_bounded : (f : ℕ → ℕ) (most a n : ℕ)
    → ((k : ℕ) → a ≤ k → k < a + n → f k ≤ most) → sum (map f (range_with_len a n)) ≤ n * most
sum_bounded f most a n within =
    let each : AllByRecursion (λ k. f k ≤ most) (range_with_len a n)
    = All-from_get_or (λ k. f k ≤ most) (range_with_len a n) 0
    (λ i h.
    let low : i < n = omega (arith, length-range_with_len a n) in
    rw (get_or-range_with_len a n i 0 low) (within (a + i) (omega arith) (omega arith))) in
    let most_of_all = sum_by_le f most (range_with_len a n) each in
    let by_number = rw (length-range_with_len a n) at most_of_all in
    omega (arith, sum-map f (range_with_len a n), by_number)

-- a day weighs at least 1
pub weight_positive : (s : Setting) (h : History) (d : ℕ) → 0 < weight_on s h d
weight_positive s h d =
    let n = unwrap_or (load s h d) 0 in
    cond_both (eqb n 0) 1 n (λ w. 0 < w) (λ _. omega arith)
    (λ above.
    let other = eqb-false n 0 above in
    ⊎_elim (λ (pos : 0 < n). pos) (λ (none : n ≤ 0). absurd (other (omega arith))) (cases_lt 0 n))

-- a reading has a weight for each day that it covers
pub length_weights : (s : Setting) (h : History) (r : Reading) → length (covered_weights s h r) ≡ r.end - r.start
length_weights s h r = length-map-range_with_len (weight_on s h) r.start (r.end - r.start)

-- a reading that has a day has weight
pub weights_positive : (s : Setting) (h : History) (r : Reading) → r.start < r.end → 0 < sum (covered_weights s h r)
weights_positive s h r ahead =
    let first = get_or-map-range_with_len (weight_on s h) r.start (r.end - r.start) 0 r.start 0 (omega arith)
    (omega arith) in
    let in_sum = get_or-le-sum_by (λ x. x) (covered_weights s h r) 0 0 (omega (arith, length_weights s h r)) in
    omega (arith, first, in_sum, weight_positive s h r.start)

-- a held reading keeps within the limits of the book
pub held_within : (s : Setting) (h : History) → IsLawful s h → (r : Reading) → Holds h r
    → (1 ≤ r.point) × (r.point ≤ s.points) × (r.start < r.end) × (r.end ≤ s.days) × (r.energy ≤ largest_energy)
held_within s h lawful r a =
    let limits = (held_in_book s h lawful r a).within in
    (limits.point_low, limits.point_high, (end_to_end s h lawful).ahead r a, limits.ends_in_book, limits.energy_limited)

-- Supplied figures.

-- a supplied figure keeps within the largest energy of a reading
pub share_bounded : (s : Setting) (h : History)
    → IsLawful s h → (p d : ℕ) (r : Reading) → covering_reading h p d ≡ Some r → share_on s h d r ≤ largest_energy
share_bounded s h lawful p d r cover =
    let limits = held_within s h lawful r (covering_held s h lawful p d r cover).0 in
    omega (arith, limits.4, share_most r.energy (covered_weights s h r) (d - r.start) (weights_positive s h r limits.2))

-- so does what is supplied to a point, or nothing
pub supplied_bounded : (s : Setting) (h : History)
    → IsLawful s h → (p d : ℕ) → unwrap_or (supplied_figure s h p d) 0 ≤ largest_energy
supplied_bounded s h lawful p d = go (covering_reading h p d) refl
  where
    go : (o : Option Reading)
        → covering_reading h p d ≡ o → unwrap_or (option_map (share_on s h d) o) 0 ≤ largest_energy
    go None e = omega arith
    go (Some r) e = share_bounded s h lawful p d r e

-- what is supplied to all points of a book
pub supplied_sum_bounded : (s : Setting) (h : History)
    → IsLawful s h → s.points ≤ last_point → (d : ℕ) → supplied_sum s h d ≤ last_point * largest_energy
supplied_sum_bounded s h lawful few d =
    omega (
      arith,
      sum_bounded (λ p. unwrap_or (supplied_figure s h p d) 0) largest_energy 1 s.points
          (λ p low high. supplied_bounded s h lawful p d),
    )

-- Figures.

-- an estimate that may count keeps within the largest
counted_bounded : (b : Bool) (o : Option ℕ)
    → ((x : ℕ) → o ≡ Some x → x ≤ greatest_figure) → cond b (unwrap_or o 0) 0 ≤ greatest_figure
counted_bounded true None most = omega arith
counted_bounded true (Some x) most = most x refl
counted_bounded false o most = omega arith

-- the estimates that count keep within the largest
pub estimates_bounded : (s : Setting) (h : History) (d : ℕ)
    → ((p x : ℕ) → estimate s h p d ≡ Some x → x ≤ greatest_figure)
    → (k : ℕ) → get_or (estimates s h d) k 0 ≤ greatest_figure
estimates_bounded s h d most k =
    ⊎_elim
    (λ low.
    omega (
      arith,
      get_or-map-range_with_len (λ p. counted_estimate s h p d) 1 s.points k (k + 1) 0 low (omega arith),
      counted_bounded (is_estimated h (k + 1) d) (estimate s h (k + 1) d) (most (k + 1)),
    ))
    (λ high. omega (
      arith,
      get_or_past (estimates s h d) k 0
          (omega (arith, length-map-range_with_len (λ p. counted_estimate s h p d) 1 s.points)),
    ))
    (cases_lt k s.points)

-- every figure keeps within the largest energy of a reading, where estimates keep within theirs
pub figure_bounded : (s : Setting) (h : History)
    → IsLawful s h → (d : ℕ) → ((p x : ℕ) → estimate s h p d ≡ Some x → x ≤ greatest_figure) → (p : ℕ)
    → figure s h p d ≤ largest_energy
figure_bounded s h lawful d most p = go (covering_reading h p d) refl
  where
    go : (o : Option Reading)
        → covering_reading h p d ≡ o
        → unwrap_or (option_map (share_on s h d) o) (get_or (generated_figures s h d) (p - 1) 0) ≤ largest_energy
    go None e = omega (arith, scaling_only_lowers s h d (p - 1), estimates_bounded s h d most (p - 1))
    go (Some r) e = share_bounded s h lawful p d r e

-- Loads.

-- a gate entry, where there is one, keeps within its limit
abbrev gate_within : Option GateDay → Bool
gate_within None = true
gate_within (Some gate) = leb gate.energy_in largest_gate

-- the same of what an entry says
abbrev entry_within : Option Entry → Bool
entry_within (Some (GateEntered day gate)) = gate_within (Some gate)
entry_within o = true

-- a call within its limits enters gate energies within theirs
within_limits : (s : Setting) (c : Call) → is_beyond_limits s c ≡ false → entry_within (entry_of s c) ≡ true
within_limits s (EnterGate date energy_in energy_out) e =
    (and_parts (leb energy_in largest_gate) (leb energy_out largest_gate)
    (not-false (leb energy_in largest_gate && leb energy_out largest_gate) e)).0
within_limits s c e = refl

-- of two gate entries within the limit, the one taken is too
either_within : (b : Bool) (gate : GateDay) (o : Option GateDay)
    → gate_within (Some gate) ≡ true → gate_within o ≡ true
    → gate_within (option_or (cond b (Some gate) None) o) ≡ true
either_within true gate o here later = here
either_within false gate o here later = later

-- every gate entry of a book keeps within the limit
gates_within : (s : Setting) (h : History) (d : ℕ) → IsLawful s h → gate_within (gate_of h d) ≡ true
gates_within s [] d lawful = refl
gates_within s (GateEntered day gate ∷ h) d lawful =
    let c = lawful.1.0 in
    let limits : gate_within (Some gate) ≡ true =
    ap entry_within (sym lawful.1.2) ∙ within_limits s c (accepted s h c lawful.1.1).0 in
    either_within (eqb day d) gate (gate_of h d) limits (gates_within s h d lawful.0)
gates_within s (e ∷ h) d lawful = gates_within s h d lawful.0

-- a load is at most what came in through the gate
pub load_bounded : (s : Setting) (h : History) → IsLawful s h → (d n : ℕ) → load s h d ≡ Some n → n ≤ largest_gate
load_bounded s h lawful d n loaded = go (gate_of h d) (gates_within s h d lawful) loaded
  where
    go : (o : Option GateDay) → gate_within o ≡ true → option_map (load_from_gate s h d) o ≡ Some n → n ≤ largest_gate
    go None within e = omega (arith, ap (λ x. unwrap_or x 0) e)
    go (Some gate) within e =
        let is : load_from_gate s h d gate ≡ n = ap (λ x. unwrap_or x 0) e in
        omega (arith, leb-true gate.energy_in largest_gate within, is)

-- Sharing.

-- a held reading can be shared over its days
pub reading_shareable : (s : Setting) (h : History)
    → IsLawful s h → s.days ≤ last_day → (r : Reading)
    → Holds h r → can_share largest_gate r.energy (covered_weights s h r) ≡ true
reading_shareable s h lawful few r a =
    let limits = held_within s h lawful r a in
    let rows : length (covered_weights s h r) ≤ last_day = omega (arith, length_weights s h r, limits.3) in
    let product = mul-le r.energy (length (covered_weights s h r)) largest_energy last_day limits.4 rows in
    and_from (leb (r.energy * length (covered_weights s h r) * largest_gate) largest_product) (ltb 0 (sum (covered_weights s h r)))
    (le-leb (r.energy * length (covered_weights s h r) * largest_gate) largest_product (omega (arith, product)))
    (lt-ltb 0 (sum (covered_weights s h r)) (weights_positive s h r limits.2))
