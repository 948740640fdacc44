-- Days weighed one after the other, and lines written one after the other. Assumes nothing.
use Rattle.std.proofs.Common.{◌≡◌, ℕ, ◌+◌, ◌*◌, ◌<◌, ◌≤◌, true, false, ◌&&◌, leb, List, [], ◌∷◌, ◌++◌, map, length, get_or, take, Err, Decides, Result, sym, refl, ap, ◌∙◌, ⊎_elim, arith}
use Rattle.std.specs.List.{AllByRecursion, range_with_len}
use Rattle.std.proofs.lemmas.List.FromFn.{map-range_with_len_more}
use Rattle.std.proofs.ByRecursion.{All-get_or, Decides-by_and}
use Rattle.std.proofs.lemmas.List.{take_all, get_or-map, length-map}
use Rattle.std.proofs.lemmas.Nat.{mul-le}
use Rattle.std.proofs.lemmas.List.Sums.{get_or-le-sum_by}
use Rattle.std.proofs.lemmas.Bool.{leb-true, leb-false, le-leb, lt-ltb, and_from, and_parts, cases_Bool}
use Rattle.terms.specs.Answers.{AnswersBy, refused_since}
use Rattle.terms.specs.Refusal.{number_of}
use Rattle.terms.specs.declared.refusal.Refusal.{Refusal}
use Rattle.allocation.proofs.LoadLaws.{weight_positive, weight_within}
use Rattle.allocation.specs.Loads.{weight}
use Rattle.allocation.proofs.RowShares.{rows_with_shares_keep, rows_with_shares_show}
use Rattle.allocation.proofs.Totals.{running_sum_more, running_sum_within, total_within}
use Rattle.allocation.specs.SharingLimits.{largest_day_weight, largest_product}
use Rattle.allocation.specs.ReadingDay.{with_share}
use Rattle.allocation.specs.ShareLaws.{length_shares}
use Rattle.allocation.specs.Row.{rows_with_shares}
use Rattle.allocation.specs.Sharing.{can_share, running_sum, shares}
use Rattle.allocation.specs.declared.reading_day.ReadingDay.{ReadingDay}
use Rattle.terms.specs.Limits.{largest_energy}
use Rattle.terms.specs.RefusalNumbers.{beyond_limits}
use Rattle.estimators.specs.Limits.{last_day}
use Rattle.apportion.specs.Limits.{largest_load, loads_within, is_sized}
use Rattle.apportion.specs.Table.{line_of, lines_of, shares_of, table, weights_of, table_line, load_weights}
use Rattle.apportion.specs.declared.table.DayLine.{DayLine}

abbrev pub Within : List ℕ → Type 0
Within loads = AllByRecursion (λ load. load ≤ largest_load) loads

decides_within : (loads : List ℕ) → Decides (loads_within loads) (Within loads)
decides_within =
    Decides-by_and (λ load. leb load largest_load) (λ load. load ≤ largest_load) loads_within
    (λ load. (leb-true load largest_load, le-leb load largest_load)) refl (λ _ _. refl)

-- the first i loads are within their limit and weighed
pub record Weighed (loads : List ℕ) (i : ℕ) (days : List ReadingDay) : Type 0 where
  pub within : Within (take i loads)
  pub weighed : weights_of days ≡ load_weights (take i loads)

-- what `ReadingDay::new` answers for weight w
abbrev pub New : ℕ → Result ReadingDay Refusal → Type 0
New w r = AnswersBy r (leb w largest_day_weight) (λ day. (day.weight ≡ w) × (day.share ≡ 0)) beyond_limits

pub weighed_all : {loads : List ℕ} {i : ℕ} {days : List ReadingDay} → length loads ≤ i → Weighed loads i days → (loads_within loads ≡ true) × (weights_of days ≡ load_weights loads)
weighed_all {loads} {i} past w =
    let all : take i loads ≡ loads = take_all i loads past in
    ((decides_within loads).1 (rw all at w.within), rw all at w.weighed)

-- a load that weighs too much is beyond its limit
pub too_heavy : (loads : List ℕ) {i w : ℕ} (e : Refusal) → i < length loads → w ≡ weight (get_or loads i 0) → New w (Err e) → (loads_within loads ≡ false) × (number_of e ≡ beyond_limits)
too_heavy loads {i} {w} e in_loads w_is new =
    let since = refused_since e (leb w largest_day_weight) (λ (day : ReadingDay). (day.weight ≡ w) × (day.share ≡ 0)) beyond_limits new in
    let heavy : leb (get_or loads i 0) largest_load ≡ false = sym (weight_within (get_or loads i 0) largest_load (omega arith)) ∙ (rw w_is at since.0) in
    let not_all : Within loads → ⊥ = λ all. omega (arith, leb-false _ _ heavy, All-get_or (λ load. load ≤ largest_load) loads i 0 in_loads all) in
    (⊎_elim (λ yes_all. absurd (not_all ((decides_within loads).0 yes_all))) (λ none. none) (cases_Bool (loads_within loads)), since.1)

same_line : {l l' w w' r r' t t' : ℕ} → l ≡ l' → w ≡ w' → r ≡ r' → t ≡ t' → table_line l w r t ≡ table_line l' w' r' t'
same_line p q r s = cc

-- the lines of the first i days are written, and run is the sum of their weights
pub record Written (loads : List ℕ) (days : List ReadingDay) (i run : ℕ) (lines : List DayLine) : Type 0 where
  pub run_is : run ≡ running_sum (weights_of days) i
  pub lines_are : lines ≡ map (line_of loads days) (range_with_len 0 i)

module _ {loads : List ℕ} {days : List ReadingDay} {i run : ℕ} {lines : List DayLine} (same : length loads ≡ length days) (in_loads : i < length loads) (before : Written loads days i run lines) (day : ReadingDay) (is : day ≡ get_or days i day) where
  in_days : i < length days
  in_days = omega arith

  weight_read : get_or (weights_of days) i 0 ≡ day.weight
  weight_read = get_or-map (λ (d : ReadingDay). d.weight) days i day 0 in_days ∙ ap (λ (d : ReadingDay). d.weight) (sym is)

  share_read : get_or (shares_of days) i 0 ≡ day.share
  share_read = get_or-map (λ (d : ReadingDay). d.share) days i day 0 in_days ∙ ap (λ (d : ReadingDay). d.share) (sym is)

  run_next : run + day.weight ≡ running_sum (weights_of days) (i + 1)
  run_next = omega (arith, before.run_is, running_sum_more (λ (d : ReadingDay). d.weight) days i day in_days, ap (λ (d : ReadingDay). d.weight) is)

  pub run_within : length days ≤ last_day → run + day.weight ≤ 400000000000
  run_within few =
      omega (
        arith,
        run_next,
        running_sum_within (λ (d : ReadingDay). d.weight) days (i + 1),
        total_within (λ (d : ReadingDay). d.weight) days largest_day_weight (λ d. d.within_largest),
      )

  pub written_more : (line : DayLine) → line.load ≡ get_or loads i 0 → line.weight ≡ day.weight → line.running_sum ≡ run + day.weight → line.share ≡ day.share → Written loads days (i + 1) (run + day.weight) (lines ++ (line ∷ []))
  written_more line load_is weight_is running_is taken_is = record {
    run_is = run_next;
    lines_are =
        let line_is : line ≡ table_line (get_or loads i 0) day.weight (run + day.weight) day.share = same_line load_is weight_is running_is taken_is in
        let more = map-range_with_len_more (line_of loads days) 0 i i (omega arith) in
        cc (before.lines_are, line_is, run_next, weight_read, share_read, more);
  }

-- what an energy and loads of the right size are
record Sized (energy : ℕ) (loads : List ℕ) : Type 0 where
  small : energy ≤ largest_energy
  some : 1 ≤ length loads
  few : length loads ≤ last_day

sized_parts : (energy : ℕ) (loads : List ℕ) → is_sized energy loads ≡ true → Sized energy loads
sized_parts energy loads fits =
    let parts = and_parts (leb energy largest_energy) (leb 1 (length loads) && leb (length loads) last_day) fits in
    let counts = and_parts (leb 1 (length loads)) (leb (length loads) last_day) parts.1 in
    record { small = leb-true _ _ parts.0; some = leb-true _ _ counts.0; few = leb-true _ _ counts.1 }

-- within its limits an energy can always be shared over the weights of loads
pub always_shared : (energy : ℕ) (loads : List ℕ) (days : List ReadingDay) → is_sized energy loads ≡ true → weights_of days ≡ load_weights loads → can_share largest_day_weight energy (weights_of days) ≡ true
always_shared energy loads days fits weighed =
    let parts = sized_parts energy loads fits in
    let first = get_or-le-sum_by (λ x. x) (load_weights loads) 0 0 (rw (length-map loads weight) parts.some) in
    let read = get_or-map weight loads 0 0 0 parts.some in
    let product = mul-le energy (length loads) largest_energy last_day parts.small parts.few in
    let small : energy * length (load_weights loads) * largest_day_weight ≤ largest_product = rw (length-map loads weight) (omega (arith, product)) in
    rw weighed (and_from _ _ (le-leb _ _ small) (lt-ltb _ _ (omega (arith, first, weight_positive (get_or loads 0 0), read))))

-- the lines by the weights and the shares of the days
abbrev by_days : List ℕ → List ℕ → List ℕ → List DayLine
by_days loads ws ss = map (λ k. table_line (get_or loads k 0) (get_or ws k 0) (running_sum ws (k + 1)) (get_or ss k 0)) (range_with_len 0 (length loads))

-- the lines of days that have taken their shares are those of the table
pub lines_of_shared : (energy : ℕ) (loads : List ℕ) (days : List ReadingDay) → weights_of days ≡ load_weights loads → lines_of loads (rows_with_shares with_share days (shares energy (weights_of days))) ≡ table energy loads
lines_of_shared energy loads days weighed =
    let ss = shares energy (weights_of days) in
    let kept : weights_of (rows_with_shares with_share days ss) ≡ weights_of days = rows_with_shares_keep with_share (λ (d : ReadingDay). d.weight) (λ _ _. refl) days ss in
    let shown : shares_of (rows_with_shares with_share days ss) ≡ ss =
    rows_with_shares_show with_share (λ (d : ReadingDay). d.share) (λ _ _. refl) days ss
    (omega (arith, length_shares energy (weights_of days), length-map days (λ (d : ReadingDay). d.weight))) in
    ap (λ ws. by_days loads ws (shares_of (rows_with_shares with_share days ss))) (kept ∙ weighed)
    ∙ ap (by_days loads (load_weights loads)) (shown ∙ ap (shares energy) weighed)
