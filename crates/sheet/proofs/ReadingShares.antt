-- Days by their weights, and shares shown day by day.
use Rattle.std.proofs.Common.{◌≡◌, ℕ, ◌+◌, ◌-◌, ◌*◌, ◌<◌, ◌≤◌, true, false, cond, ◌&&◌, eqb, ltb, leb, List, ◌++◌, map, length, get_or, set, take, drop, None, sum, vec_items, vec_len, unwrap_or, sym, refl, ap, ◌∙◌, ⊎_elim, subst, mul-le-mul, arith}
use Rattle.std.proofs.lemmas.List.FromFn.{get_or-map-range_with_len, length-map-range_with_len}
use Rattle.std.proofs.lemmas.List.{drop-map, ext_get_or, get_or-append_right, get_or-drop, get_or-map, get_or-set_other, get_or-set_same, get_or-take, get_or_append_left, length-drop, length-map, length-set, length-take-le, map-append, take-append-drop, take-map}
use Rattle.std.proofs.lemmas.List.Sums.{get_or-le-sum_by}
use Rattle.std.proofs.lemmas.Bool.{and_from, cases_Bool, cases_eq, cases_lt, cond-false, cond-true, cond_both, eq-eqb, le-leb, le-ltb, lt-ltb, ne_eqb}
use Rattle.std.specs.List.{range_with_len}
use Rattle.allocation.proofs.LoadLaws.{weight_positive}
use Rattle.allocation.specs.ShareLaws.{length_shares}
use Rattle.allocation.specs.SharingLimits.{largest_day_weight, largest_product}
use Rattle.allocation.specs.Sharing.{can_share, shares}
use Rattle.allocation.specs.declared.reading_day.ReadingDay.{ReadingDay}
use Rattle.rules.specs.History.{History, Setting, covers}
use Rattle.rules.specs.declared.entry.Reading.{Reading}
use Rattle.ledger.specs.declared.ledger.Ledger.{Ledger}
use Rattle.sheet.specs.DayWeights.{shares_of_days, weight_of_load, weights_of_days}
use Rattle.sheet.specs.Sheet.{ChangesOnlyDays, LiesInSheet, figure_at}
use Rattle.sheet.specs.SheetOfHistory.{KnowsHistory, ShowsShares}
use Rattle.sheet.specs.declared.sheet.Sheet.{Sheet}
use Rattle.sheet.proofs.RowsByPlaces.{handed_shares, handed_weights, place_after, place_apart, place_before}
use Rattle.allocation.specs.ReadingDay.{with_share}
use Rattle.allocation.specs.Row.{rows_with_shares}
use Rattle.rules.proofs.Readings.{covers_facts}
use Rattle.rules.specs.Figures.{weight_on, covered_weights}

-- a day other than the next is among the days so far or not
same_test : (point p start d to : ℕ) → (point ≡ p → d ≡ to → ⊥) → (eqb point p && (leb start d && ltb d to)) ≡ (eqb point p && (leb start d && ltb d (to + 1)))
same_test point p start d to other =
    ⊎_elim
    (λ (is : point ≡ p).
    let apart : d ≡ to → ⊥ = other is in
    let same : ltb d to ≡ ltb d (to + 1) =
    ⊎_elim
    (λ (below : d < to). lt-ltb d to below ∙ sym (lt-ltb d (to + 1) (omega arith)))
    (λ (above : to ≤ d). le-ltb d to above ∙ sym (le-ltb d (to + 1) (⊎_elim (λ (e : d ≡ to). absurd (apart e)) (λ (n : d ≡ to → ⊥). omega arith) (cases_eq d to))))
    (cases_lt d to) in
    ap (λ t. eqb point p && (leb start d && t)) same)
    (λ (not : point ≡ p → ⊥). ap (λ t. t && (leb start d && ltb d to)) (ne_eqb point p not) ∙ sym (ap (λ t. t && (leb start d && ltb d (to + 1))) (ne_eqb point p not)))
    (cases_eq point p)

-- one more share shown
module _ (old b new : Sheet) (point start to share : ℕ) (from : start ≤ to) (only : ChangesOnlyDays start to old b) (low : 1 ≤ point) (high : point ≤ old.points)
    (figures : vec_items new.figures ≡ set (vec_items b.figures) (to * b.points + (point - 1)) share) where
  laid : to * b.points + (point - 1) ≡ to * old.points + (point - 1)
  laid = ap (λ n. to * n + (point - 1)) only.points

  elsewhere : (k : ℕ) → (k ≡ to * old.points + (point - 1) → ⊥) → get_or (vec_items new.figures) k 0 ≡ get_or (vec_items b.figures) k 0
  elsewhere k other =
      ap (λ xs. get_or xs k 0) figures ∙ get_or-set_other (vec_items b.figures) (to * b.points + (point - 1)) k share 0 (λ e. other (e ∙ laid))

  pub shown_more : new.days ≡ b.days → new.points ≡ b.points → new.loads ≡ b.loads → new.cover_ends ≡ b.cover_ends → ChangesOnlyDays start (to + 1) old new
  shown_more days points loads covered = record {
    days = days ∙ only.days;
    points = points ∙ only.points;
    loads = loads ∙ only.loads;
    covered = covered ∙ only.covered;
    len = new.figures.ok.0 ∙ ap length figures ∙ length-set (vec_items b.figures) (to * b.points + (point - 1)) share ∙ sym b.figures.ok.0 ∙ only.len;
    before = λ k less. elsewhere k (λ e. omega (arith, place_after old.points point to start (omega arith))) ∙ only.before k less;
    after = λ k past.
        let end = place_before old.points point to (to + 1) low high (omega arith) in
        let first = place_after old.points point to to (omega arith) in
        elsewhere k (λ e. omega arith) ∙ only.after k (omega arith);
  }

  pub figures_more : (ss : List ℕ) → new.points ≡ b.points → to * b.points + (point - 1) < vec_len b.figures → get_or ss to 0 ≡ share
      → ((p d : ℕ) → 1 ≤ p → p ≤ old.points → figure_at b p d ≡ cond (eqb point p && (leb start d && ltb d to)) (get_or ss d 0) (figure_at old p d))
      → (p d : ℕ) → 1 ≤ p → p ≤ old.points → figure_at new p d ≡ cond (eqb point p && (leb start d && ltb d (to + 1))) (get_or ss d 0) (figure_at old p d)
  figures_more ss points within share_is so_far p d p_low p_high =
      let at_new : figure_at new p d ≡ get_or (vec_items new.figures) (d * old.points + (p - 1)) 0 = ap (λ n. get_or (vec_items new.figures) (d * n + (p - 1)) 0) (points ∙ only.points) in
      let at_b : figure_at b p d ≡ get_or (vec_items b.figures) (d * old.points + (p - 1)) 0 = ap (λ n. get_or (vec_items b.figures) (d * n + (p - 1)) 0) only.points in
      ⊎_elim
      (λ (here : d * old.points + (p - 1) ≡ to * old.points + (point - 1)).
      let same = place_apart old.points p point d to p_low p_high low high here in
      let written : get_or (vec_items new.figures) (d * old.points + (p - 1)) 0 ≡ share =
      ap (λ k. get_or (vec_items new.figures) k 0) (here ∙ sym laid) ∙ ap (λ xs. get_or xs (to * b.points + (point - 1)) 0) figures
      ∙ get_or-set_same (vec_items b.figures) (to * b.points + (point - 1)) share 0 (omega (arith, b.figures.ok.0)) in
      let in_span : (eqb point p && (leb start d && ltb d (to + 1))) ≡ true =
      and_from _ _ (eq-eqb point p (sym same.0)) (and_from _ _ (le-leb start d (omega (arith, same.1))) (lt-ltb d (to + 1) (omega (arith, same.1)))) in
      at_new ∙ written ∙ sym share_is ∙ ap (λ k. get_or ss k 0) (sym same.1) ∙ sym (cond-true _ _ _ in_span))
      (λ (other : d * old.points + (p - 1) ≡ to * old.points + (point - 1) → ⊥).
      at_new ∙ elsewhere (d * old.points + (p - 1)) other ∙ sym at_b ∙ so_far p d p_low p_high
      ∙ ap (λ t. cond t (get_or ss d 0) (figure_at old p d))
      (same_test point p start d to (λ pp dd. other (ap (λ n. n * old.points + (p - 1)) dd ∙ ap (λ q. to * old.points + (q - 1)) (sym pp)))))
      (cases_eq (d * old.points + (p - 1)) (to * old.points + (point - 1)))

-- A row whose days weigh what their loads do.

-- days that have taken shares weigh what they did
handed_weigh : (days : List ReadingDay) (amount : ℕ) (taken : List ReadingDay)
    → taken ≡ cond (can_share largest_day_weight amount (weights_of_days days)) (rows_with_shares with_share days (shares amount (weights_of_days days))) days → weights_of_days taken ≡ weights_of_days days
handed_weigh days amount taken is =
    ap weights_of_days is
    ∙ cond_both (can_share largest_day_weight amount (weights_of_days days)) (rows_with_shares with_share days (shares amount (weights_of_days days))) days (λ l. weights_of_days l ≡ weights_of_days days)
    (λ _. handed_weights days (shares amount (weights_of_days days))) (λ _. refl)

-- a row weighs the same with other days in the place of some, where these weigh the same
pub row_weighs : (row taken : List ReadingDay) (a k : ℕ) (amount : ℕ)
    → taken ≡ cond (can_share largest_day_weight amount (weights_of_days (take k (drop a row)))) (rows_with_shares with_share (take k (drop a row)) (shares amount (weights_of_days (take k (drop a row))))) (take k (drop a row))
    → weights_of_days (take a row ++ (taken ++ drop k (drop a row))) ≡ weights_of_days row
row_weighs row taken a k amount is =
    apart taken
    ∙ ap (λ ws. weights_of_days (take a row) ++ (ws ++ weights_of_days (drop k (drop a row)))) (handed_weigh (take k (drop a row)) amount taken is)
    ∙ sym (apart (take k (drop a row)))
    ∙ ap (λ l. weights_of_days (take a row ++ l)) (take-append-drop k (drop a row))
    ∙ ap weights_of_days (take-append-drop a row)
  where
    apart : (l : List ReadingDay) → weights_of_days (take a row ++ (l ++ drop k (drop a row))) ≡ weights_of_days (take a row) ++ (weights_of_days l ++ weights_of_days (drop k (drop a row)))
    apart l =
        map-append (λ (day : ReadingDay). day.weight) (take a row) (l ++ drop k (drop a row))
        ∙ ap (λ ws. weights_of_days (take a row) ++ ws) (map-append (λ (day : ReadingDay). day.weight) l (drop k (drop a row)))

-- and those days show their shares there
row_shares : (row taken : List ReadingDay) (a k i : ℕ) → a ≤ length row → i < length taken → get_or (shares_of_days (take a row ++ (taken ++ drop k (drop a row)))) (a + i) 0 ≡ get_or (shares_of_days taken) i 0
row_shares row taken a k i inside within =
    let share_of : ReadingDay → ℕ = λ day. day.share in
    ap (λ l. get_or l (a + i) 0) (map-append share_of (take a row) (taken ++ drop k (drop a row)) ∙ ap (λ l. map share_of (take a row) ++ l) (map-append share_of taken (drop k (drop a row))))
    ∙ get_or-append_right (map share_of (take a row)) (shares_of_days taken ++ map share_of (drop k (drop a row))) a (a + i) 0
    (length-map (take a row) share_of ∙ length-take-le a row inside) (omega arith)
    ∙ ap (λ j. get_or (shares_of_days taken ++ map share_of (drop k (drop a row))) j 0) (omega arith)
    ∙ get_or_append_left (shares_of_days taken) (map share_of (drop k (drop a row))) 0 i (rw length-map within)

-- a reading that lies in a sheet can be shared over its days there, as each has weight
pub days_shareable : (b : Sheet) → length b.reading_days ≡ 400 → length b.loads ≡ 400 → (r : Reading) → LiesInSheet b r
    → can_share largest_day_weight r.energy (weights_of_days (take (r.end - r.start) (drop r.start b.reading_days))) ≡ true
days_shareable b many loads_many r lies =
    and_from _ _ (le-leb (r.energy * length (weights_of_days days) * largest_day_weight) largest_product (omega (arith, product)))
    (lt-ltb 0 (sum (weights_of_days days)) (omega (arith, first, get_or-le-sum_by (λ x. x) (weights_of_days days) 0 0 some)))
  where
    days : List ReadingDay
    days = take (r.end - r.start) (drop r.start b.reading_days)

    long : length (weights_of_days days) ≡ r.end - r.start
    long =
        length-map days (λ (day : ReadingDay). day.weight)
        ∙ length-take-le (r.end - r.start) (drop r.start b.reading_days) (omega (arith, many, lies.last, b.few_days, length-drop r.start b.reading_days))

    some : 0 < length (weights_of_days days)
    some = omega (arith, long, lies.some)

    few : length (weights_of_days days) ≤ 400
    few = omega (arith, long, lies.last, b.few_days)

    product : r.energy * length (weights_of_days days) ≤ 10000000 * 400
    product = mul-le-mul lies.light few

    first : 0 < get_or (weights_of_days days) 0 0
    first =
        subst (λ w. 0 < w)
        (sym (ap (λ ws. get_or ws 0 0) (sym (take-map (λ (day : ReadingDay). day.weight) (r.end - r.start) (drop r.start b.reading_days)) ∙ ap (take (r.end - r.start)) (sym (drop-map (λ (day : ReadingDay). day.weight) r.start b.reading_days) ∙ ap (drop r.start) b.weighed_by_loads))
        ∙ get_or-take (r.end - r.start) (drop r.start (map weight_of_load b.loads)) 0 0 (omega (arith, lies.some))
        ∙ get_or-drop r.start (map weight_of_load b.loads) 0 0
        ∙ get_or-map weight_of_load b.loads (r.start + 0) None 0 (omega (arith, lies.some, lies.last, b.few_days, loads_many))))
        (weight_positive (unwrap_or (get_or b.loads (r.start + 0) None) 0))

-- the days of a reading weigh what the rules say
module _ {s : Setting} {h : History} {l : Ledger} {b : Sheet} (knows : KnowsHistory s h l b) (many : length b.reading_days ≡ 400) (loads_many : length b.loads ≡ 400) where
  days_weigh : (a n : ℕ) → a + n ≤ b.days → weights_of_days (take n (drop a b.reading_days)) ≡ map (weight_on s h) (range_with_len a n)
  days_weigh a n inside =
      ext_get_or 0 (weights_of_days (take n (drop a b.reading_days))) (map (weight_on s h) (range_with_len a n)) (long ∙ sym (length-map-range_with_len (weight_on s h) a n)) each
    where
      few : a + n ≤ 400
      few = omega (arith, inside, b.few_days)

      long : length (weights_of_days (take n (drop a b.reading_days))) ≡ n
      long = length-map (take n (drop a b.reading_days)) (λ (day : ReadingDay). day.weight) ∙ length-take-le n (drop a b.reading_days) (omega (arith, few, many, length-drop a b.reading_days))

      each : (k : ℕ) → k < length (weights_of_days (take n (drop a b.reading_days))) → get_or (weights_of_days (take n (drop a b.reading_days))) k 0 ≡ get_or (map (weight_on s h) (range_with_len a n)) k 0
      each k less =
          let low : k < n = omega (arith, less, long) in
          ap (λ ws. get_or ws k 0) (sym (take-map (λ (day : ReadingDay). day.weight) n (drop a b.reading_days)) ∙ ap (take n) (sym (drop-map (λ (day : ReadingDay). day.weight) a b.reading_days) ∙ ap (drop a) b.weighed_by_loads))
          ∙ get_or-take n (drop a (map weight_of_load b.loads)) k 0 low
          ∙ get_or-drop a (map weight_of_load b.loads) k 0
          ∙ get_or-map weight_of_load b.loads (a + k) None 0 (omega (arith, low, few, loads_many))
          ∙ ap weight_of_load (knows.loads (a + k) (omega (arith, low, inside, knows.days)))
          ∙ sym (get_or-map-range_with_len (weight_on s h) a n k (a + k) 0 low refl)

  -- days of the row that have taken a reading's shares show them
  pub spread_shown : (r : Reading) (taken : List ReadingDay) (new : Sheet) → LiesInSheet b r
      → can_share largest_day_weight r.energy (weights_of_days (take (r.end - r.start) (drop r.start b.reading_days))) ≡ true
      → taken ≡ cond (can_share largest_day_weight r.energy (weights_of_days (take (r.end - r.start) (drop r.start b.reading_days)))) (rows_with_shares with_share (take (r.end - r.start) (drop r.start b.reading_days)) (shares r.energy (weights_of_days (take (r.end - r.start) (drop r.start b.reading_days))))) (take (r.end - r.start) (drop r.start b.reading_days))
      → length taken ≡ r.end - r.start
      → ((p d : ℕ) → 1 ≤ p → p ≤ b.points → figure_at new p d ≡ cond (covers r p d) (get_or (shares_of_days (take r.start b.reading_days ++ (taken ++ drop (r.end - r.start) (drop r.start b.reading_days)))) d 0) (figure_at b p d))
      → ShowsShares s h r b new
  spread_shown r taken new lies can took long figures_are p d low high =
      figures_are p d low (omega (arith, knows.points, high))
      ∙ ⊎_elim
      (λ (over : covers r p d ≡ true).
      let facts = covers_facts r p d over in
      let nth : r.start + (d - r.start) ≡ d = omega (arith, facts.1) in
      cond-true _ _ _ over
      ∙ ap (λ j. get_or (shares_of_days (take r.start b.reading_days ++ (taken ++ drop (r.end - r.start) (drop r.start b.reading_days)))) j 0) (sym nth)
      ∙ row_shares b.reading_days taken r.start (r.end - r.start) (d - r.start) (omega (arith, many, lies.some, lies.last, b.few_days)) (omega (arith, long, facts.1, facts.2))
      ∙ ap (λ ss. get_or ss (d - r.start) 0) taken_shares
      ∙ sym (cond-true _ _ _ over))
      (λ (apart : covers r p d ≡ false). cond-false _ _ _ apart ∙ sym (cond-false _ _ _ apart)) (cases_Bool (covers r p d))
    where
      days : List ReadingDay
      days = take (r.end - r.start) (drop r.start b.reading_days)

      weigh : weights_of_days days ≡ covered_weights s h r
      weigh = days_weigh r.start (r.end - r.start) (omega (arith, lies.some, lies.last))

      taken_shares : shares_of_days taken ≡ shares r.energy (covered_weights s h r)
      taken_shares =
          let all_taken : taken ≡ rows_with_shares with_share days (shares r.energy (weights_of_days days)) = took ∙ cond-true _ _ _ can in
          ap shares_of_days all_taken
          ∙ handed_shares days (shares r.energy (weights_of_days days)) (length_shares r.energy (weights_of_days days) ∙ length-map days (λ (day : ReadingDay). day.weight))
          ∙ ap (shares r.energy) weigh
