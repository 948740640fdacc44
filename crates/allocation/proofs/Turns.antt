-- A sharing, row by row. Assumes nothing.
use Rattle.std.proofs.Common.{◌≡◌, ℕ, ◌+◌, ◌-◌, ◌*◌, ◌<◌, ◌≤◌, true, ltb, leb, List, map, length, get_or, take, set, sum, sym, refl, ap, ◌∙◌, arith}
use Rattle.std.proofs.lemmas.List.{length-map, length-take-le, take_all}
use Rattle.std.proofs.lemmas.Bool.{leb-true, ltb-true, and_parts}
use Rattle.allocation.specs.ShareLaws.{part_none, part_more, length_shares, slice_index_shares}
use Rattle.allocation.specs.Row.{rows_with_shares}
use Rattle.allocation.specs.SharingLimits.{largest_product}
use Rattle.allocation.specs.Sharing.{can_share, running_sum, part, saturated_u64, share_at, shares}
use Rattle.allocation.proofs.RowShares.{rows_with_shares_past, rows_with_shares_more, rows_with_shares_none}
use Rattle.allocation.proofs.Products.{falls, product_fits}
use Rattle.allocation.proofs.Totals.{running_sum_more, running_sum_within, total_within}

-- what makes a turn safe: something to divide by, a product that fits, and no less fallen than before
pub record Turn (c total run' fallen : ℕ) : Type 0 where
  pub some : 0 < total
  pub fits : c * run' ≤ largest_product
  pub grows : fallen ≤ part c total run'

-- an amount that can be shared keeps within the limit, over weights that add up to more than 0
can_facts : {R : Type 0} (w : R → ℕ) (rows : List R) (most c : ℕ) → can_share most c (map w rows) ≡ true → (c * length rows * most ≤ largest_product) × (0 < sum (map w rows))
can_facts w rows most c can =
    let parts = and_parts (leb (c * length (map w rows) * most) largest_product) (ltb 0 (sum (map w rows))) can in
    (rw (length-map rows w) at (leb-true _ _ parts.0), ltb-true _ _ parts.1)

-- the first i rows have taken their shares of c
pub record Taken {R : Type 0} (w : R → ℕ) (takes : R → ℕ → R) (c : ℕ) (rows : List R) (i : ℕ) (now : List R) (run fallen : ℕ) : Type 0 where
  pub rows_are : now ≡ rows_with_shares takes rows (take i (shares c (map w rows)))
  pub run_is : run ≡ saturated_u64 (running_sum (map w rows) i)
  pub fallen_is : fallen ≡ part c (sum (map w rows)) (running_sum (map w rows) i)

pub taken_none : {R : Type 0} (w : R → ℕ) (takes : R → ℕ → R) (c : ℕ) (rows : List R) → Taken w takes c rows 0 rows 0 0
taken_none w takes c rows = record {
  rows_are = sym (rows_with_shares_none takes rows);
  run_is = refl;
  fallen_is = sym (part_none c (sum (map w rows)));
}

module _ {R : Type 0} {w : R → ℕ} {takes : R → ℕ → R} {c : ℕ} {rows : List R} {i : ℕ} {now : List R} {run fallen : ℕ} (t : Taken w takes c rows i now run fallen) where
  abbrev ws : List ℕ
  ws = map w rows

  pub taken_all : length rows ≤ i → now ≡ rows_with_shares takes rows (shares c ws)
  taken_all h =
      t.rows_are ∙ ap (rows_with_shares takes rows) (take_all i (shares c ws) (omega (arith, length_shares c ws, length-map rows w)))

  -- One turn: row i is read as it came in, and nothing overflows.
  module _
      {most total run' : ℕ} (light : (row : R) → w row ≤ most) (can : can_share most c ws ≡ true) (total_is : total ≡ saturated_u64 (sum ws))
      (within : i < length rows) (d : R) (run_next : run' ≡ saturated_u64 (run + w (get_or now i d))) where
    row_read : get_or now i d ≡ get_or rows i d
    row_read =
        let taken_i : length (take i (shares c ws)) ≡ i = length-take-le i (shares c ws) (omega (arith, length_shares c ws, length-map rows w)) in
        ap (λ l. get_or l i d) t.rows_are ∙ rows_with_shares_past takes rows (take i (shares c ws)) i d (omega (arith, taken_i))

    one_more : running_sum ws (i + 1) ≡ running_sum ws i + w (get_or rows i d)
    one_more = running_sum_more w rows i d within

    run_is_next : run' ≡ saturated_u64 (running_sum ws (i + 1))
    run_is_next = omega (arith, run_next, t.run_is, one_more, ap w row_read)

    limit : c * length rows * most ≤ largest_product
    limit = (can_facts w rows most c can).0

    weights : 0 < sum ws
    weights = (can_facts w rows most c can).1

    turn_falls : part c total run' ≡ part c (sum ws) (running_sum ws (i + 1))
    turn_falls =
        rw (run_is_next, total_is)
        (falls c (length rows) most limit (running_sum ws (i + 1)) (sum ws) (total_within w rows most light)
        (running_sum_within w rows (i + 1)))

    -- what the turn asks for
    pub turn : Turn c total run' fallen
    turn = record {
      some = omega (arith, weights, total_is);
      fits = rw run_is_next
          (product_fits c (length rows) most limit (running_sum ws (i + 1)) (sum ws) (total_within w rows most light)
          (running_sum_within w rows (i + 1)));
      grows = rw (turn_falls, t.fallen_is, one_more) (part_more c (sum ws) (running_sum ws i) (w (get_or rows i d)) weights);
    }

    -- what it leaves, once the row has taken what falls with its weight less what had fallen
    module _ {fallen' : ℕ} {row' : R} (fallen_next : fallen' ≡ part c total run') (row_is : row' ≡ takes (get_or now i d) (fallen' - fallen)) where
      share_is : fallen' - fallen ≡ get_or (shares c ws) i 0
      unfolding share_at
      share_is = omega (arith, fallen_next, turn_falls, t.fallen_is, slice_index_shares c ws i (rw length-map within))

      pub taken_more : Taken w takes c rows (i + 1) (set now i row') run' fallen'
      taken_more =
          let in_shares : i < length (shares c ws) = omega (arith, length_shares c ws, length-map rows w) in
          let handed_i = rows_with_shares_more takes rows (shares c ws) i d in_shares in
          record {
            rows_are = cc (row_is, row_read, share_is, handed_i, t.rows_are);
            run_is = run_is_next;
            fallen_is = fallen_next ∙ turn_falls;
          }
