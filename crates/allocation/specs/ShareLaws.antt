-- What holds of the shares whatever the formula. Those who build on sharing cite these laws and not the formula.
use Rattle.std.specs.Prelude.{◌≡◌, ℕ, zero, suc, ◌+◌, ◌-◌, ◌*◌, ◌/◌, ◌<◌, ◌≤◌}
use Rattle.std.specs.Prelude.{List, map, length, sum, slice_index, slice_index_or}
use Rattle.std.proofs.Common.{sym, ap, ◌∙◌, ⊎_elim, add-one, arith}
use Rattle.std.proofs.Common.{mul-div_cancel, mul-zero, mul-add, mul-le-mul_right, div-mul-le_self}
use Rattle.std.proofs.Math.Nat.{add-mul-div_left, zero-div}
use Rattle.std.specs.List.{range_with_len}
use Rattle.std.proofs.lemmas.Nat.{le-div}
use Rattle.std.proofs.lemmas.List.{take_all, get_or_past}
use Rattle.std.proofs.lemmas.Bool.{cases_lt}
use Rattle.std.proofs.lemmas.List.FromFn.{length-map-range_with_len, get_or-map-range_with_len}
use Rattle.std.proofs.lemmas.List.FromFn.{sum_by-map-range_with_len_more}
use Rattle.std.proofs.lemmas.List.Sums.{sum_by_more}
use Rattle.allocation.specs.Sharing.{running_sum, part, share_at, shares}

-- The four facts that rest on the formula.

-- no weight takes nothing
pub part_none : (c w : ℕ) → part c w 0 ≡ 0
unfolding part
part_none c w = rw mul-zero (zero-div w)

-- the whole weight takes the whole amount
pub part_all : (c w : ℕ) → 0 < w → part c w w ≡ c
unfolding part
part_all c w h = mul-div_cancel c h

div_mono : (a b k : ℕ) → 0 < k → a ≤ b → a / k ≤ b / k
div_mono a b k h le = le-div (a / k) b k h (omega (arith, div-mul-le_self a k))

-- more weight takes no less
pub part_more : (c w s x : ℕ) → 0 < w → part c w s ≤ part c w (s + x)
unfolding part
part_more c w s x h = div_mono (c * s) (c * (s + x)) w h (omega (arith, mul-add c s x))

-- where the amount is at most the whole weight, more weight takes at most itself more
pub part_step : (c w s x : ℕ) → 0 < w → c ≤ w → part c w (s + x) ≤ part c w s + x
unfolding part
part_step c w s x h most =
    omega (
      arith,
      div_mono (c * (s + x)) (c * s + w * x) w h (omega (arith, mul-add c s x, mul-le-mul_right x most)),
      add-mul-div_left (c * s) x h,
    )

-- The laws.

-- there are as many shares as weights
pub length_shares : (c : ℕ) (ws : List ℕ) → length (shares c ws) ≡ length ws
unfolding shares
length_shares c ws = length-map-range_with_len (share_at c ws) 0 (length ws)

-- the share at place k is share k
pub slice_index_shares :
    (c : ℕ) (ws : List ℕ) (k : ℕ) → k < length ws → slice_index (shares c ws) k ≡ share_at c ws k
unfolding shares
slice_index_shares c ws k h = get_or-map-range_with_len (share_at c ws) 0 (length ws) k k 0 h (omega arith)

-- the first k shares add up to what falls to the first k weights
front_sum :
    (c : ℕ) (ws : List ℕ) (k : ℕ) → 0 < sum ws → k ≤ length ws
    → sum (map (share_at c ws) (range_with_len 0 k)) ≡ part c (sum ws) (running_sum ws k)
unfolding share_at
front_sum c ws zero pos h = sym (part_none c (sum ws))
front_sum c ws (suc k) pos h =
    let before = front_sum c ws k pos (omega arith) in
    let one_more = sum_by-map-range_with_len_more (λ x. x) (share_at c ws) 0 k k (omega arith) in
    let weights : running_sum ws (k + 1) ≡ running_sum ws k + slice_index_or ws k 0 =
    sum_by_more (λ x. x) ws k 0 (omega arith) in
    let grows : part c (sum ws) (running_sum ws k) ≤ part c (sum ws) (running_sum ws (k + 1)) =
    rw weights (part_more c (sum ws) (running_sum ws k) (slice_index ws k) pos) in
    let met : sum (map (share_at c ws) (range_with_len 0 (k + 1))) ≡ part c (sum ws) (running_sum ws (k + 1)) =
    omega (arith, before, one_more, grows) in
    rw add-one at met

-- the shares add up to the amount
pub sum_shares : (c : ℕ) (ws : List ℕ) → 0 < sum ws → sum (shares c ws) ≡ c
unfolding shares
sum_shares c ws pos =
    let all : running_sum ws (length ws) ≡ sum ws = ap sum (take_all (length ws) ws (omega arith)) in
    let met = front_sum c ws (length ws) pos (omega arith) in
    met ∙ ap (part c (sum ws)) all ∙ part_all c (sum ws) pos

-- at a place with a weight: the share is what that weight adds to what falls to the weights before it
share_steps :
    (c : ℕ) (ws : List ℕ) (k : ℕ) → k < length ws
    → slice_index (shares c ws) k
    ≡ part c (sum ws) (running_sum ws k + slice_index ws k) - part c (sum ws) (running_sum ws k)
unfolding share_at
share_steps c ws k h =
    slice_index_shares c ws k h
    ∙ ap (λ s. part c (sum ws) s - part c (sum ws) (running_sum ws k)) (sum_by_more (λ x. x) ws k 0 h)

-- past the last weight there is no share
share_past : (c : ℕ) (ws : List ℕ) (k : ℕ) → length ws ≤ k → slice_index (shares c ws) k ≡ 0
share_past c ws k h = get_or_past (shares c ws) k 0 (omega (arith, length_shares c ws))

-- no share exceeds its weight where the amount is at most the whole weight
pub share_within :
    (c : ℕ) (ws : List ℕ) (k : ℕ) → 0 < sum ws → c ≤ sum ws → slice_index (shares c ws) k ≤ slice_index ws k
share_within c ws k pos most =
    ⊎_elim
    (λ h. omega (arith, share_steps c ws k h, part_step c (sum ws) (running_sum ws k) (slice_index ws k) pos most))
    (λ h. omega (arith, share_past c ws k h)) (cases_lt k (length ws))

-- a weight of 0 takes 0
pub share_of_nothing : (c : ℕ) (ws : List ℕ) (k : ℕ) → slice_index ws k ≡ 0 → slice_index (shares c ws) k ≡ 0
share_of_nothing c ws k none =
    ⊎_elim
    (λ h.
    let same : part c (sum ws) (running_sum ws k + slice_index ws k) ≡ part c (sum ws) (running_sum ws k) =
    ap (part c (sum ws)) (omega (arith, none)) in
    omega (arith, share_steps c ws k h, same))
    (λ h. share_past c ws k h) (cases_lt k (length ws))

-- all of it together, of some shares ss of amount c over weights ws
pub record SharesOut (c : ℕ) (ws ss : List ℕ) : Type 0 where
  pub one_each : length ss ≡ length ws
  pub adds_up : 0 < sum ws → sum ss ≡ c
  pub within : 0 < sum ws → c ≤ sum ws → (k : ℕ) → slice_index ss k ≤ slice_index ws k
  pub nothing : (k : ℕ) → slice_index ws k ≡ 0 → slice_index ss k ≡ 0

pub shares_share_out : (c : ℕ) (ws : List ℕ) → SharesOut c ws (shares c ws)
shares_share_out c ws = record {
  one_each = length_shares c ws;
  adds_up = sum_shares c ws;
  within = λ pos most k. share_within c ws k pos most;
  nothing = share_of_nothing c ws;
}
