-- Changes of a sheet: what a change of some days leaves, one change after another, and one figure written anew.
use Rattle.std.proofs.Common.{◌≡◌, ℕ, ◌+◌, ◌-◌, ◌*◌, ◌<◌, ◌≤◌, ◌⊎◌, get_or, drop, vec_items, sym, ap, ◌∙◌, subst, ⊎_elim, mul-le-mul_right, arith, None, length, vec_len}
use Rattle.std.proofs.lemmas.List.{get_or-set_other, get_or-set_same, length-set}
use Rattle.rules.specs.History.{History, Setting}
use Rattle.ledger.specs.declared.ledger.Ledger.{Ledger}
use Rattle.sheet.specs.Coverage.{CoversTo}
use Rattle.sheet.specs.Sheet.{ChangesOnlyDays, SetsFigure, figure_at}
use Rattle.sheet.specs.SheetOfHistory.{KnowsHistory, ShowsDay, ShowsSupplied}
use Rattle.sheet.specs.declared.sheet.Sheet.{Sheet}
use Rattle.sheet.proofs.RowsByPlaces.{place_after, place_apart, place_before, same_drop}

-- a day is not among those from one day up to another
abbrev pub Outside : ℕ → ℕ → ℕ → Type 0
Outside from to d = (d < from) ⊎ (to ≤ d)

module _ {from to : ℕ} {old new : Sheet} (only : ChangesOnlyDays from to old new) where
  -- figures of other days stand
  pub figure_at_stands : (p d : ℕ) → 1 ≤ p → p ≤ old.points → Outside from to d → figure_at new p d ≡ figure_at old p d
  figure_at_stands p d low high outside =
      ap (λ n. get_or (vec_items new.figures) (d * n + (p - 1)) 0) only.points
      ∙ ⊎_elim
      (λ before. only.before (d * old.points + (p - 1)) (place_before old.points p d from low high before))
      (λ after. only.after (d * old.points + (p - 1)) (place_after old.points p d to after)) outside

  -- and so does what lies beyond all days
  pub beyond_stands : to ≤ old.days → drop (old.days * old.points) (vec_items new.figures) ≡ drop (old.days * old.points) (vec_items old.figures)
  beyond_stands inside =
      same_drop (old.days * old.points) (vec_items new.figures) (vec_items old.figures) (omega (arith, only.len, new.figures.ok.0, old.figures.ok.0))
      (λ k above. only.after k (omega (arith, mul-le-mul_right old.points inside)))

  -- a day that shows its figures still does
  pub day_stands : (s : Setting) (h : History) (d : ℕ) → old.points ≡ s.points → Outside from to d → ShowsDay s h old d → ShowsDay s h new d
  day_stands s h d many outside shows p low high = figure_at_stands p d low (omega arith) outside ∙ shows p low high

  pub supplied_stands : (s : Setting) (h : History) (d : ℕ) → old.points ≡ s.points → Outside from to d → ShowsSupplied s h old d → ShowsSupplied s h new d
  supplied_stands s h d many outside shows p x low high is = figure_at_stands p d low (omega arith) outside ∙ shows p x low high is

-- one change after another, to the days that follow
pub only_join : {a b c : ℕ} {x y z : Sheet} → a ≤ b → b ≤ c → ChangesOnlyDays a b x y → ChangesOnlyDays b c y z → ChangesOnlyDays a c x z
only_join {a} {b} {c} {x} {y} {z} ab bc first second =
    let low = mul-le-mul_right x.points ab in
    let high = mul-le-mul_right x.points bc in
    record {
      days = second.days ∙ first.days;
      points = second.points ∙ first.points;
      loads = second.loads ∙ first.loads;
      covered = second.covered ∙ first.covered;
      len = second.len ∙ first.len;
      before = λ k below. second.before k (subst (λ n. k < b * n) (sym first.points) (omega (arith, below, low))) ∙ first.before k below;
      after = λ k above. second.after k (subst (λ n. c * n ≤ k) (sym first.points) above) ∙ first.after k (omega (arith, above, high));
    }

-- or to the same days
pub only_again : {a b : ℕ} {x y z : Sheet} → ChangesOnlyDays a b x y → ChangesOnlyDays a b y z → ChangesOnlyDays a b x z
only_again {a} {b} {x} {y} {z} first second = record {
  days = second.days ∙ first.days;
  points = second.points ∙ first.points;
  loads = second.loads ∙ first.loads;
  covered = second.covered ∙ first.covered;
  len = second.len ∙ first.len;
  before = λ k below. second.before k (subst (λ n. k < a * n) (sym first.points) below) ∙ first.before k below;
  after = λ k above. second.after k (subst (λ n. b * n ≤ k) (sym first.points) above) ∙ first.after k above;
}

-- what a sheet was knows stands where figures alone change
pub knows_only : {s : Setting} {h : History} {l : Ledger} {old new : Sheet} {from to : ℕ} → ChangesOnlyDays from to old new → KnowsHistory s h l old → KnowsHistory s h l new
knows_only {s} {h} only knows = record {
  lawful = knows.lawful;
  follows = knows.follows;
  days = only.days ∙ knows.days;
  points = only.points ∙ knows.points;
  loads = λ d within. ap (λ loads. get_or loads d None) only.loads ∙ knows.loads d within;
  covered = subst (λ to. CoversTo h s.points to) (sym only.covered) knows.covered;
}

module _ {p d x : ℕ} {old new : Sheet} (w : SetsFigure p d x old new) where
  pub written_here : figure_at new p d ≡ x
  written_here =
      ap (λ n. get_or (vec_items new.figures) (d * n + (p - 1)) 0) w.points
      ∙ ap (λ xs. get_or xs (d * old.points + (p - 1)) 0) w.figures
      ∙ get_or-set_same (vec_items old.figures) (d * old.points + (p - 1)) x 0 (omega (arith, w.within, old.figures.ok.0))

  pub written_elsewhere : (k : ℕ) → (k ≡ d * old.points + (p - 1) → ⊥) → get_or (vec_items new.figures) k 0 ≡ get_or (vec_items old.figures) k 0
  written_elsewhere k other = ap (λ xs. get_or xs k 0) w.figures ∙ get_or-set_other (vec_items old.figures) (d * old.points + (p - 1)) k x 0 other

  pub written_other : (q e : ℕ) → 1 ≤ p → p ≤ old.points → 1 ≤ q → q ≤ old.points → (q ≡ p → e ≡ d → ⊥) → figure_at new q e ≡ figure_at old q e
  written_other q e p_low p_high q_low q_high other =
      ap (λ n. get_or (vec_items new.figures) (e * n + (q - 1)) 0) w.points
      ∙ written_elsewhere (e * old.points + (q - 1))
      (λ same. let apart = place_apart old.points q p e d q_low q_high p_low p_high same in other apart.0 apart.1)

  pub written_len : vec_len new.figures ≡ vec_len old.figures
  written_len = omega (arith, new.figures.ok.0, old.figures.ok.0, ap length w.figures, length-set (vec_items old.figures) (d * old.points + (p - 1)) x)

  pub written_only : {from to : ℕ} {base : Sheet} → ChangesOnlyDays from to base old → 1 ≤ p → p ≤ old.points → from ≤ d → d < to → ChangesOnlyDays from to base new
  written_only {from} {to} {base} only low high after_from before_to =
      let points_same : old.points ≡ base.points = only.points in
      let above : from * old.points ≤ d * old.points + (p - 1) = place_after old.points p d from after_from in
      let below : d * old.points + (p - 1) < to * old.points = place_before old.points p d to low high before_to in
      let above_base : from * base.points ≤ d * old.points + (p - 1) = subst (λ n. from * n ≤ d * old.points + (p - 1)) points_same above in
      let below_base : d * old.points + (p - 1) < to * base.points = subst (λ n. d * old.points + (p - 1) < to * n) points_same below in
      record {
        days = w.days ∙ only.days;
        points = w.points ∙ only.points;
        loads = w.loads ∙ only.loads;
        covered = w.covered ∙ only.covered;
        len = written_len ∙ only.len;
        before = λ k k_below. written_elsewhere k (λ same. omega (arith, same, k_below, above_base)) ∙ only.before k k_below;
        after = λ k k_above. written_elsewhere k (λ same. omega (arith, same, k_above, below_base)) ∙ only.after k k_above;
      }
