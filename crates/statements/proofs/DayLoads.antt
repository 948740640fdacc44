-- Days with loads. Assumes nothing.
use Rattle.std.proofs.Common.{◌≡◌, ℕ, zero, suc, ◌+◌, ◌<◌, Bool, true, false, cond, is_some, Some, None, Option, unwrap_or, sym, refl, ap, ◌∙◌, arith}
use Rattle.std.specs.List.{range_with_len}
use Rattle.std.proofs.lemmas.Bool.{cond-false, cond-true, false≢true}
use Rattle.rules.specs.Figures.{load}
use Rattle.rules.specs.History.{History, Setting}
use Rattle.rules.specs.Calls.{first_day_without_load}

passed : (b : Bool) (o : Option ℕ) (d : ℕ) → cond b o (Some d) ≡ None → (b ≡ true) × (o ≡ None)
passed true o d e = (refl, e)
passed false o d e = absurd (false≢true (ap is_some (sym e)))

module _ (s : Setting) (h : History) where
  shifted : (d k : ℕ) → load s h (d + suc k) ≡ load s h (d + 1 + k)
  shifted d k = let e : d + suc k ≡ d + 1 + k = omega arith in ap (load s h) e

  at_start : (d : ℕ) → load s h (d + 0) ≡ load s h d
  at_start d = let e : d + 0 ≡ d = omega arith in ap (load s h) e

  -- where each of some days has a load, none is the first without one
  pub none_unloaded : (d n : ℕ) → ((k : ℕ) → k < n → is_some (load s h (d + k)) ≡ true) → first_day_without_load s h (range_with_len d n) ≡ None
  none_unloaded d zero each = refl
  none_unloaded d (suc n) each =
      cond-true _ _ _ (ap is_some (sym (at_start d)) ∙ each 0 (omega arith))
      ∙ none_unloaded (d + 1) n (λ k below. ap is_some (sym (shifted d k)) ∙ each (suc k) (omega arith))

  -- and then each has one
  pub each_loaded : (d n : ℕ) → first_day_without_load s h (range_with_len d n) ≡ None → (k : ℕ) → k < n → is_some (load s h (d + k)) ≡ true
  each_loaded d zero none k below = absurd (omega arith)
  each_loaded d (suc n) none zero below = ap is_some (at_start d) ∙ (passed (is_some (load s h d)) (first_day_without_load s h (range_with_len (d + 1) n)) d none).0
  each_loaded d (suc n) none (suc k) below =
      ap is_some (shifted d k) ∙ each_loaded (d + 1) n (passed (is_some (load s h d)) (first_day_without_load s h (range_with_len (d + 1) n)) d none).1 k (omega arith)

  -- the first without one, where all before it have theirs
  pub first_unloaded : (d n i : ℕ) → i < n → ((k : ℕ) → k < i → is_some (load s h (d + k)) ≡ true) → is_some (load s h (d + i)) ≡ false → first_day_without_load s h (range_with_len d n) ≡ Some (d + i)
  first_unloaded d zero i below each lacks = absurd (omega arith)
  first_unloaded d (suc n) zero below each lacks = let e : d ≡ d + 0 = omega arith in cond-false _ _ _ (ap is_some (sym (at_start d)) ∙ lacks) ∙ ap Some e
  first_unloaded d (suc n) (suc i) below each lacks =
      let e : d + 1 + i ≡ d + suc i = omega arith in
      cond-true _ _ _ (ap is_some (sym (at_start d)) ∙ each 0 (omega arith))
      ∙ first_unloaded (d + 1) n i (omega arith) (λ k less. ap is_some (sym (shifted d k)) ∙ each (suc k) (omega arith)) (ap is_some (sym (shifted d i)) ∙ lacks)
      ∙ ap Some e

-- a day with a load tells it
pub some_load : (o : Option ℕ) → is_some o ≡ true → o ≡ Some (unwrap_or o 0)
some_load None some = absurd (false≢true some)
some_load (Some n) some = refl
