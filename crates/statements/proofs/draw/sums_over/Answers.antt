use Rattle.std.proofs.Common.{◌≡◌, ℕ, zero, suc, ◌+◌, ◌-◌, ◌<◌, ◌≤◌, ◌≢◌, length, get_or, set, replicate, Ok, Err, Result, sym, refl, ap, ◌∙◌, ⊎_elim, subst, arith}
use borrow.Author.Count.{below_more}
use Rattle.std.proofs.lemmas.Bool.{cases_eq}
use Rattle.std.proofs.lemmas.List.{get_or-set_other, get_or-set_same}
use Rattle.std.proofs.lemmas.List.{length-set}
use Rattle.terms.specs.declared.refusal.Refusal.{Refusal}
use Rattle.statements.specs.Sums.{remainder_over, retailer_over}
use Rattle.statements.proofs.draw.sums_over.Goals as goal
use Rattle.statements.specs.Limits.{largest_statement_sum}

-- a list of zeros holds 0 everywhere
nothing : (n k : ℕ) → ◌≡◌ {A = ℕ} (get_or (replicate n 0) k 0) 0
nothing zero k = refl
nothing (suc n) zero = refl
nothing (suc n) (suc k) = nothing n k

-- a refusal is no sum
not_given : {A : Type 0} {e : Refusal} {x : ℕ} → ◌≡◌ {A = Result ℕ Refusal} (Err e) (Ok x) → A
not_given same = let z : ◌≡◌ {A = ℕ} 0 1 = cc in absurd (omega arith)

pub loop-place-init : goal.loop-place-init
loop-place-init g c = record {
  long = refl;
  fits = λ k. let none = nothing 16 k in omega (arith, none);
  law = λ case f span its k none. absurd (omega arith);
}

pub loop-place-preserved : goal.loop-place-preserved
loop-place-preserved g c =
    let i = c.loop-place.place in
    let xs = c.loop-place.retailers in
    let x = c.in_ok-retailers.field-0 in
    let inside : c.loop-place.place < length c.loop-place.retailers = omega (arith, c.loop-place.invariant.long, c.loop-place-test.true) in
    record {
      long = length-set c.loop-place.retailers c.loop-place.place x ∙ c.loop-place.invariant.long;
      fits = λ k.
          ⊎_elim (λ same. subst (λ (n : ℕ). get_or (set xs i x) n 0 ≤ largest_statement_sum) same (subst (λ (n : ℕ). n ≤ largest_statement_sum) (sym (get_or-set_same xs i x 0 inside)) c.in_ok-retailers.ensures.fits))
          (λ other. let apart : k ≢ c.loop-place.place = λ same. other (sym same) in subst (λ (n : ℕ). n ≤ largest_statement_sum) (sym (get_or-set_other xs i k x 0 apart)) (c.loop-place.invariant.fits k)) (cases_eq i k);
      law = λ case f span its.
          let given : ◌≡◌ {A = Result ℕ Refusal} (Ok x) (Ok (retailer_over case.setting case.history (i + 1) span)) = c.in_ok-retailers.ensures.law.law _ case f span its in
          let is : x ≡ retailer_over case.setting case.history (i + 1) span = cc in
          below_more (λ k. get_or (set xs i x) k 0 ≡ retailer_over case.setting case.history (k + 1) span) i
          (λ k less. get_or-set_other xs i k x 0 (λ same. absurd (omega arith)) ∙ c.loop-place.invariant.law case f span its k less)
          (get_or-set_same xs i x 0 inside ∙ is);
    }

pub returns-in_err-remainder : goal.returns-in_err-remainder
returns-in_err-remainder g c = record { law = λ case f span its loaded. not_given (c.in_err-remainder.ensures.law.law case f span its loaded) }

pub returns-in_err-retailers : goal.returns-in_err-retailers
returns-in_err-retailers g c = record { law = λ case f span its loaded. not_given (c.in_err-retailers.ensures.law.law _ case f span its) }

pub returns : goal.returns
returns g c = record {
  law = λ case f span its loaded.
      let given : ◌≡◌ {A = Result ℕ Refusal} (Ok c.in_ok-remainder.remainder) (Ok (remainder_over case.setting case.history span)) = c.in_ok-remainder.ensures.law.law case f span its loaded in
      record {
        retailers = λ k low high.
            let next : k - 1 + 1 ≡ k = omega arith in
            c.loop-place.invariant.law case f span its (k - 1) (omega (arith, c.loop-place-test.false)) ∙ ap (λ n. retailer_over case.setting case.history n span) next;
        remainder = cc;
      };
}
