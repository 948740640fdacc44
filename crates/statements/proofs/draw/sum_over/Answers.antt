use Rattle.std.proofs.Common.{◌≡◌, ℕ, ◌+◌, min, Ok, Err, Result, ap, ◌∙◌, arith}
use Rattle.std.proofs.lemmas.Result.{err_from_is_err_and}
use Rattle.terms.specs.declared.refusal.Refusal.{Refusal}
use Rattle.statements.specs.Spans.{sum_over}
use Rattle.statements.proofs.SpanSums.{counted_more, of_none}
use Rattle.statements.proofs.draw.sum_over.Goals as goal
use Rattle.statements.specs.Limits.{largest_statement_sum}

pub loop-place-init : goal.loop-place-init
loop-place-init g c = record { fits = omega arith; law = λ f law. omega (arith, of_none f c.args.days.first) }

pub loop-place-preserved : goal.loop-place-preserved
loop-place-preserved g c = record {
  fits = omega arith;
  law = λ f law.
      let first = c.args.days.first in
      let place = c.loop-place.place in
      let x = c.in_ok-ask.field-0 in
      let given : ◌≡◌ {A = Result ℕ Refusal} (Ok x) (Ok (f (first + place))) = law place (Ok x) c.loop-place-test.true c.in_ok-ask.ensures in
      let is : x ≡ f (first + place) = cc in
      c.min-total.ensures ∙ ap (λ n. min n largest_statement_sum) c.saturating_add.ensures ∙ counted_more f first place c.loop-place.total x (c.loop-place.invariant.law f law) is;
}

pub returns-in_err-ask : goal.returns-in_err-ask
returns-in_err-ask g c =
    let p = err_from_is_err_and c.from_residual.result c.from_residual.ensures.1 in
    rw (p.1, p.2)
    (record {
      fits = tt;
      law = λ f law.
          let place = c.loop-place.place in
          let e = c.in_err-ask.field-0.0 in
          let given = law place (Err e) c.loop-place-test.true c.in_err-ask.ensures in
          given ∙ absurd_ok given;
    })
  where
    absurd_ok : {A : Type 0} {x : ℕ} {e : Refusal} → ◌≡◌ {A = Result ℕ Refusal} (Err e) (Ok x) → A
    absurd_ok same = absurd (let z : ◌≡◌ {A = ℕ} 0 1 = cc in omega arith)

pub returns : goal.returns
returns g c = record {
  fits = c.loop-place.invariant.fits;
  law = λ f law.
      let all : c.loop-place.place ≡ c.args.days.count = omega (arith, c.loop-place-test.false, c.loop-place.auto.place-end) in
      ap Ok (c.loop-place.invariant.law f law ∙ ap (λ n. min (sum_over f c.args.days.first n) largest_statement_sum) all);
}
