use Rattle.std.proofs.Common.{◌≡◌, ◌<◌, length, ◌∙◌, arith}
use Rattle.std.proofs.lemmas.List.{drop-set-lt}
use Rattle.book.proofs.Runs.{leaves_more, ran_all, ran_more}
use Rattle.book.proofs.book.Book.serve.Goals as goal

pub loop-i-preserved : goal.loop-i-preserved
loop-i-preserved g c =
    let inside : c.loop-i.i < length c.loop-i.answers = omega arith in
    record {
      beyond = rw (drop-set-lt _ _ _ _ c.loop-i-test.true) c.loop-i.invariant.beyond;
      kept = λ passes.
          let left = leaves_more c.loop-i.answers c.loop-i.i c.serve_one.result inside passes in
          let now_kept = c.serve_one.ensures.kept left.1 in
          let kept = c.loop-i.invariant.kept left.0 in
          (now_kept.0 ∙ kept.0, now_kept.1 ∙ kept.1);
      ran = λ case f.
          let ran = c.loop-i.invariant.ran case f in
          ran_more _ _ c.loop-i-test.true inside ran (c.serve_one.ensures.law.law _ ran.follows);
    }

pub returns-clause-law : goal.returns-clause-law
returns-clause-law g c =
    let all : c.loop-i.i ≡ length c.args.calls.now = omega arith in
    λ case f. ran_all f.lawful all (c.loop-i.invariant.ran case f)
