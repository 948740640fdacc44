use Rattle.std.proofs.Common.{◌≡◌, ℕ, ◌*◌, ◌≤◌, T, List, ◌++◌, map, length, take, drop, None, vec_items, vec_len, Option, Vec, sym, ap, ◌∙◌, subst, arith}
use Rattle.std.specs.declared.alloc.Global.{Global}
use Rattle.rules.specs.declared.entry.Reading.{Reading}
use Rattle.ledger.specs.Limits.{opening_within}
use Rattle.ledger.specs.Opening.{opening_refusal}
use Rattle.ledger.proofs.Openings.{accepted, cleared_rest, cleared_within, empty_followed, only_none, written_over, zero_of}
use Rattle.ledger.specs.declared.opening.Opening.{Opening}
use Rattle.ledger.proofs.ledger.Ledger.open.Goals as goal

pub empty-requires : goal.empty-requires
empty-requires c =
    let judged = c.in-Ok.ensures in
    let q = c.args.request in
    let xs = c.args.lists.intervals.items in
    let within = accepted q c.len.result c.len-2.result judged.0 in
    let days : c.in-Ok.opening.days ≡ q.days = ap (λ (o : Opening). o.days) judged.1 in
    let long : c.in-Ok.opening.days * 32 ≤ length xs = omega (arith, within.long, days, c.len.ensures, c.args.lists.intervals.ok.0) in
    let cleared : take c.args.lists.intervals.len (c.clear_front.new.list ++ drop (length c.clear_front.new.list) xs) ≡ map zero_of (take (c.in-Ok.opening.days * 32) xs) ++ drop (c.in-Ok.opening.days * 32) xs =
    written_over c.args.lists.intervals.len c.clear_front.new.list xs (c.clear_front.auto.list ∙ c.as_mut_slice.ensures.len) (sym c.args.lists.intervals.ok.0)
    ∙ c.clear_front.ensures ∙ ap (λ (l : List ℕ). map zero_of (take (c.in-Ok.opening.days * 32) l) ++ drop (c.in-Ok.opening.days * 32) l) c.as_mut_slice.ensures.value in record {
      opening = subst (λ (o : Opening). T (opening_within o)) (sym judged.1) within.within;
      long = omega (arith, long, c.args.lists.intervals.ok.0);
      within = cleared_within (c.in-Ok.opening.days * 32) xs _ long cleared;
    }

pub returns-in-Ok : goal.returns-in-Ok
returns-in-Ok c =
    let judged = c.in-Ok.ensures in
    let q = c.args.request in
    let xs = c.args.lists.intervals.items in
    let within = accepted q c.len.result c.len-2.result judged.0 in
    let long : q.days * 32 ≤ length xs = omega (arith, within.long, c.len.ensures, c.args.lists.intervals.ok.0) in
    let written : vec_items c.empty.result.intervals ≡ map zero_of (take (q.days * 32) xs) ++ drop (q.days * 32) xs =
    ap (λ (v : Vec ℕ Global). vec_items v) c.empty.ensures.intervals
    ∙ written_over c.args.lists.intervals.len c.clear_front.new.list xs (c.clear_front.auto.list ∙ c.as_mut_slice.ensures.len) (sym c.args.lists.intervals.ok.0)
    ∙ c.clear_front.ensures ∙ ap (λ (l : List ℕ). map zero_of (take (c.in-Ok.opening.days * 32) l) ++ drop (c.in-Ok.opening.days * 32) l) c.as_mut_slice.ensures.value
    ∙ ap (λ (o : Opening). map zero_of (take (o.days * 32) xs) ++ drop (o.days * 32) xs) judged.1 in
    let room : vec_len c.empty.result.places ≡ vec_len c.args.lists.places = ap (λ (v : Vec (Option Reading) Global). vec_len v) c.empty.ensures.places ∙ c.fill.ensures.len in
    record {
      law = (
        subst (λ (n : ℕ). opening_refusal q n (vec_len c.args.lists.places) ≡ None) c.len.ensures
            (subst (λ (n : ℕ). opening_refusal q c.len.result n ≡ None) c.len-2.ensures judged.0),
        λ m u.
            empty_followed q c.empty.result xs (vec_len c.args.lists.places) m u (c.empty.ensures.opening ∙ judged.1) c.empty.ensures.gates long written c.empty.ensures.enrolments
            (ap (λ (v : Vec (Option Reading) Global). vec_items v) c.empty.ensures.places ∙ c.fill.ensures.items (only_none _ (λ r same. same))) room,
        cleared_rest (q.days * 32) xs (vec_items c.empty.result.intervals) long written,
      );
      refused = tt;
    }
