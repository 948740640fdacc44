-- What the tables of a ledger say of marks and held readings is what its history says. Assumes nothing.
use Rattle.std.proofs.Common.{◌≡◌, ℕ, ◌+◌, Bool, not, ◌&&◌, ◌||◌, eqb, ltb, leb, vec_items, count_by, sym, ap, ◌∙◌, arith}
use Rattle.std.proofs.lemmas.Bool.Decides.{nat_tests}
use Rattle.rules.specs.History.{History, Setting, enrolment_of}
use Rattle.rules.specs.Readings.{replaces, held_readings, is_mark, starts_on}
use Rattle.rules.specs.declared.entry.Reading.{Reading}
use Rattle.ledger.specs.Ledger.{IsLedgerOf}
use Rattle.ledger.specs.Places.{holds_passing}
use Rattle.ledger.specs.Readings.{is_after_marks_at, is_end_allowed_at, is_full_at, is_mark_at, is_soft_over_firm_at, some_at}
use Rattle.ledger.specs.declared.ledger.Ledger.{Ledger}
use Rattle.ledger.proofs.PlaceCounts.{some_counted}
use Rattle.terms.specs.ReadingType.{is_firm}
use Rattle.rules.specs.Calls.{is_after_all_marks, ends_where_not_allowed, finds_no_place, replaces_firm_though_soft, has_begun_before}
use Rattle.std.specs.List.{list_any}

one_more : (a b : ℕ) → leb a b ≡ ltb a (b + 1)
one_more a b = grind (arith, nat_tests)

-- what the tables of a ledger say of its readings and marks is what its history says
module _ {s : Setting} {h : History} {l : Ledger} (f : IsLedgerOf s h l) where
  some_followed : (test : Reading → Bool) → some_at l test ≡ list_any test (held_readings h)
  some_followed test = ap (λ n. ltb 0 n) (f.readings test) ∙ sym (some_counted test (held_readings h))

  pub mark_followed : (p d : ℕ) → is_mark_at l p d ≡ is_mark h p d
  mark_followed p d =
      ap (λ e. starts_on e d || some_at l (λ r. eqb r.point p && eqb r.end d)) (f.enrolments p)
      ∙ ap (λ b. starts_on (enrolment_of h p) d || b) (some_followed (λ r. eqb r.point p && eqb r.end d))

  pub after_followed : (p d : ℕ) → is_after_marks_at l p d ≡ is_after_all_marks h p d
  after_followed p d =
      ap (λ e. has_begun_before e d && not (some_at l (λ r. eqb r.point p && leb d r.end))) (f.enrolments p)
      ∙ ap (λ b. has_begun_before (enrolment_of h p) d && not b) (some_followed (λ r. eqb r.point p && leb d r.end))

  pub end_followed : (r : Reading) → not (is_end_allowed_at l r) ≡ ends_where_not_allowed h r
  end_followed r =
      ap (λ b. not (ltb r.start r.end && (b || is_after_marks_at l r.point r.end))) (mark_followed r.point r.end)
      ∙ ap (λ b. not (ltb r.start r.end && (is_mark h r.point r.end || b))) (after_followed r.point r.end)

  pub soft_followed : (r : Reading) → is_soft_over_firm_at l r ≡ replaces_firm_though_soft h r
  soft_followed r = ap (λ b. not (is_firm r.reading_type) && b) (some_followed (λ old. replaces r old && is_firm old.reading_type))

  pub full_followed : (r : Reading) → is_full_at l r ≡ finds_no_place s h r
  full_followed r =
      ap (λ n. leb n (count_by (holds_passing (λ old. not (replaces r old))) (vec_items l.places))) f.room
      ∙ ap (λ n. leb s.places n) (f.readings (λ old. not (replaces r old)))
      ∙ one_more s.places (count_by (λ old. not (replaces r old)) (held_readings h))
