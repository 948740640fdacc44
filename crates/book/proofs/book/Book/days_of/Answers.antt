use Rattle.std.proofs.Common.{◌≡◌, ◌-◌, ◌≤◌, ◌<◌, Some, sym, refl, ap, ◌∙◌, arith}
use Rattle.std.proofs.lemmas.Result.{err_from_is_err_and}
use Rattle.calendar.specs.Digits.{day_number_of, is_date}
use Rattle.terms.specs.Answers.{accepted_since, refused_since}
use Rattle.book.proofs.BookDays.{first_outside, first_unreal, granted, in_book_followed, inside, last_outside, last_unreal, none_named, their_days, turned}
use Rattle.book.proofs.book.Book.days_of.Goals as goal
use Rattle.ledger.specs.Opening.{has_day_number}

pub returns-in_err-first_number : goal.returns-in_err-first_number
returns-in_err-first_number c =
    let p = err_from_is_err_and c.from_residual.result c.from_residual.ensures.1 in
    let no = refused_since c.in_err-first_number.field-0.0 (is_date c.args.first) (λ n. n ≡ day_number_of c.args.first) 4 c.in_err-first_number.ensures in
    rw (p.1, p.2) (record { law = λ m case f. (first_unreal case.setting c.args.first c.args.last no.0 ∙ ap Some (sym no.1), none_named _ (omega (arith, no.1))) })

pub returns-in_err-last_number : goal.returns-in_err-last_number
returns-in_err-last_number c =
    let p = err_from_is_err_and c.from_residual-in_err-last_number.result c.from_residual-in_err-last_number.ensures.1 in
    let no = refused_since c.in_err-last_number.field-0.0 (is_date c.args.last) (λ n. n ≡ day_number_of c.args.last) 4 c.in_err-last_number.ensures in
    rw (p.1, p.2) (record { law = λ m case f. (last_unreal case.setting c.args.first c.args.last no.0 ∙ ap Some (sym no.1), none_named _ (omega (arith, no.1))) })

pub returns-in_err-first : goal.returns-in_err-first
returns-in_err-first c =
    let p = err_from_is_err_and c.from_residual-in_err-first.result c.from_residual-in_err-first.ensures.1 in
    let first = accepted_since c.in_ok-first_number.first_number (is_date c.args.first) (λ n. n ≡ day_number_of c.args.first) 4 c.in_ok-first_number.ensures in
    let last = accepted_since c.in_ok-last_number.last_number (is_date c.args.last) (λ n. n ≡ day_number_of c.args.last) 4 c.in_ok-last_number.ensures in
    let opening = c.args.self.now.ledger.opening in
    let no = refused_since c.in_err-first.field-0.0 (has_day_number opening 0 c.in_ok-first_number.first_number) (λ n. n ≡ c.in_ok-first_number.first_number - opening.first) 5 c.in_err-first.ensures in
    rw (p.1, p.2) (record {
      law = λ m case f. (
        first_outside case.setting c.args.first c.args.last first.0 last.0 (sym (in_book_followed c.args.first _ f.entries first.1) ∙ no.0) ∙ ap Some (sym no.1),
        none_named _ (omega (arith, no.1)),
      );
    })

pub returns-in_err-last : goal.returns-in_err-last
returns-in_err-last c =
    let p = err_from_is_err_and c.from_residual-in_err-last.result c.from_residual-in_err-last.ensures.1 in
    let first = accepted_since c.in_ok-first_number.first_number (is_date c.args.first) (λ n. n ≡ day_number_of c.args.first) 4 c.in_ok-first_number.ensures in
    let last = accepted_since c.in_ok-last_number.last_number (is_date c.args.last) (λ n. n ≡ day_number_of c.args.last) 4 c.in_ok-last_number.ensures in
    let opening = c.args.self.now.ledger.opening in
    let no = refused_since c.in_err-last.field-0.0 (has_day_number opening 0 c.in_ok-last_number.last_number) (λ n. n ≡ c.in_ok-last_number.last_number - opening.first) 5 c.in_err-last.ensures in
    rw (p.1, p.2) (record {
      law = λ m case f. (
        last_outside case.setting c.args.first c.args.last first.0 last.0 (sym (in_book_followed c.args.last _ f.entries last.1) ∙ no.0) ∙ ap Some (sym no.1),
        none_named _ (omega (arith, no.1)),
      );
    })

pub returns-then-last-first : goal.returns-then-last-first
returns-then-last-first c =
    let first = accepted_since c.in_ok-first_number.first_number (is_date c.args.first) (λ n. n ≡ day_number_of c.args.first) 4 c.in_ok-first_number.ensures in
    let last = accepted_since c.in_ok-last_number.last_number (is_date c.args.last) (λ n. n ≡ day_number_of c.args.last) 4 c.in_ok-last_number.ensures in
    let opening = c.args.self.now.ledger.opening in
    let first_day = accepted_since c.in_ok-first.first (has_day_number opening 0 c.in_ok-first_number.first_number) (λ n. n ≡ c.in_ok-first_number.first_number - opening.first) 5 c.in_ok-first.ensures in
    let last_day = accepted_since c.in_ok-last.last (has_day_number opening 0 c.in_ok-last_number.last_number) (λ n. n ≡ c.in_ok-last_number.last_number - opening.first) 5 c.in_ok-last.ensures in
    let before : c.in_ok-last_number.last_number < c.in_ok-first_number.first_number = omega (arith, first_day.1, last_day.1, c.if-last-first.true) in
    let turns : day_number_of c.args.last < day_number_of c.args.first = omega (arith, first.1, last.1, before) in
    record {
      law = λ m case f.
          let from = sym (in_book_followed c.args.first _ f.entries first.1) ∙ first_day.0 in
          let to = sym (in_book_followed c.args.last _ f.entries last.1) ∙ last_day.0 in
          (turned case.setting c.args.first c.args.last first.0 last.0 from to turns, refl);
    }

pub returns : goal.returns
returns c =
    let first = accepted_since c.in_ok-first_number.first_number (is_date c.args.first) (λ n. n ≡ day_number_of c.args.first) 4 c.in_ok-first_number.ensures in
    let last = accepted_since c.in_ok-last_number.last_number (is_date c.args.last) (λ n. n ≡ day_number_of c.args.last) 4 c.in_ok-last_number.ensures in
    let opening = c.args.self.now.ledger.opening in
    let first_day = accepted_since c.in_ok-first.first (has_day_number opening 0 c.in_ok-first_number.first_number) (λ n. n ≡ c.in_ok-first_number.first_number - opening.first) 5 c.in_ok-first.ensures in
    let last_day = accepted_since c.in_ok-last.last (has_day_number opening 0 c.in_ok-last_number.last_number) (λ n. n ≡ c.in_ok-last_number.last_number - opening.first) 5 c.in_ok-last.ensures in
    record {
      law = λ m case f.
          let from = sym (in_book_followed c.args.first _ f.entries first.1) ∙ first_day.0 in
          let to = sym (in_book_followed c.args.last _ f.entries last.1) ∙ last_day.0 in
          let low = inside case.setting c.args.first from in
          let high = inside case.setting c.args.last to in
          let after : day_number_of c.args.first ≤ day_number_of c.args.last = omega (arith, first.1, last.1, first_day.1, last_day.1, f.entries.first, low.0, high.0, c.if-last-first.false) in
          let days = their_days case.setting c.args.first c.args.last from to after in (
            granted case.setting c.args.first c.args.last first.0 last.0 from to after,
            record {
              first = omega (arith, first.1, first_day.1, f.entries.first);
              count = omega (arith, first.1, last.1, first_day.1, last_day.1, f.entries.first, days.0);
              within = days.1;
            },
          );
    }
