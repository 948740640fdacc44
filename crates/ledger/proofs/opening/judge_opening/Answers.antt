use Rattle.std.proofs.Common.{◌≡◌, ◌≤◌, arith, rules, tests}
use mir.Facts.{Fits-below}
use Rattle.calendar.proofs.Order.{day_number_below}
use Rattle.calendar.specs.Digits.{day_number_of, is_date}
use Rattle.terms.specs.Answers.{accepted_since}
use Rattle.ledger.proofs.opening.judge_opening.Goals as goal

pub overflow_add-first : goal.overflow_add-first
overflow_add-first c =
    let few : c.args.request.days ≤ 400 = search (rules, tests) in
    let real = accepted_since c.in_ok-first.first (is_date c.args.request.first_date) (λ n. n ≡ day_number_of c.args.request.first_date) 4 c.in_ok-first.ensures in
    Fits-below {n = 40000} tt (omega (arith, few, day_number_below c.args.request.first_date (rw real.0 tt), real.1))
