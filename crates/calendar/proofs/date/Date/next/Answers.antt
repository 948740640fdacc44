use Rattle.std.proofs.Common.{◌+◌, arith}
use Rattle.calendar.specs.Date.{date_day_number}
use Rattle.calendar.proofs.Days.{dated, day_exists_from}
use Rattle.calendar.proofs.Months.{month_length_at_least, days_before_next_month, days_before_january, december_ends}
use Rattle.calendar.proofs.DayNumbers.{found, past_all_days}
use Rattle.calendar.proofs.Years.{days_before_next_year, days_before_year_is}
use Rattle.calendar.proofs.date.Date.next.Goals as goal

pub month_length-requires : goal.month_length-requires
month_length-requires c = let within = dated c.args.self in (omega arith, omega arith)

pub invariant_of-result : goal.invariant_of-result
invariant_of-result c =
    let within = dated c.args.self in
    record { real = day_exists_from _ _ _ (omega arith) (omega arith) (omega arith) (omega arith) (omega arith) (omega arith) }

pub invariant_of-result-then-month-lt12 : goal.invariant_of-result-then-month-lt12
invariant_of-result-then-month-lt12 c =
    let within = dated c.args.self in
    record { real = day_exists_from _ _ _ (omega arith) (omega arith) (omega arith) (omega arith) (omega arith) (omega (arith, month_length_at_least)) }

pub invariant_of-result-then-year-lt-LAST_YEAR : goal.invariant_of-result-then-year-lt-LAST_YEAR
invariant_of-result-then-year-lt-LAST_YEAR c =
    let within = dated c.args.self in
    record { real = day_exists_from _ _ _ (omega arith) (omega arith) (omega arith) (omega arith) (omega arith) (omega (arith, month_length_at_least)) }

pub returns-then-day-month_length : goal.returns-then-day-month_length
returns-then-day-month_length c =
    let within = dated c.args.self in
    found _ (date_day_number c.args.self + 1) (omega arith)

pub returns-then-month-lt12 : goal.returns-then-month-lt12
returns-then-month-lt12 c =
    let within = dated c.args.self in
    found _ (date_day_number c.args.self + 1) (omega (arith, days_before_next_month))

pub returns-then-year-lt-LAST_YEAR : goal.returns-then-year-lt-LAST_YEAR
returns-then-year-lt-LAST_YEAR c =
    let within = dated c.args.self in
    let december = december_ends c.args.self.year c.args.self.month (omega arith) in
    found _ (date_day_number c.args.self + 1) (omega (arith, days_before_next_year, days_before_january))

pub returns-else-year-lt-LAST_YEAR : goal.returns-else-year-lt-LAST_YEAR
returns-else-year-lt-LAST_YEAR c =
    let within = dated c.args.self in
    let december = december_ends c.args.self.year c.args.self.month (omega arith) in
    let last = days_before_year_is (c.args.self.year + 1) (omega arith) (omega arith) in
    past_all_days (date_day_number c.args.self + 1) _ (omega (arith, days_before_next_year))
