-- Dates in order: their digits, their day numbers, and when two dates are the same. Assumes nothing.
use Rattle.std.proofs.Common.{◌≡◌, ℕ, ◌+◌, ◌<◌, T, ap, subst, inl, inr, arith}
use lib.Dec.{T_prop}
use Rattle.std.proofs.lemmas.Bool.{cases_order}
use Rattle.calendar.specs.Gregorian.{day_exists, days_before_year, days_before_month, day_number, days_in_all}
use Rattle.calendar.specs.Digits.{digits, is_date, day_number_of}
use Rattle.calendar.specs.Date.{digits_of, date_day_number}
use Rattle.calendar.specs.declared.date.Date.{Date}
use Rattle.calendar.proofs.Days.{InCalendar, dated}
use Rattle.calendar.proofs.Months.{days_before_next_month, days_before_month_grows}
use Rattle.calendar.proofs.DayNumbers.{placed, number_below}
use Rattle.calendar.proofs.DateDigits.{date_shown, digits_of_shown, number_of_shown}
use Rattle.calendar.proofs.Years.{days_before_next_year, days_before_year_is}

-- a day in an earlier year
earlier_year : {y m d y' m' d' : ℕ} → InCalendar y m d → InCalendar y' m' d' → y < y' → day_number y m d < day_number y' m' d'
earlier_year {y} {m} {d} {y'} a b h =
    let place = placed a in
    let year = days_before_next_year y a.year_low in
    let next = days_before_year_is (y + 1) (omega arith) (omega arith) in
    let later = days_before_year_is y' (omega arith) (omega arith) in
    omega arith

-- a day in an earlier month of the same year
earlier_month : {y m d y' m' d' : ℕ} → InCalendar y m d → InCalendar y' m' d' → y ≡ y' → m < m' → day_number y m d < day_number y' m' d'
earlier_month {y} {m} {d} {y'} {m'} a b e h =
    let month = days_before_next_month y m a.month_low a.month_high in
    let grows = days_before_month_grows y (m + 1) m' (omega arith) in
    let same_months : days_before_month y m' ≡ days_before_month y' m' = ap (λ x. days_before_month x m') e in
    let same_years : days_before_year y ≡ days_before_year y' = ap days_before_year e in
    omega arith

-- an earlier day of the same month
earlier_day : {y m d y' m' d' : ℕ} → InCalendar y m d → InCalendar y' m' d' → y ≡ y' → m ≡ m' → d < d' → day_number y m d < day_number y' m' d'
earlier_day {y} {m} {d} {y'} {m'} a b e f h =
    let same_months : days_before_month y m ≡ days_before_month y' m' = cc in
    let same_years : days_before_year y ≡ days_before_year y' = ap days_before_year e in
    omega arith

in_order : {y m d y' m' d' : ℕ} → InCalendar y m d → InCalendar y' m' d' → digits y m d < digits y' m' d' → day_number y m d < day_number y' m' d'
in_order {y} {m} {d} {y'} {m'} {d'} a b h =
    elim (cases_order y y') [
      | inl same_year ↦
          elim (cases_order m m') [
            | inl same_month ↦ earlier_day a b same_year same_month (omega arith)
            | inr other ↦ elim other [ inl before ↦ earlier_month a b same_year before | inr after ↦ absurd (omega arith) ]
          ]
      | inr other ↦ elim other [ inl before ↦ earlier_year a b before | inr after ↦ absurd (omega arith) ]
    ]

-- a date with larger digits has a larger day number
pub later_number : (a b : Date) → digits_of a < digits_of b → date_day_number a < date_day_number b
later_number a b h = in_order (dated a) (dated b) h

date : (y m d : ℕ) → T (day_exists y m d) → Date
date y m d real = record { year = y; month = m; day = d; real = real }

-- dates with the same year, month and day are the same
same_date : (a b : Date) → a.year ≡ b.year → a.month ≡ b.month → a.day ≡ b.day → a ≡ b
unfolding date
same_date a b e f g =
    let By_year : ℕ → Type 0 = λ y. (real : T (day_exists y b.month b.day)) → a ≡ date y b.month b.day real in
    let By_month : ℕ → Type 0 = λ m. (real : T (day_exists a.year m b.day)) → a ≡ date a.year m b.day real in
    let By_day : ℕ → Type 0 = λ d. (real : T (day_exists a.year a.month d)) → a ≡ date a.year a.month d real in
    let here : By_day a.day = λ real. ap (date a.year a.month a.day) (T_prop (day_exists a.year a.month a.day) a.real real) in
    subst By_year e (subst By_month f (subst By_day g here)) b.real

-- two dates with the same digits are the same
pub same_digits : (a b : Date) → digits_of a ≡ digits_of b → a ≡ b
same_digits a b h =
    let within = dated a in
    let within' = dated b in
    same_date a b (omega arith) (omega arith) (omega arith)

-- two dates with the same day number are the same
pub same_number : (a b : Date) → date_day_number a ≡ date_day_number b → a ≡ b
same_number a b h =
    elim (cases_order (digits_of a) (digits_of b)) [
      | inl same ↦ same_digits a b same
      | inr other ↦ elim other [ inl before ↦ absurd (omega (arith, later_number a b before)) | inr after ↦ absurd (omega (arith, later_number b a after)) ]
    ]

-- the same in plain numbers of eight digits
pub later_day_number : (a b : ℕ) → T (is_date a) → T (is_date b) → a < b → day_number_of a < day_number_of b
later_day_number a b real_a real_b h =
    let later = later_number (date_shown a real_a) (date_shown b real_b) (omega (arith, digits_of_shown a real_a, digits_of_shown b real_b)) in
    omega (arith, number_of_shown a real_a, number_of_shown b real_b)

pub same_day_number : (a b : ℕ) → T (is_date a) → T (is_date b) → day_number_of a ≡ day_number_of b → a ≡ b
same_day_number a b real_a real_b h =
    elim (cases_order a b) [
      | inl same ↦ same
      | inr other ↦ elim other [ inl before ↦ absurd (omega (arith, later_day_number a b real_a real_b before)) | inr after ↦ absurd (omega (arith, later_day_number b a real_b real_a after)) ]
    ]

pub day_number_below : (n : ℕ) → T (is_date n) → day_number_of n < days_in_all
day_number_below n real = omega (arith, number_below (date_shown n real), number_of_shown n real)
