-- The days of a book: what refuses a span of them, and what is told of one. Assumes nothing.
use Rattle.std.proofs.Common.{◌≡◌, ℕ, ◌+◌, ◌-◌, ◌<◌, ◌≤◌, Bool, true, false, cond, not, ◌&&◌, ltb, leb, is_some, Some, None, Option, unwrap_or, sym, refl, ap, ◌∙◌, arith}
use Rattle.std.proofs.lemmas.Bool.{and_from, and_left, and_parts, and_right, cond-true, false≢true, leb-true, le-ltb, lt-ltb, ltb-false, ltb-true, not-false}
use Rattle.std.specs.Option.{option_map}
use Rattle.calendar.specs.Digits.{day_number_of, is_date}
use Rattle.rules.specs.History.{History, Setting}
use Rattle.ledger.specs.declared.ledger.Ledger.{Ledger}
use Rattle.terms.specs.Refusal.{number_of, date_named}
use Rattle.terms.specs.declared.refusal.Refusal.{Refusal}
use Rattle.terms.specs.declared.refusal.Refusal.TheVariants.{AskedDayWithoutLoad, CoveredDayWithoutLoad}
use Rattle.book.specs.Days.{day_count, days_refusal}
use Rattle.rules.specs.Calls.{is_in_book, day_of_date}
use Rattle.ledger.specs.Opening.{has_day_number}
use Rattle.ledger.specs.Ledger.{IsLedgerOf}
use Rattle.sheet.specs.declared.account.Account.{Account}

-- no refusal by a number up to 10 names a day
pub none_named : (e : Refusal) → number_of e ≤ 10 → date_named e ≡ None
none_named (CoveredDayWithoutLoad date) small = absurd (omega arith)
none_named (AskedDayWithoutLoad date) small = absurd (omega arith)
none_named e small = refl

-- a day number is that of a day of the book where the date lies in it
pub in_book_followed : {s : Setting} {h : History} {l : Ledger} (date number : ℕ) → IsLedgerOf s h l → number ≡ day_number_of date → has_day_number l.opening 0 number ≡ is_in_book s 0 date
in_book_followed date number f is = λ i. leb (f.first i) (is i) && ltb (is i) (f.first i + f.days i + 0)

-- what it means to lie in the book
pub inside : (s : Setting) (date : ℕ) → is_in_book s 0 date ≡ true → (s.first ≤ day_number_of date) × (day_number_of date < s.first + s.days)
inside s date is =
    let parts = and_parts (leb s.first (day_number_of date)) (ltb (day_number_of date) (s.first + s.days + 0)) is in
    let low : s.first ≤ day_number_of date = leb-true _ _ parts.0 in
    let high : day_number_of date < s.first + s.days + 0 = ltb-true _ _ parts.1 in
    (low, omega arith)

module _ (s : Setting) (first last : ℕ) where
  pub first_unreal : is_date first ≡ false → days_refusal s first last ≡ Some 4
  unfolding days_refusal
  first_unreal none = cond-true _ _ _ (ap not (and_left (is_date first) (is_date last) none))

  pub last_unreal : is_date last ≡ false → days_refusal s first last ≡ Some 4
  unfolding days_refusal
  last_unreal none = cond-true _ _ _ (ap not (and_right (is_date first) (is_date last) none))

  module _ (first_real : is_date first ≡ true) (last_real : is_date last ≡ true) where
    by_days : (b : Bool) → (is_in_book s 0 first && is_in_book s 0 last) ≡ b
        → days_refusal s first last ≡ cond (not b) (Some 5) (cond (ltb (day_number_of last) (day_number_of first)) (Some 10) None)
    unfolding days_refusal
    by_days b is = λ i. cond (not (first_real i && last_real i)) (Some 4) (cond (not (is i)) (Some 5) (cond (ltb (day_number_of last) (day_number_of first)) (Some 10) None))

    pub first_outside : is_in_book s 0 first ≡ false → days_refusal s first last ≡ Some 5
    first_outside none = by_days false (and_left _ _ none)

    pub last_outside : is_in_book s 0 last ≡ false → days_refusal s first last ≡ Some 5
    last_outside none = by_days false (and_right _ _ none)

    module _ (first_inside : is_in_book s 0 first ≡ true) (last_inside : is_in_book s 0 last ≡ true) where
      pub turned : day_number_of last < day_number_of first → days_refusal s first last ≡ Some 10
      turned before = by_days true (and_from _ _ first_inside last_inside) ∙ ap (λ b. cond b (Some 10) None) (lt-ltb _ _ before)

      pub granted : day_number_of first ≤ day_number_of last → days_refusal s first last ≡ None
      granted after = by_days true (and_from _ _ first_inside last_inside) ∙ ap (λ b. cond b (Some 10) None) (le-ltb (day_number_of last) (day_number_of first) after)

-- the days of a span that nothing refuses
pub their_days : (s : Setting) (first last : ℕ) → is_in_book s 0 first ≡ true → is_in_book s 0 last ≡ true → day_number_of first ≤ day_number_of last
    → (day_number_of last - s.first - (day_number_of first - s.first) + 1 ≡ day_count first last) × (day_of_date s first + day_count first last ≤ s.days)
their_days s first last first_inside last_inside after =
    let from = inside s first first_inside in
    let to = inside s last last_inside in
    (omega (arith, from.0, to.0), omega (arith, from.0, to.1))

-- what is known of days that nothing refuses
three_passed : (a b c : Bool) → ◌≡◌ {A = Option ℕ} (cond a (Some 4) (cond b (Some 5) (cond c (Some 10) None))) None → (a ≡ false) × (b ≡ false) × (c ≡ false)
three_passed true b c e = absurd (false≢true (ap is_some (sym e)))
three_passed false true c e = absurd (false≢true (ap is_some (sym e)))
three_passed false false true e = absurd (false≢true (ap is_some (sym e)))
three_passed false false false e = (refl, refl, refl)

pub record AreAccepted (s : Setting) (first last : ℕ) : Type 0 where
  pub first_real : is_date first ≡ true
  pub last_real : is_date last ≡ true
  pub low : s.first ≤ day_number_of first
  pub ordered : day_number_of first ≤ day_number_of last
  pub high : day_number_of last < s.first + s.days

pub accepted_days : (s : Setting) (first last : ℕ) → days_refusal s first last ≡ None → AreAccepted s first last
unfolding days_refusal
accepted_days s first last none =
    let passed = three_passed (not (is_date first && is_date last)) (not (is_in_book s 0 first && is_in_book s 0 last)) (ltb (day_number_of last) (day_number_of first)) none in
    let real = and_parts (is_date first) (is_date last) (not-false _ passed.0) in
    let within = and_parts (is_in_book s 0 first) (is_in_book s 0 last) (not-false _ passed.1) in
    record {
      first_real = real.0;
      last_real = real.1;
      low = (inside s first within.0).0;
      ordered = ltb-false (day_number_of last) (day_number_of first) passed.2;
      high = (inside s last within.1).1;
    }

-- a day of the book, where nothing else is refused
pub no_day : (s : Setting) (day : ℕ) (o : Option ℕ) → s.days ≤ day → cond (not (ltb day s.days)) (Some 5) o ≡ Some 5
no_day s day o beyond = ap (λ b. cond (not b) (Some 5) o) (le-ltb day s.days beyond)

pub a_day : (s : Setting) (day : ℕ) (o : Option ℕ) → day < s.days → cond (not (ltb day s.days)) (Some 5) o ≡ o
a_day s day o within = ap (λ b. cond (not b) (Some 5) o) (lt-ltb day s.days within)

-- the account of a day, and that it has none
pub account_of_load : (f : ℕ → Account) (o : Option ℕ) (x : Account) → Some x ≡ option_map f o
    → (◌≡◌ {A = Option ℕ} (cond (not (is_some o)) (Some 14) None) None) × (x ≡ f (unwrap_or o 0))
account_of_load f (Some n) x is = (refl, cc)
account_of_load f None x is = absurd (false≢true (ap is_some (sym is)))

pub no_account : (f : ℕ → Account) (o : Option ℕ) → None ≡ option_map f o → ◌≡◌ {A = Option ℕ} (cond (not (is_some o)) (Some 14) None) (Some 14)
no_account f None is = refl
no_account f (Some n) is = absurd (false≢true (ap is_some is))
