-- What a book tells of a day of it. Assumes nothing.
use Rattle.std.proofs.Common.{◌≡◌, ℕ, ◌+◌, ◌<◌, Bool, true, false, cond, not, ltb, is_some, Some, None, Ok, Err, Option, Result, unwrap_or, sym, refl, ap, ◌∙◌}
use Rattle.std.specs.Result.{MatchResult}
use Rattle.std.proofs.lemmas.Bool.{false≢true, lt-ltb}
use Rattle.rules.specs.Figures.{load, remainder, retailer_sum}
use Rattle.terms.specs.Refusal.{number_of, date_named}
use Rattle.terms.specs.declared.refusal.Refusal.{Refusal}
use Rattle.book.specs.Case.{Case}
use Rattle.book.specs.Days.{account_named, account_refusal, day_refusal, names_none}
use Rattle.book.specs.Replies.{IsJudgedBy}
use Rattle.statements.specs.Sums.{remainder_on}
use Rattle.calendar.specs.Digits.{date_of_day_number}
use Rattle.sheet.specs.Account.{account}
use Rattle.sheet.specs.declared.account.Account.{Account}

-- a day of the book, by whether it has a load
with_load : (inside loaded : Bool) → inside ≡ true → ◌≡◌ {A = Option ℕ} (cond (not inside) (Some 5) (cond (not loaded) (Some 14) None)) None → loaded ≡ true
with_load false loaded within none = absurd (false≢true within)
with_load true true within none = refl
with_load true false within none = absurd (false≢true (ap is_some (sym none)))

without_load : (inside loaded : Bool) (n : ℕ) → inside ≡ true → cond (not inside) (Some 5) (cond (not loaded) (Some 14) None) ≡ Some n → (loaded ≡ false) × (n ≡ 14)
without_load false loaded n within is = absurd (false≢true within)
without_load true true n within is = absurd (false≢true (ap is_some is))
without_load true false n within is = (refl, cc)

never_outside : (inside : Bool) (n : ℕ) → inside ≡ true → cond (not inside) (Some 5) None ≡ Some n → ⊥
never_outside false n within is = false≢true within
never_outside true n within is = false≢true (ap is_some is)

module _ (c : Case) (day : ℕ) (within : day < c.setting.days) where
  inside : ltb day c.setting.days ≡ true
  inside = lt-ltb day c.setting.days within

  -- a retailer's sum
  pub retailer_given : (retailer : ℕ) (r : Result ℕ Refusal) → IsJudgedBy (day_refusal c.setting day) names_none (λ x. x ≡ retailer_sum c.setting c.history retailer day) r → r ≡ Ok (retailer_sum c.setting c.history retailer day)
  retailer_given retailer (Ok x) judged = ap Ok judged.1
  retailer_given retailer (Err e) judged = absurd (never_outside (ltb day c.setting.days) (number_of e) inside judged.0)

  -- a day with a load tells its remainder, and another is refused with its date
  pub day_given : (r : Result Account Refusal) → IsJudgedBy (account_refusal c.setting c.history day) (account_named c.setting day) (λ x. x ≡ account c.setting c.history day (unwrap_or (load c.setting c.history day) 0)) r
      → MatchResult r (λ x. (is_some (load c.setting c.history day) ≡ true) × (x.remainder ≡ remainder_on c.setting c.history day))
      (λ e. (is_some (load c.setting c.history day) ≡ false) × (number_of e ≡ 14) × (date_named e ≡ Some (date_of_day_number (c.setting.first + day))))
  day_given (Ok x) judged =
      (with_load (ltb day c.setting.days) (is_some (load c.setting c.history day)) inside judged.0, ap (λ (a : Account). a.remainder) judged.1)
  day_given (Err e) judged =
      let lacks = without_load (ltb day c.setting.days) (is_some (load c.setting c.history day)) (number_of e) inside judged.0 in
      (lacks.0, lacks.1, judged.1 ∙ ap (account_named c.setting day) lacks.1)

  -- the remainder of a day with a load
  pub remainder_given : (n : ℕ) (r : Result Account Refusal) → load c.setting c.history day ≡ Some n → IsJudgedBy (account_refusal c.setting c.history day) (account_named c.setting day) (λ x. x ≡ account c.setting c.history day (unwrap_or (load c.setting c.history day) 0)) r
      → MatchResult r (λ x. x.remainder ≡ remainder c.setting c.history day n) (λ e. ⊥)
  remainder_given n (Ok x) loaded judged = (day_given (Ok x) judged).1 ∙ ap (λ o. remainder c.setting c.history day (unwrap_or o 0)) loaded
  remainder_given n (Err e) loaded judged = false≢true (sym (day_given (Err e) judged).0 ∙ ap is_some loaded)
