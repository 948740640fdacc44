-- One call on the book of an intake: how it is answered, and the history then. Assumes nothing.
use Rattle.std.proofs.Common.{◌≡◌, ℕ, ◌+◌, ◌-◌, ◌<◌, ◌≤◌, Bool, true, false, T, cond, not, List, [], ◌∷◌, map, take, get_or, is_some, Some, None, Ok, Err, Option, Result, sym, refl, ap, ◌∙◌, arith}
use Rattle.std.specs.Option.{option_map, unwrap_or}
use Rattle.std.specs.Result.{result_ok}
use Rattle.std.proofs.lemmas.Bool.Decides.{nat_tests}
use Rattle.book.specs.Replies.{Reply, accepted, day_is, figure_is, refused, sum_is, unless_refused, due_reply, granted_reply, given_reply, answer_reply, reply_of}
use Rattle.book.specs.declared.serve.Answer.{Answer}
use Rattle.book.specs.declared.serve.Answer.TheVariants.{Accepted, Figure, Day, RetailerSum}
use Rattle.calendar.specs.Digits.{day_number_of, is_date}
use Rattle.rules.specs.Calls.{refusal, is_in_book, named_date, day_of_date}
use Rattle.rules.specs.Figures.{load}
use Rattle.rules.specs.History.{History, Setting}
use Rattle.rules.specs.declared.call.Call.{Call}
use Rattle.rules.specs.declared.call.Call.TheVariants.{Enrol, EnterGate, EnterInterval, EnterDegreeDays, EnterReading, AskFigure, AskDay, AskRetailer}
use Rattle.line_format.specs.declared.record.Record.{Record}
use Rattle.terms.specs.Refusal.{number_of, date_named}
use Rattle.terms.specs.declared.refusal.Refusal.{Refusal}
use Rattle.report.specs.RecordRefusal.{PlacedRefusal, book_column, book_refusal}
use Rattle.sheet.specs.Account.{account, day_account}
use Rattle.sheet.specs.declared.account.Account.{Account}

-- the first of some replies
abbrev pub first_reply : Reply → List Reply → Reply
first_reply d [] = d
first_reply d (r ∷ rs) = r

-- the one answer is the one reply
pub one_reply : (answers : List (Result Answer Refusal)) (a d : Result Answer Refusal) (r : Reply) → get_or answers 0 d ≡ a → map given_reply (take 1 answers) ≡ r ∷ [] → given_reply a ≡ r
one_reply [] a d r is replies = absurd (cc)
one_reply (x ∷ xs) a d r is replies = sym (ap given_reply is) ∙ ap (first_reply r) replies

-- the number and the day of a reply that refuses
abbrev pub number_in : Reply → ℕ
number_in accepted = 0
number_in (figure_is x) = 0
number_in (day_is figures) = 0
number_in (sum_is x) = 0
number_in (refused n named) = n

abbrev pub day_in : Reply → Option ℕ
day_in accepted = None
day_in (figure_is x) = None
day_in (day_is figures) = None
day_in (sum_is x) = None
day_in (refused n named) = named

abbrev pub refuses : Reply → Bool
refuses accepted = false
refuses (figure_is x) = false
refuses (day_is figures) = false
refuses (sum_is x) = false
refuses (refused n named) = true

-- what is granted refuses nothing
says_plainly : (a : Answer) → refuses (answer_reply a) ≡ false
says_plainly Accepted = refl
says_plainly (Figure x) = refl
says_plainly (Day figures) = refl
says_plainly (RetailerSum x) = refl

granted_plainly : (s : Setting) (h : History) (c : Call) → refuses (granted_reply s h c) ≡ false
granted_plainly s h (Enrol point retailer start) = refl
granted_plainly s h (EnterGate date energy_in energy_out) = refl
granted_plainly s h (EnterInterval date meter energy) = refl
granted_plainly s h (EnterDegreeDays date count) = refl
granted_plainly s h (EnterReading delivery) = refl
granted_plainly s h (AskFigure point date) = refl
granted_plainly s h (AskDay date) = refl
granted_plainly s h (AskRetailer retailer date) = refl

module _ (s : Setting) (h : History) (x : Record) (c : Call) where
  -- a refusal by number n
  abbrev pub by_number : ℕ → PlacedRefusal
  by_number n = record { number = n; column = book_column s x n; date = named_date s h c n }

  -- a call that is answered is not refused
  taken : (o : Option ℕ) (a : Answer) → answer_reply a ≡ unless_refused o (named_date s h c) (granted_reply s h c) → None ≡ option_map by_number o
  taken None a is = refl
  taken (Some n) a is = let plain = says_plainly a in let not_plain : refuses (answer_reply a) ≡ true = ap refuses is in absurd (cc)

  pub served_taken : (a : Answer) → given_reply (Ok a) ≡ due_reply s h c → None ≡ book_refusal s h x (Some c)
  served_taken a is = taken (refusal s h c) a is

  -- a refusal as it is given
  abbrev pub given : Refusal → ℕ → PlacedRefusal
  given e column = record { number = number_of e; column = column; date = date_named e }

  -- a call that is refused is refused by its condition, and names its day
  turned_away : (o : Option ℕ) (e : Refusal) (column : ℕ) → column ≡ book_column s x (number_of e) → refused (number_of e) (date_named e) ≡ unless_refused o (named_date s h c) (granted_reply s h c)
      → Some (given e column) ≡ option_map by_number o
  turned_away None e column at is = let plain = granted_plainly s h c in let not_plain : true ≡ refuses (granted_reply s h c) = ap refuses is in absurd (cc)
  turned_away (Some n) e column at is =
      let same : number_of e ≡ n = ap number_in is in
      λ i. Some (record { number = same i; column = (at ∙ ap (book_column s x) same) i; date = ap day_in is i })

  pub served_refused : (e : Refusal) (column : ℕ) → column ≡ book_column s x (number_of e) → given_reply (Err e) ≡ due_reply s h c → Some (given e column) ≡ book_refusal s h x (Some c)
  served_refused e column at is = turned_away (refusal s h c) e column at is

-- A question about a day of the book is refused only where the day has no load.

none_of : (b : Bool) (n : ℕ) (o : Option ℕ) → b ≡ false → cond b (Some n) o ≡ o
none_of b n o fails = rw fails

module _ (s : Setting) (h : History) (date d : ℕ) (real : T (is_date date)) (at : day_number_of date ≡ s.first + d) (inside : d < s.days) where
  placed : day_of_date s date ≡ d
  placed = ap (λ (n : ℕ). n - s.first) at ∙ omega arith

  held : is_in_book s 0 date ≡ true
  held = let low : s.first ≤ day_number_of date = omega (arith, at) in let high : day_number_of date < s.first + s.days + 0 = omega (arith, at, inside) in grind (arith, nat_tests)

  only_load : refusal s h (AskDay date) ≡ cond (not (is_some (load s h d))) (Some 14) None
  only_load =
      let dated : is_date date ≡ true = grind (arith, nat_tests) in
      none_of (not (is_date date)) 4 _ (ap not dated) ∙ none_of (not (is_in_book s 0 date)) 5 _ (ap not held) ∙ ap (λ (p : ℕ). cond (not (is_some (load s h p))) (Some 14) None) placed

  abbrev pub figures_in : Reply → Option Account
  figures_in accepted = None
  figures_in (figure_is x) = None
  figures_in (day_is figures) = Some figures
  figures_in (sum_is x) = None
  figures_in (refused n named) = None

  figures_told : (r : Result Account Refusal) → figures_in (reply_of day_is r) ≡ result_ok r
  figures_told (Ok x) = refl
  figures_told (Err e) = refl

  by_load : (o : Option ℕ) → figures_in (unless_refused (cond (not (is_some o)) (Some 14) None) (named_date s h (AskDay date)) (day_is (account s h d (unwrap_or o 0)))) ≡ option_map (account s h d) o
  by_load None = refl
  by_load (Some n) = refl

  pub day_known : (r : Result Account Refusal) → reply_of day_is r ≡ due_reply s h (AskDay date) → result_ok r ≡ day_account s h d
  day_known r is =
      sym (figures_told r) ∙ ap figures_in is
      ∙ ap (λ o. figures_in (unless_refused o (named_date s h (AskDay date)) (day_is (account s h (day_of_date s date) (unwrap_or (load s h (day_of_date s date)) 0))))) only_load
      ∙ ap (λ (p : ℕ). figures_in (unless_refused (cond (not (is_some (load s h d))) (Some 14) None) (named_date s h (AskDay date)) (day_is (account s h p (unwrap_or (load s h p) 0))))) placed ∙ by_load (load s h d)
