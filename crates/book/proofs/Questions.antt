-- Questions: what is shown of a day, and how it is answered. Assumes nothing.
use Rattle.std.proofs.Common.{◌≡◌, ℕ, ◌<◌, ◌≤◌, Bool, true, false, cond, not, ltb, leb, List, is_some, Some, None, Ok, Err, Option, Result, MatchResult, unwrap_or, sym, refl, ap, ◌∙◌, subst, arith}
use Rattle.std.proofs.lemmas.Bool.{and_from, and_parts, false≢true, le-leb, leb-true, lt-ltb, not-false}
use Rattle.std.specs.Result.{IsOkAnd}
use Rattle.rules.specs.Calls.{entry_of, refusal, named_date, day_of_date}
use Rattle.rules.specs.Figures.{figure, load, retailer_sum}
use Rattle.rules.specs.History.{History, Setting}
use Rattle.rules.specs.declared.call.Call.{Call}
use Rattle.rules.specs.declared.call.Call.TheVariants.{AskDay, AskFigure, AskRetailer}
use Rattle.terms.specs.Refusal.{number_of, date_named}
use Rattle.terms.specs.declared.refusal.Refusal.{Refusal}
use Rattle.sheet.specs.declared.sheet.Sheet.{Sheet}
use Rattle.book.specs.Book.{IsAnsweredByLaw, IsBookOf, IsServedByLaw}
use Rattle.book.specs.Case.{Case, case_after_call}
use Rattle.book.specs.Days.{account_named, account_refusal, day_refusal, names_none}
use Rattle.estimators.specs.Meaning.{Meanings}
use Rattle.book.specs.Replies.{IsJudgedBy, Reply, answer_reply, day_is, granted_reply, lengthened_history, reply_of, sum_is}
use Rattle.book.specs.declared.book.Book.{Book}
use Rattle.book.specs.declared.serve.Answer.{Answer}
use Rattle.book.proofs.Calls.{granted_answers, mapped, refusal_answers}
use Rattle.rules.proofs.AcceptedEntries.{accepted, day_of_date_within}
use Rattle.ledger.specs.Ledger.{IsLedgerOf}
use Rattle.sheet.specs.Account.{account}
use Rattle.sheet.specs.Sheet.{is_in_sheet, figure_at}
use Rattle.sheet.specs.SheetOfHistory.{IsSheetOf}
use Rattle.sheet.specs.declared.account.Account.{Account}

-- the figure of a point and day that may be asked for is shown
pub figure_shown : (s : Setting) {rest : List ℕ} (h : History) (b : Sheet) (p date : ℕ) → IsSheetOf s rest h b → refusal s h (AskFigure p date) ≡ None
    → cond (is_in_sheet b p (day_of_date s date)) (figure_at b p (day_of_date s date)) 0 ≡ figure s h p (day_of_date s date)
figure_shown s h b p date stands none =
    let all = accepted s h (AskFigure p date) none in
    let numbers = and_parts (leb 1 p) (leb p s.points) (not-false _ all.0) in
    let low : 1 ≤ p = leb-true 1 p numbers.0 in
    let high : p ≤ s.points = leb-true p s.points numbers.1 in
    let within : day_of_date s date < s.days = day_of_date_within s date all.1.1.0 in
    let inside : is_in_sheet b p (day_of_date s date) ≡ true =
    and_from _ _ (le-leb 1 p low) (and_from _ _ (le-leb p b.points (omega (arith, stands.points))) (lt-ltb (day_of_date s date) b.days (omega (arith, stands.days)))) in
    ap (λ t. cond t (figure_at b p (day_of_date s date)) 0) inside ∙ stands.shown (day_of_date s date) within p low high

-- a day that may be asked for is a day of the book, and has a load where its account is asked for
pub day_asked : (s : Setting) (h : History) (date : ℕ) → refusal s h (AskDay date) ≡ None → (day_of_date s date < s.days) × (is_some (load s h (day_of_date s date)) ≡ true)
day_asked s h date none =
    let all = accepted s h (AskDay date) none in
    (day_of_date_within s date all.1.1.0, not-false _ all.1.1.1.1.1.1.1.1.1.1.1.0)

pub sum_asked : (s : Setting) (h : History) (k date : ℕ) → refusal s h (AskRetailer k date) ≡ None → day_of_date s date < s.days
sum_asked s h k date none = day_of_date_within s date (accepted s h (AskRetailer k date) none).1.1.0

-- a question leaves the history
pub asked_stays : (h : History) (o : Option ℕ) → lengthened_history o None h ≡ h
asked_stays h None = refl
asked_stays h (Some n) = refl

-- A question is answered as the law says, and leaves the book of the case.
pub question_served : {X : Type 0} {v : X → Reply} {call : Call} {r : Result X Refusal} {b : Book} {m : Meanings} {P : X → Answer → Type 0} (a : Result Answer Refusal)
    → IsAnsweredByLaw call v r b m → ((c : Case) → entry_of c.setting call ≡ None) → ((x : X) (y : Answer) → P x y → answer_reply y ≡ v x)
    → MatchResult r (λ x. IsOkAnd a (P x)) (λ e. a ≡ Err e) → IsServedByLaw call answer_reply a b m b m
question_served {v = v} {call = call} {r = r} {b = b} {m = m} a answers asks each cases = record {
  law = λ c f.
      let stays : case_after_call c call ≡ c =
      λ i. record c { history = (ap (λ o. lengthened_history (refusal c.setting c.history call) o c.history) (asks c) ∙ asked_stays c.history (refusal c.setting c.history call)) i } in
      (mapped v r a each cases ∙ answers.law c f, subst (λ x. IsBookOf x b m) (sym stays) f);
}

-- A question that the ledger refuses is answered so.
pub question_refused : {X : Type 0} {call : Call} {v : X → Reply} {b : Book} {m : Meanings} (e : Refusal)
    → ((s : Setting) (h : History) → IsLedgerOf s h b.ledger → (refusal s h call ≡ Some (number_of e)) × (date_named e ≡ named_date s h call (number_of e)))
    → IsAnsweredByLaw call v (Err e) b m
question_refused {call = call} e judged = record {
  law = λ c f. let refused = judged c.setting c.history f.entries in refusal_answers c call e refused.0 refused.1;
}

-- A question that the ledger grants is answered by what its day gives.
pub question_granted : {X : Type 0} {call : Call} {v : X → Reply} {b : Book} {m : Meanings} (date day : ℕ) (r : Result X Refusal)
    → ((s : Setting) (h : History) → IsLedgerOf s h b.ledger → (refusal s h call ≡ None) × (day ≡ day_of_date s date))
    → ((c : Case) → IsBookOf c b m → refusal c.setting c.history call ≡ None → day ≡ day_of_date c.setting date → reply_of v r ≡ granted_reply c.setting c.history call)
    → IsAnsweredByLaw call v r b m
question_granted {call = call} date day r judged gives = record {
  law = λ c f. let granted = judged c.setting c.history f.entries in gives c f granted.0 granted.1 ∙ granted_answers c call granted.0;
}

-- the account of a day that the ledger grants
granted_account : (s : Setting) (h : History) (day : ℕ) (inside loaded : Bool) (r : Result Account Refusal) → inside ≡ true → loaded ≡ true
    → IsJudgedBy (cond (not inside) (Some 5) (cond (not loaded) (Some 14) None)) (account_named s day) (λ x. x ≡ account s h day (unwrap_or (load s h day) 0)) r
    → reply_of day_is r ≡ day_is (account s h day (unwrap_or (load s h day) 0))
granted_account s h day false loaded r within some judged = absurd (false≢true within)
granted_account s h day true false r within some judged = absurd (false≢true some)
granted_account s h day true true (Ok x) within some judged = ap day_is judged.1
granted_account s h day true true (Err e) within some judged = absurd (false≢true (ap is_some judged.0))

pub account_granted : (c : Case) (date day : ℕ) (r : Result Account Refusal) → refusal c.setting c.history (AskDay date) ≡ None → day ≡ day_of_date c.setting date → IsJudgedBy (account_refusal c.setting c.history day) (account_named c.setting day) (λ x. x ≡ account c.setting c.history day (unwrap_or (load c.setting c.history day) 0)) r
    → reply_of day_is r ≡ granted_reply c.setting c.history (AskDay date)
account_granted c date day r none is told =
    let s = c.setting in
    let h = c.history in
    let asked = day_asked s h date none in
    let inside : ltb day s.days ≡ true = ap (λ d. ltb d s.days) is ∙ lt-ltb (day_of_date s date) s.days asked.0 in
    let loaded : is_some (load s h day) ≡ true = ap (λ d. is_some (load s h d)) is ∙ asked.1 in
    granted_account s h day (ltb day s.days) (is_some (load s h day)) r inside loaded told
    ∙ ap (λ d. day_is (account s h d (unwrap_or (load s h d) 0))) is

-- the sum of a retailer on a day that the ledger grants
granted_sum : (sum : ℕ) (inside : Bool) (r : Result ℕ Refusal) → inside ≡ true → IsJudgedBy (cond (not inside) (Some 5) None) names_none (λ x. x ≡ sum) r → reply_of sum_is r ≡ sum_is sum
granted_sum sum false r within judged = absurd (false≢true within)
granted_sum sum true (Ok x) within judged = ap sum_is judged.1
granted_sum sum true (Err e) within judged = absurd (false≢true (ap is_some judged.0))

pub sum_granted : (c : Case) (k date day : ℕ) (r : Result ℕ Refusal) → refusal c.setting c.history (AskRetailer k date) ≡ None → day ≡ day_of_date c.setting date → IsJudgedBy (day_refusal c.setting day) names_none (λ x. x ≡ retailer_sum c.setting c.history k day) r
    → reply_of sum_is r ≡ granted_reply c.setting c.history (AskRetailer k date)
sum_granted c k date day r none is told =
    let s = c.setting in
    let h = c.history in
    let inside : ltb day s.days ≡ true = ap (λ d. ltb d s.days) is ∙ lt-ltb (day_of_date s date) s.days (sum_asked s h k date none) in
    granted_sum (retailer_sum s h k day) (ltb day s.days) r inside told ∙ ap (λ d. sum_is (retailer_sum s h k d)) is
