-- What a call is answered, and the history that it leaves.
use Rattle.std.specs.Prelude.{◌≡◌, ℕ, Bool, true, false, List, [], ◌∷◌, Some, None, Ok, Err, Option, Result}
use Rattle.std.specs.Option.{unwrap_or}
use Rattle.rules.specs.Calls.{entry_of, refusal, named_date, day_of_date}
use Rattle.rules.specs.Figures.{figure, load, retailer_sum}
use Rattle.rules.specs.History.{History, Setting}
use Rattle.rules.specs.declared.call.Call.{Call}
use Rattle.rules.specs.declared.call.Call.TheVariants.{AskFigure, AskDay, AskRetailer}
use Rattle.rules.specs.declared.entry.Entry.{Entry}
use Rattle.terms.specs.Refusal.{number_of, date_named}
use Rattle.terms.specs.declared.refusal.Refusal.{Refusal}
use Rattle.book.specs.declared.serve.Answer.{Answer}
use Rattle.book.specs.declared.serve.Answer.TheVariants.{Accepted, Figure, Day, RetailerSum}
use Rattle.sheet.specs.Account.{account}
use Rattle.sheet.specs.declared.account.Account.{Account}

-- what a call can be answered, in the rules' words: a refusal by its number, with the date of the day that it names
pub data Reply : Type 0 where
  accepted : Reply
  figure_is : ℕ → Reply
  day_is : Account → Reply
  sum_is : ℕ → Reply
  refused : ℕ → Option ℕ → Reply

-- what a result says in the rules' words, given what its value says
abbrev pub reply_of : {X : Type 0} → (X → Reply) → Result X Refusal → Reply
reply_of value_reply (Ok x) = value_reply x
reply_of value_reply (Err e) = refused (number_of e) (date_named e)

-- what the value of an entry says, and that of any call
abbrev pub entry_reply : Unit {0} → Reply
entry_reply x = accepted

abbrev pub answer_reply : Answer → Reply
answer_reply Accepted = accepted
answer_reply (Figure x) = figure_is x
answer_reply (Day figures) = day_is figures
answer_reply (RetailerSum x) = sum_is x

-- what a call was answered, in the rules' words
abbrev pub given_reply : Result Answer Refusal → Reply
given_reply r = reply_of answer_reply r

-- a refusal or the answer to a question, which leaves book and estimator as they were
abbrev pub changes_nothing : Result Answer Refusal → Bool
changes_nothing (Ok Accepted) = false
changes_nothing r = true

-- what a call that is not refused is answered
abbrev pub granted_reply : Setting → History → Call → Reply
granted_reply s h (AskFigure point date) = figure_is (figure s h point (day_of_date s date))
granted_reply s h (AskDay date) =
    day_is (account s h (day_of_date s date) (unwrap_or (load s h (day_of_date s date)) 0))
granted_reply s h (AskRetailer retailer date) = sum_is (retailer_sum s h retailer (day_of_date s date))
granted_reply s h call = accepted

-- a refusal decides where there is one
abbrev pub unless_refused : Option ℕ → (ℕ → Option ℕ) → Reply → Reply
unless_refused None named r = r
unless_refused (Some n) named r = refused n (named n)

-- the reply that is due to a call: the first refusal whose condition holds, with the day that it names, or what
-- the rules grant
abbrev pub due_reply : Setting → History → Call → Reply
due_reply s h call = unless_refused (refusal s h call) (named_date s h call) (granted_reply s h call)

-- an accepted entry lengthens the history; a refused call and a question leave it
abbrev pub lengthened_history : Option ℕ → Option Entry → History → History
lengthened_history (Some n) e h = h
lengthened_history None None h = h
lengthened_history None (Some e) h = e ∷ h

abbrev pub history_after_call : Setting → History → Call → History
history_after_call s h call = lengthened_history (refusal s h call) (entry_of s call) h

-- the replies that are due to a list of calls, and the history that they leave
abbrev pub due_replies : Setting → History → List Call → List Reply
due_replies s h [] = []
due_replies s h (call ∷ calls) = due_reply s h call ∷ due_replies s (history_after_call s h call) calls

abbrev pub history_after_calls : Setting → History → List Call → History
history_after_calls s h [] = h
history_after_calls s h (call ∷ calls) = history_after_calls s (history_after_call s h call) calls

-- a call is judged: where nothing refuses it, it is accepted, and P holds of what is given; else it is refused
-- by that number, with the day that is named under it
abbrev pub IsJudgedBy : {X : Type 0} → Option ℕ → (ℕ → Option ℕ) → (X → Type 0) → Result X Refusal → Type 0
IsJudgedBy number named P (Ok x) = (number ≡ None) × P x
IsJudgedBy number named P (Err e) = (number ≡ Some (number_of e)) × (date_named e ≡ named (number_of e))
