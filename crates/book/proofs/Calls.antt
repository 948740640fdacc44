-- One call: its reply, and the case after it. Assumes nothing.
use Rattle.std.proofs.Common.{◌≡◌, ℕ, false, ◌∷◌, Some, None, Ok, Err, Option, Result, MatchResult, sym, refl, ap, ◌∙◌, subst, arith}
use Rattle.std.specs.Result.{IsOkAnd}
use Rattle.std.proofs.lemmas.Bool.{true≢false}
use Rattle.std.specs.Option.{option_or}
use Rattle.estimators.specs.Meaning.{Meaning, Meanings}
use Rattle.rules.specs.Calls.{entry_of, refusal, IsLawful, named_date}
use Rattle.rules.specs.History.{History, Setting, count_in, degree_day_count}
use Rattle.rules.specs.declared.call.Call.{Call}
use Rattle.rules.specs.declared.call.Call.TheVariants.{EnterDegreeDays, AskFigure, AskDay, AskRetailer}
use Rattle.rules.specs.declared.entry.Entry.{Entry}
use Rattle.ledger.specs.declared.ledger.Ledger.{Ledger}
use Rattle.terms.specs.Refusal.{number_of, date_named}
use Rattle.terms.specs.declared.refusal.Refusal.{Refusal}
use Rattle.book.specs.Book.{IsBookOf, IsServedByLaw, enters_count}
use Rattle.book.specs.Case.{Case, case_after_call}
use Rattle.book.specs.Replies.{Reply, accepted, answer_reply, due_reply, entry_reply, given_reply, granted_reply, lengthened_history, refused, reply_of, unless_refused}
use Rattle.book.specs.declared.book.Book.{Book}
use Rattle.book.specs.declared.serve.Answer.{Answer}
use Rattle.rules.specs.Figures.{estimate_under}
use Rattle.ledger.specs.Ledger.{beyond_days, IsLedgerOf}
use Rattle.sheet.specs.SheetOfHistory.{MeansEstimates, IsSheetOf, KnowsHistory}

-- a case with one more entry
abbrev pub case_with : Case → Entry → Case
case_with c e = record c { history = e ∷ c.history }

module _ (c : Case) (call : Call) where
  -- a refused call: its reply, and the case stays
  pub refusal_answers : (e : Refusal)
      → refusal c.setting c.history call ≡ Some (number_of e) → date_named e ≡ named_date c.setting c.history call (number_of e)
      → refused (number_of e) (date_named e) ≡ due_reply c.setting c.history call
  refusal_answers e is named =
      ap (refused (number_of e)) named
      ∙ sym (ap (λ o. unless_refused o (named_date c.setting c.history call) (granted_reply c.setting c.history call)) is)

  pub refusal_stays : (n : ℕ) → refusal c.setting c.history call ≡ Some n → case_after_call c call ≡ c
  refusal_stays n is = λ i. record c { history = lengthened_history (is i) (entry_of c.setting call) c.history }

  pub refused_follows : (n : ℕ) (b : Book) (m : Meanings) → refusal c.setting c.history call ≡ Some n → IsBookOf c b m → IsBookOf (case_after_call c call) b m
  refused_follows n b m is f = subst (λ x. IsBookOf x b m) (sym (refusal_stays n is)) f

  -- a call that is not refused
  pub granted_answers : refusal c.setting c.history call ≡ None → granted_reply c.setting c.history call ≡ due_reply c.setting c.history call
  granted_answers none = sym (ap (λ o. unless_refused o (named_date c.setting c.history call) (granted_reply c.setting c.history call)) none)

  pub entry_lengthens : (e : Entry) → refusal c.setting c.history call ≡ None → entry_of c.setting call ≡ Some e → case_after_call c call ≡ case_with c e
  entry_lengthens e none is = λ i. record c { history = lengthened_history (none i) (is i) c.history }

  -- what an accepted entry leaves is the book of the case with it
  pub entry_follows : (e : Entry) (b b' : Book) (m m' : Meanings) → IsBookOf c b m
      → refusal c.setting c.history call ≡ None → entry_of c.setting call ≡ Some e
      → IsLedgerOf c.setting (e ∷ c.history) b'.ledger → beyond_days b'.ledger ≡ beyond_days b.ledger
      → MeansEstimates c.setting (e ∷ c.history) m'.current → ((count p d : ℕ) → m'.under count p d ≡ c.setting.weather count p d)
      → (IsLawful c.setting (e ∷ c.history) → IsSheetOf c.setting c.rest.sheet (e ∷ c.history) b'.sheet)
      → IsBookOf (case_after_call c call) b' m'
  entry_follows e b b' m m' f none is entries beyond estimates weather stands =
      let lawful : IsLawful c.setting (e ∷ c.history) = (f.lawful, (call, none, is)) in
      subst (λ x. IsBookOf x b' m') (sym (entry_lengthens e none is))
      (record { lawful = lawful; limited = f.limited; entries = entries; figures = stands lawful; intervals = beyond ∙ f.intervals; estimates = estimates; weather = weather })

-- the count that an entry gives a day, if there is an entry
abbrev pub counts_in : ℕ → Option Entry → Option ℕ
counts_in d None = None
counts_in d (Some e) = count_in d e

-- an entry that is no count leaves the latest estimates
pub silent_estimates : (s : Setting) (h : History) (call : Call) (e : Entry) (m : Meaning)
    → entry_of s call ≡ Some e → ((d : ℕ) → counts_in d (entry_of s call) ≡ None) → MeansEstimates s h m → MeansEstimates s (e ∷ h) m
silent_estimates s h call e m is silent on d p =
    on d p ∙ sym (ap (λ o. estimate_under s (option_or o (degree_day_count h d)) p d) (ap (counts_in d) (sym is) ∙ silent d))

-- an equal book is the book of what a book is the book of
pub same_follows : {c : Case} {b b' : Book} {m : Meanings} → b' ≡ b → IsBookOf c b m → IsBookOf c b' m
same_follows {c} {b} {b'} {m} same f = subst (λ x. IsBookOf c x m) (sym same) f

-- A refused entry leaves all as it was, and is answered so.
pub refused_entry : (c : Case) (call : Call) (e : Refusal) (b b' : Book) (m : Meanings) → b' ≡ b
    → (refusal c.setting c.history call ≡ Some (number_of e)) × (date_named e ≡ named_date c.setting c.history call (number_of e)) → IsBookOf c b m
    → (refused (number_of e) (date_named e) ≡ due_reply c.setting c.history call) × IsBookOf (case_after_call c call) b' m
refused_entry c call e b b' m same judged f =
    (refusal_answers c call e judged.0 judged.1, refused_follows c call (number_of e) b' m judged.0 (same_follows same f))

-- An accepted entry that is no count: the ledger holds it, and the sheet takes it in.
pub accepted_entry : (c : Case) (call : Call) (e : Entry) (l : Ledger) (b b' : Book) (m : Meanings)
    → IsBookOf c b m → (refusal c.setting c.history call ≡ None) × (entry_of c.setting call ≡ Some e)
    → IsLedgerOf c.setting (e ∷ c.history) l → beyond_days l ≡ beyond_days b.ledger → b'.ledger ≡ l → ((d : ℕ) → counts_in d (entry_of c.setting call) ≡ None)
    → (IsLawful c.setting (e ∷ c.history) → IsLedgerOf c.setting (e ∷ c.history) l → MeansEstimates c.setting (e ∷ c.history) m.current
    → IsSheetOf c.setting c.rest.sheet c.history b.sheet → IsSheetOf c.setting c.rest.sheet (e ∷ c.history) b'.sheet)
    → (granted_reply c.setting c.history call ≡ due_reply c.setting c.history call) × IsBookOf (case_after_call c call) b' m
accepted_entry c call e l b b' m f judged entries beyond same silent stands =
    let on = silent_estimates c.setting c.history call e m.current judged.1 silent f.estimates in (
      granted_answers c call judged.0,
      entry_follows c call e b b' m m f judged.0 judged.1 (subst (λ x. IsLedgerOf c.setting (e ∷ c.history) x) (sym same) entries)
          (ap beyond_days same ∙ beyond) on f.weather (λ lawful. stands lawful entries on f.figures),
    )

-- ledger and sheet of a book have been told its history
pub told_book : {c : Case} {b : Book} {m : Meanings} → IsBookOf c b m → KnowsHistory c.setting c.history b.ledger b.sheet
told_book f = record {
  lawful = f.lawful;
  follows = f.entries;
  days = f.figures.days;
  points = f.figures.points;
  loads = f.figures.loads;
  covered = f.figures.covered;
}

-- a call that enters no degree days makes no entry that does
pub no_count_entry : (s : Setting) (call : Call) → enters_count call ≡ false → (d : ℕ) → counts_in d (entry_of s call) ≡ None
no_count_entry s (EnterDegreeDays date count) none d = absurd (true≢false none)
no_count_entry s call none d = refl

-- what is not refused of an entry is accepted
pub entry_granted : (s : Setting) (h : History) (call : Call) (e : Entry) → entry_of s call ≡ Some e → accepted ≡ granted_reply s h call
entry_granted s h (AskFigure point date) e is = let z : ◌≡◌ {A = ℕ} 0 1 = cc in absurd (omega arith)
entry_granted s h (AskDay date) e is = let z : ◌≡◌ {A = ℕ} 0 1 = cc in absurd (omega arith)
entry_granted s h (AskRetailer retailer date) e is = let z : ◌≡◌ {A = ℕ} 0 1 = cc in absurd (omega arith)
entry_granted s h call e is = refl

-- A book is that of the same case where its ledger follows the same history and its sheet is the same.
pub ledger_follows : {c : Case} {b b' : Book} {m : Meanings} → IsBookOf c b m → IsLedgerOf c.setting c.history b'.ledger
    → beyond_days b'.ledger ≡ beyond_days b.ledger → b'.sheet ≡ b.sheet → IsBookOf c b' m
ledger_follows {c} f entries beyond sheets = record {
  lawful = f.lawful;
  limited = f.limited;
  entries = entries;
  figures = subst (IsSheetOf c.setting c.rest.sheet c.history) (sym sheets) f.figures;
  intervals = beyond ∙ f.intervals;
  estimates = f.estimates;
  weather = f.weather;
}

-- what a call gives, made an answer, says what the call does
pub mapped : {X : Type 0} {P : X → Answer → Type 0} (v : X → Reply) (r : Result X Refusal) (a : Result Answer Refusal)
    → ((x : X) (y : Answer) → P x y → answer_reply y ≡ v x) → MatchResult r (λ x. IsOkAnd a (P x)) (λ e. a ≡ Err e) → given_reply a ≡ reply_of v r
mapped v (Ok x) (Ok y) each cases = each x y cases
mapped v (Ok x) (Err e) each cases = absurd cases
mapped v (Err e) a each cases = ap (reply_of answer_reply) cases

-- A call that an entry answers is served as the law says.
pub entry_served : {call : Call} {b b' : Book} {m m' : Meanings} {P : Unit {0} → Answer → Type 0} (r : Result (Unit {0}) Refusal) (a : Result Answer Refusal)
    → IsServedByLaw call entry_reply r b m b' m' → ((x : Unit {0}) (y : Answer) → P x y → answer_reply y ≡ accepted)
    → MatchResult r (λ x. IsOkAnd a (P x)) (λ e. a ≡ Err e) → IsServedByLaw call answer_reply a b m b' m'
entry_served r a entered each cases = record {
  law = λ c f. let done = entered.law c f in (mapped (λ _. accepted) r a each cases ∙ done.0, done.1);
}
