-- A degree-day count that the estimator has taken. Assumes nothing.
use Rattle.std.proofs.Common.{◌≡◌, ℕ, ◌+◌, ◌<◌, ◌≤◌, true, cond, List, ◌∷◌, IfOk, Some, None, Ok, Err, Result, sym, ap, ◌∙◌, subst, ⊎_elim, arith}
use Rattle.std.proofs.lemmas.Bool.{and_from, both_ways, cases_eq, eq-eqb, le-leb, ne_eqb}
use Rattle.std.specs.Option.{option_or}
use Rattle.estimators.specs.Limits.{greatest_count, last_day}
use Rattle.estimators.specs.Meaning.{Meaning, weather_within, TakesCount, Meanings}
use Rattle.rules.specs.Calls.{entry_of, refusal, IsLawful}
use Rattle.rules.specs.History.{History, Setting, degree_day_count}
use Rattle.rules.specs.declared.call.Call.TheVariants.{EnterDegreeDays}
use Rattle.rules.specs.declared.entry.Entry.TheVariants.{DegreeDaysEntered}
use Rattle.ledger.proofs.Entries.{count_followed}
use Rattle.terms.specs.Answers.{Answers, refused_since}
use Rattle.terms.specs.declared.refusal.Refusal.{Refusal}
use Rattle.sheet.specs.declared.sheet.Sheet.{Sheet}
use Rattle.book.specs.Book.{IsBookOf, SheetTakes}
use Rattle.book.specs.Case.{Case, case_after_call}
use Rattle.book.specs.Replies.{due_reply, entry_reply, reply_of}
use Rattle.book.specs.declared.book.Book.{Book}
use Rattle.book.proofs.Calls.{entry_follows, granted_answers}
use Rattle.rules.specs.Figures.{estimate_under}
use Rattle.rules.proofs.AcceptedEntries.{entry_in}
use Rattle.ledger.specs.Ledger.{beyond_days, IsLedgerOf}
use Rattle.sheet.specs.SheetOfHistory.{MeansEstimates, IsSheetOf}

-- a day of a book and a count within its limit can be entered
pub weather_fits : (day count : ℕ) → day < last_day → count ≤ greatest_count → weather_within (day + 1) count ≡ true
weather_fits day count few small = and_from _ _ (and_from _ _ (le-leb 1 (day + 1) (omega arith)) (le-leb (day + 1) last_day (omega arith))) (le-leb count greatest_count small)

-- an estimator that has taken the count means the latest estimates
pub count_estimates : (s : Setting) (h : History) (day count : ℕ) (m m' : Meaning) (u u' : ℕ → Meaning) → TakesCount (day + 1) count m m' u u' → MeansEstimates s h m
    → ((e p d : ℕ) → u e p d ≡ s.weather e p d) → MeansEstimates s (DegreeDaysEntered day count ∷ h) m'
count_estimates s h day count m m' u u' entered on weather d p =
    ⊎_elim
    (λ (here : d ≡ day).
    ap (λ k. m' p (k + 1)) here ∙ entered.here p ∙ weather count p (day + 1) ∙ ap (λ k. s.weather count p (k + 1)) (sym here)
    ∙ sym (ap (λ t. estimate_under s (option_or (cond t (Some count) None) (degree_day_count h d)) p d) (eq-eqb day d (sym here))))
    (λ (other : d ≡ day → ⊥).
    entered.elsewhere p (d + 1) (λ same. other (omega arith)) ∙ on d p
    ∙ sym (ap (λ t. estimate_under s (option_or (cond t (Some count) None) (degree_day_count h d)) p d) (ne_eqb day d (λ same. other (sym same)))))
    (cases_eq d day)

pub count_weather : (s : Setting) (day count : ℕ) (m m' : Meaning) (u u' : ℕ → Meaning) → TakesCount (day + 1) count m m' u u' → ((e p d : ℕ) → u e p d ≡ s.weather e p d) → (e p d : ℕ) → u' e p d ≡ s.weather e p d
count_weather s day count m m' u u' entered weather e p d = entered.stands e p d ∙ weather e p d

-- a count that a book accepts is one that an estimator takes
pub taken_within : (s : Setting) {rest : List ℕ} (h : History) (date count day : ℕ) (b : Sheet) → IsLawful s h → IsSheetOf s rest h b → (refusal s h (EnterDegreeDays date count) ≡ None) × (entry_of s (EnterDegreeDays date count) ≡ Some (DegreeDaysEntered day count)) → weather_within (day + 1) count ≡ true
taken_within s h date count day b lawful stands judged =
    let inside = entry_in s h (DegreeDaysEntered day count) (lawful, (EnterDegreeDays date count, judged.0, judged.1)) in
    weather_fits day count (omega (arith, inside.0, stands.days, b.few_days)) inside.1

-- a book and an estimator that have taken an accepted count are those of the case with it, and an accepted count is always taken
pub count_entered : (c : Case) (date count day : ℕ) (b b' : Book) (m m' : Meanings) (r : Result (Unit {0}) Refusal) → IsBookOf c b m
    → (refusal c.setting c.history (EnterDegreeDays date count) ≡ None) × (entry_of c.setting (EnterDegreeDays date count) ≡ Some (DegreeDaysEntered day count))
    → Answers r (weather_within (day + 1) count) tt 3 → b'.ledger ≡ b.ledger
    → (weather_within (day + 1) count ≡ true → TakesCount (day + 1) count m.current m'.current m.under m'.under)
    → IfOk r (λ _. SheetTakes (DegreeDaysEntered day count) b.ledger m'.current b.sheet b'.sheet)
    → (reply_of entry_reply r ≡ due_reply c.setting c.history (EnterDegreeDays date count)) × IsBookOf (case_after_call c (EnterDegreeDays date count)) b' m'
count_entered c date count day b b' m m' (Err e) f judged answers same taken stands =
    absurd
    (both_ways _ (refused_since e (weather_within (day + 1) count) (λ (x : Unit {0}). x ≡ tt) 3 answers).0
    (taken_within c.setting c.history date count day b.sheet f.lawful f.figures judged))
count_entered c date count day b b' m m' (Ok x) f judged answers same taken stands =
    let entered = taken (taken_within c.setting c.history date count day b.sheet f.lawful f.figures judged) in
    let on = count_estimates c.setting c.history day count m.current m'.current m.under m'.under entered f.estimates f.weather in
    let entries = count_followed day count f.entries in (
      granted_answers c (EnterDegreeDays date count) judged.0,
      entry_follows c (EnterDegreeDays date count) (DegreeDaysEntered day count) b b' m m' f judged.0 judged.1
          (subst (λ l. IsLedgerOf c.setting (DegreeDaysEntered day count ∷ c.history) l) (sym same) entries) (ap beyond_days same) on
          (count_weather c.setting day count m.current m'.current m.under m'.under entered f.weather) (λ lawful. stands c.setting _ c.history lawful entries on f.figures),
    )
