-- What opens, as it is taken out of its answer. Assumes nothing.
use Rattle.std.proofs.Common.{◌≡◌, ℕ, ◌*◌, true, false, [], drop, is_ok, IfOk, IfErr, Ok, Err, vec_items, vec_len, Result, Vec, ap, ◌∙◌, subst, MatchResult}
use Rattle.std.proofs.lemmas.Bool.{false≢true, true≢false}
use Rattle.std.specs.declared.alloc.Global.{Global}
use Rattle.estimators.specs.Meaning.{Meaning}
use Rattle.rules.specs.History.{Setting}
use Rattle.ledger.specs.declared.ledger.Lists.{Lists}
use Rattle.ledger.specs.declared.opening.Unopened.{Unopened}
use Rattle.ledger.specs.declared.opening.OpeningRequest.{OpeningRequest}
use Rattle.ledger.specs.declared.ledger.Ledger.{Ledger}
use Rattle.terms.specs.declared.refusal.Refusal.{Refusal}
use Rattle.sheet.specs.declared.sheet.Sheet.{Sheet}
use Rattle.allocation.specs.Loads.{meters}
use Rattle.ledger.specs.Ledger.{beyond_days, OpensLedger, IsLedgerOf}
use Rattle.ledger.specs.Opening.{setting_of}
use Rattle.sheet.specs.SheetOfHistory.{IsSheetOf}

pub opened_ledger : (q : OpeningRequest) (lists : Lists) (r : Result Ledger (Unopened Lists)) (l : Ledger) → r ≡ Ok l → OpensLedger q lists r → (m : Meaning) (u : ℕ → Meaning) → IsLedgerOf (setting_of q (vec_len lists.places) m u) [] l
opened_ledger q lists r l is opened = (subst (OpensLedger q lists) is opened).1

-- and what lies beyond the book's days in its interval list is as it was
pub opened_beyond : (q : OpeningRequest) (lists : Lists) (r : Result Ledger (Unopened Lists)) (l : Ledger) → r ≡ Ok l → OpensLedger q lists r → l.opening.days ≡ q.days → beyond_days l ≡ drop (q.days * meters) (vec_items lists.intervals)
opened_beyond q lists r l is opened many =
    ap (λ (n : ℕ). drop (n * meters) (vec_items l.intervals)) many ∙ (subst (OpensLedger q lists) is opened).2

pub opened_sheet : (days points : ℕ) (figures : Vec ℕ Global) (r : Result Sheet (Vec ℕ Global)) (b : Sheet) → r ≡ Ok b
    → MatchResult r (λ b. (s : Setting) → s.days ≡ days → s.points ≡ points → IsSheetOf s (drop (days * points) (vec_items figures)) [] b) (λ list. list ≡ figures)
    → (s : Setting) → s.days ≡ days → s.points ≡ points → IsSheetOf s (drop (days * points) (vec_items figures)) [] b
opened_sheet days points figures r b is opened =
    subst (λ x. MatchResult x (λ y. (s : Setting) → s.days ≡ days → s.points ≡ points → IsSheetOf s (drop (days * points) (vec_items figures)) [] y) (λ list. list ≡ figures)) is opened

-- what is promised where an answer is accepted, and where it is refused
pub made_holds : (r : Result (Unit {0}) Refusal) (P : Type 0) → IfOk r (λ _. P) → is_ok r ≡ true → P
made_holds (Ok x) P promised ok = promised
made_holds (Err e) P promised ok = absurd (false≢true ok)

pub refused_holds : (r : Result (Unit {0}) Refusal) (P : Type 0) → IfErr r (λ _. P) → is_ok r ≡ false → P
refused_holds (Ok x) P promised failed = absurd (true≢false failed)
refused_holds (Err e) P promised failed = promised
