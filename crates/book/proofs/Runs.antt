-- A run of calls, call by call. Assumes nothing.
use Rattle.std.proofs.Common.{◌≡◌, ℕ, ◌+◌, ◌<◌, Bool, true, false, T, List, [], ◌∷◌, ◌++◌, map, length, get_or, take, set, Some, None, Option, Result, sym, refl, ap, ◌∙◌, subst, arith}
use Rattle.std.proofs.lemmas.List.{take_all, take_more, take_more_set}
use Rattle.std.specs.List.{list_all}
use Rattle.estimators.proofs.Tables.{both, first, second}
use Rattle.rules.specs.Calls.{entry_of, refusal, IsLawful}
use Rattle.rules.specs.History.{History, Setting}
use Rattle.rules.specs.declared.call.Call.{Call}
use Rattle.rules.specs.declared.entry.Entry.{Entry}
use Rattle.book.specs.Book.{IsBookOf}
use Rattle.book.specs.Case.{Case, case_after_call, case_after_calls}
use Rattle.estimators.specs.Meaning.{Meanings}
use Rattle.book.specs.Law.{Law}
use Rattle.book.specs.Replies.{changes_nothing, due_replies, due_reply, given_reply, history_after_call, history_after_calls, lengthened_history}
use Rattle.terms.specs.declared.refusal.Refusal.{Refusal}
use Rattle.book.specs.declared.serve.Answer.{Answer}
use Rattle.book.specs.declared.book.Book.{Book}
use Rattle.book.proofs.Moments.{moment, moves}

pub history_push : (s : Setting) (h : History) (cs : List Call) (c : Call) → history_after_calls s h (cs ++ (c ∷ [])) ≡ history_after_call s (history_after_calls s h cs) c
history_push s h [] c = refl
history_push s h (x ∷ cs) c = history_push s (history_after_call s h x) cs c

pub answers_push : (s : Setting) (h : History) (cs : List Call) (c : Call) → due_replies s h (cs ++ (c ∷ [])) ≡ due_replies s h cs ++ (due_reply s (history_after_calls s h cs) c ∷ [])
answers_push s h [] c = refl
answers_push s h (x ∷ cs) c = ap (λ r. due_reply s h x ∷ r) (answers_push s (history_after_call s h x) cs c)

replies_push : (rs : List (Result Answer Refusal)) (r : Result Answer Refusal) → map given_reply (rs ++ (r ∷ [])) ≡ map given_reply rs ++ (given_reply r ∷ [])
replies_push [] r = refl
replies_push (x ∷ rs) r = ap (λ l. given_reply x ∷ l) (replies_push rs r)

-- what is accepted stays lawful
lawful_lengthened : (s : Setting) (h : History) (c : Call) (o : Option ℕ) (e : Option Entry) → refusal s h c ≡ o → entry_of s c ≡ e → IsLawful s h → IsLawful s (lengthened_history o e h)
lawful_lengthened s h c (Some n) e refused is lawful = lawful
lawful_lengthened s h c None None accepted is lawful = lawful
lawful_lengthened s h c None (Some e) accepted is lawful = (lawful, (c, accepted, is))

pub lawful_after : (s : Setting) (h : History) (cs : List Call) → IsLawful s h → IsLawful s (history_after_calls s h cs)
lawful_after s h [] lawful = lawful
lawful_after s h (c ∷ cs) lawful = lawful_after s (history_after_call s h c) cs (lawful_lengthened s h c (refusal s h c) (entry_of s c) refl refl lawful)

-- the first i calls of cs are answered in rs, and b and m stand as they leave them
pub record Ran (c : Case) (cs : List Call) (rs : List (Result Answer Refusal)) (i : ℕ) (b : Book) (m : Meanings) : Type 0 where
  pub answered : map given_reply (take i rs) ≡ due_replies c.setting c.history (take i cs)
  pub follows : IsBookOf (case_after_calls c (take i cs)) b m

-- the call at place i, answered by r, makes it i + 1
pub ran_more : {c : Case} {cs : List Call} {rs : List (Result Answer Refusal)} {i : ℕ} (d : Call) (r : Result Answer Refusal) {b b' : Book} {m m' : Meanings}
    → i < length cs → i < length rs → Ran c cs rs i b m
    → (given_reply r ≡ due_reply c.setting (history_after_calls c.setting c.history (take i cs)) (get_or cs i d))
    × IsBookOf (case_after_call (case_after_calls c (take i cs)) (get_or cs i d)) b' m'
    → Ran c cs (set rs i r) (i + 1) b' m'
ran_more {c} {cs} {rs} {i} d r {b} {b'} {m} {m'} in_cs in_rs old new =
    let s = c.setting in
    let h = c.history in
    let one_more : take (i + 1) cs ≡ take i cs ++ (get_or cs i d ∷ []) = take_more cs i d in_cs in
    let written : take (i + 1) (set rs i r) ≡ take i rs ++ (r ∷ []) = take_more_set rs i r in_rs in
    let longer = ap (history_after_calls s h) one_more ∙ history_push s h (take i cs) (get_or cs i d) in
    record {
      answered =
          ap (map given_reply) written ∙ replies_push (take i rs) r ∙ (λ k. old.answered k ++ (new.0 k ∷ [])) ∙ sym (answers_push s h (take i cs) (get_or cs i d)) ∙ ap (due_replies s h) (sym one_more);
      follows = subst (λ (x : History). IsBookOf (record c { history = x }) b' m') (sym longer) new.1;
    }

-- when all calls are answered the law holds of the run
pub ran_all : {c : Case} {cs : List Call} {rs : List (Result Answer Refusal)} {i : ℕ} {b : Book} {m : Meanings} → IsLawful c.setting c.history → i ≡ length cs → Ran c cs rs i b m → Law c cs rs b m
ran_all {c} {cs} {rs} {i} {b} {m} lawful e ran =
    let s = c.setting in
    let h = c.history in
    let all : take i cs ≡ cs = ap (λ n. take n cs) e ∙ take_all (length cs) cs (omega arith) in
    record {
      answered = ap (λ n. map given_reply (take n rs)) (sym e) ∙ ran.answered ∙ ap (due_replies s h) all;
      follows = subst (λ x. IsBookOf (case_after_calls c x) b m) all ran.follows;
      moments = λ before later split. moment s (history_after_calls s h before) (lawful_after s h before lawful);
      moves = λ before call later split. moves s (history_after_calls s h before) call (lawful_after s h before lawful);
    }

-- Answers that leave all as it was.

is_true : (t : Bool) → T t → t ≡ true
is_true true passes = refl
is_true false passes = absurd passes

both_pass : (p : Result Answer Refusal → Bool) (rs : List (Result Answer Refusal)) (r : Result Answer Refusal) → T (list_all p (rs ++ (r ∷ []))) → T (list_all p rs) × (p r ≡ true)
both_pass p [] r passes = (tt, is_true (p r) (first (p r) true passes))
both_pass p (x ∷ rs) r passes =
    let rest = both_pass p rs r (second (p x) (list_all p (rs ++ (r ∷ []))) passes) in
    (both (p x) (list_all p rs) (first (p x) (list_all p (rs ++ (r ∷ []))) passes) rest.0, rest.1)

-- one more such due_reply
pub leaves_more : (rs : List (Result Answer Refusal)) (i : ℕ) (r : Result Answer Refusal) → i < length rs → T (list_all changes_nothing (take (i + 1) (set rs i r))) → T (list_all changes_nothing (take i rs)) × (changes_nothing r ≡ true)
leaves_more rs i r inside passes = both_pass changes_nothing (take i rs) r (subst (λ l. T (list_all changes_nothing l)) (take_more_set rs i r inside) passes)
