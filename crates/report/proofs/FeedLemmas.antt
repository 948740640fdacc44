-- A report as it is written, byte by byte and line by line. Assumes nothing.
use Rattle.std.proofs.Common.{◌≡◌, ◌≢◌, OnOk, ℕ, ◌+◌, ◌<◌, Bool, true, false, eqb, List, [], ◌∷◌, ◌++◌, length, Ok, Err, Option, Result, sym, refl, ap, ◌∙◌, subst, arith}
use Rattle.std.proofs.KnownBytes.{Appends-nil, Appends-trans}
use Rattle.std.proofs.lemmas.Bool.{eq-eqb, eqb-true, true≢false}
use Rattle.std.proofs.lemmas.List.{append-nil, append_assoc, nil_from_length}
use Rattle.std.specs.Io.KnownBytes.{Appends}
use Rattle.std.specs.Option.{option_map}
use Rattle.report.proofs.LineCuttingLemmas.{unended_line_byte, unended_line_closed, ended_lines_byte, ended_lines_closed, lines_with_rest, lines_without_rest}
use Rattle.report.proofs.LineStartLemmas.{fault_of_start, line_start_more, line_start_empty, written_by_start}
use Rattle.line_format.specs.declared.fault.LineFault.{LineFault}
use Rattle.report.specs.declared.intake.Intake.{Intake}
use Rattle.report.specs.declared.feed.Feed.{Feed}
use Rattle.report.specs.Feed.{EndsInput, EndsLine, IsFeedOf, TakesBytes, WritesDayLines}
use Rattle.report.specs.Intake.{IsIntakeOf, TakesLine}
use Rattle.report.specs.IntakeHistory.{IntakeHistory, initial_history}
use Rattle.report.specs.LineContent.{HasContent, LineContent, ReportedRefusal, history_after_line, line_refusal, malformed_at, record_is, reported_answer, reported_refusal}
use Rattle.report.specs.LineCutting.{ended_lines, unended_line}
use Rattle.report.specs.LineStart.{line_start}
use Rattle.report.specs.Report.{HaveContents, day_lines, fail_line, fail_lines, history_after_lines, next, none}

-- the start of a line has the content of the line
pub content_of_start : (line : List ℕ) (x : LineContent) → HasContent (line_start line) x → HasContent line x
content_of_start line (record_is x) said = (said.0, written_by_start line x said.0 said.1)
content_of_start line (malformed_at c) said = fault_of_start line c said

-- one more line
pub contents_more : {ls : List (List ℕ)} {xs : List LineContent} (l : List ℕ) (x : LineContent) → HaveContents ls xs → HasContent l x → HaveContents (ls ++ l ∷ []) (xs ++ x ∷ [])
contents_more l x none last = next last none
contents_more l x (next first rest) last = next first (contents_more l x rest last)

pub history_more : (t : IntakeHistory) (xs : List LineContent) (x : LineContent) → history_after_lines t (xs ++ x ∷ []) ≡ history_after_line (history_after_lines t xs) x
history_more t [] x = refl
history_more t (y ∷ xs) x = history_more (history_after_line t y) xs x

pub fails_more : (k : ℕ) (t : IntakeHistory) (xs : List LineContent) (x : LineContent) → fail_lines k t (xs ++ x ∷ []) ≡ fail_lines k t xs ++ fail_line (option_map (reported_refusal (k + length xs)) (line_refusal (history_after_lines t xs) x))
fails_more k t [] x =
    let counted : k ≡ k + 0 = omega arith in
    append-nil (fail_line (option_map (reported_refusal k) (line_refusal t x))) ∙ ap (λ (n : ℕ). fail_line (option_map (reported_refusal n) (line_refusal t x))) counted
fails_more k t (y ∷ xs) x =
    let first = fail_line (option_map (reported_refusal k) (line_refusal t y)) in
    let later = fails_more (k + 1) (history_after_line t y) xs x in
    let counted : k + 1 + length xs ≡ k + length (y ∷ xs) = omega arith in
    ap (λ (ys : List ℕ). first ++ ys) (later ∙ ap (λ (n : ℕ). fail_lines (k + 1) (history_after_line t y) xs ++ fail_line (option_map (reported_refusal n) (line_refusal (history_after_lines (history_after_line t y) xs) x))) counted) ∙ sym (append_assoc first _ _)

one_more : (xs : List LineContent) (x : LineContent) → length (xs ++ x ∷ []) ≡ length xs + 1
one_more [] x = refl
one_more (y ∷ xs) x = let later = one_more xs x in omega (arith, later)

-- from the first line on
fails_from_first : (xs : List LineContent) (x : LineContent) → fail_lines 0 initial_history (xs ++ x ∷ []) ≡ fail_lines 0 initial_history xs ++ fail_line (option_map (reported_refusal (length xs)) (line_refusal (history_after_lines initial_history xs) x))
fails_from_first xs x =
    let counted : 0 + length xs ≡ length xs = omega arith in
    fails_more 0 initial_history xs x ∙ ap (λ (n : ℕ). fail_lines 0 initial_history xs ++ fail_line (option_map (reported_refusal n) (line_refusal (history_after_lines initial_history xs) x))) counted

-- a line that ends goes to those that ended
line_ends : (bytes text : List ℕ) (old pushed new : Feed) (before after : Option (List ℕ)) → IsFeedOf bytes text old → pushed.intake ≡ old.intake → pushed.line ≡ line_start (old.line ++ 10 ∷ [])
    → EndsLine pushed new before after → (added : List ℕ) × IsFeedOf (bytes ++ 10 ∷ []) (text ++ added) new × Appends before after added
line_ends bytes text old pushed new before after run same begins ends =
    let held : pushed.line ≡ line_start (unended_line bytes ++ 10 ∷ []) = begins ∙ ap (λ (xs : List ℕ). line_start (xs ++ 10 ∷ [])) run.line ∙ line_start_more (unended_line bytes) (10 ∷ []) in
    let stands : IsIntakeOf (length run.contents) (history_after_lines initial_history run.contents) pushed.intake = subst (λ (i : Intake). IsIntakeOf (length run.contents) (history_after_lines initial_history run.contents) i) (sym same) run.intake in
    let ended = ends (unended_line bytes ++ 10 ∷ []) (length run.contents) (history_after_lines initial_history run.contents) held stands in
    let added = fail_line (option_map (reported_refusal (length run.contents)) (line_refusal (history_after_lines initial_history run.contents) ended.0)) in (
      added,
      record {
        contents = run.contents ++ ended.0 ∷ [];
        have_contents = subst (λ (ls : List (List ℕ)). HaveContents ls (run.contents ++ ended.0 ∷ [])) (sym (ended_lines_closed bytes)) (contents_more _ ended.0 run.have_contents ended.1);
        written = ap (λ (xs : List ℕ). xs ++ added) run.written ∙ sym (fails_from_first run.contents ended.0);
        intake =
            subst (λ (n : ℕ). IsIntakeOf n (history_after_lines initial_history (run.contents ++ ended.0 ∷ [])) new.intake) (sym (one_more run.contents ended.0))
            (subst (λ (t : IntakeHistory). IsIntakeOf (length run.contents + 1) t new.intake) (sym (history_more initial_history run.contents ended.0)) ended.3);
        line = ended.4 ∙ sym (ap line_start (unended_line_closed bytes));
      },
      ended.2,
    )

-- any other byte goes to the line that has no end yet
line_goes_on : (bytes text : List ℕ) (b : ℕ) (old new : Feed) (c : Option (List ℕ)) → (b ≡ 10 → ⊥) → IsFeedOf bytes text old → new.intake ≡ old.intake → new.line ≡ line_start (old.line ++ b ∷ []) → (added : List ℕ) × IsFeedOf (bytes ++ b ∷ []) (text ++ added) new × Appends c c added
line_goes_on bytes text b old new c other run same begins = (
  [],
  record {
    contents = run.contents;
    have_contents = subst (λ (ls : List (List ℕ)). HaveContents ls run.contents) (sym (ended_lines_byte bytes b other)) run.have_contents;
    written = append-nil text ∙ run.written;
    intake = subst (λ (i : Intake). IsIntakeOf (length run.contents) (history_after_lines initial_history run.contents) i) (sym same) run.intake;
    line = begins ∙ ap (λ (xs : List ℕ). line_start (xs ++ b ∷ [])) run.line ∙ line_start_more (unended_line bytes) (b ∷ []) ∙ sym (ap line_start (unended_line_byte bytes b other));
  },
  Appends-nil c,
)

-- bytes after bytes
pub writes_none : (f : Feed) (c : Option (List ℕ)) → TakesBytes [] f f c c
writes_none f c bytes text run = (
  [],
  subst (λ (xs : List ℕ). IsFeedOf xs (text ++ []) f) (sym (append-nil bytes)) (subst (λ (xs : List ℕ). IsFeedOf bytes xs f) (sym (append-nil text)) run),
  Appends-nil c,
)

-- one byte was taken: a line feed, which ends the line, or any other
pub line_feed_taken : (b : ℕ) (old pushed new after_it : Feed) (before after then : Option (List ℕ)) → b ≡ 10 → after_it ≡ new → then ≡ after → pushed.intake ≡ old.intake → pushed.line ≡ line_start (old.line ++ b ∷ [])
    → EndsLine pushed new before after → TakesBytes (b ∷ []) old after_it before then
line_feed_taken b old pushed new after_it before after then ten is then_is same begins ends =
    subst (λ (n : ℕ). TakesBytes (n ∷ []) old after_it before then) (sym ten)
    (subst (λ (f : Feed). TakesBytes (10 ∷ []) old f before then) (sym is)
    (subst (λ (c : Option (List ℕ)). TakesBytes (10 ∷ []) old new before c) (sym then_is)
    (λ bytes text run. line_ends bytes text old pushed new before after run same (begins ∙ ap (λ (n : ℕ). line_start (old.line ++ n ∷ [])) ten) ends)))

pub other_byte_taken : (b : ℕ) (old pushed after_it : Feed) (before then : Option (List ℕ)) → (b ≡ 10 → ⊥) → after_it ≡ pushed → then ≡ before → pushed.intake ≡ old.intake → pushed.line ≡ line_start (old.line ++ b ∷ [])
    → TakesBytes (b ∷ []) old after_it before then
other_byte_taken b old pushed after_it before then other is then_is same begins =
    subst (λ (f : Feed). TakesBytes (b ∷ []) old f before then) (sym is)
    (subst (λ (c : Option (List ℕ)). TakesBytes (b ∷ []) old pushed before c) (sym then_is)
    (λ bytes text run. line_goes_on bytes text b old pushed before other run same begins))

pub writes_more : (xs ys : List ℕ) (f g h : Feed) (a b c : Option (List ℕ)) → TakesBytes xs f g a b → TakesBytes ys g h b c → TakesBytes (xs ++ ys) f h a c
writes_more xs ys f g h a b c first then bytes text run =
    let one = first bytes text run in
    let two = then (bytes ++ xs) (text ++ one.0) one.1 in (
      one.0 ++ two.0,
      subst (λ (zs : List ℕ). IsFeedOf zs (text ++ (one.0 ++ two.0)) h) (append_assoc bytes xs ys) (subst (λ (zs : List ℕ). IsFeedOf ((bytes ++ xs) ++ ys) zs h) (append_assoc text one.0 two.0) two.1),
      Appends-trans a b c one.0 two.0 one.2 two.2,
    )

-- The end of the input.

none_unended : (bytes : List ℕ) → length (line_start (unended_line bytes)) ≡ 0 → unended_line bytes ≡ []
none_unended bytes empty = nil_from_length (unended_line bytes) (eqb-true (length (unended_line bytes)) 0 (sym (line_start_empty (unended_line bytes)) ∙ eq-eqb (length (line_start (unended_line bytes))) 0 empty))

some_unended : (bytes : List ℕ) → (length (line_start (unended_line bytes)) ≡ 0 → ⊥) → 0 < length (unended_line bytes)
some_unended bytes some = let not_none : length (unended_line bytes) ≢ 0 = λ e. some (eqb-true (length (line_start (unended_line bytes))) 0 (line_start_empty (unended_line bytes) ∙ eq-eqb (length (unended_line bytes)) 0 e)) in omega arith

-- no byte of a line is left: the days follow
pub finishes_plainly : (f : Feed) (before after : Option (List ℕ)) → length f.line ≡ 0 → WritesDayLines f before after → EndsInput f before after
finishes_plainly f before after empty days bytes text run =
    let lines = lines_without_rest bytes (none_unended bytes (ap length (sym run.line) ∙ empty)) in (
      day_lines (history_after_lines initial_history run.contents),
      record {
        contents = run.contents;
        have_contents = subst (λ (ls : List (List ℕ)). HaveContents ls run.contents) (sym lines) run.have_contents;
        text_is = ap (λ (xs : List ℕ). xs ++ day_lines (history_after_lines initial_history run.contents)) run.written;
      },
      days (length run.contents) (history_after_lines initial_history run.contents) run.intake,
    )

-- a line is left, and ends with the input
pub finishes_with_line : (f g : Feed) (before between after : Option (List ℕ)) → (length f.line ≡ 0 → ⊥) → EndsLine f g before between → WritesDayLines g between after → EndsInput f before after
finishes_with_line f g before between after some ends days bytes text run =
    let lines = lines_with_rest bytes (some_unended bytes (λ e. some (ap length run.line ∙ e))) in
    let ended = ends (unended_line bytes) (length run.contents) (history_after_lines initial_history run.contents) run.line run.intake in
    let says = run.contents ++ ended.0 ∷ [] in
    let added = fail_line (option_map (reported_refusal (length run.contents)) (line_refusal (history_after_lines initial_history run.contents) ended.0)) in
    let told = history_more initial_history run.contents ended.0 in
    let shown = day_lines (history_after_lines initial_history says) in (
      added ++ shown,
      record {
        contents = says;
        have_contents = subst (λ (ls : List (List ℕ)). HaveContents ls says) (sym lines) (contents_more _ ended.0 run.have_contents ended.1);
        text_is = sym (append_assoc text added shown) ∙ ap (λ (xs : List ℕ). xs ++ shown) (ap (λ (xs : List ℕ). xs ++ added) run.written ∙ sym (fails_from_first run.contents ended.0));
      },
      Appends-trans before between after added shown ended.2 (days (length run.contents + 1) (history_after_lines initial_history says) (subst (λ (t : IntakeHistory). IsIntakeOf (length run.contents + 1) t g.intake) (sym told) ended.3)),
    )

-- before the first byte
pub nothing_yet : (f : Feed) → IsIntakeOf 0 initial_history f.intake → f.line ≡ [] → IsFeedOf [] [] f
unfolding unended_line ended_lines
nothing_yet f stands empty = record { contents = []; have_contents = none; written = refl; intake = stands; line = empty }

-- a promise for where all went well gives what follows from it
pub on_ok : {X E : Type 0} {P Q : Type 0} (r : Result X E) → (P → Q) → OnOk r P → OnOk r Q
on_ok (Ok x) gives holds = gives holds
on_ok (Err e) gives holds = tt

-- a line was taken by its start, and the writer got its refusal
pub line_taken : (f g : Feed) (r : Result (Unit {0}) LineFault) (bytes : List ℕ) (before after : Option (List ℕ)) → bytes ≡ f.line → TakesLine bytes r f.intake g.intake → g.line ≡ [] → Appends before after (fail_line (reported_answer r)) → EndsLine f g before after
line_taken f g r bytes before after is takes cleared wrote line k t held stands =
    let taken = takes k t stands in
    (taken.0, content_of_start line taken.0 (subst (λ (xs : List ℕ). HasContent xs taken.0) (is ∙ held) taken.1), subst (λ (o : Option ReportedRefusal). Appends before after (fail_line o)) taken.2 wrote, taken.3, cleared)

-- whether there is a byte
pub some_bytes : (xs : List ℕ) (b : Bool) → b ≡ eqb (length xs) 0 → b ≡ false → length xs ≡ 0 → ⊥
some_bytes xs b is fails e = true≢false (sym (eq-eqb (length xs) 0 e) ∙ sym is ∙ fails)

pub no_bytes : (xs : List ℕ) (b : Bool) → b ≡ eqb (length xs) 0 → b ≡ true → length xs ≡ 0
no_bytes xs b is holds = eqb-true (length xs) 0 (sym is ∙ holds)

-- what holds at all holds where all went well
pub whatever : {X E : Type 0} {P : Type 0} (r : Result X E) → P → OnOk r P
whatever (Ok x) holds = holds
whatever (Err e) holds = tt
