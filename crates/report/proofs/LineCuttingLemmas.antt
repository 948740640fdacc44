-- How the lines go on as bytes come. Assumes nothing.
use Rattle.std.proofs.Common.{◌≡◌, ℕ, ◌<◌, Bool, true, false, cond, ◌||◌, eqb, List, [], ◌∷◌, ◌++◌, length, sym, refl, ap, ◌∙◌, arith}
use Rattle.std.specs.List.{onto_first, concat}
use Rattle.std.proofs.lemmas.Bool.{or_parts, or_from, or_right, ne_eqb, false≢true}
use Rattle.std.proofs.lemmas.List.{append-nil}
use Rattle.report.specs.LineCutting.{ended_lines, has_line_feed, input_lines, line_if_any, unended_line}

-- bytes without a line feed are a line with no end, and no line ended
unended_line_alone : (bs : List ℕ) → has_line_feed bs ≡ false → unended_line bs ≡ bs
unfolding unended_line
unended_line_alone [] e = refl
unended_line_alone (b ∷ bs) e = rw e

ended_lines_alone : (bs : List ℕ) → has_line_feed bs ≡ false → ended_lines bs ≡ []
unfolding ended_lines
ended_lines_alone [] e = refl
ended_lines_alone (b ∷ bs) e =
    let p = or_parts (eqb b 10) (has_line_feed bs) e in
    let no_feed = p.0 in
    let none = p.1 in
    rw (no_feed, none)

-- where there is one, a line ended
onto_some : (b : ℕ) (ls : List (List ℕ)) → 0 < length (onto_first b ls)
onto_some b [] = omega arith
onto_some b (l ∷ ls) = omega arith

some_ended : (f h : Bool) (b : ℕ) (ls : List (List ℕ)) → (f || h) ≡ true → 0 < length (cond f ((b ∷ []) ∷ ls) (cond h (onto_first b ls) []))
some_ended true h b ls e = omega arith
some_ended false true b ls e = onto_some b ls
some_ended false false b ls e = absurd (false≢true e)

ended_lines_any : (bs : List ℕ) → has_line_feed bs ≡ true → 0 < length (ended_lines bs)
unfolding ended_lines
ended_lines_any [] e = absurd (false≢true e)
ended_lines_any (b ∷ bs) e = some_ended (eqb b 10) (has_line_feed bs) b (ended_lines bs) e

-- a byte before lines that are followed by others
onto_append : (b : ℕ) (ls ms : List (List ℕ)) → 0 < length ls → onto_first b (ls ++ ms) ≡ onto_first b ls ++ ms
onto_append b [] ms h = absurd (omega arith)
onto_append b (l ∷ ls) ms h = refl

onto_any : (b : ℕ) (bs : List ℕ) → onto_first b (line_if_any bs) ≡ (b ∷ bs) ∷ []
onto_any b [] = refl
onto_any b (c ∷ bs) = refl

-- the lines are those that ended, and the one with no end
parts_more : (f h : Bool) (b : ℕ) (bs : List ℕ) → h ≡ has_line_feed bs → input_lines bs ≡ ended_lines bs ++ line_if_any (unended_line bs) → cond f ((b ∷ []) ∷ input_lines bs) (onto_first b (input_lines bs)) ≡ cond f ((b ∷ []) ∷ ended_lines bs) (cond h (onto_first b (ended_lines bs)) []) ++ line_if_any (cond (f || h) (unended_line bs) (b ∷ bs))
parts_more true h b bs e parts = ap (λ ls. (b ∷ []) ∷ ls) parts
parts_more false true b bs e parts = rw parts (onto_append b (ended_lines bs) _ (ended_lines_any bs (sym e)))
parts_more false false b bs e parts =
    let none = ended_lines_alone bs (sym e) in
    let all = unended_line_alone bs (sym e) in
    rw (parts, none, all) (onto_any b bs)

pub lines_by_parts : (bytes : List ℕ) → input_lines bytes ≡ ended_lines bytes ++ line_if_any (unended_line bytes)
unfolding input_lines unended_line ended_lines
lines_by_parts [] = refl
lines_by_parts (b ∷ bs) = parts_more (eqb b 10) (has_line_feed bs) b bs refl (lines_by_parts bs)

pub lines_without_rest : (bytes : List ℕ) → unended_line bytes ≡ [] → input_lines bytes ≡ ended_lines bytes
lines_without_rest bytes none = lines_by_parts bytes ∙ rw none (append-nil (ended_lines bytes))

as_one : (line : List ℕ) → 0 < length line → line_if_any line ≡ line ∷ []
as_one [] h = absurd (omega arith)
as_one (b ∷ bs) h = refl

pub lines_with_rest : (bytes : List ℕ) → 0 < length (unended_line bytes) → input_lines bytes ≡ ended_lines bytes ++ unended_line bytes ∷ []
lines_with_rest bytes some = lines_by_parts bytes ∙ ap (λ ls. ended_lines bytes ++ ls) (as_one (unended_line bytes) some)

-- joined again they are the bytes
joined_onto : (b : ℕ) (ls : List (List ℕ)) → concat (onto_first b ls) ≡ b ∷ concat ls
joined_onto b [] = refl
joined_onto b (l ∷ ls) = refl

joined_more : (f : Bool) (b : ℕ) (ls : List (List ℕ)) → concat (cond f ((b ∷ []) ∷ ls) (onto_first b ls)) ≡ b ∷ concat ls
joined_more true b ls = refl
joined_more false b ls = joined_onto b ls

pub lines_joined : (bytes : List ℕ) → concat (input_lines bytes) ≡ bytes
unfolding input_lines
lines_joined [] = refl
lines_joined (b ∷ bs) = joined_more (eqb b 10) b (input_lines bs) ∙ ap (λ xs. b ∷ xs) (lines_joined bs)

-- more bytes without a line feed end no line, and go to the one with no end
feed_more : (xs ys : List ℕ) → has_line_feed ys ≡ false → has_line_feed (xs ++ ys) ≡ has_line_feed xs
feed_more [] ys e = e
feed_more (x ∷ xs) ys e = ap (λ h. eqb x 10 || h) (feed_more xs ys e)

pub ended_lines_more : (xs ys : List ℕ) → has_line_feed ys ≡ false → ended_lines (xs ++ ys) ≡ ended_lines xs
unfolding ended_lines
ended_lines_more [] ys e = ended_lines_alone ys e
ended_lines_more (x ∷ xs) ys e =
    let feed = feed_more xs ys e in
    let more = ended_lines_more xs ys e in
    rw (feed, more)

cond_append : (c : Bool) (xs ws ys : List ℕ) → cond c (xs ++ ys) (ws ++ ys) ≡ cond c xs ws ++ ys
cond_append true xs ws ys = refl
cond_append false xs ws ys = refl

pub unended_line_more : (xs ys : List ℕ) → has_line_feed ys ≡ false → unended_line (xs ++ ys) ≡ unended_line xs ++ ys
unfolding unended_line
unended_line_more [] ys e = unended_line_alone ys e
unended_line_more (x ∷ xs) ys e =
    let feed = feed_more xs ys e in
    let more = unended_line_more xs ys e in
    rw (feed, more) (cond_append (eqb x 10 || has_line_feed xs) (unended_line xs) (x ∷ xs) ys)

no_feed : (b : ℕ) → (b ≡ 10 → ⊥) → has_line_feed (b ∷ []) ≡ false
no_feed b other = or_from (eqb b 10) false (ne_eqb b 10 other) refl

pub ended_lines_byte : (bytes : List ℕ) (b : ℕ) → (b ≡ 10 → ⊥) → ended_lines (bytes ++ b ∷ []) ≡ ended_lines bytes
ended_lines_byte bytes b other = ended_lines_more bytes (b ∷ []) (no_feed b other)

pub unended_line_byte : (bytes : List ℕ) (b : ℕ) → (b ≡ 10 → ⊥) → unended_line (bytes ++ b ∷ []) ≡ unended_line bytes ++ b ∷ []
unended_line_byte bytes b other = unended_line_more bytes (b ∷ []) (no_feed b other)

-- a line feed ends that line, and no byte of another is left
feed_last : (xs : List ℕ) → has_line_feed (xs ++ 10 ∷ []) ≡ true
feed_last [] = refl
feed_last (x ∷ xs) = or_right (eqb x 10) _ (feed_last xs)

pub unended_line_closed : (bytes : List ℕ) → unended_line (bytes ++ 10 ∷ []) ≡ []
unfolding unended_line
unended_line_closed [] = refl
unended_line_closed (x ∷ xs) =
    let feed = or_right (eqb x 10) _ (feed_last xs) in
    rw feed (unended_line_closed xs)

closed_more : (f h : Bool) (x : ℕ) (xs : List ℕ) → h ≡ has_line_feed xs → cond f ((x ∷ []) ∷ (ended_lines xs ++ (unended_line xs ++ 10 ∷ []) ∷ [])) (onto_first x (ended_lines xs ++ (unended_line xs ++ 10 ∷ []) ∷ [])) ≡ cond f ((x ∷ []) ∷ ended_lines xs) (cond h (onto_first x (ended_lines xs)) []) ++ (cond (f || h) (unended_line xs) (x ∷ xs) ++ 10 ∷ []) ∷ []
closed_more true h x xs e = refl
closed_more false true x xs e = onto_append x (ended_lines xs) _ (ended_lines_any xs (sym e))
closed_more false false x xs e =
    let none = ended_lines_alone xs (sym e) in
    let all = unended_line_alone xs (sym e) in
    rw (none, all)

pub ended_lines_closed : (bytes : List ℕ) → ended_lines (bytes ++ 10 ∷ []) ≡ ended_lines bytes ++ (unended_line bytes ++ 10 ∷ []) ∷ []
unfolding unended_line ended_lines
ended_lines_closed [] = refl
ended_lines_closed (x ∷ xs) =
    let feed = feed_last xs in
    let more = ended_lines_closed xs in
    rw (feed, more) (closed_more (eqb x 10) (has_line_feed xs) x xs refl)
