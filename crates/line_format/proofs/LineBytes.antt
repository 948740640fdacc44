-- A line joined from its parts. Assumes nothing.
use Rattle.std.proofs.Common.{◌≡◌, ℕ, zero, suc, ◌+◌, ◌*◌, ◌<◌, ◌≤◌, true, false, T, List, [], ◌∷◌, ◌++◌, length, get_or, take, Some, None, Ok, Err, Option, MatchOption, Result, sym, refl, ap, ◌∙◌, subst, append_assoc, arith}
use Rattle.std.specs.List.{flat_map}
use Rattle.std.proofs.lemmas.Bool.{and_left, and_right, and_from, and_parts, cond-false}
use Rattle.std.proofs.lemmas.Grind.{flat_map-append}
use Rattle.std.proofs.lemmas.List.{append-nil, take_more, take_all}
use Rattle.terms.specs.Answers.{Answers, accepted_since, refused_since}
use Rattle.terms.specs.declared.refusal.Refusal.{Refusal}
use Rattle.line_format.specs.Kind.{fits, columns}
use Rattle.terms.specs.ReadingType.{letter_of}
use Rattle.terms.specs.declared.reading_type.ReadingType.{ReadingType}
use Rattle.line_format.specs.Record.{Content, all_fit, letter_content, line_bytes, record_fits, blank_field, record_bytes, WritesField, WritesFields, WritesRecord}
use Rattle.line_format.specs.Tag.{tag_bytes}
use Rattle.line_format.specs.declared.tag.Tag.{Tag}
use Rattle.line_format.specs.declared.record.Record.{Record}

-- contents fit where they fit in two parts, and do not where one does not
fit_join : (cs ds : List Content) → all_fit cs ≡ true → all_fit ds ≡ true → all_fit (cs ++ ds) ≡ true
fit_join [] ds p q = q
fit_join (c ∷ cs) ds p q =
    let both = and_parts (fits c.kind c.value) (all_fit cs) p in
    and_from _ _ both.0 (fit_join cs ds both.1 q)

unfit_field : (cs : List Content) (i : ℕ) (rest : List Content) → i < length cs → fits (get_or cs i blank_field).kind (get_or cs i blank_field).value ≡ false → all_fit (cs ++ rest) ≡ false
unfit_field [] i rest h u = absurd (omega arith)
unfit_field (c ∷ cs) zero rest h u = and_left _ _ u
unfit_field (c ∷ cs) (suc i) rest h u = and_right (fits c.kind c.value) _ (unfit_field cs i rest (omega arith) u)

-- there are as many fields as contents, and each is written of its own
pub length_fields : (cs : List Content) (rs : List (Result (List ℕ) Refusal)) → WritesFields cs rs → length cs ≡ length rs
length_fields [] [] w = refl
length_fields [] (r ∷ rs) w = absurd w
length_fields (c ∷ cs) [] w = absurd w
length_fields (c ∷ cs) (r ∷ rs) w = ap suc (length_fields cs rs w.1)

pub field_written : (cs : List Content) (rs : List (Result (List ℕ) Refusal)) (i : ℕ) (d : Result (List ℕ) Refusal) → i < length rs → WritesFields cs rs → WritesField (get_or cs i blank_field) (get_or rs i d)
field_written [] [] i d h w = absurd (omega arith)
field_written [] (r ∷ rs) i d h w = absurd w
field_written (c ∷ cs) [] i d h w = absurd w
field_written (c ∷ cs) (r ∷ rs) zero d h w = w.0
field_written (c ∷ cs) (r ∷ rs) (suc i) d h w = field_written cs rs i d (omega arith) w.1

-- the columns of contents, one behind the other
abbrev contents_joined : List Content → List ℕ
contents_joined cs = flat_map (λ c. columns c.kind c.value) cs

-- a tag, and fields behind it
abbrev pub front : Tag → List Content → List ℕ
front t cs = tag_bytes t ++ contents_joined cs

-- the first bytes of a line are its tag and so many of its fields
pub record HasFront (t : Tag) (cs : List Content) (at : ℕ) (line : List ℕ) : Type 0 where
  pub within : at ≤ length cs
  pub fit : all_fit (take at cs) ≡ true
  pub bytes : take (4 + 10 * at) line ≡ front t (take at cs)

pub front_of_tag : (t : Tag) (cs : List Content) (tag line old : List ℕ) → tag ≡ tag_bytes t → length tag ≡ 4 → take (0 + length tag) line ≡ take 0 old ++ tag → HasFront t cs 0 line
front_of_tag t cs tag line old same four put =
    let first : take 4 line ≡ tag = rw four at put in
    record { within = omega arith; fit = refl; bytes = first ∙ same ∙ sym (append-nil (tag_bytes t)) }

pub front_of_field : (t : Tag) (cs : List Content) (at : ℕ) (part line old : List ℕ) → at < length cs → length part ≡ 10 → WritesField (get_or cs at blank_field) (Ok part) → HasFront t cs at old → take (4 + 10 * at + length part) line ≡ take (4 + 10 * at) old ++ part → HasFront t cs (at + 1) line
front_of_field t cs at part line old h ten w b put =
    let c : Content = get_or cs at blank_field in
    let more : take (at + 1) cs ≡ take at cs ++ (c ∷ []) = take_more cs at blank_field h in
    let w' = accepted_since part _ _ 3 w in
    let same = w'.1 in
    let fit : all_fit (take at cs ++ (c ∷ [])) ≡ true = fit_join (take at cs) (c ∷ []) b.fit (and_from _ _ w'.0 refl) in
    let front_more : front t (take (at + 1) cs) ≡ front t (take at cs) ++ part = rw (more, flat_map-append, same) (simp (append_assoc, append-nil)) in
    let end : 4 + 10 * (at + 1) ≡ 4 + 10 * at + length part = omega arith in
    record {
      within = omega arith;
      fit = rw more fit;
      bytes = rw end (put ∙ ap (λ xs. xs ++ part) b.bytes ∙ sym front_more);
    }

-- the letter's column
pub letter_written : (o : Option ReadingType) (byte : ℕ) → MatchOption o (byte ≡ 32) (λ t. byte ≡ letter_of t) → byte ∷ [] ≡ columns (letter_content o).kind (letter_content o).value
letter_written (Some t) byte e = ap (λ b. b ∷ []) e
letter_written None byte e = ap (λ b. b ∷ []) e

letter_fits : (o : Option ReadingType) → fits (letter_content o).kind (letter_content o).value ≡ true
letter_fits (Some t) = refl
letter_fits None = refl

-- a line whose fields are all written
pub line_written : (t : Tag) (cs : List Content) (o : Option ReadingType) (at : ℕ) (e : ℕ) (line old : List ℕ) → length line ≡ 46 → at ≡ 4 → length cs ≡ 4 → HasFront t cs at old → e ∷ [] ≡ columns (letter_content o).kind (letter_content o).value → take 46 line ≡ take 44 old ++ (e ∷ 10 ∷ []) → Answers (Ok line) (all_fit (cs ++ letter_content o ∷ [])) (line_bytes t (cs ++ letter_content o ∷ [])) 3
line_written t cs o at e line old long last four b letter put =
    let all : take at cs ≡ cs = take_all at cs (omega arith) in
    let full : 4 + 10 * at ≡ 44 = omega arith in
    let fields : take 44 old ≡ front t cs = rw (full, all) at b.bytes in
    let fit_fields : all_fit cs ≡ true = rw all at b.fit in
    let fit : all_fit (cs ++ letter_content o ∷ []) ≡ true = fit_join cs (letter_content o ∷ []) fit_fields (and_from _ _ (letter_fits o) refl) in
    let whole : take 46 line ≡ line = take_all 46 line (omega arith) in
    let joined : line ≡ front t cs ++ (e ∷ 10 ∷ []) = sym whole ∙ put ∙ ap (λ xs. xs ++ (e ∷ 10 ∷ [])) fields in
    let same : line ≡ line_bytes t (cs ++ letter_content o ∷ []) = joined ∙ rw (flat_map-append, ← letter) (simp append_assoc) in
    subst (λ x. Answers (Ok line) x (line_bytes t (cs ++ letter_content o ∷ [])) 3) (sym fit) same

-- a field that does not fit refuses the line
pub field_unfit : (t : Tag) (cs : List Content) (o : Option ReadingType) (at : ℕ) (e : Refusal) → at < length cs → WritesField (get_or cs at blank_field) (Err e) → Answers (Err e) (all_fit (cs ++ letter_content o ∷ [])) (line_bytes t (cs ++ letter_content o ∷ [])) 3
field_unfit t cs o at e h q =
    let down = refused_since e _ _ 3 q in
    let unfit : all_fit (cs ++ letter_content o ∷ []) ≡ false = unfit_field cs at (letter_content o ∷ []) h down.0 in
    subst (λ x. Answers (Err e) x (line_bytes t (cs ++ letter_content o ∷ [])) 3) (sym unfit) down.1

-- and the buffer is as it was
pub unfit_unwritten : (x : Record) (buffer : List ℕ) (e : Refusal) → Answers (Err e) (record_fits x) (record_bytes x) 3 → WritesRecord x buffer buffer (Err e)
unfit_unwritten x buffer e q =
    let down = refused_since e (record_fits x) _ 3 q in
    (down.1 ∙ sym (cond-false (record_fits x) 15 3 down.0), λ h. absurd (subst T down.0 h), refl)
