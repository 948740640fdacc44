-- A field is cut at its spaces and its minus in one way. Assumes nothing.
use Rattle.std.proofs.Common.{◌≡◌, ℕ, zero, suc, ◌+◌, ◌-◌, ◌^◌, ◌<◌, ◌≤◌, Bool, true, false, cond, ◌&&◌, T, eqb, ltb, leb, List, ◌++◌, length, get_or, take, drop, replicate, sym, refl, ap, ◌∙◌, add-zero, arith, ltb→lt, lt→ltb, length-append, length-drop, get_or-drop}
use lib.ListN.{length-replicate}
use mir.Val.{bool_byte}
use Rattle.std.proofs.lemmas.List.{append_cancel_left, take_all, drop_more, get_or_past}
use Rattle.std.proofs.lemmas.Bool.{eqb-true}
use Rattle.std.proofs.lemmas.Bool.Decides.{nat_tests}
use Rattle.line_format.specs.Columns.{last_digits}
use Rattle.line_format.specs.SignedDigits.{sign, columns_of, text_columns, text_fits}
use Rattle.line_format.specs.declared.signed_digits.SignedDigits.{SignedDigits}
use Rattle.line_format.proofs.Digits.{length_kept, same_from_kept}
use Rattle.line_format.proofs.Spaces.{spaces_apart}
use Rattle.line_format.proofs.DigitColumns.{parts_of_fit}

-- how wide a sign is
abbrev pub width : Bool → ℕ
width m = cond m 1 0

pub length_signed : (m : Bool) (d v : ℕ) → length (sign m ++ last_digits d v) ≡ width m + d
length_signed true d v = rw length_kept (omega arith)
length_signed false d v = rw length_kept (omega arith)

pub length_columns : (t : SignedDigits) → T (text_fits t) → length (text_columns t) ≡ 10
unfolding columns_of
length_columns t h =
    let p = parts_of_fit t h in
    let text : List ℕ = sign t.minus ++ last_digits t.digits t.value in
    rw (length-append (replicate (10 - length text) 32) text, length-replicate, length_signed) (omega arith)

-- the first byte behind the spaces is no space, and a minus just where there is a sign
pub no_space : (m : Bool) (d v : ℕ) → get_or (sign m ++ last_digits d v) 0 0 ≡ 32 → ⊥
no_space true d v e = omega arith
no_space false zero v e = omega arith
no_space false (suc d) v e = omega arith

pub sign_told : (m : Bool) (d v : ℕ) → eqb (get_or (sign m ++ last_digits d v) 0 0) 45 ≡ m
sign_told true d v = refl
sign_told false zero v = refl
sign_told false (suc d) v = grind (arith, nat_tests)

-- a sign can be told from what follows it
pub sign_apart : (m n : Bool) (d v : ℕ) (rest : List ℕ) → m ≡ eqb (get_or (sign m ++ rest) 0 0) 45 → sign m ++ rest ≡ sign n ++ last_digits d v → (m ≡ n) × (rest ≡ last_digits d v)
sign_apart m n d v rest told e =
    let same : m ≡ n = told ∙ ap (λ l. eqb (get_or l 0 0) 45) e ∙ sign_told n d v in
    (same, append_cancel_left (sign n) rest (last_digits d v) (rw same at e))

-- a text can be told from its columns
pub same_text : (t u : SignedDigits) → T (text_fits t) → T (text_fits u) → text_columns t ≡ text_columns u → t ≡ u
unfolding columns_of
same_text t u p q e =
    let a = spaces_apart _ _ _ _ (no_space t.minus t.digits t.value) (no_space u.minus u.digits u.value) e in
    let b = sign_apart t.minus u.minus u.digits u.value (last_digits t.digits t.value) (sym (sign_told t.minus t.digits t.value)) a.1 in
    let d : t.digits ≡ u.digits = sym (length_kept t.digits t.value) ∙ ap length b.1 ∙ length_kept u.digits u.value in
    let v = same_from_kept u.digits t.value u.value (rw d at (parts_of_fit t p).0) (parts_of_fit u q).0 (rw d at b.1) in
    λ i. record { minus = b.0 i; digits = d i; value = v i }

-- ten columns cut behind their spaces and their minus
pub record Cut (cs : List ℕ) (s : ℕ) (m : Bool) : Type 0 where
  pub ten : length cs ≡ 10
  pub within : s ≤ 10
  pub front : cs ≡ replicate s 32 ++ drop s cs
  pub past : get_or cs s 0 ≡ 32 → ⊥
  pub told : m ≡ eqb (get_or (drop s cs) 0 0) 45

first_byte : (cs : List ℕ) (s : ℕ) → get_or (drop s cs) 0 0 ≡ get_or cs s 0
first_byte cs s = rw (get_or-drop, add-zero)

-- what follows the spaces
signed_rest : (cs : List ℕ) (s : ℕ) (m : Bool) → m ≡ eqb (get_or (drop s cs) 0 0) 45 → drop s cs ≡ sign m ++ drop (s + width m) cs
signed_rest cs s true told =
    let minus : get_or cs s 0 ≡ 45 = rw first_byte at (eqb-true _ _ (sym told)) in
    let inside : s < length cs = grind (arith, get_or_past cs s 0) in
    rw (drop_more cs s 0 inside, minus)
signed_rest cs s false told = rw add-zero

pub start_within : (cs : List ℕ) (s : ℕ) (m : Bool) → Cut cs s m → s + width m ≤ 10
start_within cs s true cut =
    let minus : get_or cs s 0 ≡ 45 = rw first_byte at (eqb-true _ _ (sym cut.told)) in
    let inside : s < length cs = grind (arith, get_or_past cs s 0) in
    omega arith
start_within cs s false cut = omega (arith, cut.within)

-- digits in the rest are a text
pub text_found : (cs : List ℕ) (s : ℕ) (m : Bool) (d v : ℕ) → Cut cs s m → d ≡ 10 - (s + width m) → v < 10 ^ d → drop (s + width m) cs ≡ last_digits d v → T (ltb v (10 ^ d) && leb (width m + d) 10) × (cs ≡ columns_of m d v)
unfolding columns_of
text_found cs s m d v cut e p q =
    let w = start_within cs s m cut in
    let rest : drop s cs ≡ sign m ++ last_digits d v = signed_rest cs s m cut.told ∙ ap (λ l. sign m ++ l) q in
    let spaces : 10 - (width m + d) ≡ s = omega arith in
    (grind (arith, nat_tests), cut.front ∙ rw (rest, length_signed, spaces))

-- and where there is a text, the rest is its digits
pub text_lost : (cs : List ℕ) (s : ℕ) (m : Bool) (t : SignedDigits) → Cut cs s m → cs ≡ text_columns t → drop (s + width m) cs ≡ last_digits t.digits t.value
unfolding columns_of
text_lost cs s m t cut e =
    let h : get_or (drop s cs) 0 0 ≡ 32 → ⊥ = rw first_byte cut.past in
    let a = spaces_apart _ _ _ _ h (no_space t.minus t.digits t.value) (sym cut.front ∙ e) in
    let r = signed_rest cs s m cut.told in
    (sign_apart m t.minus t.digits t.value (drop (s + width m) cs) (rw r at cut.told) (sym r ∙ a.1)).1

-- as the code cuts: a part of ten columns from a place to their end
abbrev pub tail : List ℕ → ℕ → List ℕ
tail cs a = take (10 - a) (drop a cs)

tail_is : (cs : List ℕ) (a : ℕ) → length cs ≡ 10 → tail cs a ≡ drop a cs
tail_is cs a ten = take_all (10 - a) (drop a cs) (simp length-drop (omega arith))

pub cut_at : (cs : List ℕ) (s : ℕ) (m : Bool) → length cs ≡ 10 → s ≤ length cs → cs ≡ replicate s 32 ++ drop s cs → (get_or cs s 0 ≡ 32 → ⊥) → m ≡ eqb (get_or (tail cs s) 0 0) 45 → Cut cs s m
cut_at cs s m ten within front past told =
    record { ten = ten; within = omega arith; front = front; past = past; told = rw tail_is at told }

width_is : (m : Bool) → bool_byte m ≡ width m
width_is true = refl
width_is false = refl

pub scan_found : (cs : List ℕ) (s : ℕ) (m : Bool) (u v : ℕ) → Cut cs s m → u ≡ bool_byte m → T (ltb v (10 ^ length (tail cs (s + u)))) × (tail cs (s + u) ≡ last_digits (length (tail cs (s + u))) v) → T (ltb v (10 ^ (10 - (s + u))) && leb (width m + (10 - (s + u))) 10) × (cs ≡ columns_of m (10 - (s + u)) v)
scan_found cs s m u v cut e p =
    let n : tail cs (s + u) ≡ drop (s + u) cs = tail_is cs (s + u) cut.ten in
    let w : u ≡ width m = e ∙ width_is m in
    let k : length (drop (s + u) cs) ≡ 10 - (s + u) = rw (length-drop, cut.ten) in
    let q = rw (n, k) at p in
    text_found cs s m (10 - (s + u)) v cut (rw w) (ltb→lt _ _ q.0) (rw (← w) q.1)

pub scan_lost : (cs : List ℕ) (s : ℕ) (m : Bool) (u : ℕ) (t : SignedDigits) → Cut cs s m → u ≡ bool_byte m → T (text_fits t) → cs ≡ text_columns t → T (ltb t.value (10 ^ length (tail cs (s + u)))) × (tail cs (s + u) ≡ last_digits (length (tail cs (s + u))) t.value)
scan_lost cs s m u t cut e h f =
    let w : u ≡ width m = e ∙ width_is m in
    let n : tail cs (s + u) ≡ drop (s + u) cs = tail_is cs (s + u) cut.ten in
    let d : tail cs (s + u) ≡ last_digits t.digits t.value = n ∙ rw w (text_lost cs s m t cut f) in
    let k : length (tail cs (s + u)) ≡ t.digits = ap length d ∙ length_kept t.digits t.value in
    rw k (lt→ltb _ _ (parts_of_fit t h).0, d)
