-- Laws of the digits of a number. Assumes nothing.
use Rattle.std.proofs.Common.{◌≡◌, ℕ, zero, suc, ◌+◌, ◌-◌, ◌*◌, ◌/◌, ◌%◌, ◌^◌, ◌<◌, ◌≤◌, List, [], ◌∷◌, ◌++◌, length, get_or, take, sym, refl, ap, ◌∙◌, mod-eq_of_lt, add-one, arith, lit<}
use native.Mathlib.Nat.{one-le-pow, pow-succ', div-div-eq-div-mul}
use lib.Arith.{mod-mul}
use Rattle.std.specs.Char.{IsAsciiDigit, IsNotAsciiDigit}
use Rattle.std.proofs.lemmas.List.{take_more}
use Rattle.line_format.specs.Columns.{last_digits}

pub length_kept : (k n : ℕ) → length (last_digits k n) ≡ k
length_kept zero n = refl
length_kept (suc k) n = ap suc (length_kept k n)

pub ten_pos : (k : ℕ) → 0 < 10 ^ k
ten_pos k = one-le-pow k 10 (lit< tt)

-- one more digit at the end
pub kept_push : (k n d : ℕ) → d < 10 → last_digits (suc k) (10 * n + d) ≡ last_digits k n ++ ((48 + d) ∷ [])
kept_push zero n d h =
    let e : 48 + (10 * n + d) / 1 % 10 ≡ 48 + d = omega arith in
    ap (λ x. x ∷ []) e
kept_push (suc k) n d h =
    let e : (10 * n + d) / 10 ≡ n = omega arith in
    let f : (10 * n + d) / 10 ^ suc k ≡ n / 10 ^ k = rw (pow-succ', ← div-div-eq-div-mul, e) in
    let r = kept_push k n d h in
    rw (f, r)

-- each is a digit
pub kept_digit : (k n i : ℕ) → i < k → (48 ≤ get_or (last_digits k n) i 0) × (get_or (last_digits k n) i 0 ≤ 57)
kept_digit zero n i h = absurd (omega arith)
kept_digit (suc k) n zero h = (omega arith, omega arith)
kept_digit (suc k) n (suc i) h = kept_digit k n i (omega arith)

-- they tell the number
pub kept_tells : (k m n : ℕ) → last_digits k m ≡ last_digits k n → m % 10 ^ k ≡ n % 10 ^ k
kept_tells zero m n e = omega arith
kept_tells (suc k) m n e =
    let p = ten_pos k in
    let a : 48 + m / 10 ^ k % 10 ≡ 48 + n / 10 ^ k % 10 = cc in
    let b : m / 10 ^ k % 10 ≡ n / 10 ^ k % 10 = omega arith in
    let r : last_digits k m ≡ last_digits k n = cc in
    let t = kept_tells k m n r in
    let ten : 0 < 10 = lit< tt in
    rw (pow-succ', mod-mul m ten p, b, t, mod-mul n ten p)

pub same_from_kept : (k m n : ℕ) → m < 10 ^ k → n < 10 ^ k → last_digits k m ≡ last_digits k n → m ≡ n
same_from_kept k m n p q e = sym (mod-eq_of_lt p) ∙ kept_tells k m n e ∙ mod-eq_of_lt q

-- one more digit read
pub read_more : (xs : List ℕ) (i v d : ℕ) → i < length xs → IsAsciiDigit (get_or xs i 0) → d ≡ get_or xs i 0 - 48 → (v < 10 ^ i) × (take i xs ≡ last_digits i v) → (10 * v + d < 10 ^ (i + 1)) × (take (i + 1) xs ≡ last_digits (i + 1) (10 * v + d))
read_more xs i v d h digit e inv =
    let ten : d < 10 = omega arith in
    let byte : get_or xs i 0 ≡ 48 + d = omega arith in
    let old = inv.1 in
    let new = take_more xs i 0 h in
    let push = kept_push i v d ten in
    (rw (add-one, pow-succ') (omega arith), rw (new, byte, old, add-one) (sym push))

-- where a byte is no digit, the bytes are the digits of no number
pub no_digits : (xs : List ℕ) (i : ℕ) → i < length xs → IsNotAsciiDigit (get_or xs i 0) → (v : ℕ) → xs ≡ last_digits (length xs) v → ⊥
no_digits xs i h out v e =
    let d = kept_digit (length xs) v i h in
    let f : get_or xs i 0 ≡ get_or (last_digits (length xs) v) i 0 = ap (λ l. get_or l i 0) e in
    omega arith
