-- How a sign and digits come to stand in ten columns. Assumes nothing.
use Rattle.std.proofs.Common.{◌≡◌, ℕ, suc, ◌+◌, ◌-◌, ◌/◌, ◌%◌, ◌^◌, ◌<◌, ◌≤◌, true, false, cond, T, List, ◌∷◌, ◌++◌, set, replicate, append_assoc, pow-suc, arith}
use native.Mathlib.Nat.{div-div-eq-div-mul}
use lib.ListN.{length-replicate}
use Rattle.std.proofs.lemmas.List.{set_at, replicate_more}
use Rattle.std.proofs.lemmas.Bool.Decides.{nat_tests}
use Rattle.line_format.specs.Columns.{last_digits}
use Rattle.line_format.specs.SignedDigits.{columns_of, text_columns, text_fits}
use Rattle.line_format.specs.declared.signed_digits.SignedDigits.{SignedDigits}
use Rattle.line_format.proofs.Digits.{length_kept}

-- a byte put into the last of the spaces
pub put_last : (a : ℕ) (xs : List ℕ) (b : ℕ) → set (replicate (a + 1) 32 ++ xs) a b ≡ replicate a 32 ++ (b ∷ xs)
put_last a xs b =
    rw (← replicate_more, append_assoc) (set_at (replicate a 32) 32 xs b a (length-replicate a 32))

-- one more digit, from the right
pub digit_more : (cs : List ℕ) (at v rest : ℕ) → 0 < at → at ≤ 10 → (cs ≡ replicate at 32 ++ last_digits (10 - at) v) × (rest ≡ v / 10 ^ (10 - at)) → (set cs (at - 1) (48 + rest % 10) ≡ replicate (at - 1) 32 ++ last_digits (10 - (at - 1)) v) × (rest / 10 ≡ v / 10 ^ (10 - (at - 1)))
digit_more cs at v rest p q (e, f) =
    let m : 10 - (at - 1) ≡ suc (10 - at) = omega arith in
    let n : at - 1 + 1 ≡ at = omega arith in
    let w : set (replicate at 32 ++ last_digits (10 - at) v) (at - 1) (48 + rest % 10) ≡ replicate (at - 1) 32 ++ ((48 + rest % 10) ∷ last_digits (10 - at) v) = rw n at (put_last (at - 1) (last_digits (10 - at) v) (48 + rest % 10)) in
    (rw (e, m, w, f), rw (m, f, pow-suc, div-div-eq-div-mul))

-- what fits
pub parts_of_fit : (t : SignedDigits) → T (text_fits t) → (t.value < 10 ^ t.digits) × (cond t.minus 1 0 + t.digits ≤ 10)
parts_of_fit t h = grind (arith, nat_tests)

-- the digits alone, and with a minus before them
pub placed_unsigned : (cs : List ℕ) (at : ℕ) (t : SignedDigits) → T (text_fits t) → t.minus ≡ false → at ≡ 10 - t.digits → cs ≡ replicate at 32 ++ last_digits (10 - at) t.value → cs ≡ text_columns t
unfolding columns_of
placed_unsigned cs at t fit e f g =
    let p = parts_of_fit t fit in
    let n : 10 - at ≡ t.digits = omega arith in
    rw (g, e, n, length_kept, f)

pub placed_signed : (cs : List ℕ) (at : ℕ) (t : SignedDigits) → T (text_fits t) → t.minus ≡ true → at ≡ 10 - t.digits → cs ≡ replicate at 32 ++ last_digits (10 - at) t.value → set cs (9 - t.digits) 45 ≡ text_columns t
unfolding columns_of
placed_signed cs at t fit e f g =
    let p : cond true 1 0 + t.digits ≤ 10 = rw e at (parts_of_fit t fit).1 in
    let n : 10 - at ≡ t.digits = omega arith in
    let k : at ≡ 9 - t.digits + 1 = omega arith in
    let l : 10 - suc t.digits ≡ 9 - t.digits = omega arith in
    rw (g, n, k, e, length_kept, l) (put_last (9 - t.digits) (last_digits t.digits t.value) 45)
