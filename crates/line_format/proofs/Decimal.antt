-- A number as it is printed is its digits with no leading zero. Assumes nothing.
use Rattle.std.proofs.Common.{◌≡◌, ℕ, zero, suc, ◌+◌, ◌-◌, ◌*◌, ◌/◌, ◌%◌, ◌^◌, ◌<◌, ◌≤◌, true, ◌⊎◌, List, [], ◌∷◌, ◌++◌, length, Some, None, Option, IfSome, IfNone, unwrap_or, decimal, sym, refl, ap, ◌∙◌, ⊎_elim, add-one, arith, lit<}
use native.Mathlib.Nat.{pow-succ', pow-le-pow_right}
use Rattle.std.proofs.lemmas.Fmt.{decimal_by_steps, decimal_digit, decimal_step}
use Rattle.std.proofs.lemmas.List.{length_push}
use Rattle.std.proofs.lemmas.Bool.{cases_order}
use Rattle.std.proofs.lemmas.Bool.Decides.{nat_tests}
use Rattle.line_format.specs.Columns.{last_digits}
use Rattle.line_format.specs.SignedDigits.{has_no_leading_zero}
use Rattle.line_format.proofs.Digits.{kept_push}

pub length_one : (n : ℕ) → n < 10 → length (decimal n) ≡ 1
length_one n h = ap length (decimal_digit n h)

pub length_more : (n : ℕ) → 10 ≤ n → n < 2 ^ 64 → length (decimal n) ≡ length (decimal (n / 10)) + 1
length_more n h f = ap length (decimal_step n h f) ∙ length_push _ _

-- ds is the digits of n, with no leading zero
pub record Shown (n : ℕ) (ds : List ℕ) : Type 0 where
  pub digits : ds ≡ last_digits (length ds) n
  pub below : n < 10 ^ length ds
  pub no_zero : has_no_leading_zero (length ds) n ≡ true

shown_one : (n : ℕ) → n < 10 → Shown n ((48 + n) ∷ [])
shown_one n h =
    let e : 48 + n ≡ 48 + n / 1 % 10 = omega arith in
    record { digits = ap (λ x. x ∷ []) e; below = h; no_zero = refl }

plain_told : (k n : ℕ) → has_no_leading_zero k n ≡ true → (k ≡ 1) ⊎ ((1 < k) × (10 ^ (k - 1) ≤ n))
plain_told k n e = grind (arith, nat_tests)

plain_by : (k n : ℕ) → 1 < k → 10 ^ (k - 1) ≤ n → has_no_leading_zero k n ≡ true
plain_by k n h e = grind (arith, nat_tests)

plain_more : (k n : ℕ) → 10 ≤ n → has_no_leading_zero k (n / 10) ≡ true → has_no_leading_zero (suc k) n ≡ true
plain_more k n h e =
    ⊎_elim
    (λ one. plain_by (suc k) n (omega arith) (let p : suc k - 1 ≡ 1 = omega arith in rw p h))
    (λ more.
    let p : suc k - 1 ≡ suc (k - 1) = omega arith in
    let l = more.1 in
    plain_by (suc k) n (omega arith) (rw (p, pow-succ') (omega arith)))
    (plain_told k (n / 10) e)

shown_more : (n : ℕ) (ds : List ℕ) → 10 ≤ n → Shown (n / 10) ds → Shown n (ds ++ ((48 + n % 10) ∷ []))
shown_more n ds h s =
    let l : length (ds ++ ((48 + n % 10) ∷ [])) ≡ suc (length ds) = length_push ds (48 + n % 10) ∙ add-one (length ds) in
    let m : 10 * (n / 10) + n % 10 ≡ n = omega arith in
    let p : last_digits (suc (length ds)) n ≡ last_digits (length ds) (n / 10) ++ ((48 + n % 10) ∷ []) = rw m at (kept_push (length ds) (n / 10) (n % 10) (omega arith)) in
    let b = s.below in
    record {
      digits = rw (l, p) (ap (λ xs. xs ++ ((48 + n % 10) ∷ [])) s.digits);
      below = rw (l, pow-succ') (omega arith);
      no_zero = rw l (plain_more (length ds) n h s.no_zero);
    }

pub shown : (n : ℕ) → n < 2 ^ 64 → Shown n (decimal n)
shown n h = decimal_by_steps Shown shown_one shown_more n h

fewer : (j k n : ℕ) → j < k → n < 10 ^ j → has_no_leading_zero j n ≡ true → has_no_leading_zero k n ≡ true → ⊥
fewer j k n l p e f =
    let some : 0 < j = ⊎_elim (λ one. omega arith) (λ more. omega arith) (plain_told j n e) in
    ⊎_elim
    (λ one. omega arith)
    (λ more. let m : 10 ^ j ≤ 10 ^ (k - 1) = pow-le-pow_right (lit< tt) (omega arith) in let b = more.1 in omega arith)
    (plain_told k n f)

-- there is one such number of digits
pub digits_unique : (j k n : ℕ) → n < 10 ^ j → n < 10 ^ k → has_no_leading_zero j n ≡ true → has_no_leading_zero k n ≡ true → j ≡ k
digits_unique j k n p q e f =
    ⊎_elim (λ same. same) (⊎_elim (λ l. absurd (fewer j k n l p e f)) (λ l. absurd (fewer k j n l q f e))) (cases_order j k)

-- one digit more than the power of ten that a number reaches
power_reached : (k n : ℕ) → n < 2 ^ 64 → 10 ^ k ≤ n → n < 10 * 10 ^ k → length (decimal n) ≡ k + 1
power_reached zero n small low high = length_one n (omega arith)
power_reached (suc k) n small low high =
    let s = shown n small in
    let below : n < 10 ^ suc (suc k) = rw pow-succ' (omega arith) in
    let before : suc (suc k) - 1 ≡ suc k = omega arith in
    digits_unique _ _ n s.below below s.no_zero (plain_by (suc (suc k)) n (omega arith) (rw before low)) ∙ sym (add-one (suc k))

pub counted : (n : ℕ) (log : Option ℕ) → n < 2 ^ 64 → IfNone log (n ≡ 0) → IfSome log (λ k. 10 ^ k ≤ n) → IfSome log (λ k. n < 10 * 10 ^ k) → unwrap_or log 0 + 1 ≡ length (decimal n)
counted n None small none low high = sym (length_one n (omega arith))
counted n (Some k) small none low high = sym (power_reached k n small low high)
