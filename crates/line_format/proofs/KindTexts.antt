-- Each kind of field holds texts of one sort. Assumes nothing.
use Rattle.std.proofs.Common.{◌≡◌, ℕ, zero, suc, ◌+◌, ◌-◌, ◌^◌, ◌<◌, ◌≤◌, Bool, true, false, cond, not, ◌&&◌, T, eqb, ◌++◌, length, ℤ, pos, negsuc, neg_ℤ, nat_abs, ◌≤ℤ◌, Some, None, Option, is_some, IfSome, decimal, sym, refl, ap, ◌∙◌, subst, arith, lit<, ltb→lt, lt→ltb}
use native.Mathlib.Nat.{pow-le-pow_right}
use lib.Dec.{leb-suc-zero}
use lib.Signed.{lt_z, le_z, le_z_yes}
use Rattle.std.specs.Bool.{then_some}
use Rattle.std.proofs.lemmas.Int.{ints}
use Rattle.std.proofs.lemmas.Fmt.{length-decimal-le}
use Rattle.std.proofs.lemmas.Bool.{both_ways, lt-ltb, and_parts, and_from, not-true, eqb-true, false≢true}
use Rattle.std.proofs.lemmas.Bool.Decides.{nat_tests}
use Rattle.line_format.specs.Kind.{Kind, Value, fits, columns, number, signed, date, blank}
use Rattle.line_format.specs.Columns.{right_aligned, number_columns, signed_columns, date_columns, blank_columns, number_fits, signed_fits, date_fits}
use Rattle.line_format.specs.SignedDigits.{sign, columns_of, text_columns, text_fits, has_no_leading_zero, of_number, is_number, is_signed, signed_value, is_eight_digits, of_date, is_blank, no_digits}
use Rattle.line_format.specs.FieldValue.{ReadsText}
use Rattle.line_format.specs.declared.signed_digits.SignedDigits.{SignedDigits}
use Rattle.line_format.specs.declared.field_text.FieldText.{FieldText}
use Rattle.line_format.proofs.DigitColumns.{parts_of_fit}
use Rattle.line_format.proofs.Decimal.{shown, digits_unique}
use Rattle.line_format.proofs.FieldCuts.{length_columns, same_text}

-- what is written of a value that fits is the columns of a text of the sort, and each text of the sort is of such a value
pub record Sort (k : Kind) (sort : SignedDigits → Bool) (value : SignedDigits → Value k) (text : Value k → SignedDigits) : Type 0 where
  pub room : (x : Value k) → T (fits k x) → T (text_fits (text x))
  pub written : (x : Value k) → T (fits k x) → columns k x ≡ text_columns (text x)
  pub sorted : (x : Value k) → T (fits k x) → sort (text x) ≡ true
  pub back : (x : Value k) → value (text x) ≡ x
  pub found : (t : SignedDigits) → T (text_fits t) → sort t ≡ true → T (fits k (value t)) × (text_columns t ≡ columns k (value t))

module _ {k : Kind} {sort : SignedDigits → Bool} {value : SignedDigits → Value k} {text : Value k → SignedDigits} (s : Sort k sort value text) where
  -- a text of the sort is the writing of its value
  pub of_sort : {X : Type 0} (value_of : X → Value k) (t : FieldText) (x : X) → true ≡ sort t.text → value_of x ≡ value t.text → ReadsText k value_of t (Some x)
  of_sort value_of t x e same =
      subst (λ y. T (fits k y) × (text_columns t.text ≡ columns k y)) (sym same) (s.found t.text t.fits (sym e))

  -- a text of another sort is the writing of nothing
  pub other_sort : {X : Type 0} (value_of : X → Value k) (t : FieldText) → false ≡ sort t.text → ReadsText k value_of t None
  other_sort value_of t other =
      λ x h e.
      let same : t.text ≡ text x = same_text t.text (text x) t.fits (s.room x h) (e ∙ s.written x h) in
      both_ways (sort t.text) (sym other) (ap sort same ∙ s.sorted x h)

  pub by_sort : {X : Type 0} (value_of : X → Value k) (t : FieldText) (b : Bool) (x : X) (r : Option X) → b ≡ sort t.text → value_of x ≡ value t.text → r ≡ then_some b x → ReadsText k value_of t r
  by_sort value_of t true x r e same is = subst (ReadsText k value_of t) (sym is) (of_sort value_of t x e same)
  by_sort value_of t false x r e same is = subst (ReadsText k value_of t) (sym is) (other_sort value_of t e)

  pub by_test : {X : Type 0} (value_of : X → Value k) (t : FieldText) (b : Bool) (r : Option X) → b ≡ sort t.text → is_some r ≡ b → IfSome r (λ x. value_of x ≡ value t.text) → ReadsText k value_of t r
  by_test value_of t b (Some x) e some same = of_sort value_of t x (some ∙ e) same
  by_test value_of t b None e some same = other_sort value_of t (some ∙ e)

  -- a value that fits is written as its text, which ten columns hold
  pub has_room : (x : Value k) (t : SignedDigits) → fits k x ≡ true → t ≡ text x → T (text_fits t)
  has_room x t e same = subst (λ u. T (text_fits u)) (sym same) (s.room x (subst T (sym e) tt))

  pub written_as : (x : Value k) (t : SignedDigits) → fits k x ≡ true → t ≡ text x → (fits k x ≡ true) × (text_columns t ≡ columns k x)
  written_as x t e same = (e, ap text_columns same ∙ sym (s.written x (subst T (sym e) tt)))

  pub stands : (x : Value k) → T (fits k x) → (t : SignedDigits) × T (text_fits t) × (columns k x ≡ text_columns t)
  stands x h = (text x, s.room x h, s.written x h)

  -- what is written has ten columns, and tells the value
  pub ten_columns : (x : Value k) → T (fits k x) → length (columns k x) ≡ 10
  ten_columns x h = ap length (s.written x h) ∙ length_columns (text x) (s.room x h)

  pub same_from_columns : (x y : Value k) → T (fits k x) → T (fits k y) → columns k x ≡ columns k y → x ≡ y
  same_from_columns x y h j e =
      let same : text x ≡ text y = same_text (text x) (text y) (s.room x h) (s.room y j) (sym (s.written x h) ∙ e ∙ s.written y j) in
      sym (s.back x) ∙ ap value same ∙ s.back y

-- a text has at most ten digits
small_value : (t : SignedDigits) → T (text_fits t) → t.value < 10 ^ 10
small_value t room =
    let p = parts_of_fit t room in
    let value = p.0 in
    let digits : t.digits ≤ 10 = omega arith in
    let more : 10 ^ t.digits ≤ 10 ^ 10 = pow-le-pow_right (lit< tt) digits in
    omega arith

-- the text of a number with no leading zero
plain_room : (m : Bool) (k n : ℕ) → 0 < k → cond m 1 0 + k ≤ 10 → n < 10 ^ k → n < 2 ^ 64 → T (text_fits (of_number m n))
plain_room m k n some room small fits =
    let below = (shown n fits).below in
    let long = length-decimal-le k n some small fits in
    let wide : cond m 1 0 + length (decimal n) ≤ 10 = omega arith in
    grind (arith, nat_tests)

plain_columns : (m : Bool) (n : ℕ) → n < 2 ^ 64 → right_aligned (sign m ++ decimal n) ≡ text_columns (of_number m n)
unfolding columns_of
plain_columns m n h = ap (λ ds. right_aligned (sign m ++ ds)) (shown n h).digits

plain_found : (t : SignedDigits) → T (text_fits t) → has_no_leading_zero t.digits t.value ≡ true → t ≡ of_number t.minus t.value
plain_found t room e =
    let p = parts_of_fit t room in
    let small = small_value t room in
    let s = shown t.value (omega arith) in
    let d : t.digits ≡ length (decimal t.value) = digits_unique _ _ t.value p.0 s.below e s.no_zero in
    λ i. record { minus = t.minus; digits = d i; value = t.value }

-- what a text with no leading zero holds at most
plain_small : (m : Bool) (v : ℕ) → T (text_fits (of_number m v)) → v < 10 ^ (10 - cond m 1 0)
plain_small m v room =
    let p = parts_of_fit (of_number m v) room in
    let value = p.0 in
    let digits : length (decimal v) ≤ 10 - cond m 1 0 = omega (arith, p.1) in
    let more : 10 ^ length (decimal v) ≤ 10 ^ (10 - cond m 1 0) = pow-le-pow_right (lit< tt) digits in
    omega arith

-- a number
pub number_room : (n : ℕ) → T (number_fits n) → T (text_fits (of_number false n))
number_room n h =
    let p = ltb→lt n (10 ^ 10) h in
    plain_room false 10 n (omega arith) (omega arith) p (omega arith)

pub number_same : (n : ℕ) → T (number_fits n) → number_columns n ≡ text_columns (of_number false n)
unfolding number_columns
number_same n h = let p = ltb→lt n (10 ^ 10) h in plain_columns false n (omega arith)

number_sorted : (n : ℕ) → T (number_fits n) → has_no_leading_zero (length (decimal n)) n ≡ true
number_sorted n h = let p = ltb→lt n (10 ^ 10) h in (shown n (omega arith)).no_zero

number_found : (t : SignedDigits) → T (text_fits t) → is_number t ≡ true → T (number_fits t.value) × (text_columns t ≡ number_columns t.value)
number_found t room e =
    let p = and_parts (not t.minus) (has_no_leading_zero t.digits t.value) e in
    let fit = lt→ltb t.value (10 ^ 10) (small_value t room) in
    let unsigned = not-true t.minus p.0 in
    (fit, ap text_columns (plain_found t room p.1) ∙ ap (λ m. text_columns (of_number m t.value)) unsigned ∙ sym (number_same t.value fit))

pub number_sort : Sort number is_number (λ t. t.value) (of_number false)
number_sort = record {
  room = number_room;
  written = number_same;
  sorted = number_sorted;
  back = λ n. refl;
  found = number_found;
}

-- a number with its sign
pub signed_plain : ℤ → SignedDigits
signed_plain (pos n) = of_number false n
signed_plain (negsuc n) = of_number true (suc n)

pub signed_plain_is : (z : ℤ) → of_number (lt_z z (pos 0)) (nat_abs z) ≡ signed_plain z
unfolding signed_plain
signed_plain_is (pos n) = ap (λ m. of_number m n) (leb-suc-zero n)
signed_plain_is (negsuc n) = refl

within_limits : (z : ℤ) → negsuc 999999998 ≤ℤ z → z ≤ℤ pos 9999999999 → signed_fits z ≡ true
within_limits (pos n) low high = lt-ltb n (10 ^ 10) (omega (arith, ints))
within_limits (negsuc n) low high = lt-ltb (suc n) (10 ^ 9) (omega (arith, ints))

pub signed_limits : (z : ℤ) → true ≡ (le_z (negsuc 999999998) z && le_z z (pos 9999999999)) → signed_fits z ≡ true
signed_limits z e =
    let parts = and_parts (le_z (negsuc 999999998) z) (le_z z (pos 9999999999)) (sym e) in
    within_limits z (le_z_yes (rw parts.0 tt)) (le_z_yes (rw parts.1 tt))

pub signed_room : (z : ℤ) → T (signed_fits z) → T (text_fits (signed_plain z))
unfolding signed_plain
signed_room (pos n) h = number_room n h
signed_room (negsuc n) h =
    let p = ltb→lt (suc n) (10 ^ 9) h in
    plain_room true 9 (suc n) (omega arith) (omega arith) p (omega arith)

pub signed_same : (z : ℤ) → T (signed_fits z) → signed_columns z ≡ text_columns (signed_plain z)
unfolding signed_columns signed_plain
signed_same (pos n) h = let p = ltb→lt n (10 ^ 10) h in plain_columns false n (omega arith)
signed_same (negsuc n) h = let p = ltb→lt (suc n) (10 ^ 9) h in plain_columns true (suc n) (omega arith)

signed_sorted : (z : ℤ) → T (signed_fits z) → is_signed (signed_plain z) ≡ true
unfolding signed_plain
signed_sorted (pos n) h = and_from _ _ (number_sorted n h) refl
signed_sorted (negsuc n) h =
    let p = ltb→lt (suc n) (10 ^ 9) h in
    and_from _ _ (shown (suc n) (omega arith)).no_zero (grind (arith, nat_tests))

signed_back : (z : ℤ) → signed_value (signed_plain z) ≡ z
unfolding signed_plain
signed_back (pos n) = refl
signed_back (negsuc n) = refl

found_at : (m : Bool) (v : ℕ) → T (text_fits (of_number m v)) → not (m && eqb v 0) ≡ true → T (signed_fits (cond m (neg_ℤ (pos v)) (pos v))) × (text_columns (of_number m v) ≡ signed_columns (cond m (neg_ℤ (pos v)) (pos v)))
unfolding signed_plain
found_at false v room e =
    let fit = lt→ltb v (10 ^ 10) (plain_small false v room) in
    (fit, sym (signed_same (pos v) fit))
found_at true zero room e = absurd (false≢true e)
found_at true (suc n) room e =
    let fit = lt→ltb (suc n) (10 ^ 9) (plain_small true (suc n) room) in
    (fit, sym (signed_same (negsuc n) fit))

signed_found : (t : SignedDigits) → T (text_fits t) → is_signed t ≡ true → T (signed_fits (signed_value t)) × (text_columns t ≡ signed_columns (signed_value t))
signed_found t room e =
    let p = and_parts (has_no_leading_zero t.digits t.value) (not (t.minus && eqb t.value 0)) e in
    let same = plain_found t room p.0 in
    let q = found_at t.minus t.value (subst (λ u. T (text_fits u)) same room) p.1 in
    (q.0, ap text_columns same ∙ q.1)

pub signed_sort : Sort signed is_signed signed_value signed_plain
signed_sort = record {
  room = signed_room;
  written = signed_same;
  sorted = signed_sorted;
  back = signed_back;
  found = signed_found;
}

-- a date
pub date_room : (n : ℕ) → T (date_fits n) → T (text_fits (of_date n))
date_room n h = grind (arith, nat_tests)

pub date_same : (n : ℕ) → date_columns n ≡ text_columns (of_date n)
unfolding date_columns columns_of
date_same n = refl

date_found : (t : SignedDigits) → T (text_fits t) → is_eight_digits t ≡ true → T (date_fits t.value) × (text_columns t ≡ date_columns t.value)
date_found t room e =
    let p = and_parts (not t.minus) (eqb t.digits 8) e in
    let unsigned = not-true t.minus p.0 in
    let eight = eqb-true t.digits 8 p.1 in
    let same : t ≡ of_date t.value = λ i. record { minus = unsigned i; digits = eight i; value = t.value } in
    let fit = parts_of_fit (of_date t.value) (subst (λ u. T (text_fits u)) same room) in
    (lt→ltb t.value (10 ^ 8) fit.0, ap text_columns same ∙ sym (date_same t.value))

pub date_sort : Sort date is_eight_digits (λ t. t.value) of_date
date_sort = record {
  room = date_room;
  written = λ n h. date_same n;
  sorted = λ n h. refl;
  back = λ n. refl;
  found = date_found;
}

-- an unused field, whatever number is kept of it
abbrev unused : ℕ → SignedDigits
unused n = record { minus = false; digits = 0; value = n }

unused_same : (n : ℕ) → blank_columns ≡ text_columns (unused n)
unfolding columns_of
unused_same n = refl

blank_found : (t : SignedDigits) → is_blank t ≡ true → text_columns t ≡ blank_columns
blank_found t e =
    let p = and_parts (not t.minus) (eqb t.digits 0) e in
    let unsigned = not-true t.minus p.0 in
    let none = eqb-true t.digits 0 p.1 in
    let same : t ≡ unused t.value = λ i. record { minus = unsigned i; digits = none i; value = t.value } in
    ap text_columns same ∙ sym (unused_same t.value)

pub blank_sort : Sort blank is_blank (λ _. tt) (λ _. no_digits)
blank_sort = record {
  room = λ _ h. tt;
  written = λ _ h. unused_same 0;
  sorted = λ _ h. refl;
  back = λ _. refl;
  found = λ t room e. (tt, blank_found t e);
}
