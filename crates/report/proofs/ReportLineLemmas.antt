-- A number that is laid out in ten columns stands at their right. Assumes nothing.
use Rattle.std.proofs.Common.{◌≡◌, ℕ, zero, suc, ◌-◌, ◌^◌, false, List, [], ◌∷◌, length, replicate, refl, ap, arith}
use Rattle.std.specs.List.{repeat}
use Rattle.std.proofs.Math.Utf8.{encode}
use Rattle.std.specs.Fmt.{decimal, styled_decimal, padded_integral, char_count, format_spec}
use Rattle.std.proofs.lemmas.List.{append-nil}
use Rattle.line_format.specs.Columns.{right_aligned, number_columns}

spaces : (n : ℕ) → repeat {A = ℕ} n (32 ∷ []) ≡ replicate n 32
spaces zero = refl
spaces (suc n) = ap (λ bs. 32 ∷ bs) (spaces n)

-- a width of 10 and `>`: spaces before the digits, and none behind them
padded : (digits : List ℕ) → padded_integral (format_spec 32 3 0 10 (2 ^ 64 - 1)) false [] digits ≡ right_aligned digits
unfolding padded_integral char_count encode
padded digits =
    let before : 10 - length digits - 0 - 0 ≡ 10 - length digits = omega arith in
    let behind : 10 - length digits - (10 - length digits) ≡ 0 = omega arith in
    rw (before, behind, spaces (10 - length digits)) (simp append-nil)

pub in_ten : (options : _) (n : ℕ) → options ≡ format_spec 32 3 0 10 18446744073709551615 → styled_decimal options n ≡ number_columns n
unfolding number_columns
in_ten options n e = rw e (padded (decimal n))
