-- The lines of days, one after another. Assumes nothing.
use Rattle.std.proofs.Common.{◌≡◌, ℕ, zero, suc, ◌+◌, List, [], ◌∷◌, ◌++◌, ap, ◌∙◌, arith}
use Rattle.std.proofs.lemmas.Grind.{flat_map-append}
use Rattle.std.proofs.lemmas.List.{append-nil}
use Rattle.std.proofs.lemmas.List.Concat.{flat_map-cons}
use Rattle.std.specs.List.{flat_map, range_with_len}
use Rattle.report.specs.IntakeHistory.{IntakeHistory, reported_day}
use Rattle.report.specs.Report.{day_line}

-- the lines of the first n days
abbrev pub days_before : IntakeHistory → ℕ → List ℕ
days_before t n = flat_map (λ d. day_line (reported_day t d)) (range_with_len 0 n)

range_more : (a n : ℕ) → range_with_len a (n + 1) ≡ range_with_len a n ++ (a + n) ∷ []
range_more a zero = let first : a ≡ a + 0 = omega arith in ap (λ (b : ℕ). b ∷ []) first
range_more a (suc n) =
    let last : a + 1 + n ≡ a + suc n = omega arith in
    let counted : suc n + 1 ≡ suc (n + 1) = omega arith in
    ap (range_with_len a) counted ∙ ap (λ (xs : List ℕ). a ∷ xs) (range_more (a + 1) n ∙ ap (λ (b : ℕ). range_with_len (a + 1) n ++ b ∷ []) last)

pub days_more : (t : IntakeHistory) (n : ℕ) → days_before t (n + 1) ≡ days_before t n ++ day_line (reported_day t n)
days_more t n =
    let shown : ℕ → List ℕ = λ d. day_line (reported_day t d) in
    let first : 0 + n ≡ n = omega arith in
    ap (flat_map shown) (range_more 0 n ∙ ap (λ (m : ℕ). range_with_len 0 n ++ m ∷ []) first) ∙ flat_map-append shown (range_with_len 0 n) (n ∷ []) ∙ ap (λ (xs : List ℕ). flat_map shown (range_with_len 0 n) ++ xs) (flat_map-cons shown n [] ∙ append-nil (shown n))
