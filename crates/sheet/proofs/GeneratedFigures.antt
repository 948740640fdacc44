-- The generated figures of a day, shown point by point beside the supplied ones.
use Rattle.std.proofs.Common.{◌≡◌, ℕ, ◌+◌, ◌<◌, List, [], ◌∷◌, length, get_or, drop, Some, Option, Bor, sym, ap, ◌∙◌, subst, suc, arith, ◌-◌, ◌*◌, ◌≤◌, true, false, cond, map, is_some, None, sum, vec_items, unwrap_or, refl, ⊎_elim}
use Rattle.std.proofs.iter.Yields.{fronts, nat_range_steps}
use Rattle.std.proofs.lemmas.Iterator.{zips}
use Rattle.std.proofs.lemmas.List.{get_or-drop, length-drop}
use Rattle.std.specs.Iterator.{Yields}
use Rattle.std.specs.Iterator.Adapters.{zip_first, zip_second}
use Rattle.std.specs.Slice.Iter.{iter_rest}
use Rattle.std.specs.declared.iter.Zip.{Zip}
use Rattle.std.specs.declared.slice.Iter.{Iter}
use Rattle.std.specs.declared.ops.Range.{Range}
use Rattle.std.proofs.lemmas.Bool.{cases_eq}
use Rattle.std.specs.List.{range_with_len}
use Rattle.std.specs.Option.{option_map}
use Rattle.rules.specs.Figures.{figure, share_on, supplied_sum, generated_figures, supplied_figure}
use Rattle.rules.specs.History.{History, Setting, covering_reading}
use Rattle.rules.specs.declared.entry.Reading.{Reading}
use Rattle.sheet.specs.Sheet.{SetsFigure, SetsNote, figure_at, sum_where}
use Rattle.sheet.specs.SheetOfHistory.{ShowsDay, ShowsSupplied}
use Rattle.sheet.specs.declared.sheet.DayNote.{DayNote}
use Rattle.sheet.specs.declared.sheet.Sheet.{Sheet}
use Rattle.sheet.proofs.Changes.{written_here, written_other}
use Rattle.rules.proofs.Balance.{supplied_shows}
use Rattle.rules.proofs.SumsAndRows.{map_over}

module _ {B : Type 0} where
  -- where the numbers and the slice stand after so many turns
  record Stand (n : ℕ) (s t : Zip (Range ℕ) (Iter B)) : Type 0 where
    pub start : (zip_first t).start ≡ (zip_first s).start + n
    pub rest : iter_rest (zip_second t) ≡ drop n (iter_rest (zip_second s))

  so_far : (xs : List (ℕ × Bor B)) (s t : Zip (Range ℕ) (Iter B)) → Yields (zips nat_range_steps fronts) s xs t → Stand (length xs) s t
  so_far [] s t y = record {
    start = omega (arith, ap (λ (z : Zip (Range ℕ) (Iter B)). (zip_first z).start) y);
    rest = ap (λ (z : Zip (Range ℕ) (Iter B)). iter_rest (zip_second z)) (sym y);
  }
  so_far (x ∷ xs) s t y =
      let k = so_far xs y.0 t y.2 in
      record {
        start = omega (arith, k.start, y.1.0.1.2);
        rest = k.rest ∙ sym (ap (drop (suc (length xs))) y.1.1);
      }

  module _ (a b : ℕ) (vs : List B) (xs : List (ℕ × Bor B)) (s t u : Zip (Range ℕ) (Iter B)) (r : Option (ℕ × Bor B)) (first : zip_first s ≡ record { start = a; end = b }) (second : iter_rest (zip_second s) ≡ vs) (y : Yields (zips nat_range_steps fronts) s xs t) where
    left : iter_rest (zip_second t) ≡ drop (length xs) vs
    left = (so_far xs s t y).rest ∙ ap (drop (length xs)) second

    -- the number and the element of this turn
    pub numbered_turn : (p : ℕ × Bor B) → r ≡ Some p → zips nat_range_steps fronts t r u → (length xs < length vs) × (p.0 ≡ a + length xs) × ((d : B) → p.1.now ≡ get_or vs (length xs) d)
    numbered_turn p e h =
        let k : zips nat_range_steps fronts t (Some p) u = subst (λ o. zips nat_range_steps fronts t o u) e h in
        let none : length xs + 0 ≡ length xs = omega arith in
        let here : p.1.now ∷ iter_rest (zip_second u) ≡ drop (length xs) vs = sym k.1 ∙ left in (
          omega (arith, ap length here, length-drop (length xs) vs),
          omega (arith, k.0.1.1, (so_far xs s t y).start, ap (λ (q : Range ℕ). q.start) first),
          λ d. ap (λ l. get_or l 0 d) here ∙ get_or-drop (length xs) vs 0 d ∙ ap (λ n. get_or vs n d) none,
        )

-- the first i points of a day show what they are to show, the others what they showed
pub record ShowsFirstPoints (h : History) (n d : ℕ) (fs : List ℕ) (i : ℕ) (old new : Sheet) : Type 0 where
  pub done : (p : ℕ) → 1 ≤ p → p ≤ n → p ≤ i → figure_at new p d ≡ cond (is_some (covering_reading h p d)) (figure_at old p d) (get_or fs (p - 1) 0)
  pub ahead : (p : ℕ) → 1 ≤ p → p ≤ n → i < p → figure_at new p d ≡ figure_at old p d

module _ {h : History} {n d i : ℕ} {fs : List ℕ} {base old new : Sheet} (so_far : ShowsFirstPoints h n d fs i base old) where
  -- a covered point keeps its figure
  pub shown_kept : is_some (covering_reading h (i + 1) d) ≡ true → new ≡ old → ShowsFirstPoints h n d fs (i + 1) base new
  shown_kept covers same = record {
    done = λ p low high below. ap (λ b. figure_at b p d) same
        ∙ ⊎_elim
        (λ (here : p ≡ i + 1).
        so_far.ahead p low high (omega arith)
        ∙ ap (λ t. cond t (figure_at base p d) (get_or fs (p - 1) 0)) (sym (ap (λ q. is_some (covering_reading h q d)) here ∙ covers)))
        (λ (other : p ≡ i + 1 → ⊥). so_far.done p low high (omega arith)) (cases_eq p (i + 1));
    ahead = λ p low high above. ap (λ b. figure_at b p d) same ∙ so_far.ahead p low high (omega arith);
  }

  -- any other takes its generated figure
  pub shown_written : {x : ℕ} → is_some (covering_reading h (i + 1) d) ≡ false → old.points ≡ n → i < n → SetsFigure (i + 1) d x old new → x ≡ get_or fs i 0 → ShowsFirstPoints h n d fs (i + 1) base new
  shown_written {x} none many inside w is =
      let all : i + 1 ≤ old.points = omega arith in
      record {
        done = λ p low high below.
            ⊎_elim
            (λ (here : p ≡ i + 1).
            ap (λ q. figure_at new q d) here ∙ written_here w ∙ is
            ∙ ap (λ k. get_or fs k 0) (omega arith)
            ∙ ap (λ t. cond t (figure_at base p d) (get_or fs (p - 1) 0)) (sym (ap (λ q. is_some (covering_reading h q d)) here ∙ none)))
            (λ (other : p ≡ i + 1 → ⊥).
            written_other w p d (omega arith) all low (omega arith) (λ same _. other same) ∙ so_far.done p low high (omega arith))
            (cases_eq p (i + 1));
        ahead = λ p low high above.
            written_other w p d (omega arith) all low (omega arith) (λ same _. omega arith) ∙ so_far.ahead p low high (omega arith);
      }

-- what a day's supplied figures come to, where a sheet shows them
pub supplied_shown : (s : Setting) (h : History) (b : Sheet) (d : ℕ) → b.points ≡ s.points → ShowsSupplied s h b d → sum_where (λ p. is_some (covering_reading h p d)) b d b.points ≡ supplied_sum s h d
unfolding sum_where
supplied_shown s h b d many shows =
    ap (λ n. sum (map (λ p. cond (is_some (covering_reading h p d)) (figure_at b p d) 0) (range_with_len 1 n))) many
    ∙ ap sum (map_over (λ p. cond (is_some (covering_reading h p d)) (figure_at b p d) 0) (λ p. unwrap_or (supplied_figure s h p d) 0) 1 s.points
    (λ p low high. go p low (omega arith) (covering_reading h p d) refl))
  where
    go : (p : ℕ) → 1 ≤ p → p ≤ s.points → (o : Option Reading) → covering_reading h p d ≡ o → cond (is_some (covering_reading h p d)) (figure_at b p d) 0 ≡ unwrap_or (option_map (share_on s h d) (covering_reading h p d)) 0
    go p low high None e = rw e refl
    go p low high (Some r) e =
        ap (λ o. cond (is_some o) (figure_at b p d) 0) e ∙ shows p (share_on s h d r) low high (ap (option_map (share_on s h d)) e) ∙ ap (λ o. unwrap_or (option_map (share_on s h d) o) 0) (sym e)

-- a day shows its figures once the points that no reading covers show the generated ones, and a note is made of it
pub generated_shows : (s : Setting) (h : History) (d : ℕ) {note : DayNote} (old b new : Sheet) (rows : List ℕ) → ShowsSupplied s h old d
    → ((p : ℕ) → 1 ≤ p → p ≤ s.points → figure_at b p d ≡ cond (is_some (covering_reading h p d)) (figure_at old p d) (get_or rows (p - 1) 0)) → rows ≡ generated_figures s h d
    → SetsNote d note b new → ShowsDay s h new d
generated_shows s h d old b new rows supplied_shown shown is w p low high = same ∙ shown p low high ∙ go (covering_reading h p d) refl
  where
    same : figure_at new p d ≡ figure_at b p d
    same = λ i. get_or (vec_items (w.figures i)) (d * w.points i + (p - 1)) 0

    go : (o : Option Reading) → covering_reading h p d ≡ o → cond (is_some (covering_reading h p d)) (figure_at old p d) (get_or rows (p - 1) 0) ≡ figure s h p d
    go None e =
        ap (λ o. cond (is_some o) (figure_at old p d) (get_or rows (p - 1) 0)) e ∙ ap (λ fs. get_or fs (p - 1) 0) is
        ∙ sym (ap (λ o. unwrap_or (option_map (share_on s h d) o) (get_or (generated_figures s h d) (p - 1) 0)) e)
    go (Some r) e =
        ap (λ o. cond (is_some o) (figure_at old p d) (get_or rows (p - 1) 0)) e ∙ supplied_shown p (share_on s h d r) low high (ap (option_map (share_on s h d)) e)
        ∙ sym (supplied_shows s h p d r e)
