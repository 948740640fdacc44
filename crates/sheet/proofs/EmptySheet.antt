-- A sheet that opens shows nothing.
use Rattle.std.proofs.Common.{◌≡◌, ℕ, zero, suc, ◌+◌, ◌-◌, ◌*◌, ◌≤◌, List, [], ◌++◌, map, length, get_or, take, drop, replicate, None, vec_items, sym, refl, ap, ◌∙◌, subst}
use Rattle.rules.specs.History.{History, Setting}
use Rattle.ledger.proofs.Openings.{cleared_read, cleared_rest, zero_of}
use Rattle.sheet.specs.SheetOfHistory.{HasTrueNote, IsSheetOf, IsTrueNote}
use Rattle.sheet.specs.declared.sheet.DayNote.TheVariants.{NothingKnown}
use Rattle.sheet.specs.declared.sheet.Sheet.{Sheet}
use Rattle.sheet.proofs.Coverage.{covered_at_opening}
use Rattle.sheet.proofs.RowsByPlaces.{place_before}
use Rattle.rules.proofs.MovedDays.{figure_before}

pub read_of_one : {X : Type 0} (x : X) (n k : ℕ) → get_or (replicate n x) k x ≡ x
read_of_one x zero k = refl
read_of_one x (suc n) zero = refl
read_of_one x (suc n) (suc k) = read_of_one x n k

-- a sheet that knows nothing of any day notes nothing wrong
pub nothing_noted : (s : Setting) (h : History) (b : Sheet) (d : ℕ) → get_or b.notes d NothingKnown ≡ NothingKnown → HasTrueNote s h b d
nothing_noted s h b d none = subst (IsTrueNote s h b d) (sym none) tt

-- a sheet of cleared figures is that of the empty history
pub opened_is_sheet : (s : Setting) (rest : List ℕ) (b : Sheet) (xs : List ℕ) → b.days ≡ s.days → b.points ≡ s.points → s.days * s.points ≤ length xs
    → vec_items b.figures ≡ map zero_of (take (s.days * s.points) xs) ++ drop (s.days * s.points) xs
    → b.loads ≡ replicate 400 None → b.notes ≡ replicate 400 NothingKnown → drop (s.days * s.points) xs ≡ rest → IsSheetOf s rest [] b
opened_is_sheet s rest b xs days points long cleared loads notes beyond = record {
  days = days;
  points = points;
  loads = λ d within. ap (λ l. get_or l d None) loads ∙ read_of_one None 400 d;
  covered = covered_at_opening s.points b.cover_ends;
  shown = λ d within p low high.
      ap (λ n. get_or (vec_items b.figures) (d * n + (p - 1)) 0) points
      ∙ cleared_read (s.days * s.points) xs (vec_items b.figures) long cleared (d * s.points + (p - 1)) (place_before s.points p d s.days low high within)
      ∙ sym (figure_before s [] p d tt low refl);
  noted = λ d within. nothing_noted s [] b d (ap (λ n. get_or n d NothingKnown) notes ∙ read_of_one NothingKnown 400 d);
  beyond = cleared_rest (s.days * s.points) xs (vec_items b.figures) long cleared ∙ beyond;
}
