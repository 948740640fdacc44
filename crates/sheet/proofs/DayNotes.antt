-- What is noted of a day: that it is so once the day is settled, when it lets the day stand, and what leaves it.
use Rattle.std.proofs.Common.{◌≡◌, ℕ, zero, suc, ◌+◌, ◌-◌, ◌^◌, ◌<◌, ◌≤◌, min, Bool, true, false, cond, not, ◌&&◌, eqb, ltb, ◌∷◌, map, get_or, length, is_some, Some, None, sum, vec_items, vec_len, Option, unwrap_or, sym, refl, ap, ◌∙◌, subst, ⊎_elim, arith}
use Rattle.std.proofs.lemmas.Bool.{and_from, and_left, and_right, both_ways, cases_Bool, cases_lt, cond-false, cond-true, le-ltb, lt-ltb, ltb-false, ne_eqb}
use Rattle.std.proofs.lemmas.List.FromFn.{get_or-map-range_with_len}
use Rattle.std.proofs.lemmas.List.Sums.{get_or-le-sum_by, sum_by-cons}
use Rattle.std.proofs.lemmas.List.{get_or-set_other, get_or-set_same, get_or_past}
use Rattle.std.specs.List.{range_with_len}
use Rattle.std.specs.Option.{option_map}
use Rattle.rules.specs.Figures.{estimate, estimates, estimates_sum, figure, load, points_of, share_on, supplied_sum, is_active, has_begun, counted_estimate, is_estimated, needs_scaling, generated_figures, supplied_figure, estimate_under}
use Rattle.rules.specs.History.{History, Setting, count_in, covering_reading}
use Rattle.rules.specs.declared.entry.Entry.TheVariants.{DegreeDaysEntered, ReadingTaken}
use Rattle.rules.specs.declared.entry.Reading.{Reading}
use Rattle.allocation.specs.Sharing.{shares}
use Rattle.rules.proofs.Bounds.{share_most}
use Rattle.sheet.specs.Scaling.{note_of}
use Rattle.sheet.specs.Sheet.{ChangesOnlyDays, ChangesOnlyNotes, SetsNote, figure_at, sum_where}
use Rattle.sheet.specs.SheetOfHistory.{HasTrueNote, IsReadyToSettle, IsSettled, IsTrueNote, ShowsDay, ShowsEstimates, ShowsNothing, ShowsSupplied}
use Rattle.sheet.specs.declared.sheet.DayNote.TheVariants.{EstimatesShown, NothingEstimated, NothingKnown, NothingLeft}
use Rattle.sheet.specs.declared.sheet.DayNote.{DayNote}
use Rattle.sheet.specs.declared.sheet.Sheet.{Sheet}
use Rattle.sheet.proofs.Changes.{Outside, day_stands, figure_at_stands, supplied_stands}
use Rattle.rules.proofs.Balance.{exceeded_means, scaling_only_lowers, supplied_shows}
use Rattle.rules.proofs.Days.{covered_not_estimated}
use Rattle.rules.proofs.MovedDays.{silent, stays_covered}
use Rattle.rules.proofs.SumsAndRows.{map_over, sum_added}
use Rattle.rules.specs.FigureLaws.{DiffersInLoad}

-- Where nothing is scaled, estimates are what the points that no reading covers show.
module _ (s : Setting) (h : History) (d : ℕ) (stand : needs_scaling (supplied_sum s h d) (estimates_sum s h d) (load s h d) ≡ false) where
  figure_uncovered : (p : ℕ) → 1 ≤ p → p ≤ s.points → is_some (covering_reading h p d) ≡ false → figure s h p d ≡ counted_estimate s h p d
  figure_uncovered p low high none = go (covering_reading h p d) refl
    where
      own : get_or (generated_figures s h d) (p - 1) 0 ≡ counted_estimate s h p d
      own =
          ap (λ row. get_or row (p - 1) 0) (cond-false (needs_scaling (supplied_sum s h d) (estimates_sum s h d) (load s h d)) _ (estimates s h d) stand)
          ∙ get_or-map-range_with_len (λ q. counted_estimate s h q d) 1 s.points (p - 1) p 0 (omega arith) (omega arith)

      go : (o : Option Reading) → covering_reading h p d ≡ o → figure s h p d ≡ counted_estimate s h p d
      go None e = ap (λ o. unwrap_or (option_map (share_on s h d) o) (get_or (generated_figures s h d) (p - 1) 0)) e ∙ own
      go (Some r) e = absurd (both_ways (is_some (covering_reading h p d)) none (ap is_some e))

  shows_estimates : (b : Sheet) → ShowsDay s h b d → ShowsEstimates s h b d
  shows_estimates b shows p low high none = shows p low high ∙ figure_uncovered p low high none

  shows_day : (b : Sheet) → ShowsSupplied s h b d → ShowsEstimates s h b d → ShowsDay s h b d
  shows_day b supplied_shown estimates_shown p low high = go (covering_reading h p d) refl
    where
      go : (o : Option Reading) → covering_reading h p d ≡ o → figure_at b p d ≡ figure s h p d
      go None e = estimates_shown p low high (ap is_some e) ∙ sym (figure_uncovered p low high (ap is_some e))
      go (Some r) e = supplied_shown p (share_on s h d r) low high (ap (option_map (share_on s h d)) e) ∙ sym (supplied_shows s h p d r e)

-- Where a load leaves nothing, points that no reading covers show 0.

-- a point that no reading covers has its generated figure
figure_generated : (s : Setting) (h : History) (d p : ℕ) → is_some (covering_reading h p d) ≡ false → figure s h p d ≡ get_or (generated_figures s h d) (p - 1) 0
figure_generated s h d p none = go (covering_reading h p d) refl
  where
    go : (o : Option Reading) → covering_reading h p d ≡ o → figure s h p d ≡ get_or (generated_figures s h d) (p - 1) 0
    go None e = ap (λ o. unwrap_or (option_map (share_on s h d) o) (get_or (generated_figures s h d) (p - 1) 0)) e
    go (Some r) e = absurd (both_ways (is_some (covering_reading h p d)) none (ap is_some e))

-- which is 0 where estimates are scaled and nothing is left
nothing_generated : (s : Setting) (h : History) (d : ℕ) → unwrap_or (load s h d) 0 ≤ supplied_sum s h d → needs_scaling (supplied_sum s h d) (estimates_sum s h d) (load s h d) ≡ true
    → (k : ℕ) → get_or (generated_figures s h d) k 0 ≡ 0
nothing_generated s h d none_left scaled k =
    let means = exceeded_means (supplied_sum s h d) (estimates_sum s h d) (load s h d) scaled in
    let most = share_most (unwrap_or (load s h d) 0 - supplied_sum s h d) (estimates s h d) k means.1 in
    ap (λ row. get_or row k 0) (cond-true (needs_scaling (supplied_sum s h d) (estimates_sum s h d) (load s h d)) (shares (unwrap_or (load s h d) 0 - supplied_sum s h d) (estimates s h d)) (estimates s h d) scaled)
    ∙ omega (arith, most, none_left)

-- or where they come to nothing
nothing_of_nothing : (s : Setting) (h : History) (d : ℕ) → estimates_sum s h d ≤ 0 → (k : ℕ) → get_or (generated_figures s h d) k 0 ≡ 0
nothing_of_nothing s h d none k =
    let each : get_or (estimates s h d) k 0 ≡ 0 =
    ⊎_elim (λ within. omega (arith, get_or-le-sum_by (λ x. x) (estimates s h d) k 0 within, none)) (λ past. get_or_past (estimates s h d) k 0 past) (cases_lt k (length (estimates s h d))) in
    omega (arith, scaling_only_lowers s h d k, each)

-- what is noted of a day that shows its figures is so
pub note_settled : (s : Setting) (h : History) (b : Sheet) (d : ℕ) → ShowsDay s h b d → IsTrueNote s h b d (note_of (load s h d) (supplied_sum s h d) (estimates s h d))
note_settled s h b d shows =
    go (needs_scaling (supplied_sum s h d) (estimates_sum s h d) (load s h d)) (ltb 0 (estimates_sum s h d)) (ltb (supplied_sum s h d) (unwrap_or (load s h d) 0)) refl refl refl
  where
    go : (x y z : Bool) → needs_scaling (supplied_sum s h d) (estimates_sum s h d) (load s h d) ≡ x → ltb 0 (estimates_sum s h d) ≡ y → ltb (supplied_sum s h d) (unwrap_or (load s h d) 0) ≡ z
        → IsTrueNote s h b d (cond x (cond z NothingKnown NothingLeft) (cond y EstimatesShown NothingEstimated))
    go true y true e f g = tt
    go true y false e f g = λ p low high none.
        shows p low high ∙ figure_generated s h d p none ∙ nothing_generated s h d (ltb-false (supplied_sum s h d) (unwrap_or (load s h d) 0) g) e (p - 1)
    go false true z e f g = shows_estimates s h d e b shows
    go false false z e f g = (omega (arith, ltb-false 0 (estimates_sum s h d) f), shows_estimates s h d e b shows)

-- estimates that come to nothing are not scaled
nothing_stands : (a g : ℕ) (o : Option ℕ) → g ≡ 0 → needs_scaling a g o ≡ false
nothing_stands a g None none = refl
nothing_stands a g (Some n) none = and_right (ltb n (a + g)) (ltb 0 g) (le-ltb 0 g (omega arith))

pub nothing_settled : (s : Setting) (h : History) (b : Sheet) (d : ℕ) → ShowsSupplied s h b d → (estimates_sum s h d ≡ 0) × ShowsEstimates s h b d → ShowsDay s h b d
nothing_settled s h b d supplied_shown noted =
    shows_day s h d (nothing_stands (supplied_sum s h d) (estimates_sum s h d) (load s h d) noted.0) b supplied_shown noted.1

-- nor are those of a day without a load
pub unloaded_settled : (s : Setting) (h : History) (b : Sheet) (d : ℕ) → load s h d ≡ None → ShowsSupplied s h b d → ShowsEstimates s h b d → ShowsDay s h b d
unloaded_settled s h b d none = shows_day s h d (ap (needs_scaling (supplied_sum s h d) (estimates_sum s h d)) none) b

-- nor where all figures together are within the load
all_shown : (s : Setting) (h : History) (b : Sheet) (d : ℕ) → b.points ≡ s.points → ShowsSupplied s h b d → ShowsEstimates s h b d
    → sum_where (λ p. true) b d b.points ≡ supplied_sum s h d + estimates_sum s h d
unfolding sum_where
all_shown s h b d many supplied_shown estimates_shown =
    ap (λ n. sum (map (λ p. figure_at b p d) (range_with_len 1 n))) many
    ∙ ap sum (map_over (λ p. figure_at b p d) (λ p. unwrap_or (supplied_figure s h p d) 0 + counted_estimate s h p d) 1 s.points (λ p low high. go p low (omega arith) (covering_reading h p d) refl))
    ∙ sum_added (λ p. unwrap_or (supplied_figure s h p d) 0) (λ p. counted_estimate s h p d) (points_of s)
  where
    go : (p : ℕ) → 1 ≤ p → p ≤ s.points → (o : Option Reading) → covering_reading h p d ≡ o → figure_at b p d ≡ unwrap_or (supplied_figure s h p d) 0 + counted_estimate s h p d
    go p low high None e =
        let none : unwrap_or (supplied_figure s h p d) 0 ≡ 0 = ap (λ o. unwrap_or (option_map (share_on s h d) o) 0) e in
        omega (arith, estimates_shown p low high (ap is_some e), none)
    go p low high (Some r) e =
        let some : unwrap_or (supplied_figure s h p d) 0 ≡ share_on s h d r = ap (λ o. unwrap_or (option_map (share_on s h d) o) 0) e in
        let none : counted_estimate s h p d ≡ 0 = ap (λ t. cond t (unwrap_or (estimate s h p d) 0) 0) (covered_not_estimated h p d (ap is_some e)) in
        omega (arith, supplied_shown p (share_on s h d r) low high (ap (option_map (share_on s h d)) e), some, none)

pub within_settled : (s : Setting) (h : History) (b : Sheet) (d n total : ℕ) → b.points ≡ s.points → load s h d ≡ Some n → n ≤ 1000000000
    → total ≡ min (sum_where (λ p. true) b d b.points) (2 ^ 64 - 1) → total ≤ n → ShowsSupplied s h b d → ShowsEstimates s h b d → ShowsDay s h b d
within_settled s h b d n total many loaded small total_is within supplied_shown estimates_shown =
    let all = all_shown s h b d many supplied_shown estimates_shown in
    let below : supplied_sum s h d + estimates_sum s h d ≤ n = omega (arith, all, total_is, within, small) in
    shows_day s h d
    (ap (needs_scaling (supplied_sum s h d) (estimates_sum s h d)) loaded ∙ and_left (ltb n (supplied_sum s h d + estimates_sum s h d)) (ltb 0 (estimates_sum s h d)) (le-ltb n (supplied_sum s h d + estimates_sum s h d) below))
    b supplied_shown estimates_shown

-- a day whose supplied energy takes the whole load is settled where its other points show 0
supplied_alone : (s : Setting) (h : History) (b : Sheet) (d : ℕ) → b.points ≡ s.points → ShowsSupplied s h b d → ShowsNothing s h b d
    → sum_where (λ p. true) b d b.points ≡ supplied_sum s h d
unfolding sum_where
supplied_alone s h b d many supplied_shown nothing_shown =
    ap (λ n. sum (map (λ p. figure_at b p d) (range_with_len 1 n))) many
    ∙ ap sum (map_over (λ p. figure_at b p d) (λ p. unwrap_or (supplied_figure s h p d) 0) 1 s.points (λ p low high. go p low (omega arith) (covering_reading h p d) refl))
  where
    go : (p : ℕ) → 1 ≤ p → p ≤ s.points → (o : Option Reading) → covering_reading h p d ≡ o → figure_at b p d ≡ unwrap_or (supplied_figure s h p d) 0
    go p low high None e = nothing_shown p low high (ap is_some e) ∙ sym (ap (λ o. unwrap_or (option_map (share_on s h d) o) 0) e)
    go p low high (Some r) e =
        supplied_shown p (share_on s h d r) low high (ap (option_map (share_on s h d)) e) ∙ sym (ap (λ o. unwrap_or (option_map (share_on s h d) o) 0) e)

pub left_settled : (s : Setting) (h : History) (b : Sheet) (d n total : ℕ) → b.points ≡ s.points → load s h d ≡ Some n
    → total ≡ min (sum_where (λ p. true) b d b.points) (2 ^ 64 - 1) → n ≤ total → ShowsSupplied s h b d → ShowsNothing s h b d → ShowsDay s h b d
left_settled s h b d n total many loaded total_is over supplied_shown nothing_shown p low high = go (covering_reading h p d) refl
  where
    none_left : n ≤ supplied_sum s h d
    none_left = omega (arith, supplied_alone s h b d many supplied_shown nothing_shown, total_is, over)

    nothing : get_or (generated_figures s h d) (p - 1) 0 ≡ 0
    nothing =
        ⊎_elim
        (λ (some : 0 < estimates_sum s h d).
        nothing_generated s h d (rw loaded none_left)
        (ap (needs_scaling (supplied_sum s h d) (estimates_sum s h d)) loaded
        ∙ and_from (ltb n (supplied_sum s h d + estimates_sum s h d)) (ltb 0 (estimates_sum s h d)) (lt-ltb n (supplied_sum s h d + estimates_sum s h d) (omega (arith, none_left, some))) (lt-ltb 0 (estimates_sum s h d) some))
        (p - 1))
        (λ (none : estimates_sum s h d ≤ 0). nothing_of_nothing s h d none (p - 1)) (cases_lt 0 (estimates_sum s h d))

    go : (o : Option Reading) → covering_reading h p d ≡ o → figure_at b p d ≡ figure s h p d
    go None e = nothing_shown p low high (ap is_some e) ∙ sym nothing ∙ sym (figure_generated s h d p (ap is_some e))
    go (Some r) e = supplied_shown p (share_on s h d r) low high (ap (option_map (share_on s h d)) e) ∙ sym (supplied_shows s h p d r e)

-- Entries that leave the estimates of a day.

-- each point that no reading covers under the longer history was so before, and has the same estimate
pub record KeepsEstimates (s : Setting) (h new : History) (d : ℕ) : Type 0 where
  pub uncovered : (p : ℕ) → is_some (covering_reading new p d) ≡ false → is_some (covering_reading h p d) ≡ false
  pub same : (p : ℕ) → is_some (covering_reading new p d) ≡ false → counted_estimate s new p d ≡ counted_estimate s h p d

sum_lower : (f g : ℕ → ℕ) → ((p : ℕ) → f p ≤ g p) → (a n : ℕ) → sum (map f (range_with_len a n)) ≤ sum (map g (range_with_len a n))
sum_lower f g lower a zero = omega arith
sum_lower f g lower a (suc n) =
    omega (
      arith,
      lower a,
      sum_lower f g lower (a + 1) n,
      sum_by-cons (λ y. y) (f a) (map f (range_with_len (a + 1) n)),
      sum_by-cons (λ y. y) (g a) (map g (range_with_len (a + 1) n)),
    )

module _ {s : Setting} {h new : History} {d : ℕ} (kept : KeepsEstimates s h new d) where
  lower : (p : ℕ) → counted_estimate s new p d ≤ counted_estimate s h p d
  lower p =
      ⊎_elim
      (λ (some : is_some (covering_reading new p d) ≡ true).
      let none : counted_estimate s new p d ≡ 0 = ap (λ t. cond t (unwrap_or (estimate s new p d) 0) 0) (covered_not_estimated new p d some) in omega (arith, none))
      (λ (none : is_some (covering_reading new p d) ≡ false). omega (arith, kept.same p none)) (cases_Bool (is_some (covering_reading new p d)))

  -- what is noted of the day stands where its uncovered points show what they did
  module _ (old b : Sheet) (figures_are : (p : ℕ) → 1 ≤ p → p ≤ s.points → is_some (covering_reading new p d) ≡ false → figure_at b p d ≡ figure_at old p d) where
    shows_kept : ShowsEstimates s h old d → ShowsEstimates s new b d
    shows_kept shows p low high none = figures_are p low high none ∙ shows p low high (kept.uncovered p none) ∙ sym (kept.same p none)

    note_kept : (n : DayNote) → IsTrueNote s h old d n → IsTrueNote s new b d n
    note_kept NothingKnown noted = tt
    note_kept NothingEstimated noted =
        (omega (arith, noted.0, sum_lower (λ p. counted_estimate s new p d) (λ p. counted_estimate s h p d) lower 1 s.points), shows_kept noted.1)
    note_kept EstimatesShown noted = shows_kept noted
    note_kept NothingLeft noted = λ p low high none. figures_are p low high none ∙ noted p low high (kept.uncovered p none)

    pub noted_kept : get_or b.notes d NothingKnown ≡ get_or old.notes d NothingKnown → HasTrueNote s h old d → HasTrueNote s new b d
    noted_kept same noted = subst (IsTrueNote s new b d) (sym same) (note_kept (get_or old.notes d NothingKnown) noted)

-- a changed load leaves them
pub load_kept : {s : Setting} {h new : History} {g : ℕ} → DiffersInLoad s h new g → (d : ℕ) → KeepsEstimates s h new d
load_kept {s} {h} {new} moved d = record {
  uncovered = λ p none. sym (ap is_some (moved.coverings p d)) ∙ none;
  same = λ p none i. cond (has_begun (moved.enrolments p i) d && not (is_some (moved.coverings p d i))) (unwrap_or (estimate_under s (moved.counts d i) p d) 0) 0;
}

-- and so does a reading, but for the points that it covers
pub reading_kept : (s : Setting) (h : History) (r : Reading) (d : ℕ) → KeepsEstimates s h (ReadingTaken r ∷ h) d
reading_kept s h r d = record {
  uncovered = before;
  same = λ p none. ap (λ t. cond (is_active h p d && not t) (unwrap_or (estimate s h p d) 0) 0) (none ∙ sym (before p none));
}
  where
    before : (p : ℕ) → is_some (covering_reading (ReadingTaken r ∷ h) p d) ≡ false → is_some (covering_reading h p d) ≡ false
    before p none =
        ⊎_elim (λ (some : is_some (covering_reading h p d) ≡ true). absurd (both_ways (is_some (covering_reading (ReadingTaken r ∷ h) p d)) none (stays_covered h r p d some)))
        (λ (free : is_some (covering_reading h p d) ≡ false). free) (cases_Bool (is_some (covering_reading h p d)))

-- a degree-day count leaves those of other days
pub count_kept : (s : Setting) (h : History) (g count d : ℕ) → (d ≡ g → ⊥) → KeepsEstimates s h (DegreeDaysEntered g count ∷ h) d
count_kept s h g count d other = record {
  uncovered = λ p none. none;
  same = λ p none. ap (λ o. cond (is_estimated h p d) (unwrap_or (estimate_under s o p d) 0) 0)
      (silent (count_in d) (DegreeDaysEntered g count) h (cond-false (eqb g d) (Some count) None (ne_eqb g d (λ e. other (sym e)))));
}

-- Notes that are written, and stand.

-- a note changes no figure
pub noted_only : {d : ℕ} {note : DayNote} {old new : Sheet} (from to : ℕ) → SetsNote d note old new → ChangesOnlyDays from to old new
noted_only from to w = record {
  days = w.days;
  points = w.points;
  loads = w.loads;
  covered = w.covered;
  len = λ i. vec_len (w.figures i);
  before = λ k below. ap (λ fs. get_or (vec_items fs) k 0) w.figures;
  after = λ k above. ap (λ fs. get_or (vec_items fs) k 0) w.figures;
}

pub note_here : {d : ℕ} {note : DayNote} {b new : Sheet} → SetsNote d note b new → d < length b.notes → get_or new.notes d NothingKnown ≡ note
note_here {d} {note} {b} w inside = ap (λ ns. get_or ns d NothingKnown) w.notes ∙ get_or-set_same b.notes d note NothingKnown inside

module _ {d : ℕ} {note : DayNote} (old b new : Sheet) (same : b.notes ≡ old.notes) (w : SetsNote d note b new) where
  note_elsewhere : (k : ℕ) → (k ≡ d → ⊥) → get_or new.notes k NothingKnown ≡ get_or old.notes k NothingKnown
  note_elsewhere k other = ap (λ ns. get_or ns k NothingKnown) w.notes ∙ get_or-set_other b.notes d k note NothingKnown other ∙ ap (λ ns. get_or ns k NothingKnown) same

  pub others_stand : ChangesOnlyNotes d (d + 1) old new
  others_stand = record { before = λ k less. note_elsewhere k (λ e. omega arith); after = λ k past. note_elsewhere k (λ e. omega arith) }

pub notes_again : {from to : ℕ} {old b new : Sheet} → b.notes ≡ old.notes → ChangesOnlyNotes from to b new → ChangesOnlyNotes from to old new
notes_again same stand = record {
  before = λ k less. stand.before k less ∙ ap (λ ns. get_or ns k NothingKnown) same;
  after = λ k past. stand.after k past ∙ ap (λ ns. get_or ns k NothingKnown) same;
}

pub notes_join : {a b c : ℕ} {x y z : Sheet} → a ≤ b → b ≤ c → ChangesOnlyNotes a b x y → ChangesOnlyNotes b c y z → ChangesOnlyNotes a c x z
notes_join ab bc first second = record {
  before = λ k less. second.before k (omega arith) ∙ first.before k less;
  after = λ k past. second.after k past ∙ first.after k (omega arith);
}

pub note_outside : {from to : ℕ} {old new : Sheet} → ChangesOnlyNotes from to old new → (d : ℕ) → Outside from to d → get_or new.notes d NothingKnown ≡ get_or old.notes d NothingKnown
note_outside stand d outside = ⊎_elim (λ less. stand.before d less) (λ past. stand.after d past) outside

-- a day outside those that change stays ready, or settled
module _ {from to : ℕ} {old new : Sheet} (only : ChangesOnlyDays from to old new) (notes : ChangesOnlyNotes from to old new) (s : Setting) (h : History) (d : ℕ) (many : old.points ≡ s.points) (outside : Outside from to d) where
  same_history : KeepsEstimates s h h d
  same_history = record { uncovered = λ p none. none; same = λ p none. refl }

  noted_stands : HasTrueNote s h old d → HasTrueNote s h new d
  noted_stands =
      noted_kept same_history old new (λ p low high none. figure_at_stands only p d low (omega (arith, many, high)) outside)
      (note_outside notes d outside)

  pub ready_stands : IsReadyToSettle s h old d → IsReadyToSettle s h new d
  ready_stands ready = (supplied_stands only s h d many outside ready.0, noted_stands ready.1)

  pub settled_stands : IsSettled s h old d → IsSettled s h new d
  settled_stands settled = (day_stands only s h d many outside settled.0, noted_stands settled.1)
