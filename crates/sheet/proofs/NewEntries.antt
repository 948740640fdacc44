-- A sheet that is worked out anew for one more entry is that of the longer history.
use Rattle.std.proofs.Common.{◌≡◌, ℕ, ◌+◌, ◌-◌, ◌*◌, ◌<◌, ◌≤◌, max, true, false, cond, ◌&&◌, eqb, ltb, leb, ◌∷◌, length, get_or, drop, set, replicate, is_some, Some, None, vec_items, Option, Vec, unwrap_or, sym, refl, ap, ◌∙◌, subst, inl, inr, ⊎_elim, arith, List}
use Rattle.std.proofs.lemmas.List.{get_or-set_other, get_or-set_same}
use Rattle.std.proofs.lemmas.Bool.{and_from, and_left, and_parts, and_right, both_ways, cases_Bool, cases_eq, cases_lt, le-leb, le-ltb, lt-leb, lt-ltb, ltb-true}
use Rattle.std.specs.Option.{option_map, option_or}
use Rattle.std.specs.declared.alloc.Global.{Global}
use Rattle.rules.specs.Figures.{load, share_on, has_begun, generated_figures, supplied_figure}
use Rattle.rules.specs.History.{History, Setting, covers, covering_reading}
use Rattle.rules.specs.declared.entry.Enrolment.{Enrolment}
use Rattle.rules.specs.declared.entry.Entry.TheVariants.{DegreeDaysEntered, Enrolled, ReadingTaken}
use Rattle.rules.specs.declared.entry.Reading.{Reading}
use Rattle.ledger.specs.declared.ledger.Ledger.{Ledger}
use Rattle.rules.proofs.Bounds.{held_within}
use Rattle.sheet.specs.Coverage.{CoversTo}
use Rattle.sheet.specs.Sheet.{ChangesOnlyDays, ChangesOnlyNotes, SetsCover, SetsLoad, figure_at, lies_in_sheet}
use Rattle.sheet.specs.SheetOfHistory.{HasTrueNote, IsReadyToSettle, IsSettled, IsSheetOf, KnowsHistory, ShowsDay, ShowsShares, ShowsSharesOver, ShowsSupplied}
use Rattle.sheet.specs.declared.sheet.DayNote.TheVariants.{NothingKnown}
use Rattle.sheet.specs.declared.sheet.Sheet.{Sheet}
use Rattle.sheet.proofs.Changes.{Outside, beyond_stands, figure_at_stands, knows_only, only_again}
use Rattle.sheet.proofs.Coverage.{covered_after_enrolment, covered_after_reading}
use Rattle.sheet.proofs.DayNotes.{count_kept, load_kept, note_outside, noted_kept, reading_kept}
use Rattle.sheet.proofs.EmptySheet.{nothing_noted, read_of_one}
use Rattle.rules.proofs.Balance.{supplied_shows}
use Rattle.rules.proofs.Days.{share_same}
use Rattle.rules.proofs.MovedDays.{enrolment_moves, count_elsewhere, covering_elsewhere, not_covered, reading_elsewhere}
use Rattle.rules.specs.FigureLaws.{SameDay, DiffersInLoad}
use Rattle.rules.specs.Calls.{IsLawful}
use Rattle.rules.specs.Readings.{are_joined}
use Rattle.std.specs.List.{list_any}
use Rattle.rules.proofs.HeldReadings.{covering_held}
use Rattle.rules.proofs.AcceptedEntries.{entry_in}
use Rattle.ledger.specs.Ledger.{IsLedgerOf}

-- what holds of the days from one day up to another, and of all others, holds of each
by_days : {X : Type 0} (from to d : ℕ) → (from ≤ d → d < to → X) → (Outside from to d → X) → X
by_days from to d inside outside =
    ⊎_elim (λ early. outside (inl early)) (λ late. ⊎_elim (λ before. inside late before) (λ after. outside (inr after)) (cases_lt d to)) (cases_lt d from)

-- the days from one day up to another are shown anew, and all others stand under the longer history
pub record IsWorkedOutAnew (s : Setting) (h new : History) (from to : ℕ) (old b : Sheet) : Type 0 where
  pub loads : (d : ℕ) → d < s.days → get_or b.loads d None ≡ load s new d
  pub covered : CoversTo new s.points b.cover_ends
  pub inside : (d : ℕ) → from ≤ d → d < to → ShowsDay s new b d
  pub notes : (d : ℕ) → d < s.days → HasTrueNote s new b d
  pub outside : (d : ℕ) → d < s.days → Outside from to d → SameDay s h new d
  pub elsewhere : (p d : ℕ) → 1 ≤ p → p ≤ s.points → Outside from to d → figure_at b p d ≡ figure_at old p d
  pub days : b.days ≡ old.days
  pub points : b.points ≡ old.points
  pub beyond : drop (old.days * old.points) (vec_items b.figures) ≡ drop (old.days * old.points) (vec_items old.figures)

pub sheet_after : {s : Setting} {rest : List ℕ} {h new : History} {from to : ℕ} {old b : Sheet} → IsWorkedOutAnew s h new from to old b → IsSheetOf s rest h old → IsSheetOf s rest new b
sheet_after {s} {rest} {h} {new} {from} {to} {old} {b} r is_sheet = record {
  days = r.days ∙ is_sheet.days;
  points = r.points ∙ is_sheet.points;
  loads = r.loads;
  covered = r.covered;
  shown = λ d within. by_days from to d (r.inside d) (kept d within);
  noted = r.notes;
  beyond = subst (λ n. drop n (vec_items b.figures) ≡ rest) places (r.beyond ∙ subst (λ n. drop n (vec_items old.figures) ≡ rest) (sym places) is_sheet.beyond);
}
  where
    places : old.days * old.points ≡ s.days * s.points
    places = λ i. is_sheet.days i * is_sheet.points i

    kept : (d : ℕ) → d < s.days → Outside from to d → ShowsDay s new b d
    kept d within away p low high = r.elsewhere p d low high away ∙ is_sheet.shown d within p low high ∙ sym ((r.outside d within away).figures_stand p)

-- what is knows of a day's supplied figure by its reading
supplied_by : (s : Setting) (h : History) (p d x : ℕ) (r : Reading) → covering_reading h p d ≡ Some r → supplied_figure s h p d ≡ Some x → share_on s h d r ≡ x
supplied_by s h p d x r cover is = let both : Some (share_on s h d r) ≡ Some x = ap (option_map (share_on s h d)) (sym cover) ∙ is in cc

none_supplied : (s : Setting) (h : History) (p d x : ℕ) → covering_reading h p d ≡ None → supplied_figure s h p d ≡ Some x → ⊥
none_supplied s h p d x cover is =
    let both : ◌≡◌ {A = Option ℕ} None (Some x) = ap (option_map (share_on s h d)) (sym cover) ∙ is in
    let z : ◌≡◌ {A = ℕ} 0 1 = cc in omega arith

-- a day that a reading covers is a day of the book
covered_day : (s : Setting) (h : History) → IsLawful s h → (p d : ℕ) (r : Reading) → covering_reading h p d ≡ Some r → d < s.days
covered_day s h lawful p d r cover =
    let held = covering_held s h lawful p d r cover in
    let last = (held_within s h lawful r held.0).3 in
    let here = and_parts (leb r.start d) (ltb d r.end) (and_parts (eqb r.point p) (leb r.start d && ltb d r.end) held.1).1 in
    let below : d < r.end = ltb-true d r.end here.1 in
    omega arith

-- a sheet that shows a day shows its supplied figures
pub supplied_shown_before : (s : Setting) {rest : List ℕ} (h : History) (b : Sheet) → IsSheetOf s rest h b → (d : ℕ) → d < s.days → ShowsSupplied s h b d
supplied_shown_before s h b is_sheet d within p x low high is = is_sheet.shown d within p low high ∙ ap (λ o. unwrap_or o (get_or (generated_figures s h d) (p - 1) 0)) is

-- a sheet that only learnt something shows what it showed
pub record HasSameFigures (old new : Sheet) : Type 0 where
  pub days : new.days ≡ old.days
  pub points : new.points ≡ old.points
  pub figures : new.figures ≡ old.figures

module _ {old new : Sheet} (same : HasSameFigures old new) where
  pub figure_at_same : (p d : ℕ) → figure_at new p d ≡ figure_at old p d
  figure_at_same p d = λ i. get_or (vec_items (same.figures i)) (d * same.points i + (p - 1)) 0

  -- and so after a change of some days: the others, and what lies beyond them
  pub elsewhere_same : {from to n : ℕ} {b : Sheet} → new.points ≡ n → ChangesOnlyDays from to new b → (p d : ℕ) → 1 ≤ p → p ≤ n → Outside from to d → figure_at b p d ≡ figure_at old p d
  elsewhere_same many only p d low high outside = figure_at_stands only p d low (omega arith) outside ∙ figure_at_same p d

  pub beyond_same : {from to : ℕ} {b : Sheet} → ChangesOnlyDays from to new b → to ≤ new.days → drop (old.days * old.points) (vec_items b.figures) ≡ drop (old.days * old.points) (vec_items old.figures)
  beyond_same {from} {to} {b} only last =
      subst (λ n. drop n (vec_items b.figures) ≡ drop n (vec_items old.figures)) (λ i. same.days i * same.points i)
      (beyond_stands only last ∙ ap (λ (v : Vec ℕ Global). drop (new.days * new.points) (vec_items v)) same.figures)

-- A changed load.
module _ (s : Setting) (h new : History) (g : ℕ) (l : Ledger) (moved : DiffersInLoad s h new g) (follows : IsLedgerOf s new l)
    {rest : List ℕ} (b0 b1 : Sheet) (is_sheet : IsSheetOf s rest h b0) (learned : SetsLoad g (load s new g) b0 b1) (inside_loads : g < length b0.loads) where
  learned_same : HasSameFigures b0 b1
  learned_same = record { days = learned.days; points = learned.points; figures = learned.figures }

  pub knows_load : KnowsHistory s new l b1
  knows_load = record {
    lawful = moved.lawful;
    follows = follows;
    days = learned.days ∙ is_sheet.days;
    points = learned.points ∙ is_sheet.points;
    loads = λ d within. ap (λ ls. get_or ls d None) learned.loads
        ∙ ⊎_elim
        (λ (here : d ≡ g). ap (λ k. get_or (set b0.loads g (load s new g)) k None) here ∙ get_or-set_same b0.loads g (load s new g) None inside_loads ∙ ap (load s new) (sym here))
        (λ (other : d ≡ g → ⊥). get_or-set_other b0.loads g d (load s new g) None other ∙ is_sheet.loads d within ∙ sym (moved.loads d other)) (cases_eq d g);
    covered = λ p d low high.
        ap is_some (moved.coverings p d) ∙ is_sheet.covered p d low high
        ∙ sym (λ i. has_begun (moved.enrolments p i) d && ltb d (get_or (learned.covered i) (p - 1) 0));
  }

  module _ (from to : ℕ) (b2 : Sheet) (low : from ≤ g) (high : g < to) (last : to ≤ b1.days) (shared_only : ChangesOnlyDays from to b1 b2) (shared : ShowsSharesOver s new g from to b1 b2)
      (notes : b2.notes ≡ b0.notes) where
    -- every supplied figure is shown by the latest loads
    supplied_after_load : (d : ℕ) → ShowsSupplied s new b2 d
    supplied_after_load d p x p_low p_high is = go (covering_reading new p d) refl
      where
        go : (o : Option Reading) → covering_reading new p d ≡ o → figure_at b2 p d ≡ x
        go None e = absurd (none_supplied s new p d x e is)
        go (Some r) e =
            ⊎_elim
            (λ over. shared.shared p d r e over ∙ supplied_by s new p d x r e is)
            (λ apart.
            shared.kept p d r e apart ∙ figure_at_same learned_same p d ∙ is_sheet.shown d (covered_day s new moved.lawful p d r e) p p_low p_high
            ∙ supplied_shows s h p d r (sym (moved.coverings p d) ∙ e)
            ∙ sym (share_same s h new d r (λ k k_low k_high. moved.loads k (not_covered r g k apart k_low k_high)))
            ∙ supplied_by s new p d x r e is)
            (cases_Bool (covers r r.point g))

    -- and what was noted of a day is so
    pub ready_after_load : (d : ℕ) → d < s.days → IsReadyToSettle s new b2 d
    ready_after_load d within = (
      supplied_after_load d,
      noted_kept (load_kept moved d) b0 b2 (λ p p_low p_high none. shared.free p d p_low p_high none ∙ figure_at_same learned_same p d)
          (ap (λ ns. get_or ns d NothingKnown) notes) (is_sheet.noted d within),
    )

    away : (d : ℕ) → Outside from to d → d ≡ g → ⊥
    away d outside same = ⊎_elim (λ before. omega arith) (λ after. omega arith) outside

    apart : (d : ℕ) → Outside from to d → are_joined h d g ≡ false
    apart d outside =
        ⊎_elim
        (λ (joins : are_joined h d g ≡ true).
        let between = shared.between d (ap (list_any (λ r. covers r r.point d && covers r r.point g)) moved.holdings ∙ joins) in
        absurd (⊎_elim (λ before. omega (arith, between.0)) (λ after. omega (arith, between.1)) outside))
        (λ (not_joined : are_joined h d g ≡ false). not_joined) (cases_Bool (are_joined h d g))

    pub sheet_after_load : (b3 : Sheet) → ChangesOnlyDays from to b2 b3 → ChangesOnlyNotes from to b2 b3 → ((d : ℕ) → from ≤ d → d < to → IsSettled s new b3 d) → IsSheetOf s rest new b3
    sheet_after_load b3 settled_only notes_stand settled =
        let only = only_again shared_only settled_only in
        let knows = knows_only only knows_load in
        sheet_after (record {
          loads = knows.loads;
          covered = knows.covered;
          inside = λ d first last. (settled d first last).0;
          notes = λ d within. by_days from to d (λ first last. (settled d first last).1)
              (λ outside.
              noted_kept (load_kept moved d) b0 b3 (λ p p_low p_high none. elsewhere_same learned_same knows_load.points only p d p_low p_high outside)
              (note_outside notes_stand d outside ∙ ap (λ ns. get_or ns d NothingKnown) notes) (is_sheet.noted d within));
          outside = λ d within outside. moved.apart d (away d outside) (apart d outside);
          elsewhere = elsewhere_same learned_same knows_load.points only;
          days = only.days ∙ learned.days;
          points = only.points ∙ learned.points;
          beyond = beyond_same learned_same only last;
        }) is_sheet

-- A new reading.
module _ (s : Setting) (h : History) (r : Reading) (l : Ledger) (lawful : IsLawful s (ReadingTaken r ∷ h)) (follows : IsLedgerOf s (ReadingTaken r ∷ h) l)
    {rest : List ℕ} (b0 b1 : Sheet) (is_sheet : IsSheetOf s rest h b0) (learned : SetsCover r.point (max (get_or b0.cover_ends (r.point - 1) 0) r.end) b0 b1)
    (inside_table : r.point - 1 < length b0.cover_ends) where
  cover_same : HasSameFigures b0 b1
  cover_same = record { days = learned.days; points = learned.points; figures = learned.figures }

  pub knows_reading : KnowsHistory s (ReadingTaken r ∷ h) l b1
  knows_reading = record {
    lawful = lawful;
    follows = follows;
    days = learned.days ∙ is_sheet.days;
    points = learned.points ∙ is_sheet.points;
    loads = λ d within. ap (λ ls. get_or ls d None) learned.loads ∙ is_sheet.loads d within;
    covered = subst (λ to. CoversTo (ReadingTaken r ∷ h) s.points to) (sym learned.covered)
        (covered_after_reading s h s.points r b0.cover_ends lawful is_sheet.covered (entry_in s h (ReadingTaken r) lawful).1 inside_table);
  }

  -- its days show its shares, and all other supplied figures stand
  supplied_after_reading : (b2 : Sheet) → ShowsShares s (ReadingTaken r ∷ h) r b1 b2 → (d : ℕ) → ShowsSupplied s (ReadingTaken r ∷ h) b2 d
  supplied_after_reading b2 shares d p x low high is =
      ⊎_elim
      (λ (here : covers r p d ≡ true).
      shares p d low high ∙ ap (λ t. cond t (share_on s (ReadingTaken r ∷ h) d r) (figure_at b1 p d)) here
      ∙ supplied_by s (ReadingTaken r ∷ h) p d x r (ap (λ t. option_or (cond t (Some r) None) (covering_reading h p d)) here) is)
      (λ (away : covers r p d ≡ false).
      shares p d low high ∙ ap (λ t. cond t (share_on s (ReadingTaken r ∷ h) d r) (figure_at b1 p d)) away ∙ figure_at_same cover_same p d
      ∙ go (covering_reading h p d) refl (covering_elsewhere h r p d away))
      (cases_Bool (covers r p d))
    where
      go : (o : Option Reading) → covering_reading h p d ≡ o → covering_reading (ReadingTaken r ∷ h) p d ≡ covering_reading h p d → figure_at b0 p d ≡ x
      go None e same = absurd (none_supplied s (ReadingTaken r ∷ h) p d x (same ∙ e) is)
      go (Some old) e same =
          is_sheet.shown d (covered_day s h lawful.0 p d old e) p low high ∙ supplied_shows s h p d old e ∙ supplied_by s (ReadingTaken r ∷ h) p d x old (same ∙ e) is

  -- and what was noted of a day is so
  pub ready_after_reading : (b2 : Sheet) → ShowsShares s (ReadingTaken r ∷ h) r b1 b2 → b2.notes ≡ b0.notes → (d : ℕ) → d < s.days → IsReadyToSettle s (ReadingTaken r ∷ h) b2 d
  ready_after_reading b2 shares notes d within = (
    supplied_after_reading b2 shares d,
    noted_kept (reading_kept s h r d) b0 b2 stands (ap (λ ns. get_or ns d NothingKnown) notes) (is_sheet.noted d within),
  )
    where
      stands : (p : ℕ) → 1 ≤ p → p ≤ s.points → is_some (covering_reading (ReadingTaken r ∷ h) p d) ≡ false → figure_at b2 p d ≡ figure_at b0 p d
      stands p low high none =
          ⊎_elim
          (λ (here : covers r p d ≡ true).
          absurd (both_ways (is_some (covering_reading (ReadingTaken r ∷ h) p d)) none (ap (λ t. is_some (option_or (cond t (Some r) None) (covering_reading h p d))) here)))
          (λ (away : covers r p d ≡ false).
          shares p d low high ∙ ap (λ t. cond t (share_on s (ReadingTaken r ∷ h) d r) (figure_at b1 p d)) away ∙ figure_at_same cover_same p d)
          (cases_Bool (covers r p d))

  pub sheet_after_reading : (b3 : Sheet) → ChangesOnlyDays r.start r.end b1 b3 → ChangesOnlyNotes r.start r.end b0 b3 → r.end ≤ b1.days → ((d : ℕ) → r.start ≤ d → d < r.end → IsSettled s (ReadingTaken r ∷ h) b3 d) → IsSheetOf s rest (ReadingTaken r ∷ h) b3
  sheet_after_reading b3 only notes_stand last settled =
      let knows = knows_only only knows_reading in
      sheet_after (record {
        loads = knows.loads;
        covered = knows.covered;
        inside = λ d first last. (settled d first last).0;
        notes = λ d within. by_days r.start r.end d (λ first last. (settled d first last).1)
            (λ outside.
            noted_kept (reading_kept s h r d) b0 b3 (λ p low high none. elsewhere_same cover_same knows_reading.points only p d low high outside)
            (note_outside notes_stand d outside) (is_sheet.noted d within));
        outside = λ d within outside. reading_elsewhere s h r d (not_over d outside);
        elsewhere = elsewhere_same cover_same knows_reading.points only;
        days = only.days ∙ learned.days;
        points = only.points ∙ learned.points;
        beyond = beyond_same cover_same only last;
      }) is_sheet
    where
      not_over : (d : ℕ) → Outside r.start r.end d → covers r r.point d ≡ false
      not_over d (inl before) = and_right (eqb r.point r.point) _ (and_left (leb r.start d) (ltb d r.end) (lt-leb r.start d before))
      not_over d (inr after) = and_right (eqb r.point r.point) _ (and_right (leb r.start d) (ltb d r.end) (le-ltb d r.end after))

-- An enrolment.
module _ (s : Setting) (h : History) (q : ℕ) (e : Enrolment) (l : Ledger) (lawful : IsLawful s (Enrolled q e ∷ h)) (follows : IsLedgerOf s (Enrolled q e ∷ h) l)
    {rest : List ℕ} (b0 b1 : Sheet) (is_sheet : IsSheetOf s rest h b0) (learned : SetsCover q e.start b0 b1) (inside_table : q - 1 < length b0.cover_ends) where
  start_same : HasSameFigures b0 b1
  start_same = record { days = learned.days; points = learned.points; figures = learned.figures }

  pub knows_enrolment : KnowsHistory s (Enrolled q e ∷ h) l b1
  knows_enrolment = record {
    lawful = lawful;
    follows = follows;
    days = learned.days ∙ is_sheet.days;
    points = learned.points ∙ is_sheet.points;
    loads = λ d within. ap (λ ls. get_or ls d None) learned.loads ∙ is_sheet.loads d within;
    covered = subst (λ to. CoversTo (Enrolled q e ∷ h) s.points to) (sym learned.covered)
        (covered_after_enrolment s h s.points q e b0.cover_ends lawful is_sheet.covered (entry_in s h (Enrolled q e) lawful).0 inside_table);
  }

  -- supplied figures stand
  supplied_after_enrolment : (d : ℕ) → d < s.days → ShowsSupplied s (Enrolled q e ∷ h) b1 d
  supplied_after_enrolment d within p x low high is = figure_at_same start_same p d ∙ supplied_shown_before s h b0 is_sheet d within p x low high is

  module _ (notes : b1.notes ≡ replicate 400 NothingKnown) where
    none_noted : (d : ℕ) → get_or b1.notes d NothingKnown ≡ NothingKnown
    none_noted d = ap (λ ns. get_or ns d NothingKnown) notes ∙ read_of_one NothingKnown 400 d

    pub ready_after_enrolment : (d : ℕ) → d < s.days → IsReadyToSettle s (Enrolled q e ∷ h) b1 d
    ready_after_enrolment d within = (supplied_after_enrolment d within, nothing_noted s (Enrolled q e ∷ h) b1 d (none_noted d))

  pub sheet_after_enrolment : (b3 : Sheet) → ChangesOnlyDays e.start b1.days b1 b3 → ChangesOnlyNotes e.start b1.days b1 b3 → b1.notes ≡ replicate 400 NothingKnown
      → ((d : ℕ) → e.start ≤ d → d < b1.days → IsSettled s (Enrolled q e ∷ h) b3 d) → IsSheetOf s rest (Enrolled q e ∷ h) b3
  sheet_after_enrolment b3 only notes_stand notes settled =
      let knows = knows_only only knows_enrolment in
      sheet_after (record {
        loads = knows.loads;
        covered = knows.covered;
        inside = λ d first last. (settled d first last).0;
        notes = λ d within. by_days e.start b1.days d (λ first last. (settled d first last).1)
            (λ outside. nothing_noted s (Enrolled q e ∷ h) b3 d (note_outside notes_stand d outside ∙ none_noted notes d));
        outside = λ d within outside. enrolment_moves s h q d e lawful (⊎_elim (λ (before : d < e.start). before) (λ (after : b1.days ≤ d). absurd (omega (arith, knows_enrolment.days))) outside);
        elsewhere = elsewhere_same start_same knows_enrolment.points only;
        days = only.days ∙ learned.days;
        points = only.points ∙ learned.points;
        beyond = beyond_same start_same only (omega arith);
      }) is_sheet

-- A degree-day count.
module _ (s : Setting) (h : History) (g count : ℕ) (l : Ledger) (lawful : IsLawful s (DegreeDaysEntered g count ∷ h)) (follows : IsLedgerOf s (DegreeDaysEntered g count ∷ h) l)
    {rest : List ℕ} (b0 : Sheet) (is_sheet : IsSheetOf s rest h b0) where
  pub knows_count : KnowsHistory s (DegreeDaysEntered g count ∷ h) l b0
  knows_count = record {
    lawful = lawful;
    follows = follows;
    days = is_sheet.days;
    points = is_sheet.points;
    loads = is_sheet.loads;
    covered = is_sheet.covered;
  }

  pub supplied_after_count : (d : ℕ) → d < s.days → ShowsSupplied s (DegreeDaysEntered g count ∷ h) b0 d
  supplied_after_count d within p x low high is = supplied_shown_before s h b0 is_sheet d within p x low high is

  pub sheet_after_count : (b1 : Sheet) → ChangesOnlyDays g (g + 1) b0 b1 → ChangesOnlyNotes g (g + 1) b0 b1 → IsSettled s (DegreeDaysEntered g count ∷ h) b1 g → IsSheetOf s rest (DegreeDaysEntered g count ∷ h) b1
  sheet_after_count b1 only notes_stand settled =
      let knows = knows_only only knows_count in
      let within = (entry_in s h (DegreeDaysEntered g count) lawful).0 in
      sheet_after (record {
        loads = knows.loads;
        covered = knows.covered;
        inside = λ d low high. (here d low high).0;
        notes = λ d in_book. by_days g (g + 1) d (λ low high. (here d low high).1)
            (λ outside.
            noted_kept (count_kept s h g count d (away d outside)) b0 b1 (λ p low high none. figure_at_stands only p d low (omega (arith, is_sheet.points)) outside)
            (note_outside notes_stand d outside) (is_sheet.noted d in_book));
        outside = λ d inside outside. count_elsewhere s h g d count (away d outside);
        elsewhere = λ p d low high outside. figure_at_stands only p d low (omega (arith, is_sheet.points)) outside;
        days = only.days;
        points = only.points;
        beyond = beyond_stands only (omega (arith, within, is_sheet.days));
      }) is_sheet
    where
      here : (d : ℕ) → g ≤ d → d < g + 1 → IsSettled s (DegreeDaysEntered g count ∷ h) b1 d
      here d low high = subst (λ k. IsSettled s (DegreeDaysEntered g count ∷ h) b1 k) (omega arith) settled

      away : (d : ℕ) → Outside g (g + 1) d → d ≡ g → ⊥
      away d outside same = ⊎_elim (λ before. omega arith) (λ after. omega arith) outside

-- a reading that a book has just accepted lies in a sheet of its days and points
pub reading_lies : (s : Setting) {rest : List ℕ} (h : History) (r : Reading) → IsLawful s (ReadingTaken r ∷ h) → (b : Sheet) → IsSheetOf s rest h b → lies_in_sheet b r ≡ true
reading_lies s h r lawful b is_sheet =
    let within = held_within s (ReadingTaken r ∷ h) lawful r (inl refl) in
    and_from _ _ (le-leb 1 r.point within.0)
    (and_from _ _ (le-leb r.point b.points (omega (arith, within.1, is_sheet.points)))
    (and_from _ _ (lt-ltb r.start r.end within.2)
    (and_from _ _ (le-leb r.end b.days (omega (arith, within.3, is_sheet.days))) (le-leb r.energy 10000000 within.4))))
