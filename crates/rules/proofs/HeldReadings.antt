-- The held readings of every history that a book can have.
use Rattle.std.proofs.Common.{◌≡◌, ℕ, ◌<◌, ◌≤◌, Bool, true, not, ◌&&◌, eqb, leb, ◌⊎◌, [], ◌∷◌, None, refl, inl, inr, ⊎_elim, is_some, Some, count_by, sym, ap, ◌∙◌, arith, Option, length}
use Rattle.std.proofs.lemmas.Bool.{and_parts, and_from, both_ways, cases_lt, eqb-true, eq-eqb, le-leb, not-true, or_cases, or_left, or_right, false≢true, and_cases, not-false}
use Rattle.rules.specs.Calls.{IsLawful, is_after_all_marks, has_begun_before}
use Rattle.rules.specs.History.{History, Setting, covering_reading, enrolment_of, covers}
use Rattle.rules.specs.Readings.{held_readings, is_mark, replaces, starts_on, Holds}
use Rattle.std.specs.List.{list_any, find}
use Rattle.rules.specs.declared.entry.Entry.TheVariants.{Enrolled, ReadingTaken}
use Rattle.rules.specs.declared.entry.Reading.{Reading}
use Rattle.rules.proofs.AcceptedEntries.{FitsIn, fits, newly_enrolled}
use Rattle.rules.proofs.Readings.{among_some, some_among, count_apart, count_some, begun_later, covers_facts, first_among, first_is_some, first_none}
use Rattle.rules.proofs.EndToEnd.{AtMark, IsTiled, tiled_enrolled, tiled_more, tiled_none, whole}
use Rattle.rules.specs.Figures.{is_active, has_begun}
use Rattle.rules.specs.ReadingLaws.{HoldsEndToEnd, LastIsHeld, ReplacesWholes}
use Rattle.std.proofs.lemmas.List.Sums.{length-filter}
use Rattle.terms.specs.ReadingType.{is_firm}

-- the test of a mark, and what it tells
pub at_mark : (h : History) (p m : ℕ) → is_mark h p m ≡ true → AtMark (enrolment_of h) (held_readings h) p m
at_mark h p m e =
    let ends : Reading → Bool = λ r. eqb r.point p && eqb r.end m in
    ⊎_elim (λ start. inl start)
    (λ some.
    let found = some_among ends (held_readings h) some in
    let parts = and_parts (eqb found.0.point p) (eqb found.0.end m) found.2 in
    inr (found.0, found.1, eqb-true found.0.point p parts.0, eqb-true found.0.end m parts.1))
    (or_cases (starts_on (enrolment_of h p) m) (list_any ends (held_readings h)) e)

-- and what it follows from
pub mark_from : (h : History) (p m : ℕ) → AtMark (enrolment_of h) (held_readings h) p m → is_mark h p m ≡ true
mark_from h p m (inl start) =
    or_left (starts_on (enrolment_of h p) m) (list_any (λ r. eqb r.point p && eqb r.end m) (held_readings h)) start
mark_from h p m (inr (r, a, at_point, at_end)) =
    or_right (starts_on (enrolment_of h p) m) (list_any (λ r. eqb r.point p && eqb r.end m) (held_readings h))
    (among_some (λ r. eqb r.point p && eqb r.end m) (held_readings h) r a
    (and_from (eqb r.point p) (eqb r.end m) (eq-eqb r.point p at_point) (eq-eqb r.end m at_end)))

-- a day after all marks is later than the end of every held reading
pub after_all : (h : History) (p m : ℕ)
    → is_after_all_marks h p m ≡ true → (o : Reading) → Holds h o → o.point ≡ p → o.end < m
after_all h p m e o a same =
    let late : Reading → Bool = λ r. eqb r.point p && leb m r.end in
    let parts = and_parts (has_begun_before (enrolment_of h p) m) (not (list_any late (held_readings h))) e in
    ⊎_elim (λ (early : o.end < m). early)
    (λ (end : m ≤ o.end).
    absurd (both_ways (list_any late (held_readings h)) (not-true (list_any late (held_readings h)) parts.1)
    (among_some late (held_readings h) o a
    (and_from (eqb o.point p) (leb m o.end) (eq-eqb o.point p same) (le-leb m o.end end)))))
    (cases_lt o.end m)

-- the end that an accepted reading has
pub end_allowed : (s : Setting) (h : History) (r : Reading)
    → FitsIn s h r
    → AtMark (enrolment_of h) (held_readings h) r.point r.end
    ⊎ ((o : Reading) → Holds h o → o.point ≡ r.point → o.end < r.end)
end_allowed s h r f =
    ⊎_elim (λ at. inl (at_mark h r.point r.end at)) (λ after. inr (after_all h r.point r.end after))
    (or_cases (is_mark h r.point r.end) (is_after_all_marks h r.point r.end) f.end_mark)

-- the readings that a history leaves lie end to end
pub tiled : (s : Setting) (h : History)
    → IsLawful s h → IsTiled (λ p. enrolment_of h p) (held_readings h) (λ p d. covering_reading h p d)
tiled s [] lawful = tiled_none (λ p. None) (λ p. refl)
tiled s (Enrolled p e ∷ h) lawful = tiled_enrolled (tiled s h lawful.0) p e (newly_enrolled s h p e lawful)
tiled s (ReadingTaken r ∷ h) lawful =
    let f = fits s h r lawful in
    tiled_more (tiled s h lawful.0) r (at_mark h r.point r.start f.start_mark) f.ahead (end_allowed s h r f)
tiled s (e ∷ h) lawful = tiled s h lawful.0

-- a held reading that a newly accepted one replaces lies inside it
pub replaced_whole : (s : Setting) (h : History) (r old : Reading)
    → IsLawful s (ReadingTaken r ∷ h) → Holds h old → replaces r old ≡ true
    → (r.start ≤ old.start) × (old.end ≤ r.end)
replaced_whole s h r old lawful a e =
    let f = fits s h r lawful in
    whole (tiled s h lawful.0) r (at_mark h r.point r.start f.start_mark) f.ahead (end_allowed s h r f) old a e

module _ (s : Setting) (h : History) (lawful : IsLawful s h) where
  -- the end of a held reading is a mark
  pub held_ends_at_mark : (r : Reading) → Holds h r → is_mark h r.point r.end ≡ true
  held_ends_at_mark r a = mark_from h r.point r.end (inr (r, a, refl, refl))

  -- a held reading covers each day from the start day up to a mark
  pub reached : (p d m : ℕ)
      → is_active h p d ≡ true → is_mark h p m ≡ true → d < m → (r : Reading) × Holds h r × (covers r p d ≡ true)
  reached p d m b e before = (tiled s h lawful).reaches p d m b (at_mark h p m e) before

  -- so each such day is covered
  pub covered_to_mark : (p d m : ℕ)
      → is_active h p d ≡ true → is_mark h p m ≡ true → d < m → is_some (covering_reading h p d) ≡ true
  covered_to_mark p d m b e before =
      let found = reached p d m b e before in
      ap is_some ((tiled s h lawful).held_last p d found.0 found.1 found.2)

  -- by one reading
  pub one_covers : (p d m : ℕ)
      → is_active h p d ≡ true → is_mark h p m ≡ true → d < m → count_by (λ r. covers r p d) (held_readings h) ≡ 1
  one_covers p d m b e before =
      let found = reached p d m b e before in
      omega (
        arith,
        count_apart p d (held_readings h) (tiled s h lawful).apart,
        count_some (λ r. covers r p d) (held_readings h) found.0 found.1 found.2,
      )

  -- a covered day lies between the start day and a mark
  pub covered_between : (p d : ℕ) (r : Reading)
      → covering_reading h p d ≡ Some r → (is_active h p d ≡ true) × (is_mark h p r.end ≡ true) × (d < r.end)
  covered_between p d r e =
      let was = (tiled s h lawful).shown p d r e in
      let facts = covers_facts r p d was.1 in
      let begins : has_begun (enrolment_of h p) r.start ≡ true =
      ap (λ q. has_begun (enrolment_of h q) r.start) (sym facts.0) ∙ (tiled s h lawful).begins r was.0 in
      let ends : is_mark h p r.end ≡ true = ap (λ q. is_mark h q r.end) (sym facts.0) ∙ held_ends_at_mark r was.0 in
      (begun_later (enrolment_of h p) r.start d begins facts.1, ends, facts.2)

  -- the held readings of a point lie end to end
  pub end_to_end : HoldsEndToEnd h
  end_to_end = record {
    ahead = (tiled s h lawful).forward;
    start_is_mark = λ r a. mark_from h r.point r.start ((tiled s h lawful).from_mark r a);
    end_is_mark = held_ends_at_mark;
    not_before_start = (tiled s h lawful).begins;
    only_enrolled = λ r a none. false≢true (ap (λ o. has_begun o r.start) (sym none) ∙ (tiled s h lawful).begins r a);
    apart = (tiled s h lawful).apart;
    at_most_one = λ p d. count_apart p d (held_readings h) (tiled s h lawful).apart;
    covered = covered_to_mark;
    exactly_one = one_covers;
    only_between = covered_between;
  }

module _ (s : Setting) (h : History) (lawful : IsLawful s h) where
  -- the last accepted reading of a day is held and covers it
  pub covering_held : (p d : ℕ) (r : Reading) → covering_reading h p d ≡ Some r → Holds h r × (covers r p d ≡ true)
  covering_held = (tiled s h lawful).shown

  -- a held reading that covers a day is the last accepted one on it
  pub held_covering : (p d : ℕ) (r : Reading) → Holds h r → covers r p d ≡ true → covering_reading h p d ≡ Some r
  held_covering = (tiled s h lawful).held_last

  -- where no held reading covers a day, none is the last accepted
  none_covering : (p d : ℕ) (o : Option Reading)
      → covering_reading h p d ≡ o → find (λ r. covers r p d) (held_readings h) ≡ None
      → covering_reading h p d ≡ None
  none_covering p d None e none = e
  none_covering p d (Some r) e none =
      let held = covering_held p d r e in
      absurd (first_none (λ x. covers x p d) (held_readings h) r none held.0 held.1)

  -- the last accepted reading is the first held one that covers the day, where there is one
  first_covering : (p d : ℕ) (o : Option Reading)
      → find (λ r. covers r p d) (held_readings h) ≡ o → covering_reading h p d ≡ o
  first_covering p d None e = none_covering p d (covering_reading h p d) refl e
  first_covering p d (Some r) e =
      let first = first_among (λ x. covers x p d) (held_readings h) r e in
      held_covering p d r first.0 first.1

  -- the last accepted reading is the first held one that covers the day
  pub covering_first : (p d : ℕ) → covering_reading h p d ≡ find (λ r. covers r p d) (held_readings h)
  covering_first p d = first_covering p d (find (λ r. covers r p d) (held_readings h)) refl

  -- there is one where some held reading covers the day
  pub covering_some : (p d : ℕ) → is_some (covering_reading h p d) ≡ list_any (λ r. covers r p d) (held_readings h)
  covering_some p d = ap is_some (covering_first p d) ∙ first_is_some (λ r. covers r p d) (held_readings h)

  -- a reading that is the last on one of its days is the last on all of them
  pub covering_spans : (p d e : ℕ) (r : Reading)
      → covering_reading h p d ≡ Some r → covers r p e ≡ true → covering_reading h p e ≡ Some r
  covering_spans p d e r last c = held_covering p e r (covering_held p d r last).0 c

  -- the last accepted reading that covers a day is the one held reading that does
  pub last_covering : LastIsHeld h
  last_covering = record {
    is_held = covering_held;
    held_is_last = held_covering;
    first_held = covering_first;
    some_held = covering_some;
    on_all_its_days = covering_spans;
  }

-- What a newly accepted reading replaces, and the places that it leaves.

-- a reading that replaces a firm one is firm
pub firm_replaced : (s : Setting) (h : History) (r old : Reading)
    → IsLawful s (ReadingTaken r ∷ h) → Holds h old → replaces r old ≡ true → is_firm old.reading_type ≡ true
    → is_firm r.reading_type ≡ true
firm_replaced s h r old lawful a e f =
    let over : Reading → Bool = λ o. replaces r o && is_firm o.reading_type in
    ⊎_elim (λ soft. not-false (is_firm r.reading_type) soft)
    (λ none. absurd (both_ways (list_any over (held_readings h)) none
    (among_some over (held_readings h) old a (and_from (replaces r old) (is_firm old.reading_type) e f))))
    (and_cases (not (is_firm r.reading_type)) (list_any over (held_readings h)) (fits s h r lawful).over_firm)

-- a newly accepted reading replaces whole readings, and firm ones only where it is firm itself
pub replacing : (s : Setting) (h : History) (r : Reading) → IsLawful s (ReadingTaken r ∷ h) → ReplacesWholes h r
replacing s h r lawful = record {
  wholly = λ old a e. replaced_whole s h r old lawful a e;
  firm_by_firm = λ old a e f. firm_replaced s h r old lawful a e f;
}

-- no more readings are held than there are places
pub within_places : (s : Setting) (h : History) → IsLawful s h → length (held_readings h) ≤ s.places
within_places s [] lawful = omega arith
within_places s (ReadingTaken r ∷ h) lawful =
    omega (arith, (fits s h r lawful).room, length-filter (λ old. not (replaces r old)) (held_readings h))
within_places s (e ∷ h) lawful = within_places s h lawful.0
