-- Readings that lie end to end, and that they still do after one more reading or enrolment.
use Rattle.std.proofs.Common.{◌≡◌, ℕ, ◌<◌, ◌≤◌, Bool, true, false, cond, not, eqb, ◌⊎◌, List, [], ◌∷◌, is_some, Some, None, filter, Option, unwrap_or, sym, refl, ap, ◌∙◌, subst, inl, inr, ⊎_elim, arith}
use Rattle.std.specs.Option.{option_or}
use Rattle.std.proofs.ByRecursion.{All-weaker, kept_by_passes}
use Rattle.std.proofs.lemmas.Bool.{both_ways, cases_Bool, cases_lt, eqb-true, false≢true, not-true, not_from_false}
use Rattle.rules.specs.Figures.{has_begun}
use Rattle.rules.specs.History.{covers}
use Rattle.rules.specs.Readings.{replaces, starts_on, IsOneOf, AreApart}
use Rattle.rules.specs.declared.entry.Enrolment.{Enrolment}
use Rattle.rules.specs.declared.entry.Reading.{Reading}
use Rattle.rules.proofs.Readings.{among_kept, apart_kept, apart_two, kept_among, begun_enrolled, begun_later, covers_facts, covers_from, not_so, one_before, replaces_facts, shares_none, starts_begun, starts_enrolled, starts_first}

-- a day is a mark of a point: its start day, or the end of a reading of it
abbrev pub AtMark : (ℕ → Option Enrolment) → List Reading → ℕ → ℕ → Type 0
AtMark enrolled readings p m =
    (starts_on (enrolled p) m ≡ true) ⊎ ((r : Reading) × IsOneOf r readings × (r.point ≡ p) × (r.end ≡ m))

-- readings that lie end to end from the start day of each point to its last mark, and are the last to cover their days
pub record IsTiled
    (enrolled : ℕ → Option Enrolment) (readings : List Reading) (last : ℕ → ℕ → Option Reading) : Type 0 where
  pub begins : (r : Reading) → IsOneOf r readings → has_begun (enrolled r.point) r.start ≡ true
  pub forward : (r : Reading) → IsOneOf r readings → r.start < r.end
  pub from_mark : (r : Reading) → IsOneOf r readings → AtMark enrolled readings r.point r.start
  pub apart : AreApart readings
  pub reaches : (p d m : ℕ)
      → has_begun (enrolled p) d ≡ true → AtMark enrolled readings p m → d < m
      → (r : Reading) × IsOneOf r readings × (covers r p d ≡ true)
  pub shown : (p d : ℕ) (r : Reading) → last p d ≡ Some r → IsOneOf r readings × (covers r p d ≡ true)
  pub held_last : (p d : ℕ) (r : Reading) → IsOneOf r readings → covers r p d ≡ true → last p d ≡ Some r

-- no readings lie end to end, while no point is enrolled
pub tiled_none : (enrolled : ℕ → Option Enrolment) → ((p : ℕ) → enrolled p ≡ None) → IsTiled enrolled [] (λ p d. None)
tiled_none enrolled none = record {
  begins = λ r a. absurd a;
  forward = λ r a. absurd a;
  from_mark = λ r a. absurd a;
  apart = tt;
  reaches = λ p d m b mark h. absurd (false≢true (ap (λ o. has_begun o d) (sym (none p)) ∙ b));
  shown = λ p d r e. absurd (false≢true (ap is_some e));
  held_last = λ p d r a c. absurd a;
}

-- One more reading: it starts at a mark, and ends after its start, at a mark or later than every reading of its point.
module _
    {enrolled : ℕ → Option Enrolment} {readings : List Reading} {last : ℕ → ℕ → Option Reading}
    (t : IsTiled enrolled readings last) (r : Reading)
    (start_mark : AtMark enrolled readings r.point r.start) (ahead : r.start < r.end)
    (end_mark : AtMark enrolled readings r.point r.end
    ⊎ ((o : Reading) → IsOneOf o readings → o.point ≡ r.point → o.end < r.end)) where
  -- a mark lies in no reading: it is its start or before, or its end or later
  mark_outside : (o : Reading)
      → IsOneOf o readings → (m : ℕ) → AtMark enrolled readings o.point m → (m ≤ o.start) ⊎ (o.end ≤ m)
  mark_outside o a m (inl start) = inl (starts_first (enrolled o.point) m o.start start (t.begins o a))
  mark_outside o a m (inr end) =
      let other = end.0 in
      let ends : other.end ≡ m = end.3 in
      let some_day : other.start < other.end = t.forward other end.1 in
      ⊎_elim
      (λ same. let same_end : other.end ≡ o.end = ap (λ x. x.end) same in inr (omega arith))
      (λ free.
      ⊎_elim (λ (before : o.end ≤ other.start). inr (omega arith)) (λ (after : other.end ≤ o.start). inl (omega arith))
      (one_before other o end.2 free))
      (apart_two other o readings t.apart end.1 a)

  -- a reading that it replaces lies inside it
  pub whole : (o : Reading) → IsOneOf o readings → replaces r o ≡ true → (r.start ≤ o.start) × (o.end ≤ r.end)
  whole o a e =
      let facts = replaces_facts r o e in
      let start_here : AtMark enrolled readings o.point r.start = rw facts.0 at start_mark in
      let starts_before : r.start ≤ o.start =
      ⊎_elim (λ x. x) (λ late. absurd (omega (arith, facts.1))) (mark_outside o a r.start start_here) in
      let ends_after : o.end ≤ r.end =
      ⊎_elim
      (λ mark. let end_here : AtMark enrolled readings o.point r.end = rw facts.0 at mark in
      ⊎_elim (λ early. absurd (omega (arith, facts.2))) (λ x. x) (mark_outside o a r.end end_here))
      (λ later. omega (arith, later o a (sym facts.0)))
      end_mark
      in
      (starts_before, ends_after)

  -- an old reading stays where the new one does not replace it
  abbrev stays : Reading → Bool
  stays old = not (replaces r old)

  -- the readings after it
  abbrev pub now_held : List Reading
  now_held = r ∷ filter stays readings

  -- the last accepted readings after it
  abbrev pub now_last : ℕ → ℕ → Option Reading
  now_last p d = option_or (cond (covers r p d) (Some r) None) (last p d)

  -- a reading that it does not replace is kept
  keep : (o : Reading) → IsOneOf o readings → replaces r o ≡ false → IsOneOf o now_held
  keep o a e = inr (among_kept o stays readings a (not_from_false (replaces r o) e))

  -- a kept reading was there, and it does not replace it
  kept : (o : Reading) → IsOneOf o (filter stays readings) → IsOneOf o readings × (replaces r o ≡ false)
  kept o a = let back = kept_among o stays readings a in (back.0, not-true (replaces r o) back.1)

  -- its point has begun at its start
  new_begins : has_begun (enrolled r.point) r.start ≡ true
  new_begins =
      ⊎_elim (λ start. starts_begun (enrolled r.point) r.start r.start start (omega arith))
      (λ end.
      let other = end.0 in
      let here : has_begun (enrolled r.point) other.start ≡ true = rw end.2 at (t.begins other end.1) in
      begun_later (enrolled r.point) other.start r.start here (omega (arith, t.forward other end.1, end.3)))
      start_mark

  -- so have the points of all readings at theirs
  now_begins : (o : Reading) → IsOneOf o now_held → has_begun (enrolled o.point) o.start ≡ true
  now_begins o (inl same) = rw same at new_begins
  now_begins o (inr later) = t.begins o (kept o later).0

  -- every reading ends after its start
  now_forward : (o : Reading) → IsOneOf o now_held → o.start < o.end
  now_forward o (inl same) = rw same at ahead
  now_forward o (inr later) = t.forward o (kept o later).0

  -- its start is a mark after it too
  new_from_mark : AtMark enrolled now_held r.point r.start
  new_from_mark =
      ⊎_elim (λ start. inl start)
      (λ end.
      let other = end.0 in
      let free : replaces r other ≡ false =
      not_so (replaces r other) (λ e. omega (arith, (replaces_facts r other e).1, end.3)) in
      inr (other, keep other end.1 free, end.2, end.3))
      start_mark

  -- a mark that a kept reading starts at is one still: where the reading that ended there is replaced, the new one ends
  -- there
  kept_from_mark : (o : Reading)
      → IsOneOf o readings → replaces r o ≡ false → AtMark enrolled now_held o.point o.start
  kept_from_mark o a free =
      ⊎_elim (λ start. inl start)
      (λ end.
      let other = end.0 in
      ⊎_elim
      (λ gone.
      let inside = whole other end.1 gone in
      let same : r.point ≡ o.point = (replaces_facts r other gone).0 ∙ end.2 in
      let meets : r.end ≡ o.start =
      ⊎_elim
      (λ (before : o.end ≤ r.start). absurd (omega (arith, inside.0, t.forward other end.1, end.3, t.forward o a)))
      (λ (after : r.end ≤ o.start). omega (arith, inside.1, end.3)) (one_before r o same free)
      in
      inr (r, inl refl, same, meets))
      (λ stays. inr (other, keep other end.1 stays, end.2, end.3))
      (cases_Bool (replaces r other)))
      (t.from_mark o a)

  -- every reading starts at a mark
  now_from_mark : (o : Reading) → IsOneOf o now_held → AtMark enrolled now_held o.point o.start
  now_from_mark o (inl same) = subst (λ x. AtMark enrolled now_held x.point x.start) same new_from_mark
  now_from_mark o (inr later) = let was = kept o later in kept_from_mark o was.0 was.1

  -- no two share a day
  now_apart : AreApart now_held
  now_apart = (
    All-weaker (λ o. stays o ≡ true) (λ o. replaces r o ≡ false) (λ o e. not-true (replaces r o) e)
        (filter stays readings) (kept_by_passes stays readings),
    apart_kept stays readings t.apart,
  )

  -- a reading that covers a day which the new one does not cover is kept
  uncovered_kept : (p d : ℕ)
      → covers r p d ≡ false → (o : Reading) → IsOneOf o readings → covers o p d ≡ true → IsOneOf o now_held
  uncovered_kept p d bare o a c =
      ⊎_elim
      (λ gone.
      let inside = whole o a gone in
      let facts = covers_facts o p d c in
      let same : r.point ≡ p = (replaces_facts r o gone).0 ∙ facts.0 in
      absurd (both_ways (covers r p d) bare
      (covers_from r p d same (omega (arith, inside.0, facts.1)) (omega (arith, inside.1, facts.2)))))
      (λ stays. keep o a stays)
      (cases_Bool (replaces r o))

  -- a mark that is not the new end was a mark, so the days before it were covered; so were those before the new start
  was_reached : (p d m : ℕ)
      → has_begun (enrolled p) d ≡ true → AtMark enrolled now_held p m → d < m → covers r p d ≡ false
      → (o : Reading) × IsOneOf o readings × (covers o p d ≡ true)
  was_reached p d m b (inl start) h bare = t.reaches p d m b (inl start) h
  was_reached p d m b (inr (o, inl same, at_point, at_end)) h bare =
      let same_point : r.point ≡ p = ap (λ x. x.point) same ∙ at_point in
      let same_end : r.end ≡ m = ap (λ x. x.end) same ∙ at_end in
      let start_here : AtMark enrolled readings p r.start = rw same_point at start_mark in
      ⊎_elim (λ early. t.reaches p d r.start b start_here early)
      (λ inside. absurd (both_ways (covers r p d) bare (covers_from r p d same_point inside (omega arith))))
      (cases_lt d r.start)
  was_reached p d m b (inr (o, inr later, at_point, at_end)) h bare =
      t.reaches p d m b (inr (o, (kept o later).0, at_point, at_end)) h

  -- each day from the start day up to a mark is covered
  now_reaches : (p d m : ℕ)
      → has_begun (enrolled p) d ≡ true → AtMark enrolled now_held p m → d < m
      → (o : Reading) × IsOneOf o now_held × (covers o p d ≡ true)
  now_reaches p d m b mark h =
      ⊎_elim (λ c. (r, inl refl, c))
      (λ bare. let was = was_reached p d m b mark h bare in (was.0, uncovered_kept p d bare was.0 was.1 was.2, was.2))
      (cases_Bool (covers r p d))

  -- the last accepted reading of a day is there and covers it
  shown_by : (p d : ℕ) (o : Reading) (b : Bool)
      → covers r p d ≡ b → option_or (cond b (Some r) None) (last p d) ≡ Some o
      → IsOneOf o now_held × (covers o p d ≡ true)
  shown_by p d o true c e =
      let same : r ≡ o = ap (λ x. unwrap_or x r) e in
      (inl same, ap (λ x. covers x p d) (sym same) ∙ c)
  shown_by p d o false c e = let was = t.shown p d o e in (uncovered_kept p d c o was.0 was.1, was.1)

  -- a reading that covers a day is the last accepted one on it
  last_by : (p d : ℕ) (o : Reading) (b : Bool)
      → covers r p d ≡ b → IsOneOf o now_held → covers o p d ≡ true
      → option_or (cond b (Some r) None) (last p d) ≡ Some o
  last_by p d o true c (inl same) oc = ap Some same
  last_by p d o true c (inr later) oc = absurd (both_ways (covers o p d) (shares_none r o p d c (kept o later).1) oc)
  last_by p d o false c (inl same) oc = absurd (both_ways (covers r p d) c (ap (λ x. covers x p d) same ∙ oc))
  last_by p d o false c (inr later) oc = t.held_last p d o (kept o later).0 oc

  -- the readings after it lie end to end
  pub tiled_more : IsTiled enrolled now_held now_last
  tiled_more = record {
    begins = now_begins;
    forward = now_forward;
    from_mark = now_from_mark;
    apart = now_apart;
    reaches = now_reaches;
    shown = λ p d o e. shown_by p d o (covers r p d) refl e;
    held_last = λ p d o a c. last_by p d o (covers r p d) refl a c;
  }

-- One more enrolment, of a point that was not enrolled.
module _
    {enrolled : ℕ → Option Enrolment} {readings : List Reading} {last : ℕ → ℕ → Option Reading}
    (t : IsTiled enrolled readings last)
    (point : ℕ) (e : Enrolment) (new : is_some (enrolled point) ≡ false) where
  -- the enrolments after it
  abbrev pub now_enrolled : ℕ → Option Enrolment
  now_enrolled p = option_or (cond (eqb point p) (Some e) None) (enrolled p)

  -- a point that was enrolled has the same enrolment, whichever point it is
  same_by : (p : ℕ) (b : Bool)
      → eqb point p ≡ b → is_some (enrolled p) ≡ true → enrolled p ≡ option_or (cond b (Some e) None) (enrolled p)
  same_by p true here some =
      absurd (both_ways (is_some (enrolled point)) new (ap (λ q. is_some (enrolled q)) (eqb-true point p here) ∙ some))
  same_by p false here some = refl

  -- a point that was enrolled has the same enrolment
  same_enrolled : (p : ℕ) → is_some (enrolled p) ≡ true → enrolled p ≡ now_enrolled p
  same_enrolled p some = same_by p (eqb point p) refl some

  -- a point that had begun has
  begun_now : (p d : ℕ) → has_begun (enrolled p) d ≡ true → has_begun (now_enrolled p) d ≡ true
  begun_now p d b = ap (λ o. has_begun o d) (sym (same_enrolled p (begun_enrolled (enrolled p) d b))) ∙ b

  -- a mark is one still
  mark_now : (p m : ℕ) → AtMark enrolled readings p m → AtMark now_enrolled readings p m
  mark_now p m (inl start) =
      inl (ap (λ o. starts_on o m) (sym (same_enrolled p (starts_enrolled (enrolled p) m start))) ∙ start)
  mark_now p m (inr end) = inr end

  -- each day from the start day up to a mark is covered
  reaches_now : (p d m : ℕ)
      → has_begun (now_enrolled p) d ≡ true → AtMark now_enrolled readings p m → d < m
      → (r : Reading) × IsOneOf r readings × (covers r p d ≡ true)
  reaches_now p d m b (inl start) h = absurd (omega (arith, starts_first (now_enrolled p) m d start b))
  reaches_now p d m b (inr end) h =
      let begins : has_begun (enrolled p) end.0.start ≡ true =
      ap (λ q. has_begun (enrolled q) end.0.start) (sym end.2) ∙ t.begins end.0 end.1 in
      let same = same_enrolled p (begun_enrolled (enrolled p) end.0.start begins) in
      t.reaches p d m (ap (λ o. has_begun o d) same ∙ b) (inr end) h

  -- the readings lie end to end after it
  pub tiled_enrolled : IsTiled now_enrolled readings last
  tiled_enrolled = record {
    begins = λ r a. begun_now r.point r.start (t.begins r a);
    forward = t.forward;
    from_mark = λ r a. mark_now r.point r.start (t.from_mark r a);
    apart = t.apart;
    reaches = reaches_now;
    shown = t.shown;
    held_last = t.held_last;
  }
