-- What the tests on readings tell, and readings among others.
use Rattle.std.proofs.Common.{◌≡◌, ℕ, ◌<◌, ◌≤◌, Bool, true, false, ◌&&◌, eqb, ltb, leb, ◌⊎◌, is_some, Some, None, Option, sym, refl, ◌∙◌, inl, inr, arith, zero, suc, ◌+◌, cond, not, ◌||◌, List, [], ◌∷◌, length, get_or, count_by, filter, unwrap_or, ap, ⊎_elim, le_of_suc-le-suc, not-suc-le-zero}
use Rattle.std.proofs.lemmas.Bool.{and_parts, and_from, eqb-true, leb-true, ltb-true, eq-eqb, le-leb, lt-ltb, cases_lt, both_ways, false≢true, cases_Bool, cond-false, cond-true, not-true, or_cases, or_left, or_right}
use Rattle.rules.specs.Figures.{has_begun}
use Rattle.rules.specs.History.{covers}
use Rattle.rules.specs.Readings.{replaces, starts_on, unreplaced_readings, IsOneOf, AreApart}
use Rattle.rules.specs.declared.entry.Enrolment.{Enrolment}
use Rattle.rules.specs.declared.entry.Reading.{Reading}
use Rattle.std.specs.List.{AllByRecursion, list_any, find}
use Rattle.std.proofs.ByRecursion.{all_kept_by, All-weaker, kept_by_passes}
use Rattle.std.proofs.lemmas.List.Sums.{sum_by-cons}

-- what a covered day tells
pub covers_facts : (r : Reading) (p d : ℕ) → covers r p d ≡ true → (r.point ≡ p) × (r.start ≤ d) × (d < r.end)
covers_facts r p d e =
    let parts = and_parts (eqb r.point p) (leb r.start d && ltb d r.end) e in
    let span = and_parts (leb r.start d) (ltb d r.end) parts.1 in
    (eqb-true r.point p parts.0, leb-true r.start d span.0, ltb-true d r.end span.1)

-- and what it follows from
pub covers_from : (r : Reading) (p d : ℕ) → r.point ≡ p → r.start ≤ d → d < r.end → covers r p d ≡ true
covers_from r p d same from before =
    and_from (eqb r.point p) (leb r.start d && ltb d r.end) (eq-eqb r.point p same)
    (and_from (leb r.start d) (ltb d r.end) (le-leb r.start d from) (lt-ltb d r.end before))

-- what a replaced reading tells
pub replaces_facts : (new old : Reading)
    → replaces new old ≡ true → (new.point ≡ old.point) × (new.start < old.end) × (old.start < new.end)
replaces_facts new old e =
    let parts = and_parts (eqb new.point old.point) (ltb new.start old.end && ltb old.start new.end) e in
    let span = and_parts (ltb new.start old.end) (ltb old.start new.end) parts.1 in
    (eqb-true new.point old.point parts.0, ltb-true new.start old.end span.0, ltb-true old.start new.end span.1)

-- and what it follows from
pub replaces_from : (new old : Reading)
    → new.point ≡ old.point → new.start < old.end → old.start < new.end → replaces new old ≡ true
replaces_from new old same a b =
    and_from (eqb new.point old.point) (ltb new.start old.end && ltb old.start new.end)
    (eq-eqb new.point old.point same)
    (and_from (ltb new.start old.end) (ltb old.start new.end) (lt-ltb new.start old.end a) (lt-ltb old.start new.end b))

-- a test that cannot come out true is false
pub not_so : (b : Bool) → (b ≡ true → ⊥) → b ≡ false
not_so true no_way = absurd (no_way refl)
not_so false no_way = refl

-- sharing a day goes both ways
pub replaces_back : (a b : Reading) → replaces a b ≡ false → replaces b a ≡ false
replaces_back a b e =
    not_so (replaces b a) (λ t.
    let facts = replaces_facts b a t in
    both_ways (replaces a b) e (replaces_from a b (sym facts.0) facts.2 facts.1))

-- of two readings that share no day, the second covers none of the first's
pub shares_none : (a b : Reading) (p d : ℕ) → covers a p d ≡ true → replaces a b ≡ false → covers b p d ≡ false
shares_none a b p d c free =
    not_so (covers b p d) (λ both.
    let one = covers_facts a p d c in
    let two = covers_facts b p d both in
    both_ways (replaces a b) free
    (replaces_from a b (one.0 ∙ sym two.0) (omega (arith, one.1, two.2)) (omega (arith, one.2, two.1))))

-- of two readings of a point that share no day, one ends where the other starts or before
pub one_before : (a b : Reading) → a.point ≡ b.point → replaces a b ≡ false → (b.end ≤ a.start) ⊎ (a.end ≤ b.start)
one_before a b same e = elim (cases_lt a.start b.end) [
  | inr done ↦ inl done
  | inl first ↦ elim (cases_lt b.start a.end) [
    | inr done ↦ inr done
    | inl second ↦ absurd (both_ways (replaces a b) e (replaces_from a b same first second))
  ]
]

-- a start day is a day from which a point has figures, and none before it is
pub starts_begun : (o : Option Enrolment) (m d : ℕ) → starts_on o m ≡ true → m ≤ d → has_begun o d ≡ true
starts_begun None m d e h = absurd (false≢true e)
starts_begun (Some x) m d e h = le-leb x.start d (omega (arith, eqb-true x.start m e))

-- no day before the start day is one of figures
pub starts_first : (o : Option Enrolment) (m d : ℕ) → starts_on o m ≡ true → has_begun o d ≡ true → m ≤ d
starts_first None m d e b = absurd (false≢true e)
starts_first (Some x) m d e b = omega (arith, eqb-true x.start m e, leb-true x.start d b)

-- a point that has begun has begun on every later day
pub begun_later : (o : Option Enrolment) (d later : ℕ) → has_begun o d ≡ true → d ≤ later → has_begun o later ≡ true
begun_later None d later b h = absurd (false≢true b)
begun_later (Some x) d later b h = le-leb x.start later (omega (arith, leb-true x.start d b))

-- a point that has begun is enrolled
pub begun_enrolled : (o : Option Enrolment) (d : ℕ) → has_begun o d ≡ true → is_some o ≡ true
begun_enrolled None d b = b
begun_enrolled (Some x) d b = refl

-- a point that has a start day is enrolled
pub starts_enrolled : (o : Option Enrolment) (m : ℕ) → starts_on o m ≡ true → is_some o ≡ true
starts_enrolled None m e = e
starts_enrolled (Some x) m e = refl

-- Readings among others.

-- where some reading passes a test, one among them does
pub some_among : (test : Reading → Bool) (rs : List Reading)
    → list_any test rs ≡ true → (r : Reading) × IsOneOf r rs × (test r ≡ true)
some_among test [] e = absurd (false≢true e)
some_among test (r ∷ rs) e = elim (or_cases (test r) (list_any test rs) e) [
  | inl here ↦ (r, inl refl, here)
  | inr later ↦ let found = some_among test rs later in (found.0, inr found.1, found.2)
]

-- and the other way round
pub among_some : (test : Reading → Bool) (rs : List Reading) (r : Reading)
    → IsOneOf r rs → test r ≡ true → list_any test rs ≡ true
among_some test [] r a t = absurd a
among_some test (o ∷ os) r (inl same) t = or_left (test o) (list_any test os) (ap test same ∙ t)
among_some test (o ∷ os) r (inr later) t = or_right (test o) (list_any test os) (among_some test os r later t)

-- what holds of all holds of one among them
pub all_among : (P : Reading → Type 0) (rs : List Reading) (r : Reading) → AllByRecursion P rs → IsOneOf r rs → P r
all_among P [] r all a = absurd a
all_among P (o ∷ os) r all (inl same) = rw same at all.0
all_among P (o ∷ os) r all (inr later) = all_among P os r all.1 later

module _ (r : Reading) where
  -- one of a list is one of it with another in front, taken or not
  kept_later : (b : Bool) (o : Reading) (ks : List Reading) → IsOneOf r ks → IsOneOf r (cond b (o ∷ ks) ks)
  kept_later true o ks a = inr a
  kept_later false o ks a = a

  -- the first of a list is one of it where it is taken
  kept_here : (b : Bool) (o : Reading) (ks : List Reading) → b ≡ true → o ≡ r → IsOneOf r (cond b (o ∷ ks) ks)
  kept_here true o ks e same = inl same
  kept_here false o ks e same = absurd (false≢true e)

  -- a reading that passes the test of a filter stays
  pub among_kept : (test : Reading → Bool) (rs : List Reading)
      → IsOneOf r rs → test r ≡ true → IsOneOf r (filter test rs)
  among_kept test [] a t = absurd a
  among_kept test (o ∷ os) (inl same) t = kept_here (test o) o (filter test os) (ap test same ∙ t) same
  among_kept test (o ∷ os) (inr later) t = kept_later (test o) o (filter test os) (among_kept test os later t)

  -- one of a list with another in front, taken or not, was there and passes the test
  kept_back : (test : Reading → Bool) (b : Bool) (o : Reading) (os ks : List Reading)
      → test o ≡ b → (IsOneOf r ks → IsOneOf r os × (test r ≡ true)) → IsOneOf r (cond b (o ∷ ks) ks)
      → IsOneOf r (o ∷ os) × (test r ≡ true)
  kept_back test true o os ks e back (inl same) = (inl same, ap test (sym same) ∙ e)
  kept_back test true o os ks e back (inr later) = (inr (back later).0, (back later).1)
  kept_back test false o os ks e back later = (inr (back later).0, (back later).1)

  -- a reading that a filter keeps was there and passes its test
  pub kept_among : (test : Reading → Bool) (rs : List Reading)
      → IsOneOf r (filter test rs) → IsOneOf r rs × (test r ≡ true)
  kept_among test [] a = absurd a
  kept_among test (o ∷ os) a =
      kept_back test (test o) o os (filter test os) refl (λ later. kept_among test os later) a

-- readings that lie apart do so with another in front, taken or not
apart_cond : (b : Bool) (r : Reading) (ks : List Reading)
    → AllByRecursion (λ o. replaces r o ≡ false) ks → AreApart ks → AreApart (cond b (r ∷ ks) ks)
apart_cond true r ks all apart = (all, apart)
apart_cond false r ks all apart = apart

-- readings that lie apart do so after a filter
pub apart_kept : (test : Reading → Bool) (rs : List Reading) → AreApart rs → AreApart (filter test rs)
apart_kept test [] a = tt
apart_kept test (r ∷ rs) a =
    apart_cond (test r) r (filter test rs) (all_kept_by test (λ o. replaces r o ≡ false) rs a.0)
    (apart_kept test rs a.1)

-- held readings lie apart
pub apart_held : (rs : List Reading) → AreApart (unreplaced_readings rs)
apart_held [] = tt
apart_held (r ∷ rs) =
    let test : Reading → Bool = λ old. not (replaces r old) in (
      All-weaker (λ o. not (replaces r o) ≡ true) (λ o. replaces r o ≡ false) (λ o e. not-true (replaces r o) e)
          (filter test (unreplaced_readings rs)) (kept_by_passes test (unreplaced_readings rs)),
      apart_kept test (unreplaced_readings rs) (apart_held rs),
    )

-- two readings that lie apart are one or share no day
pub apart_two : (a b : Reading) (rs : List Reading)
    → AreApart rs → IsOneOf a rs → IsOneOf b rs → (a ≡ b) ⊎ (replaces a b ≡ false)
apart_two a b [] apart x y = absurd x
apart_two a b (o ∷ os) apart (inl here) (inl also) = inl (sym here ∙ also)
apart_two a b (o ∷ os) apart (inl here) (inr later) =
    inr (ap (λ r. replaces r b) (sym here) ∙ all_among (λ r. replaces o r ≡ false) os b apart.0 later)
apart_two a b (o ∷ os) apart (inr later) (inl here) =
    inr (replaces_back b a
    (ap (λ r. replaces r a) (sym here) ∙ all_among (λ r. replaces o r ≡ false) os a apart.0 later))
apart_two a b (o ∷ os) apart (inr x) (inr y) = apart_two a b os apart.1 x y

-- the first of a list is there and passes the test, whether its head does or not
first_by : (test : Reading → Bool) (b : Bool) (o : Reading) (os : List Reading) (first : Option Reading)
    → test o ≡ b → ((r : Reading) → first ≡ Some r → IsOneOf r os × (test r ≡ true)) → (r : Reading)
    → cond b (Some o) first ≡ Some r → IsOneOf r (o ∷ os) × (test r ≡ true)
first_by test true o os first t later r e =
    let same : o ≡ r = ap (λ x. unwrap_or x o) e in (inl same, ap test (sym same) ∙ t)
first_by test false o os first t later r e = (inr (later r e).0, (later r e).1)

-- the first reading that passes a test is there and passes it
pub first_among : (test : Reading → Bool) (rs : List Reading) (r : Reading)
    → find test rs ≡ Some r → IsOneOf r rs × (test r ≡ true)
first_among test [] r e = absurd (false≢true (ap is_some e))
first_among test (o ∷ os) r e = first_by test (test o) o os (find test os) refl (first_among test os) r e

-- there is a first one that passes where one of the list does
first_some : (test : Reading → Bool) (rs : List Reading) (r : Reading)
    → IsOneOf r rs → test r ≡ true → is_some (find test rs) ≡ true
first_some test [] r a t = absurd a
first_some test (o ∷ os) r (inl same) t = ap is_some (cond-true (test o) (Some o) (find test os) (ap test same ∙ t))
first_some test (o ∷ os) r (inr later) t = some_either (test o) o (find test os) (first_some test os r later t)
  where
    some_either : (b : Bool) (o : Reading) (first : Option Reading)
        → is_some first ≡ true → is_some (cond b (Some o) first) ≡ true
    some_either true o first e = refl
    some_either false o first e = e

-- where none is first, none passes
pub first_none : (test : Reading → Bool) (rs : List Reading) (r : Reading)
    → find test rs ≡ None → IsOneOf r rs → test r ≡ true → ⊥
first_none test rs r e a t = false≢true (ap is_some (sym e) ∙ first_some test rs r a t)

-- there is a first one where the head or some later one passes
some_is : (b : Bool) (o : Reading) (first : Option Reading) (rest : Bool)
    → is_some first ≡ rest → is_some (cond b (Some o) first) ≡ (b || rest)
some_is true o first rest e = refl
some_is false o first rest e = e

-- there is a first one where some reading passes
pub first_is_some : (test : Reading → Bool) (rs : List Reading) → is_some (find test rs) ≡ list_any test rs
first_is_some test [] = refl
first_is_some test (o ∷ os) = some_is (test o) o (find test os) (list_any test os) (first_is_some test os)

-- the first one counts where it passes
counted : (test : Reading → Bool) (o : Reading) (os : List Reading)
    → test o ≡ true → count_by test (o ∷ os) ≡ 1 + count_by test os
counted test o os t =
    sum_by-cons (λ r. cond (test r) 1 0) o os
    ∙ ap (λ n. n + count_by test os) (cond-true (test o) 1 0 t)

-- and does not where it fails
not_counted : (test : Reading → Bool) (o : Reading) (os : List Reading)
    → test o ≡ false → count_by test (o ∷ os) ≡ count_by test os
not_counted test o os t =
    sum_by-cons (λ r. cond (test r) 1 0) o os
    ∙ ap (λ n. n + count_by test os) (cond-false (test o) 1 0 t)
    ∙ omega arith

-- how many pass: none where none does, and one or more where one does
pub count_none : (test : Reading → Bool) (rs : List Reading)
    → ((r : Reading) → IsOneOf r rs → test r ≡ false) → count_by test rs ≡ 0
count_none test [] none = refl
count_none test (o ∷ os) none = not_counted test o os (none o (inl refl)) ∙ count_none test os (λ r a. none r (inr a))

-- one or more pass where one does
pub count_some : (test : Reading → Bool) (rs : List Reading) (r : Reading)
    → IsOneOf r rs → test r ≡ true → 1 ≤ count_by test rs
count_some test [] r a t = absurd a
count_some test (o ∷ os) r (inl same) t = omega (arith, counted test o os (ap test same ∙ t))
count_some test (o ∷ os) r (inr later) t =
    let more = count_some test os r later t in
    ⊎_elim (λ here. omega (arith, counted test o os here)) (λ here. omega (arith, not_counted test o os here))
    (cases_Bool (test o))

-- of readings that lie apart at most one covers a day
pub count_apart : (p d : ℕ) (rs : List Reading) → AreApart rs → count_by (λ r. covers r p d) rs ≤ 1
count_apart p d [] apart = omega arith
count_apart p d (r ∷ rs) apart =
    ⊎_elim
    (λ c.
    let others = count_none (λ o. covers o p d) rs
    (λ o a. shares_none r o p d c (all_among (λ x. replaces r x ≡ false) rs o apart.0 a)) in
    omega (arith, counted (λ o. covers o p d) r rs c, others))
    (λ c. omega (arith, not_counted (λ o. covers o p d) r rs c, count_apart p d rs apart.1))
    (cases_Bool (covers r p d))

-- the same by places of the list
pub get_or_among : (rs : List Reading) (i : ℕ) (d : Reading) → i < length rs → IsOneOf (get_or rs i d) rs
get_or_among [] i d h = absurd (not-suc-le-zero h)
get_or_among (r ∷ rs) zero d h = inl refl
get_or_among (r ∷ rs) (suc i) d h = inr (get_or_among rs i d (le_of_suc-le-suc h))

-- one of a list stands at a place of it
pub among_get_or : (r : Reading) (rs : List Reading)
    → IsOneOf r rs → (i : ℕ) × (i < length rs) × ((d : Reading) → get_or rs i d ≡ r)
among_get_or r [] a = absurd a
among_get_or r (o ∷ os) (inl same) = (0, omega arith, λ d. same)
among_get_or r (o ∷ os) (inr later) =
    let found = among_get_or r os later in
    (suc found.0, omega (arith, found.1), found.2)
