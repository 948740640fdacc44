-- What an entry leaves of readings and marks.
use Rattle.std.proofs.Common.{◌≡◌, ℕ, Bool, true, false, cond, not, ◌&&◌, ◌||◌, eqb, leb, List, [], ◌∷◌, Some, None, filter, sym, refl, ap, ◌∙◌}
use Rattle.std.specs.Option.{option_or}
use Rattle.std.proofs.lemmas.Bool.{and_left, cond-false, not-false, true≢false}
use Rattle.rules.specs.Calls.{is_after_all_marks, has_begun_before}
use Rattle.rules.specs.History.{History, covering_reading, covers, enrolment_of}
use Rattle.rules.specs.Readings.{held_readings, is_mark, replaces, starts_on, is_enrolment_of, held_readings_of, is_reading, is_reading_of}
use Rattle.std.specs.List.{list_any}
use Rattle.rules.specs.declared.entry.Entry.{Entry}
use Rattle.rules.specs.declared.entry.Entry.TheVariants.{Enrolled, ReadingTaken}
use Rattle.rules.specs.declared.entry.Reading.{Reading}
use Rattle.rules.specs.ReadingLaws.{LeavesOthers}
use Rattle.rules.proofs.Readings.{replaces_facts}

-- an entry that is no reading leaves the held readings
pub held_stays : (e : Entry) (h : History) → is_reading e ≡ false → held_readings (e ∷ h) ≡ held_readings h
held_stays (ReadingTaken r) h no_reading = absurd (true≢false no_reading)
held_stays e h no_reading = refl

-- a reading replaces none of another point
others_by : (p : ℕ) (b : Bool) (o : Reading) (ks os : List Reading)
    → (b ≡ false → eqb o.point p ≡ false) → filter (λ x. eqb x.point p) ks ≡ filter (λ x. eqb x.point p) os
    → filter (λ x. eqb x.point p) (cond b (o ∷ ks) ks) ≡ filter (λ x. eqb x.point p) (o ∷ os)
others_by p true o ks os gone same = ap (λ l. cond (eqb o.point p) (o ∷ l) l) same
others_by p false o ks os gone same =
    same
    ∙ sym (cond-false (eqb o.point p) (o ∷ filter (λ x. eqb x.point p) os) (filter (λ x. eqb x.point p) os) (gone refl))

-- so those of another point are kept
others_kept : (r : Reading) (p : ℕ)
    → eqb r.point p ≡ false → (rs : List Reading)
    → filter (λ x. eqb x.point p) (filter (λ old. not (replaces r old)) rs) ≡ filter (λ x. eqb x.point p) rs
others_kept r p other [] = refl
others_kept r p other (o ∷ os) =
    others_by p (not (replaces r o)) o (filter (λ old. not (replaces r old)) os) os (λ gone.
    ap (λ q. eqb q p) (sym (replaces_facts r o (not-false (replaces r o) gone)).0) ∙ other)
    (others_kept r p other os)

-- an entry that is no reading of a point leaves the point's held readings
pub held_by_stays : (e : Entry) (h : History) (p : ℕ)
    → is_reading_of p e ≡ false → held_readings_of (e ∷ h) p ≡ held_readings_of h p
held_by_stays (ReadingTaken r) h p other =
    let rest = filter (λ old. not (replaces r old)) (held_readings h) in
    cond-false (eqb r.point p) (r ∷ filter (λ x. eqb x.point p) rest) (filter (λ x. eqb x.point p) rest) other
    ∙ others_kept r p other (held_readings h)
held_by_stays e h p other = refl

-- and the readings that cover its days
pub covering_stays : (e : Entry) (h : History) (p d : ℕ)
    → is_reading_of p e ≡ false → covering_reading (e ∷ h) p d ≡ covering_reading h p d
covering_stays (ReadingTaken r) h p d other =
    ap (λ o. option_or o (covering_reading h p d))
    (cond-false (covers r p d) (Some r) None (and_left (eqb r.point p) _ other))
covering_stays e h p d other = refl

-- an entry that is no enrolment of a point leaves its enrolment
pub enrolment_stays : (e : Entry) (h : History) (p : ℕ)
    → is_enrolment_of p e ≡ false → enrolment_of (e ∷ h) p ≡ enrolment_of h p
enrolment_stays (Enrolled point enrolment) h p other =
    ap (λ o. option_or o (enrolment_of h p)) (cond-false (eqb point p) (Some enrolment) None other)
enrolment_stays e h p other = refl

-- a test on the readings of a point is one on those that it holds
by_point : (b : Bool) (test : Reading → Bool) (o : Reading) (rest : Bool) (ks : List Reading)
    → rest ≡ list_any test ks → ((b && test o) || rest) ≡ list_any test (cond b (o ∷ ks) ks)
by_point true test o rest ks same = ap (λ x. test o || x) same
by_point false test o rest ks same = same

-- so it is for all readings of a list
pub some_by_point : (p : ℕ) (test : Reading → Bool) (rs : List Reading)
    → list_any (λ r. eqb r.point p && test r) rs ≡ list_any test (filter (λ r. eqb r.point p) rs)
some_by_point p test [] = refl
some_by_point p test (o ∷ os) =
    by_point (eqb o.point p) test o (list_any (λ r. eqb r.point p && test r) os) (filter (λ r. eqb r.point p) os)
    (some_by_point p test os)

-- an entry that is no reading of a point leaves every test on its held readings
pub test_stays : (e : Entry) (h : History) (p : ℕ) (test : Reading → Bool)
    → is_reading_of p e ≡ false
    → list_any (λ r. eqb r.point p && test r) (held_readings (e ∷ h))
    ≡ list_any (λ r. eqb r.point p && test r) (held_readings h)
test_stays e h p test other =
    some_by_point p test (held_readings (e ∷ h))
    ∙ ap (list_any test) (held_by_stays e h p other)
    ∙ sym (some_by_point p test (held_readings h))

-- an entry that neither enrols nor reads a point leaves its marks
pub marks_stay : (e : Entry) (h : History) (p m : ℕ)
    → is_enrolment_of p e ≡ false → is_reading_of p e ≡ false → is_mark (e ∷ h) p m ≡ is_mark h p m
marks_stay e h p m not_enrols not_reads =
    ap (λ o. starts_on o m || list_any (λ r. eqb r.point p && eqb r.end m) (held_readings (e ∷ h)))
    (enrolment_stays e h p not_enrols)
    ∙ ap (λ b. starts_on (enrolment_of h p) m || b) (test_stays e h p (λ r. eqb r.end m) not_reads)

-- and which days are later than all of them
pub last_mark_stays : (e : Entry) (h : History) (p m : ℕ)
    → is_enrolment_of p e ≡ false → is_reading_of p e ≡ false
    → is_after_all_marks (e ∷ h) p m ≡ is_after_all_marks h p m
last_mark_stays e h p m not_enrols not_reads =
    ap (λ o. has_begun_before o m && not (list_any (λ r. eqb r.point p && leb m r.end) (held_readings (e ∷ h))))
    (enrolment_stays e h p not_enrols)
    ∙ ap (λ b. has_begun_before (enrolment_of h p) m && not b) (test_stays e h p (λ r. leb m r.end) not_reads)

-- what an entry leaves as it was
pub leaves : (e : Entry) (h : History) → LeavesOthers e h
leaves e h = record {
  held_stays = held_stays e h;
  held_by_stays = held_by_stays e h;
  covering_stays = covering_stays e h;
  enrolment_stays = enrolment_stays e h;
  marks_stay = marks_stay e h;
  last_mark_stays = last_mark_stays e h;
}
