-- Why each point is covered up to a day.
use Rattle.std.proofs.Common.{◌≡◌, ℕ, ◌-◌, ◌<◌, ◌≤◌, max, true, false, cond, ◌&&◌, eqb, ltb, leb, List, [], ◌∷◌, length, get_or, set, is_some, Some, None, sym, refl, ap, ◌∙◌, subst, inl, ⊎_elim, arith}
use Rattle.std.specs.Option.{option_or}
use Rattle.std.proofs.lemmas.List.{get_or-set_other, get_or-set_same}
use Rattle.std.proofs.lemmas.Bool.{and_from, and_left, and_right, cases_Bool, cases_eq, cases_lt, eq-eqb, le-ltb, lt-leb, lt-ltb, ne_eqb}
use Rattle.rules.specs.History.{History, Setting, covers, enrolment_of, covering_reading}
use Rattle.rules.specs.declared.entry.Enrolment.{Enrolment}
use Rattle.rules.specs.declared.entry.Entry.TheVariants.{DegreeDaysEntered, Enrolled, GateEntered, IntervalEntered, ReadingTaken}
use Rattle.rules.specs.declared.entry.GateDay.{GateDay}
use Rattle.rules.specs.declared.entry.Reading.{Reading}
use native.Mathlib.Nat.{le-max_left, le-max_right, max-le}
use Rattle.sheet.specs.Coverage.{CoversTo}
use Rattle.rules.specs.Calls.{IsLawful}
use Rattle.rules.specs.Figures.{is_active, has_begun}
use Rattle.rules.proofs.HeldReadings.{covered_to_mark, held_ends_at_mark}
use Rattle.rules.proofs.AcceptedEntries.{reading_limited}
use Rattle.rules.proofs.Readings.{covers_facts, not_so}
use Rattle.rules.proofs.MovedDays.{not_active_not_covered, not_before, covering_elsewhere, stays_covered}

pub covered_at_opening : (n : ℕ) (to : List ℕ) → CoversTo [] n to
covered_at_opening n to p d low high = refl

-- a day from the start day on is not before it
between_none : (start d : ℕ) → (leb start d && ltb d start) ≡ false
between_none start d =
    ⊎_elim (λ before. and_left (leb start d) (ltb d start) (lt-leb start d before)) (λ after. and_right (leb start d) (ltb d start) (le-ltb d start after)) (cases_lt d start)

pub covered_after_enrolment : (s : Setting) (h : History) (n p : ℕ) (e : Enrolment) (to : List ℕ)
    → IsLawful s (Enrolled p e ∷ h) → CoversTo h n to → 1 ≤ p → p - 1 < length to → CoversTo (Enrolled p e ∷ h) n (set to (p - 1) e.start)
covered_after_enrolment s h n p e to lawful old from_one within q d low high = ⊎_elim here elsewhere (cases_eq p q)
  where
    elsewhere : (p ≡ q → ⊥) → is_some (covering_reading h q d) ≡ (is_active (Enrolled p e ∷ h) q d && ltb d (get_or (set to (p - 1) e.start) (q - 1) 0))
    elsewhere other =
        let bound = get_or-set_other to (p - 1) (q - 1) e.start 0 (λ same. other (omega arith)) in
        old q d low high
        ∙ sym (λ i. has_begun (option_or (cond (ne_eqb p q other i) (Some e) None) (enrolment_of h q)) d && ltb d (bound i))

    here : p ≡ q → is_some (covering_reading h q d) ≡ (is_active (Enrolled p e ∷ h) q d && ltb d (get_or (set to (p - 1) e.start) (q - 1) 0))
    here same =
        let bound : get_or (set to (p - 1) e.start) (q - 1) 0 ≡ e.start = ap (λ k. get_or (set to (p - 1) e.start) (k - 1) 0) (sym same) ∙ get_or-set_same to (p - 1) e.start 0 within in
        let none : is_active h q d ≡ false = ap (λ o. has_begun o d) (ap (enrolment_of h) (sym same) ∙ not_before s h p e lawful) in
        ap is_some (not_active_not_covered s h q d lawful.0 none)
        ∙ sym (between_none e.start d)
        ∙ sym (λ i. has_begun (option_or (cond (eq-eqb p q same i) (Some e) None) (enrolment_of h q)) d && ltb d (bound i))

-- One more reading.
module _
    (s : Setting) (h : History) (n : ℕ) (r : Reading) (to : List ℕ)
    (lawful : IsLawful s (ReadingTaken r ∷ h)) (old : CoversTo h n to) (few : r.point ≤ n) where
  abbrev bound : ℕ
  bound = get_or to (r.point - 1) 0

  abbrev reach : ℕ
  reach = max bound r.end

  from_one : 1 ≤ r.point
  from_one = (reading_limited s h r lawful).point_low

  -- on a day that its point has figures on: covered by it, covered before, or past both
  when_active : (d : ℕ) → is_active h r.point d ≡ true → is_some (covering_reading (ReadingTaken r ∷ h) r.point d) ≡ (is_active h r.point d && ltb d reach)
  when_active d active_then =
      ⊎_elim
      (λ (inside : d < r.end).
      covered_to_mark s (ReadingTaken r ∷ h) lawful r.point d r.end active_then (held_ends_at_mark s (ReadingTaken r ∷ h) lawful r (inl refl)) inside
      ∙ sym (and_from (is_active h r.point d) (ltb d reach) active_then (lt-ltb d reach (omega (arith, le-max_right bound r.end)))))
      (λ (past : r.end ≤ d).
      ⊎_elim
      (λ (before : d < bound).
      stays_covered h r r.point d (old r.point d from_one few ∙ and_from (is_active h r.point d) (ltb d bound) active_then (lt-ltb d bound before))
      ∙ sym (and_from (is_active h r.point d) (ltb d reach) active_then (lt-ltb d reach (omega (arith, le-max_left bound r.end)))))
      (λ (beyond : bound ≤ d).
      let bare : covers r r.point d ≡ false = not_so (covers r r.point d) (λ c. omega (arith, (covers_facts r r.point d c).2)) in
      ap is_some (covering_elsewhere h r r.point d bare)
      ∙ old r.point d from_one few
      ∙ and_right (is_active h r.point d) (ltb d bound) (le-ltb d bound beyond)
      ∙ sym (and_right (is_active h r.point d) (ltb d reach) (le-ltb d reach (max-le beyond past))))
      (cases_lt d bound))
      (cases_lt d r.end)

  at_own : (d : ℕ) → is_some (covering_reading (ReadingTaken r ∷ h) r.point d) ≡ (is_active h r.point d && ltb d reach)
  at_own d =
      ⊎_elim (when_active d)
      (λ none.
      ap is_some (not_active_not_covered s (ReadingTaken r ∷ h) r.point d lawful none) ∙ sym (and_left (is_active h r.point d) (ltb d reach) none))
      (cases_Bool (is_active h r.point d))

  goes_on : r.point - 1 < length to → CoversTo (ReadingTaken r ∷ h) n (set to (r.point - 1) reach)
  goes_on within p d low high =
      ⊎_elim
      (λ same.
      let here = at_own d ∙ sym (ap (λ m. is_active h r.point d && ltb d m) (get_or-set_same to (r.point - 1) reach 0 within)) in
      subst (λ q. is_some (covering_reading (ReadingTaken r ∷ h) q d) ≡ (is_active h q d && ltb d (get_or (set to (r.point - 1) reach) (q - 1) 0))) same here)
      (λ other.
      let bare : covers r p d ≡ false = and_left (eqb r.point p) (leb r.start d && ltb d r.end) (ne_eqb r.point p other) in
      ap is_some (covering_elsewhere h r p d bare)
      ∙ old p d low high
      ∙ sym (ap (λ m. is_active h p d && ltb d m) (get_or-set_other to (r.point - 1) (p - 1) reach 0 (λ same. other (omega (arith, from_one))))))
      (cases_eq r.point p)

pub covered_after_reading : (s : Setting) (h : History) (n : ℕ) (r : Reading) (to : List ℕ)
    → IsLawful s (ReadingTaken r ∷ h) → CoversTo h n to → r.point ≤ n → r.point - 1 < length to
    → CoversTo (ReadingTaken r ∷ h) n (set to (r.point - 1) (max (get_or to (r.point - 1) 0) r.end))
covered_after_reading = goes_on

-- The other entries.

pub covered_after_gate : (h : History) (n day : ℕ) (gate : GateDay) (to : List ℕ) → CoversTo h n to → CoversTo (GateEntered day gate ∷ h) n to
covered_after_gate h n day gate to old = old

pub covered_after_interval : (h : History) (n day meter energy : ℕ) (to : List ℕ) → CoversTo h n to → CoversTo (IntervalEntered day meter energy ∷ h) n to
covered_after_interval h n day meter energy to old = old

pub covered_after_degree_days : (h : History) (n day count : ℕ) (to : List ℕ) → CoversTo h n to → CoversTo (DegreeDaysEntered day count ∷ h) n to
covered_after_degree_days h n day count to old = old
