-- Which days an entry can move.
use Rattle.std.proofs.Common.{◌≡◌, ℕ, ◌<◌, ◌≤◌, Bool, true, false, cond, not, ◌&&◌, eqb, ltb, leb, ◌∷◌, is_some, Some, None, Option, unwrap_or, sym, refl, ap, ◌∙◌, ⊎_elim, arith, sum}
use Rattle.std.specs.Option.{option_map, option_or}
use Rattle.std.proofs.lemmas.Bool.{and_cases, and_from, and_left, and_right, cases_eq, cond-false, eq-eqb, false≢true, le-leb, lt-leb, lt-ltb, ne_eqb, cases_Bool, both_ways, true≢false}
use Rattle.rules.specs.Figures.{is_active, has_begun, is_estimated, figure, load, share_on, estimate_under, belongs_to, retailer_sum}
use Rattle.rules.specs.History.{History, Setting, covering_reading, covers, degree_day_count, count_in, enrolment_of, gate_in, interval_in, latest, reading_in}
use Rattle.rules.specs.declared.entry.Enrolment.{Enrolment}
use Rattle.rules.specs.declared.entry.Entry.{Entry}
use Rattle.rules.specs.declared.entry.Entry.TheVariants.{Enrolled, GateEntered, IntervalEntered, DegreeDaysEntered, ReadingTaken}
use Rattle.rules.specs.declared.entry.GateDay.{GateDay}
use Rattle.rules.specs.declared.entry.Reading.{Reading}
use Rattle.rules.specs.FigureLaws.{SameDay, SharesNoReading, DiffersInLoad}
use Rattle.rules.proofs.Days.{SameParts, figure_supplied, load_same, same_day_enrolled, share_same, supplied_from, figure_same, same_day}
use Rattle.rules.specs.Calls.{IsLawful}
use Rattle.rules.specs.Readings.{held_readings, are_joined}
use Rattle.rules.proofs.AcceptedEntries.{newly_enrolled}
use Rattle.rules.proofs.HeldReadings.{covered_between, covering_held}
use Rattle.rules.proofs.Readings.{among_some}
use Rattle.rules.proofs.SumsAndRows.{map_over}

-- an entry that says nothing leaves the latest that is said
pub silent : {X : Type 0} (says : Entry → Option X) (e : Entry) (h : History)
    → says e ≡ None → latest says (e ∷ h) ≡ latest says h
silent says e h none = ap (λ o. option_or o (latest says h)) none

-- Gate days and interval energies.

-- a gate entry leaves the loads of other days
pub gate_elsewhere : (s : Setting) (h : History) (g k : ℕ) (energies : GateDay)
    → (k ≡ g → ⊥) → load s (GateEntered g energies ∷ h) k ≡ load s h k
gate_elsewhere s h g k energies other =
    load_same s h (GateEntered g energies ∷ h) k
    (silent (gate_in k) (GateEntered g energies) h
    (cond-false (eqb g k) (Some energies) None (ne_eqb g k (λ e. other (sym e)))))
    (λ m. refl)

-- and so does an interval energy
pub interval_elsewhere : (s : Setting) (h : History) (g k meter energy : ℕ)
    → (k ≡ g → ⊥) → load s (IntervalEntered g meter energy ∷ h) k ≡ load s h k
interval_elsewhere s h g k meter energy other =
    load_same s h (IntervalEntered g meter energy ∷ h) k refl
    (λ m. ap (λ o. unwrap_or o 0)
    (silent (interval_in m k) (IntervalEntered g meter energy) h
    (cond-false (eqb meter m && eqb g k) (Some energy) None
    (and_right (eqb meter m) (eqb g k) (ne_eqb g k (λ e. other (sym e)))))))

-- a day that a reading covers, where it does not cover g, is not g
pub not_covered : (r : Reading) (g k : ℕ) → covers r r.point g ≡ false → r.start ≤ k → k < r.end → k ≡ g → ⊥
not_covered r g k none low high same =
    let inside : covers r r.point g ≡ true
    = and_from (eqb r.point r.point) (leb r.start g && ltb g r.end) (eq-eqb r.point r.point refl)
    (and_from (leb r.start g) (ltb g r.end) (le-leb r.start g (omega arith)) (lt-ltb g r.end (omega arith))) in
    false≢true (sym none ∙ inside)

-- a history that differs in the load of day g alone tells the same of days that no reading joins to g
pub loads_move : (s : Setting) (h new : History) (g d : ℕ)
    → ((k : ℕ) → (k ≡ g → ⊥) → load s new k ≡ load s h k)
    → ((p : ℕ) → covering_reading new p d ≡ covering_reading h p d)
    → ((p : ℕ) → enrolment_of new p ≡ enrolment_of h p) → (degree_day_count new d ≡ degree_day_count h d)
    → (d ≡ g → ⊥) → SharesNoReading h d g → SameParts s h new d
loads_move s h new g d elsewhere covering_same enrolment_same count_same other apart = record {
  loads_same = elsewhere d other;
  supplied_same = λ p. supplied_from s h new p d (covering_same p)
      (λ r cover. share_same s h new d r (λ k low high. elsewhere k (not_covered r g k (apart p r cover) low high)));
  estimated_same = λ p i. has_begun (enrolment_same p i) d && not (is_some (covering_same p i));
  estimate_same = λ p i. estimate_under s (count_same i) p d;
}

-- a gate entry leaves days that share no supplying reading with its day
pub gate_moves : (s : Setting) (h : History) (g d : ℕ) (energies : GateDay)
    → (d ≡ g → ⊥) → SharesNoReading h d g → SameDay s h (GateEntered g energies ∷ h) d
gate_moves s h g d energies other apart =
    same_day_enrolled s h (GateEntered g energies ∷ h) d (λ p. refl)
    (loads_move s h (GateEntered g energies ∷ h) g d (λ k. gate_elsewhere s h g k energies) (λ p. refl)
    (λ p. refl) refl other apart)

-- and so does an interval energy
pub interval_moves : (s : Setting) (h : History) (g d meter energy : ℕ)
    → (d ≡ g → ⊥) → SharesNoReading h d g → SameDay s h (IntervalEntered g meter energy ∷ h) d
interval_moves s h g d meter energy other apart =
    same_day_enrolled s h (IntervalEntered g meter energy ∷ h) d (λ p. refl)
    (loads_move s h (IntervalEntered g meter energy ∷ h) g d (λ k. interval_elsewhere s h g k meter energy)
    (λ p. refl) (λ p. refl) refl other apart)

-- Degree-day counts.

-- a degree-day count leaves all other days
pub count_elsewhere : (s : Setting) (h : History) (g d count : ℕ)
    → (d ≡ g → ⊥) → SameDay s h (DegreeDaysEntered g count ∷ h) d
count_elsewhere s h g d count other =
    same_day_enrolled s h (DegreeDaysEntered g count ∷ h) d (λ p. refl)
    (record {
      loads_same = refl;
      supplied_same = λ p. refl;
      estimated_same = λ p. refl;
      estimate_same = λ p i. estimate_under s
          (silent (count_in d) (DegreeDaysEntered g count) h
          (cond-false (eqb g d) (Some count) None (ne_eqb g d (λ e. other (sym e)))) i) p d;
    })

-- a point that is not estimated has its figure from its covering reading and the loads alone
pub count_here : (s : Setting) (h : History) (g p count : ℕ)
    → 0 < p → is_estimated h p g ≡ false → figure s (DegreeDaysEntered g count ∷ h) p g ≡ figure s h p g
count_here s h g p count above none =
    figure_supplied s (DegreeDaysEntered g count ∷ h) p g above none ∙ sym (figure_supplied s h p g above none)

-- Readings.

-- a reading leaves the days that it does not cover
pub covering_elsewhere : (h : History) (r : Reading) (p d : ℕ)
    → covers r p d ≡ false → covering_reading (ReadingTaken r ∷ h) p d ≡ covering_reading h p d
covering_elsewhere h r p d none =
    silent (reading_in p d) (ReadingTaken r) h (cond-false (covers r p d) (Some r) None none)

-- a reading that does not cover a day of its own point covers it of none
pub covers_none : (r : Reading) (p d : ℕ) → covers r r.point d ≡ false → covers r p d ≡ false
covers_none r p d none =
    ⊎_elim
    (λ l. absurd (false≢true (sym l ∙ eq-eqb r.point r.point refl)))
    (λ l. and_right (eqb r.point p) (leb r.start d && ltb d r.end) l)
    (and_cases (eqb r.point r.point) (leb r.start d && ltb d r.end) none)

-- a reading leaves the days that it does not cover
pub reading_elsewhere : (s : Setting) (h : History) (r : Reading) (d : ℕ)
    → covers r r.point d ≡ false → SameDay s h (ReadingTaken r ∷ h) d
reading_elsewhere s h r d none =
    same_day_enrolled s h (ReadingTaken r ∷ h) d (λ p. refl)
    (record {
      loads_same = refl;
      supplied_same = λ p i. option_map (share_on s h d) (covering_elsewhere h r p d (covers_none r p d none) i);
      estimated_same = λ p i. is_active h p d && not (is_some (covering_elsewhere h r p d (covers_none r p d none) i));
      estimate_same = λ p. refl;
    })

-- and other points' supplied figures
pub reading_others : (s : Setting) (h : History) (r : Reading) (p d : ℕ)
    → 0 < p → (p ≡ r.point → ⊥) → is_estimated h p d ≡ false → figure s (ReadingTaken r ∷ h) p d ≡ figure s h p d
reading_others s h r p d above other none =
    let same = covering_elsewhere h r p d
    (and_left (eqb r.point p) (leb r.start d && ltb d r.end) (ne_eqb r.point p (λ e. other (sym e)))) in
    figure_supplied s (ReadingTaken r ∷ h) p d above (ap (λ o. is_active h p d && not (is_some o)) same ∙ none)
    ∙ ap (λ o. unwrap_or (option_map (share_on s h d) o) 0) same
    ∙ sym (figure_supplied s h p d above none)

-- a covered day stays covered
pub stays_covered : (h : History) (r : Reading) (p d : ℕ)
    → is_some (covering_reading h p d) ≡ true → is_some (covering_reading (ReadingTaken r ∷ h) p d) ≡ true
stays_covered h r p d some = go (covers r p d)
  where
    go : (b : Bool) → is_some (option_or (cond b (Some r) None) (covering_reading h p d)) ≡ true
    go true = refl
    go false = some

-- Enrolments.

-- before its start a new enrolment makes no point active
pub active_before : (h : History) (p q d : ℕ) (e : Enrolment)
    → enrolment_of h p ≡ None → d < e.start → is_active (Enrolled p e ∷ h) q d ≡ is_active h q d
active_before h p q d e none before = ⊎_elim here elsewhere (cases_eq p q)
  where
    elsewhere : (p ≡ q → ⊥) → is_active (Enrolled p e ∷ h) q d ≡ is_active h q d
    elsewhere other = ap (λ b. has_begun (option_or (cond b (Some e) None) (enrolment_of h q)) d) (ne_eqb p q other)

    here : p ≡ q → is_active (Enrolled p e ∷ h) q d ≡ is_active h q d
    here same =
        ap (λ b. has_begun (option_or (cond b (Some e) None) (enrolment_of h q)) d) (eq-eqb p q same)
        ∙ lt-leb e.start d before
        ∙ sym (ap (λ o. has_begun o d) (ap (enrolment_of h) (sym same) ∙ none))

-- what a day's figures are made of does not change before it
pub parts_before : (s : Setting) (h : History) (p d : ℕ) (e : Enrolment)
    → enrolment_of h p ≡ None → d < e.start → SameParts s h (Enrolled p e ∷ h) d
parts_before s h p d e none before = record {
  loads_same = refl;
  supplied_same = λ q. refl;
  estimated_same = λ q i. active_before h p q d e none before i && not (is_some (covering_reading h q d));
  estimate_same = λ q. refl;
}

-- In the histories of a book.

-- a reading that covers a point's day covers that day of its own point
own_point : (r : Reading) (p d : ℕ) → covers r p d ≡ true → covers r r.point d ≡ true
own_point r p d c =
    ⊎_elim (λ (own : covers r r.point d ≡ true). own)
    (λ none. absurd (both_ways (covers r p d) (covers_none r p d none) c)) (cases_Bool (covers r r.point d))

-- days that no held reading joins share no supplying reading
pub apart_unless_joined : (s : Setting) (h : History) (d g : ℕ)
    → IsLawful s h → are_joined h d g ≡ false → SharesNoReading h d g
apart_unless_joined s h d g lawful none p r cover =
    let held = covering_held s h lawful p d r cover in
    let both : Reading → Bool = λ x. covers x x.point d && covers x x.point g in
    ⊎_elim
    (λ too.
    absurd (both_ways (are_joined h d g) none
    (among_some both (held_readings h) r held.0
    (and_from (covers r r.point d) (covers r r.point g) (own_point r p d held.1) too))))
    (λ (not_too : covers r r.point g ≡ false). not_too) (cases_Bool (covers r r.point g))

-- so a gate entry leaves days that are not joined to its day
pub gate_moves_joined : (s : Setting) (h : History) (g d : ℕ) (energies : GateDay)
    → IsLawful s h → (d ≡ g → ⊥) → are_joined h d g ≡ false → SameDay s h (GateEntered g energies ∷ h) d
gate_moves_joined s h g d energies lawful other none =
    gate_moves s h g d energies other (apart_unless_joined s h d g lawful none)

-- and so does an interval energy
pub interval_moves_joined : (s : Setting) (h : History) (g d meter energy : ℕ)
    → IsLawful s h → (d ≡ g → ⊥) → are_joined h d g ≡ false → SameDay s h (IntervalEntered g meter energy ∷ h) d
interval_moves_joined s h g d meter energy lawful other none =
    interval_moves s h g d meter energy other (apart_unless_joined s h d g lawful none)

-- Points that are not enrolled.

-- no reading covers a day of a point that is not active on it
pub not_active_not_covered : (s : Setting) (h : History) (p d : ℕ)
    → IsLawful s h → is_active h p d ≡ false → covering_reading h p d ≡ None
not_active_not_covered s h p d lawful none = go (covering_reading h p d) refl
  where
    go : (o : Option Reading) → covering_reading h p d ≡ o → covering_reading h p d ≡ None
    go None e = e
    go (Some r) e = absurd (both_ways (is_active h p d) none (covered_between s h lawful p d r e).0)

-- until enrolled and before its start day a point's figure is 0
pub figure_before : (s : Setting) (h : History) (p d : ℕ)
    → IsLawful s h → 0 < p → is_active h p d ≡ false → figure s h p d ≡ 0
figure_before s h p d lawful above none =
    figure_supplied s h p d above (ap (λ b. b && not (is_some (covering_reading h p d))) none)
    ∙ ap (λ o. unwrap_or (option_map (share_on s h d) o) 0) (not_active_not_covered s h p d lawful none)

-- a point that an entry enrols was not enrolled before
pub not_before : (s : Setting) (h : History) (p : ℕ) (e : Enrolment)
    → IsLawful s (Enrolled p e ∷ h) → enrolment_of h p ≡ None
not_before s h p e lawful = go (enrolment_of h p) (newly_enrolled s h p e lawful)
  where
    go : (o : Option Enrolment) → is_some o ≡ false → o ≡ None
    go None e = refl
    go (Some x) e = absurd (true≢false e)

-- a figure of 0 counts 0 with any retailer
zero_either : (b : Bool) (f : ℕ) → f ≡ 0 → cond b f 0 ≡ 0
zero_either true f e = e
zero_either false f e = refl

-- a retailer's sum does not change before the start of an enrolment
retailers_before : (s : Setting) (h : History) (p d : ℕ) (e : Enrolment)
    → IsLawful s (Enrolled p e ∷ h) → d < e.start → (k : ℕ)
    → retailer_sum s (Enrolled p e ∷ h) k d ≡ retailer_sum s h k d
retailers_before s h p d e lawful before k =
    ap sum (map_over
    (λ q. cond (belongs_to (enrolment_of (Enrolled p e ∷ h) q) k) (figure s (Enrolled p e ∷ h) q d) 0)
    (λ q. cond (belongs_to (enrolment_of h q) k) (figure s h q d) 0) 1 s.points
    (λ q low high. ⊎_elim (here q low) (elsewhere q) (cases_eq p q)))
  where
    none : enrolment_of h p ≡ None
    none = not_before s h p e lawful

    stands : (q : ℕ) → figure s (Enrolled p e ∷ h) q d ≡ figure s h q d
    stands = figure_same s h (Enrolled p e ∷ h) d (parts_before s h p d e none before)

    elsewhere : (q : ℕ)
        → (p ≡ q → ⊥)
        → cond (belongs_to (enrolment_of (Enrolled p e ∷ h) q) k) (figure s (Enrolled p e ∷ h) q d) 0
        ≡ cond (belongs_to (enrolment_of h q) k) (figure s h q d) 0
    elsewhere q other = λ i.
        cond (belongs_to (option_or (cond (ne_eqb p q other i) (Some e) None) (enrolment_of h q)) k) (stands q i) 0

    nothing : (q : ℕ) → 0 < q → p ≡ q → figure s h q d ≡ 0
    nothing q low same =
        figure_before s h q d lawful.0 low (ap (λ o. has_begun o d) (ap (enrolment_of h) (sym same) ∙ none))

    here : (q : ℕ)
        → 0 < q → p ≡ q
        → cond (belongs_to (enrolment_of (Enrolled p e ∷ h) q) k) (figure s (Enrolled p e ∷ h) q d) 0
        ≡ cond (belongs_to (enrolment_of h q) k) (figure s h q d) 0
    here q low same =
        zero_either (belongs_to (enrolment_of (Enrolled p e ∷ h) q) k) (figure s (Enrolled p e ∷ h) q d)
        (stands q ∙ nothing q low same)
        ∙ sym (zero_either (belongs_to (enrolment_of h q) k) (figure s h q d) (nothing q low same))

-- an enrolment leaves the days before its start
pub enrolment_moves : (s : Setting) (h : History) (p d : ℕ) (e : Enrolment)
    → IsLawful s (Enrolled p e ∷ h) → d < e.start → SameDay s h (Enrolled p e ∷ h) d
enrolment_moves s h p d e lawful before =
    same_day s h (Enrolled p e ∷ h) d (parts_before s h p d e (not_before s h p e lawful) before)
    (retailers_before s h p d e lawful before)

-- The load of one day.

-- a gate entry moves the load of its day alone
pub gate_moved : (s : Setting) (h : History) (g : ℕ) (energies : GateDay)
    → IsLawful s (GateEntered g energies ∷ h) → DiffersInLoad s h (GateEntered g energies ∷ h) g
gate_moved s h g energies lawful = record {
  lawful = lawful;
  coverings = λ p d. refl;
  enrolments = λ p. refl;
  counts = λ d. refl;
  holdings = refl;
  loads = λ d other. gate_elsewhere s h g d energies other;
  apart = λ d other none. gate_moves_joined s h g d energies lawful.0 other none;
}

-- and so does an interval energy
pub interval_moved : (s : Setting) (h : History) (g meter energy : ℕ)
    → IsLawful s (IntervalEntered g meter energy ∷ h) → DiffersInLoad s h (IntervalEntered g meter energy ∷ h) g
interval_moved s h g meter energy lawful = record {
  lawful = lawful;
  coverings = λ p d. refl;
  enrolments = λ p. refl;
  counts = λ d. refl;
  holdings = refl;
  loads = λ d other. interval_elsewhere s h g d meter energy other;
  apart = λ d other none. interval_moves_joined s h g d meter energy lawful.0 other none;
}
