-- What is known of an entry since its call was accepted.
use Rattle.std.proofs.Common.{◌≡◌, ℕ, ◌+◌, ◌<◌, ◌≤◌, Bool, true, false, cond, not, ◌||◌, ltb, List, [], ◌∷◌, is_some, Some, None, count_by, Option, sym, refl, ap, ◌∙◌, ◌-◌, leb, length, get_or, ℤ, pos, negsuc, subst, inl, inr, arith}
use Rattle.std.specs.List.{AllByRecursion}
use Rattle.std.proofs.lemmas.Bool.{true≢false, and_parts, ltb-true, ltb-false, not-false, leb-true}
use Rattle.rules.specs.Calls.{Condition, IsLawful, is_after_all_marks, conditions, ends_where_not_allowed, enrols_again, entry_of, first_refusal, reading_passes, finds_no_place, refusal, replaces_firm_though_soft, starts_at_no_mark, is_between, is_beyond_limits, covers_day_without_load, energy_of, is_energy_within_limit, first_day_without_load, is_in_book, names_day_outside_book, day_of_date}
use Rattle.rules.specs.History.{History, Setting, enrolment_of, gate_in, gate_of, covered_days}
use Rattle.rules.specs.Readings.{held_readings, is_mark, replaces, Holds}
use Rattle.rules.specs.declared.call.Call.{Call}
use Rattle.rules.specs.declared.call.Call.TheVariants.{Enrol, EnterGate, EnterInterval, EnterDegreeDays, EnterReading}
use Rattle.rules.specs.declared.entry.Enrolment.{Enrolment}
use Rattle.rules.specs.declared.entry.Entry.{Entry}
use Rattle.rules.specs.declared.entry.Entry.TheVariants.{Enrolled, ReadingTaken}
use Rattle.rules.specs.declared.entry.Reading.{Reading}
use Rattle.std.specs.Option.{option_map, option_or}
use Rattle.std.proofs.lemmas.List.FromFn.{get_or-range_with_len, length-range_with_len}
use Rattle.std.proofs.ByRecursion.{All-get_or}
use Rattle.calendar.specs.Digits.{day_number_of}
use Rattle.rules.specs.Figures.{load, load_from_gate}
use Rattle.rules.specs.ReadingLaws.{LiesInBook, KeepsLimits, EntryLiesInBook}
use Rattle.rules.proofs.Readings.{kept_among}
use Rattle.estimators.specs.Limits.{greatest_count}
use Rattle.terms.specs.Limits.{largest_energy, retailers}

-- a condition that is not the first to hold does not hold, and the refusal is that of the others
passed_over : (b : Bool) (n : ℕ) (rest : Option ℕ) → cond b (Some n) rest ≡ None → (b ≡ false) × (rest ≡ None)
passed_over true n rest e = absurd (true≢false (ap is_some e))
passed_over false n rest e = (refl, e)

-- where no condition is the first to hold, none holds
pub none_holds : (cs : List Condition) → first_refusal cs ≡ None → AllByRecursion (λ c. c.holds ≡ false) cs
none_holds [] e = tt
none_holds (c ∷ cs) e =
    let passed = passed_over c.holds c.number (first_refusal cs) e in (passed.0, none_holds cs passed.1)

-- none of the conditions of an accepted call holds
pub accepted : (s : Setting) (h : History) (c : Call)
    → refusal s h c ≡ None → AllByRecursion (λ x. x.holds ≡ false) (conditions s h c)
accepted s h c e = none_holds (conditions s h c) e

-- what an accepted reading keeps to: it starts at a mark, ends after its start, at a mark or later than all marks,
-- replaces no firm readings if it is soft, and has a place
pub record FitsIn (s : Setting) (h : History) (r : Reading) : Type 0 where
  pub start_mark : is_mark h r.point r.start ≡ true
  pub ahead : r.start < r.end
  pub end_mark : (is_mark h r.point r.end || is_after_all_marks h r.point r.end) ≡ true
  pub over_firm : replaces_firm_though_soft h r ≡ false
  pub room : count_by (λ old. not (replaces r old)) (held_readings h) + 1 ≤ s.places

-- every accepted reading does
pub fits : (s : Setting) (h : History) (r : Reading) → IsLawful s (ReadingTaken r ∷ h) → FitsIn s h r
fits s h r lawful =
    let c = lawful.1.0 in
    let is_reading : entry_of s c ≡ Some (ReadingTaken r) = lawful.1.2 in
    let none = accepted s h c lawful.1.1 in
    let nine : starts_at_no_mark h r ≡ false =
    ap (reading_passes (starts_at_no_mark h)) (sym is_reading) ∙ none.1.1.1.1.1.1.0 in
    let ten : ends_where_not_allowed h r ≡ false =
    ap (reading_passes (ends_where_not_allowed h)) (sym is_reading) ∙ none.1.1.1.1.1.1.1.0 in
    let twelve : replaces_firm_though_soft h r ≡ false =
    ap (reading_passes (replaces_firm_though_soft h)) (sym is_reading) ∙ none.1.1.1.1.1.1.1.1.1.0 in
    let thirteen : finds_no_place s h r ≡ false =
    ap (reading_passes (finds_no_place s h)) (sym is_reading) ∙ none.1.1.1.1.1.1.1.1.1.1.0 in
    let ends = and_parts (ltb r.start r.end) (is_mark h r.point r.end || is_after_all_marks h r.point r.end)
    (not-false _ ten) in
    record {
      start_mark = not-false (is_mark h r.point r.start) nine;
      ahead = ltb-true r.start r.end ends.0;
      end_mark = ends.1;
      over_firm = twelve;
      room = ltb-false s.places (count_by (λ old. not (replaces r old)) (held_readings h) + 1) thirteen;
    }

-- a condition on the point that an entry enrols
abbrev of_enrolled : (ℕ → Bool) → Option Entry → Bool
of_enrolled test (Some (Enrolled point enrolment)) = test point
of_enrolled test o = false

-- whether a call enrols a point again is read off its entry
enrolled_by_entry : (s : Setting) (h : History) (c : Call)
    → of_enrolled (λ p. is_some (enrolment_of h p)) (entry_of s c) ≡ enrols_again h c
enrolled_by_entry s h (Enrol point retailer start) = refl
enrolled_by_entry s h c = refl

-- a point that was enrolled had not been before
pub newly_enrolled : (s : Setting) (h : History) (p : ℕ) (e : Enrolment)
    → IsLawful s (Enrolled p e ∷ h) → is_some (enrolment_of h p) ≡ false
newly_enrolled s h p e lawful =
    let c = lawful.1.0 in
    let none = accepted s h c lawful.1.1 in
    ap (of_enrolled (λ q. is_some (enrolment_of h q))) (sym lawful.1.2) ∙ enrolled_by_entry s h c ∙ none.1.1.1.1.1.0

-- Held readings lie in the book, and their days have loads.

-- what holds of each reading as it is accepted, and stays, holds of every held one
pub of_each_held : (s : Setting) (P : History → Reading → Type 0)
    → ((e : Entry) (h : History) (r : Reading) → P h r → P (e ∷ h) r)
    → ((h : History) (r : Reading) → IsLawful s (ReadingTaken r ∷ h) → P (ReadingTaken r ∷ h) r) → (h : History)
    → IsLawful s h → (r : Reading) → Holds h r → P h r
of_each_held s P stays new [] lawful r a = absurd a
of_each_held s P stays new (ReadingTaken o ∷ h) lawful r (inl same) =
    subst (P (ReadingTaken o ∷ h)) same (new h o lawful)
of_each_held s P stays new (ReadingTaken o ∷ h) lawful r (inr later) =
    stays (ReadingTaken o) h r
    (of_each_held s P stays new h lawful.0 r (kept_among r (λ old. not (replaces o old)) _ later).0)
of_each_held s P stays new (e ∷ h) lawful r a = stays e h r (of_each_held s P stays new h lawful.0 r a)

-- what holds of the reading that a call would take
abbrev OfReading : (Reading → Type 0) → Option Entry → Type 0
OfReading P (Some (ReadingTaken r)) = P r
OfReading P o = Unit {0}

-- an energy within the limit is at most the largest, as a reading has it
energy_below : (e : ℤ) → is_energy_within_limit e ≡ true → energy_of e ≤ largest_energy
energy_below (pos e) within = leb-true e largest_energy within
energy_below (negsuc e) within = omega arith

-- a call that is within its limits and in the book takes a reading that keeps to them
limited : (s : Setting) (c : Call)
    → is_beyond_limits s c ≡ false → names_day_outside_book s c ≡ false → OfReading (KeepsLimits s) (entry_of s c)
limited s (EnterReading delivery) three five =
    let numbers = and_parts (is_between 1 s.points delivery.point) (is_energy_within_limit delivery.energy)
    (not-false _ three) in
    let point_within = and_parts (leb 1 delivery.point) (leb delivery.point s.points) numbers.0 in
    let dates = and_parts (is_in_book s 0 delivery.start) (is_in_book s 1 delivery.end) (not-false _ five) in
    let end_within = and_parts (leb s.first (day_number_of delivery.end))
    (ltb (day_number_of delivery.end) (s.first + s.days + 1)) dates.1 in
    record {
      ends_in_book = omega (arith, ltb-true (day_number_of delivery.end) (s.first + s.days + 1) end_within.1);
      point_low = leb-true 1 delivery.point point_within.0;
      point_high = leb-true delivery.point s.points point_within.1;
      energy_limited = energy_below delivery.energy numbers.1;
    }
limited s c three five = tt

-- every accepted reading keeps within the limits
pub reading_limited : (s : Setting) (h : History) (r : Reading) → IsLawful s (ReadingTaken r ∷ h) → KeepsLimits s r
reading_limited s h r lawful =
    let c = lawful.1.0 in
    let none = accepted s h c lawful.1.1 in
    subst (OfReading (KeepsLimits s)) lawful.1.2 (limited s c none.0 none.1.1.0)

-- a day that has a load keeps one
mapped_some : {X Y : Type 0} (f : X → Y) (o : Option X) → is_some (option_map f o) ≡ is_some o
mapped_some f None = refl
mapped_some f (Some x) = refl

-- a day has a load where it has a gate entry
pub load_by_gate : (s : Setting) (h : History) (d : ℕ) → is_some (load s h d) ≡ is_some (gate_of h d)
load_by_gate s h d = mapped_some (load_from_gate s h d) (gate_of h d)

-- of two values one is there where the second is
either_some : {X : Type 0} (a b : Option X) → is_some b ≡ true → is_some (option_or a b) ≡ true
either_some None b e = e
either_some (Some x) b e = refl

-- a day that has a load has one after any entry
pub load_stays : (s : Setting) (e : Entry) (h : History) (d : ℕ)
    → is_some (load s h d) ≡ true → is_some (load s (e ∷ h) d) ≡ true
load_stays s e h d had =
    load_by_gate s (e ∷ h) d ∙ either_some (gate_in d e) (gate_of h d) (sym (load_by_gate s h d) ∙ had)

-- where a day and all later ones have loads, it has one and so have they
all_loaded_by : (b : Bool) (d : ℕ) (rest : Option ℕ)
    → is_some (cond b rest (Some d)) ≡ false → (b ≡ true) × (is_some rest ≡ false)
all_loaded_by true d rest e = (refl, e)
all_loaded_by false d rest e = absurd (true≢false e)

-- where no day is the first without a load, each has one
all_loaded : (s : Setting) (h : History) (ds : List ℕ)
    → is_some (first_day_without_load s h ds) ≡ false → AllByRecursion (λ d. is_some (load s h d) ≡ true) ds
all_loaded s h [] e = tt
all_loaded s h (d ∷ ds) e =
    let here = all_loaded_by (is_some (load s h d)) d (first_day_without_load s h ds) e in
    (here.0, all_loaded s h ds here.1)

-- each day that an accepted reading covers had a load
pub reading_loaded : (s : Setting) (h : History) (r : Reading)
    → IsLawful s (ReadingTaken r ∷ h) → (d : ℕ) → r.start ≤ d → d < r.end → is_some (load s h d) ≡ true
reading_loaded s h r lawful d from before =
    let c = lawful.1.0 in
    let none = accepted s h c lawful.1.1 in
    let eleven : covers_day_without_load s h r ≡ false =
    ap (reading_passes (covers_day_without_load s h)) (sym lawful.1.2) ∙ none.1.1.1.1.1.1.1.1.0 in
    let n = r.end - r.start in
    let i = d - r.start in
    let within : i < length (covered_days r) = omega (arith, length-range_with_len r.start n) in
    let day : get_or (covered_days r) i 0 ≡ d = get_or-range_with_len r.start n i 0 (omega arith) ∙ omega arith in
    ap (λ x. is_some (load s h x)) (sym day)
    ∙ All-get_or (λ x. is_some (load s h x) ≡ true) (covered_days r) i 0 within (all_loaded s h (covered_days r) eleven)

-- every held reading keeps within the limits, and each day that it covers has a load
pub held_in_book : (s : Setting) (h : History) → IsLawful s h → (r : Reading) → Holds h r → LiesInBook s h r
held_in_book s =
    of_each_held s (LiesInBook s)
    (λ e h r b. record {
      within = b.within;
      days_have_loads = λ d from before. load_stays s e h d (b.days_have_loads d from before);
    })
    (λ h r new. record {
      within = reading_limited s h r new;
      days_have_loads = λ d from before. load_stays s (ReadingTaken r) h d (reading_loaded s h r new d from before);
    })

-- Accepted entries speak of the book.

-- a date in the book has its place among the book's days
pub day_of_date_within : (s : Setting) (date : ℕ) → not (is_in_book s 0 date) ≡ false → day_of_date s date < s.days
day_of_date_within s date five =
    let inside = and_parts (leb s.first (day_number_of date)) (ltb (day_number_of date) (s.first + s.days + 0))
    (not-false _ five) in
    let low : s.first ≤ day_number_of date = leb-true _ _ inside.0 in
    let high : day_number_of date < s.first + s.days + 0 = ltb-true _ _ inside.1 in
    omega arith

-- a number from low to high is neither below low nor above high
between_parts : (low high n : ℕ) → is_between low high n ≡ true → (low ≤ n) × (n ≤ high)
between_parts low high n inside =
    let parts = and_parts (leb low n) (leb n high) inside in (leb-true low n parts.0, leb-true n high parts.1)

-- the entry of a call within its limits and in the book speaks of the book
call_in : (s : Setting) (c : Call)
    → is_beyond_limits s c ≡ false → names_day_outside_book s c ≡ false → EntryLiesInBook s (entry_of s c)
call_in s (Enrol point retailer start) three five =
    let numbers = and_parts (is_between 1 s.points point) (is_between 1 retailers retailer) (not-false _ three) in
    let known = between_parts 1 s.points point numbers.0 in
    (known.0, known.1, day_of_date_within s start five)
call_in s (EnterGate date energy_in energy_out) three five = day_of_date_within s date five
call_in s (EnterInterval date meter energy) three five = day_of_date_within s date five
call_in s (EnterDegreeDays date count) three five =
    (day_of_date_within s date five, leb-true count greatest_count (not-false _ three))
call_in s (EnterReading delivery) three five =
    between_parts 1 s.points delivery.point
    (and_parts (is_between 1 s.points delivery.point) (is_energy_within_limit delivery.energy) (not-false _ three)).0
call_in s c three five = tt

-- every accepted entry speaks of the book
pub entry_in : (s : Setting) (h : History) (e : Entry) → IsLawful s (e ∷ h) → EntryLiesInBook s (Some e)
entry_in s h e lawful =
    let c = lawful.1.0 in
    let none = accepted s h c lawful.1.1 in
    subst (EntryLiesInBook s) lawful.1.2 (call_in s c none.0 none.1.1.0)
