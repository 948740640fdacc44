-- Readings over a day, shared anew one after another.
use Rattle.std.proofs.Common.{◌≡◌, ℕ, ◌+◌, ◌*◌, ◌<◌, ◌≤◌, min, max, Bool, true, false, cond, ◌&&◌, List, length, get_or, is_some, Some, None, vec_items, Option, sym, refl, ap, ◌∙◌, subst, ⊎_elim, mul-le-mul_right, arith}
use Rattle.std.proofs.lemmas.Bool.{and_parts, both_ways, cases_Bool, cases_lt, cond-false, cond-true}
use Rattle.rules.specs.Figures.{share_on}
use Rattle.rules.specs.History.{History, Setting, covers, covering_reading}
use Rattle.rules.specs.declared.entry.Reading.{Reading}
use Rattle.ledger.specs.declared.ledger.Ledger.{Ledger}
use Rattle.rules.proofs.Bounds.{held_within}
use Rattle.sheet.specs.Sheet.{ChangesOnlyDays, LiesInSheet, figure_at}
use Rattle.sheet.specs.SheetOfHistory.{KnowsHistory, ShowsShares, ShowsSharesOver}
use Rattle.sheet.specs.declared.sheet.Sheet.{Sheet}
use Rattle.sheet.proofs.Changes.{knows_only}
use Rattle.sheet.proofs.HeldReadings.{held_is_placed, placed_is_held}
use Rattle.rules.specs.Readings.{held_readings, Holds}
use Rattle.rules.proofs.HeldReadings.{covering_held, held_covering}
use Rattle.rules.proofs.Readings.{some_among, covers_facts}

-- the days between which figures have changed hold a day and lie in the sheet
pub record LiesBetween (day from to : ℕ) (old now : Sheet) : Type 0 where
  pub low : from ≤ day
  pub high : day < to
  pub last : to ≤ old.days
  pub only : ChangesOnlyDays from to old now

-- changes of some days and of others are changes between the first and the last of them
only_both : {old b new : Sheet} (from to start end : ℕ) → ChangesOnlyDays from to old b → ChangesOnlyDays start end b new → ChangesOnlyDays (min from start) (max to end) old new
only_both {old} {b} {new} from to start end first second =
    let n = old.points in
    let from_lower : min from start * n ≤ from * n = mul-le-mul_right n (omega arith) in
    let start_lower : min from start * n ≤ start * n = mul-le-mul_right n (omega arith) in
    let to_higher : to * n ≤ max to end * n = mul-le-mul_right n (omega arith) in
    let end_higher : end * n ≤ max to end * n = mul-le-mul_right n (omega arith) in
    record {
      days = second.days ∙ first.days;
      points = second.points ∙ first.points;
      loads = second.loads ∙ first.loads;
      covered = second.covered ∙ first.covered;
      len = second.len ∙ first.len;
      before = λ k less.
          let early : k < start * b.points = subst (λ m. k < start * m) (sym first.points) (omega arith) in
          second.before k early ∙ first.before k (omega arith);
      after = λ k past.
          let late : end * b.points ≤ k = subst (λ m. end * m ≤ k) (sym first.points) (omega arith) in
          second.after k late ∙ first.after k (omega arith);
    }

pub lies_between_more : {old b new : Sheet} (day from to : ℕ) (r : Reading) → LiesBetween day from to old b → LiesInSheet b r → ChangesOnlyDays r.start r.end b new → LiesBetween day (min from r.start) (max to r.end) old new
lies_between_more day from to r so_far lies only = record {
  low = omega arith;
  high = omega arith;
  last = omega (arith, so_far.only.days, lies.last, so_far.last);
  only = only_both from to r.start r.end so_far.only only;
}

-- a reading that is held lies in the sheet
pub held_lies : {s : Setting} {h : History} {l : Ledger} {b : Sheet} → KnowsHistory s h l b → (r : Reading) → Holds h r → LiesInSheet b r
held_lies {s} {h} knows r held =
    let within = held_within s h knows.lawful r held in
    record {
      low = within.0;
      high = omega (arith, knows.points, within.1);
      some = within.2;
      last = omega (arith, knows.days, within.3);
      light = within.4;
    }

-- two held readings that cover one day of a point are one
same_covering : {s : Setting} {h : History} {l : Ledger} {b : Sheet} → KnowsHistory s h l b → (p d : ℕ) (r o : Reading) → Holds h r → Holds h o → covers r p d ≡ true → covers o p d ≡ true → r ≡ o
same_covering {s} {h} knows p d r o r_held o_held r_covers o_covers =
    let first = held_covering s h knows.lawful p d r r_held r_covers in
    let second = held_covering s h knows.lawful p d o o_held o_covers in
    cc

-- the readings in the first i places that cover a day show their shares, and lie between two days; the others stand
pub record SharesFirstPlaces (s : Setting) (h : History) (places : List (Option Reading)) (i day from to : ℕ) (old now : Sheet) : Type 0 where
  pub shared : (k : ℕ) (r : Reading) → k < i → get_or places k None ≡ Some r → covers r r.point day ≡ true
      → (from ≤ r.start) × (r.end ≤ to) × ((d : ℕ) → covers r r.point d ≡ true → figure_at now r.point d ≡ share_on s h d r)
  pub kept : (p d : ℕ) (r : Reading) → covering_reading h p d ≡ Some r → covers r r.point day ≡ false → figure_at now p d ≡ figure_at old p d
  pub free : (p d : ℕ) → 1 ≤ p → p ≤ s.points → is_some (covering_reading h p d) ≡ false → figure_at now p d ≡ figure_at old p d

-- what a place tells of the reading found in it
module _ (b : Sheet) (day : ℕ) where
  found_in : (o : Bool) (r reading : Reading) → Some reading ≡ cond o (Some r) None → (r ≡ reading) × (o ≡ true)
  found_in true r reading e = (cc, refl)
  found_in false r reading e = let z : ◌≡◌ {A = ℕ} 0 1 = cc in absurd (omega arith)

  pub placed_found : (place : Option Reading) (reading : Reading) → (place ≡ None → Some reading ≡ None)
      → ((r : Reading) → place ≡ Some r → LiesInSheet b r → Some reading ≡ cond (covers r r.point day) (Some r) None)
      → ((r : Reading) → place ≡ Some r → LiesInSheet b r) → (place ≡ Some reading) × (covers reading reading.point day ≡ true)
  placed_found None reading free law lies = let never = free refl in let z : ◌≡◌ {A = ℕ} 0 1 = cc in absurd (omega arith)
  placed_found (Some r) reading free law lies =
      let found = found_in (covers r r.point day) r reading (law r refl (lies r refl)) in
      (ap Some found.0, ap (λ x. covers x x.point day) (sym found.0) ∙ found.1)

  -- where none is found, the reading of a place does not cover the day
  pub placed_not_found : (place : Option Reading) → ((r : Reading) → place ≡ Some r → LiesInSheet b r → None ≡ cond (covers r r.point day) (Some r) None)
      → (r : Reading) → place ≡ Some r → LiesInSheet b r → covers r r.point day ≡ true → ⊥
  placed_not_found place law r is lies covering_reading =
      let never : None ≡ Some r = law r is lies ∙ cond-true _ _ _ covering_reading in let z : ◌≡◌ {A = ℕ} 0 1 = cc in omega arith

module _ {s : Setting} {h : History} {l : Ledger} {old b : Sheet} (day i from to : ℕ) (knows : KnowsHistory s h l old) (between : LiesBetween day from to old b)
    (so_far : SharesFirstPlaces s h (vec_items l.places) i day from to old b) where
  knows_now : KnowsHistory s h l b
  knows_now = knows_only between.only knows

  pub placed_lies : (k : ℕ) (r : Reading) → get_or (vec_items l.places) k None ≡ Some r → LiesInSheet b r
  placed_lies k r is = held_lies knows_now r (placed_is_held knows.follows k r is)

  -- one more place, without a reading over the day
  pub shared_skip : ((r : Reading) → get_or (vec_items l.places) i None ≡ Some r → covers r r.point day ≡ true → ⊥) → SharesFirstPlaces s h (vec_items l.places) (i + 1) day from to old b
  shared_skip none = record {
    shared = λ k r less is covering_reading.
        ⊎_elim (λ (before : k < i). so_far.shared k r before is covering_reading)
        (λ (not_before : i ≤ k). absurd (none r (ap (λ n. get_or (vec_items l.places) n None) (omega arith) ∙ is) covering_reading)) (cases_lt k i);
    kept = so_far.kept;
    free = so_far.free;
  }

  -- one more place, with a reading over the day
  module _ (new : Sheet) (reading : Reading) (is : get_or (vec_items l.places) i None ≡ Some reading) (over : covers reading reading.point day ≡ true) (shown : ShowsShares s h reading b new) where
    reading_held : Holds h reading
    reading_held = placed_is_held knows.follows i reading is

    still_shared : (r : Reading) → Holds h r → (d : ℕ) → covers r r.point d ≡ true → (covers reading r.point d ≡ false → figure_at b r.point d ≡ share_on s h d r) → figure_at new r.point d ≡ share_on s h d r
    still_shared r held d covered before =
        let within = held_within s h knows.lawful r held in
        let now = shown r.point d within.0 within.1 in
        ⊎_elim
        (λ (also : covers reading r.point d ≡ true).
        now ∙ cond-true _ _ _ also ∙ ap (share_on s h d) (same_covering knows r.point d reading r reading_held held also covered))
        (λ (apart : covers reading r.point d ≡ false). now ∙ cond-false _ _ _ apart ∙ before apart) (cases_Bool (covers reading r.point d))

    pub shared_more : SharesFirstPlaces s h (vec_items l.places) (i + 1) day (min from reading.start) (max to reading.end) old new
    shared_more = record {
      shared = λ k r less at covering_reading.
          let held = placed_is_held knows.follows k r at in
          ⊎_elim
          (λ (before : k < i).
          let facts = so_far.shared k r before at covering_reading in
          (omega (arith, facts.0), omega (arith, facts.1), λ d c. still_shared r held d c (λ _. facts.2 d c)))
          (λ (not_before : i ≤ k).
          let here : k ≡ i = omega arith in
          let same : reading ≡ r = let e = ap (λ n. get_or (vec_items l.places) n None) here in cc in
          let start = ap (λ (x : Reading). x.start) same in
          let end = ap (λ (x : Reading). x.end) same in
          (omega arith, omega arith, λ d c. still_shared r held d c (λ apart. absurd (both_ways _ apart (ap (λ x. covers x r.point d) same ∙ c)))))
          (cases_lt k i);
      kept = λ p d r covering_reading apart.
          let found = covering_held s h knows.lawful p d r covering_reading in
          let within = held_within s h knows.lawful r found.0 in
          let point = (covers_facts r p d found.1).0 in
          let now = shown p d (omega (arith, point, within.0)) (omega (arith, point, within.1)) in
          ⊎_elim
          (λ (also : covers reading p d ≡ true).
          let same = same_covering knows p d reading r reading_held found.0 also found.1 in
          absurd (both_ways _ apart (ap (λ x. covers x x.point day) (sym same) ∙ over)))
          (λ (not_this : covers reading p d ≡ false). now ∙ cond-false _ _ _ not_this ∙ so_far.kept p d r covering_reading apart) (cases_Bool (covers reading p d));
      free = λ p d low high none.
          ⊎_elim
          (λ (also : covers reading p d ≡ true).
          absurd (both_ways (is_some (covering_reading h p d)) none (ap is_some (held_covering s h knows.lawful p d reading reading_held also))))
          (λ (apart : covers reading p d ≡ false). shown p d low high ∙ cond-false _ _ _ apart ∙ so_far.free p d low high none) (cases_Bool (covers reading p d));
    }

-- what holds of two days and a sheet holds of equal ones
pub holds_of_equal : (P : ℕ → ℕ → Sheet → Type 0) (from from' to to' : ℕ) (b b' : Sheet) → from' ≡ from → to' ≡ to → b' ≡ b → P from to b → P from' to' b'
holds_of_equal P from from' to to' b b' from_is to_is b_is held =
    subst (λ (x : Sheet). P from' to' x) (sym b_is) (subst (λ t. P from' t b) (sym to_is) (subst (λ f. P f to b) (sym from_is) held))

-- once all places are done, the readings over the day show their shares
pub shared_all : {s : Setting} {h : History} {l : Ledger} {old new : Sheet} (day i from to : ℕ) → KnowsHistory s h l old → length (vec_items l.places) ≤ i → SharesFirstPlaces s h (vec_items l.places) i day from to old new → ShowsSharesOver s h day from to old new
shared_all {s} {h} {l} {old} {new} day i from to knows all so_far = record {
  shared = λ p d r covering_reading over.
      let found = covering_held s h knows.lawful p d r covering_reading in
      let place = held_is_placed knows.follows r found.0 in
      let point = (covers_facts r p d found.1).0 in
      let shown = so_far.shared place.0 r (omega (arith, place.1)) place.2 over in
      ap (λ q. figure_at new q d) (sym point) ∙ shown.2 d (ap (λ q. covers r q d) point ∙ found.1);
  kept = so_far.kept;
  free = so_far.free;
  between = λ d together.
      let some = some_among (λ r. covers r r.point d && covers r r.point day) (held_readings h) together in
      let r = some.0 in
      let both = and_parts (covers r r.point d) (covers r r.point day) some.2 in
      let place = held_is_placed knows.follows r some.1 in
      let shown = so_far.shared place.0 r (omega (arith, place.1)) place.2 both.1 in
      let facts = covers_facts r r.point d both.0 in
      (omega (arith, shown.0, facts.1), omega (arith, shown.1, facts.2));
}
