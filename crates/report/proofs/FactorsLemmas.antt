-- Factors that come before the opening. Assumes nothing.
use Rattle.std.proofs.Common.{◌≡◌, ℕ, zero, suc, ◌-◌, ◌≤◌, Bool, true, false, cond, ◌&&◌, leb, eqb, List, [], ◌∷◌, length, Some, None, Ok, Err, Option, Result, get_or, replicate, set, sym, refl, ap, ◌∙◌, subst, is_ok, arith}
use Rattle.std.proofs.Common.{◌≢◌, option_and_then}
use Rattle.std.proofs.Math.Facts.{eqb_no}
use Rattle.std.proofs.lemmas.Bool.{cond_both, eqb-true, false≢true, true≢false}
use Rattle.std.proofs.lemmas.Bool.Decides.{nat_tests}
use Rattle.std.proofs.lemmas.Grind.{get_or-set_at}
use Rattle.std.proofs.lemmas.List.{get_or-set_other, length-replicate, length-set}
use Rattle.estimates.specs.Factors.{weather_figure, factors_entry_within}
use Rattle.estimates.specs.declared.by_weather.ByWeather.{ByWeather}
use Rattle.estimates.specs.declared.factors.Factors as weather
use Rattle.estimators.specs.Entries.{entry_numbered}
use Rattle.estimators.specs.Meaning.{weather_within, IsBounded, IsBoundedUnder}
use Rattle.line_format.specs.declared.record.Factors.{Factors}
use Rattle.line_format.specs.declared.record.Record.TheVariants as of
use Rattle.std.specs.Option.{option_map}
use Rattle.line_format.specs.declared.fault.Fault.{Fault}
use Rattle.terms.specs.Answers.{Answers}
use Rattle.terms.specs.declared.refusal.Refusal.{Refusal}
use Rattle.report.specs.declared.stage.Stage.{Stage}
use Rattle.report.specs.declared.stage.Stage.TheVariants as stage
use Rattle.report.specs.Intake.{AcceptsRecord, HasFactors, is_turn_at}
use Rattle.report.specs.IntakeHistory.{no_figure, opened, unopened, weather_meaning}
use Rattle.report.specs.RecordRefusal.{IsWithinLimits, placed_refusal}
use Rattle.estimates.specs.ByWeather.{weather_figures, weather_figures_under, weather_figures_bounded_under}
use Rattle.line_format.specs.Limits.{verdict, largest_book}

-- the factors that a record enters
abbrev pub factors_in : Factors → weather.Factors
factors_in f = record { base_load = f.base_load; sensitivity = f.sensitivity }

-- factors within the limits of lines are within those of the estimator
pub factors_fit : (f : Factors) → verdict largest_book (of.Factors f) ≡ None → factors_entry_within f.point (factors_in f) ≡ true
factors_fit f within = grind (arith, nat_tests)

pub point_fits : (f : Factors) → verdict largest_book (of.Factors f) ≡ None → (1 ≤ f.point) × (f.point ≤ 32)
point_fits f within = (grind (arith, nat_tests), grind (arith, nat_tests))

module _ {X : Type 0} (table : List (Option X)) (last n p : ℕ) (x : X) where
  read_at : (low high same : Bool) → leb 1 p ≡ low → leb p last ≡ high → eqb n p ≡ same → length table ≡ last → 1 ≤ n → n ≤ last → cond (low && high) (get_or (set table (n - 1) (Some x)) (p - 1) None) None ≡ cond same (Some x) (cond (low && high) (get_or table (p - 1) None) None)
  read_at true true true above below is long low high =
      let same : n ≡ p = eqb-true n p is in
      get_or-set_at table (n - 1) (p - 1) (Some x) None (omega arith) (omega arith)
  read_at true true false above below is long low high =
      let other : n ≢ p = eqb_no (rw is tt) in
      let one : 1 ≤ p = grind (arith, nat_tests) in
      get_or-set_other table (n - 1) (p - 1) (Some x) None (λ e. other (omega arith))
  read_at true false true above below is long low high =
      let same : n ≡ p = eqb-true n p is in
      absurd (grind (arith, nat_tests))
  read_at true false false above below is long low high = refl
  read_at false high_test true above below is long low high =
      let same : n ≡ p = eqb-true n p is in
      absurd (grind (arith, nat_tests))
  read_at false high_test false above below is long low high = refl

  -- what is entered for a number is read at it, and every other number has what it had
  pub entered_read : length table ≡ last → 1 ≤ n → n ≤ last → entry_numbered last (set table (n - 1) (Some x)) p ≡ cond (eqb n p) (Some x) (entry_numbered last table p)
  entered_read long low high = read_at (leb 1 p) (leb p last) (eqb n p) refl refl refl long low high

-- factors that are entered are before the others
pub factors_stand : (fs : List Factors) (f : Factors) (w w' : ByWeather) → verdict largest_book (of.Factors f) ≡ None
    → w'.factors ≡ cond (factors_entry_within f.point (factors_in f)) (set w.factors (f.point - 1) (Some (factors_in f))) w.factors → w'.counts ≡ w.counts → HasFactors fs w → HasFactors (f ∷ fs) w'
factors_stand fs f w w' within factors counts stands =
    let fits = factors_fit f within in
    let point = point_fits f within in
    let written : w'.factors ≡ set w.factors (f.point - 1) (Some (factors_in f)) = factors ∙ ap (λ b. cond b (set w.factors (f.point - 1) (Some (factors_in f))) w.factors) fits in
    record {
      table = ap length written ∙ length-set w.factors (f.point - 1) (Some (factors_in f)) ∙ stands.table;
      factors = λ p. ap (λ t. entry_numbered 256 t p) written ∙ entered_read w.factors 256 f.point p (factors_in f) stands.table point.0 (omega (arith, point.1)) ∙ ap (cond (eqb f.point p) (Some (factors_in f))) (stands.factors p);
      counts = λ d. ap (λ t. entry_numbered 400 t d) counts ∙ stands.counts d;
    }

-- the estimator means what the factors mean
pub weather_stands : (fs : List Factors) (w : ByWeather) → HasFactors fs w → (count p d : ℕ) → weather_figures_under w count p d ≡ weather_meaning fs count p d
weather_stands fs w stands count p d = ap (λ o. cond (weather_within d count) (option_map (λ f. weather_figure f count) o) None) (stands.factors p)

pub none_yet : (fs : List Factors) (w : ByWeather) → HasFactors fs w → (p d : ℕ) → weather_figures w p d ≡ None
none_yet fs w stands p d = ap (option_and_then (λ count. weather_figures_under w count p d)) (stands.counts d)

pub weather_bounded : (fs : List Factors) (w : ByWeather) → HasFactors fs w → IsBoundedUnder (weather_meaning fs)
weather_bounded fs w stands count p d x is = weather_figures_bounded_under w count p d x (weather_stands fs w stands count p d ∙ is)

pub none_bounded : IsBounded no_figure
none_bounded p d x is = absurd (cc)

accepted_none : (x : Factors) (r : Result (Unit {0}) Refusal) (a : Result (Unit {0}) Fault) → Answers r (factors_entry_within x.point (factors_in x)) tt 3 → factors_entry_within x.point (factors_in x) ≡ true → is_ok a ≡ is_ok r → placed_refusal a ≡ None
accepted_none x (Ok u) (Ok v) answer fits same = refl
accepted_none x (Ok u) (Err f) answer fits same = absurd (true≢false (sym same))
accepted_none x (Err e) a answer fits same = absurd (subst (λ b. Answers {X = Unit {0}} (Err e) b tt 3) fits answer)

-- a record of factors that is within its limits and in its turn is before the others
pub factors_entered : (f : Factors) (s : Stage) (w w' : ByWeather) (r : Result (Unit {0}) Refusal) (a : Result (Unit {0}) Fault) → IsWithinLimits (of.Factors f) → is_turn_at s (of.Factors f) ≡ true
    → Answers r (factors_entry_within f.point (factors_in f)) tt 3 → w'.factors ≡ cond (factors_entry_within f.point (factors_in f)) (set w.factors (f.point - 1) (Some (factors_in f))) w.factors → w'.counts ≡ w.counts → is_ok a ≡ is_ok r
    → AcceptsRecord (of.Factors f) a s w s w'
factors_entered f (stage.Unopened lists) w w' r a within turn answer factors counts same (unopened fs) stands = (accepted_none f r a answer (factors_fit f within) same, (stands.0, factors_stand fs f w w' within factors counts stands.1))
factors_entered f (stage.Unopened lists) w w' r a within turn answer factors counts same (opened s h) stands = absurd stands
factors_entered f stage.Opening w w' r a within turn answer factors counts same t stands = absurd (false≢true turn)
factors_entered f (stage.Opened o) w w' r a within turn answer factors counts same t stands = absurd (false≢true turn)

-- a table of none reads as none everywhere
read_none : {X : Type 0} (n i : ℕ) → get_or {A = Option X} (replicate n None) i None ≡ None
read_none zero i = refl
read_none (suc n) zero = refl
read_none (suc n) (suc i) = read_none n i

none_in : {X : Type 0} (last n p : ℕ) → entry_numbered {X = X} last (replicate n None) p ≡ None
none_in {X} last n p = cond_both (leb 1 p && leb p last) _ None (λ (o : Option X). o ≡ None) (λ _. read_none n (p - 1)) (λ _. refl)

-- before any line the estimator has no factors and no count
pub nothing_entered : (w : ByWeather) → w.factors ≡ replicate 256 None → w.counts ≡ replicate 400 None → HasFactors [] w
nothing_entered w factors counts = record {
  table = ap length factors ∙ length-replicate {A = Option weather.Factors} 256 None;
  factors = λ p. ap (λ t. entry_numbered 256 t p) factors ∙ none_in 256 256 p;
  counts = λ d. ap (λ t. entry_numbered 400 t d) counts ∙ none_in 400 400 d;
}
