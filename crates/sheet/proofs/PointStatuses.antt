-- The status of a point on a day, from what a sheet knows.
use Rattle.std.proofs.Common.{◌≡◌, ℕ, ◌-◌, ◌<◌, ◌≤◌, Bool, true, false, cond, ◌&&◌, ltb, get_or, is_some, Some, None, sym, refl, ap, ◌∙◌}
use Rattle.std.proofs.lemmas.Bool.{le-leb, lt-leb}
use Rattle.rules.specs.History.{History, Setting, enrolment_of, covering_reading}
use Rattle.rules.specs.declared.entry.Enrolment.{Enrolment}
use Rattle.ledger.specs.declared.ledger.Ledger.{Ledger}
use Rattle.sheet.specs.SheetOfHistory.{KnowsHistory, status_of}
use Rattle.sheet.specs.declared.sheet.PointStatus.TheVariants.{Absent, Covered, Estimated}
use Rattle.sheet.specs.declared.sheet.Sheet.{Sheet}
use Rattle.rules.specs.Figures.{is_active, has_begun}

-- the status of a point by whether it is active and whether the day lies before what is covered
status_by : (covered is_active before : Bool) → covered ≡ (is_active && before) → cond is_active (cond before Covered Estimated) Absent ≡ cond covered Covered (cond is_active Estimated Absent)
status_by covered true true e = rw e refl
status_by covered true false e = rw e refl
status_by covered false before e = rw e refl

module _ {s : Setting} {h : History} {l : Ledger} {b : Sheet} (knows : KnowsHistory s h l b) (p d : ℕ) (low : 1 ≤ p) (high : p ≤ b.points) where
  known : cond (is_active h p d) (cond (ltb d (get_or b.cover_ends (p - 1) 0)) Covered Estimated) Absent ≡ status_of h p d
  known =
      status_by (is_some (covering_reading h p d)) (is_active h p d) (ltb d (get_or b.cover_ends (p - 1) 0)) (knows.covered p d low (rw knows.points at high))

  -- a point that is not enrolled, or that starts later, is absent
  pub absent : is_active h p d ≡ false → Absent ≡ status_of h p d
  absent none = ap (λ t. cond t (cond (ltb d (get_or b.cover_ends (p - 1) 0)) Covered Estimated) Absent) (sym none) ∙ known

  -- any other is covered or estimated
  pub present : (before : Bool) → is_active h p d ≡ true → ltb d (get_or b.cover_ends (p - 1) 0) ≡ before → cond before Covered Estimated ≡ status_of h p d
  present before some e =
      ap (λ t. cond t Covered Estimated) (sym e) ∙ ap (λ t. cond t (cond (ltb d (get_or b.cover_ends (p - 1) 0)) Covered Estimated) Absent) (sym some) ∙ known

-- a point with an enrolment is active from its start on
pub active_from : (h : History) (p d : ℕ) (e : Enrolment) → Some e ≡ enrolment_of h p → e.start ≤ d → is_active h p d ≡ true
active_from h p d e enrolled after = ap (λ o. has_begun o d) (sym enrolled) ∙ le-leb e.start d after

pub active_not_yet : (h : History) (p d : ℕ) (e : Enrolment) → Some e ≡ enrolment_of h p → d < e.start → is_active h p d ≡ false
active_not_yet h p d e enrolled before = ap (λ o. has_begun o d) (sym enrolled) ∙ lt-leb e.start d before

pub active_never : (h : History) (p d : ℕ) → None ≡ enrolment_of h p → is_active h p d ≡ false
active_never h p d none = ap (λ o. has_begun o d) (sym none)
