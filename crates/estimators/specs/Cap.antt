-- What a cap does to the figures below it. A meaning that keeps the limits keeps them under a cap.
use Rattle.std.specs.Prelude.{◌≡◌, ℕ, ◌-◌, ◌≤◌, min, Bool, ◌&&◌, List, Some, None, Option, nat_le, slice_set}
use Rattle.std.proofs.Common.{arith}
use Rattle.std.specs.Option.{option_map}
use Rattle.estimators.specs.Limits.{last_point, point_within}
use Rattle.estimators.specs.Entries.{entry_numbered}
use Rattle.estimators.specs.Meaning.{Meaning, IsBounded, IsRanged, IsBoundedUnder, IsRangedUnder}
use Rattle.estimators.specs.declared.cap.Cap.{Cap}
use Rattle.terms.specs.Limits.{greatest_figure}

-- the greatest daily flow of a point, where it has one
abbrev pub flow_of : List (Option ℕ) → ℕ → Option ℕ
flow_of flows point = entry_numbered last_point flows point

-- the smaller of a figure and a greatest daily flow; where there is no such flow, the figure
abbrev pub capped_figure : Option ℕ → ℕ → ℕ
capped_figure None x = x
capped_figure (Some flow) x = min x flow

-- the smaller figure at each point with a greatest daily flow; none remains none
abbrev pub capped_meaning : List (Option ℕ) → Meaning → Meaning
capped_meaning flows m point place = option_map (capped_figure (flow_of flows point)) (m point place)

-- a greatest daily flow that can be entered
abbrev pub flow_within : ℕ → ℕ → Bool
flow_within point flow = point_within point && nat_le flow greatest_figure

-- the cap with a point's greatest daily flow entered; all other points and what stands below are as they were
abbrev pub with_flow : {E : Type 0} → Cap E → ℕ → ℕ → Cap E
with_flow c point flow = record { below = c.below; flows = slice_set c.flows (point - 1) (Some flow) }

-- a cap never makes a figure larger
capped_figure_below : (flow : Option ℕ) (x : ℕ) → capped_figure flow x ≤ x
capped_figure_below None x = omega arith
capped_figure_below (Some f) x = omega arith

some_below : (flow : Option ℕ) (a : Option ℕ) (n x : ℕ) → ((y : ℕ) → a ≡ Some y → y ≤ n)
    → option_map (capped_figure flow) a ≡ Some x → x ≤ n
some_below flow None n x h e = let z : ◌≡◌ {A = ℕ} 0 1 = cc in omega arith
some_below flow (Some y) n x h e =
    let here : capped_figure flow y ≡ x = cc in
    let below : y ≤ n = h y (cc) in
    omega (arith, capped_figure_below flow y)

none_stays : (flow : Option ℕ) (a : Option ℕ) → a ≡ None → option_map (capped_figure flow) a ≡ None
none_stays flow a e = rw e

module _ (flows : List (Option ℕ)) where
  pub capped_bounded : (m : Meaning) → IsBounded m → IsBounded (capped_meaning flows m)
  capped_bounded m h point place x e = some_below _ (m point place) greatest_figure x (h point place) e

  pub capped_ranged : (m : Meaning) → IsRanged m → IsRanged (capped_meaning flows m)
  capped_ranged m h point place outside = none_stays _ (m point place) (h point place outside)

  -- the same under each count
  pub capped_bounded_under : (u : ℕ → Meaning) → IsBoundedUnder u
      → IsBoundedUnder (λ count. capped_meaning flows (u count))
  capped_bounded_under u h count = capped_bounded (u count) (h count)

  pub capped_ranged_under : (u : ℕ → Meaning) → IsRangedUnder u
      → IsRangedUnder (λ count. capped_meaning flows (u count))
  capped_ranged_under u h count point place outside =
      none_stays _ (u count point place) (h count point place outside)
