use Rattle.std.proofs.Common.{refl}
use Rattle.allocation.specs.Sharing.{part, share_at, shares}
use Rattle.rules.proofs.figure_laws.worked_days_hold.Goals as goal

pub returns : goal.returns
unfolding part share_at shares
returns c = record {
  scaled = record { at_1 = refl; at_2 = refl; at_3 = refl; at_4 = refl };
  scaled_day = record { loads = refl; supplies = refl; generates = refl; leaves = refl; exceeds = refl; lacks = refl };
  equal = record { at_1 = refl; at_2 = refl; at_3 = refl; at_4 = refl };
  equal_day = record { loads = refl; supplies = refl; generates = refl; leaves = refl; exceeds = refl; lacks = refl };
  beyond = record { at_1 = refl; at_2 = refl; at_3 = refl; at_4 = refl };
  beyond_day = record { loads = refl; supplies = refl; generates = refl; leaves = refl; exceeds = refl; lacks = refl };
  missing_first = record {
    loads = refl;
    supplies = refl;
    generates = refl;
    leaves = refl;
    exceeds = refl;
    lacks = refl;
  };
  first_day = record { loads = refl; supplies = refl; generates = refl; leaves = refl; exceeds = refl; lacks = refl };
  second_day = record { loads = refl; supplies = refl; generates = refl; leaves = refl; exceeds = refl; lacks = refl };
  joined_first = refl;
  joined_second = refl;
  retailer_1 = refl;
  retailer_2 = refl;
  retailer_3 = refl;
}
