use Rattle.sheet.proofs.HeldReadings.{held_is_placed, placed_is_held, same_reading_is, same_reading_self}
use Rattle.sheet.proofs.place_laws.places_hold_held_readings.Goals as goal

pub returns : goal.returns
returns c = record {
  same_reading_is = same_reading_is;
  same_reading_self = same_reading_self;
  placed_is_held = placed_is_held;
  held_is_placed = held_is_placed;
}
