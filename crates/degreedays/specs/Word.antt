-- The words that tell a day's weather, and the first of them that is at fault.
use Rattle.std.specs.Prelude.{
  ℕ,
  ◌+◌,
  Bool,
  if◌then◌else◌,
  not,
  List,
  Some,
  None,
  Ok,
  Err,
  Option,
  Result,
  position,
}
use Rattle.std.specs.Option.{option_map, option_or}
use Rattle.calendar.specs.Digits.{is_date}
use Rattle.estimates.specs.Observations.{temperature_within, wind_within, sunshine_within}
use Rattle.estimates.specs.declared.observations.Observations.{Observations}
use Rattle.degreedays.specs.declared.word.Word.{Word}
use Rattle.degreedays.specs.declared.word.Word.TheVariants.{Date, Temperature, Wind, Sunshine}

-- the place, counted from 1, of the first element that does not pass
abbrev pub first_failing : {X : Type 0} → (X → Bool) → List X → Option ℕ
first_failing p xs = option_map (λ n. n + 1) (position (λ x. not (p x)) xs)

-- the first temperature beyond its limits, or else the first wind
abbrev pub first_beyond : Observations → Option Word
first_beyond day =
    option_or (option_map Temperature (first_failing temperature_within day.temperatures))
    (option_map Wind (first_failing wind_within day.winds))

-- the first word at fault, in their order: the date, the temperatures, the winds, the sunshine
abbrev pub first_fault : ℕ → Observations → Option Word
first_fault date day =
    if is_date date
    then option_or (first_beyond day) (if sunshine_within day.sunshine then None else Some Sunshine)
    else Some Date

-- the value where no word is at fault, else the word that is
abbrev pub ok_unless : {X : Type 0} → Option Word → X → Result X Word
ok_unless None x = Ok x
ok_unless (Some word) x = Err word

-- the index of a word, from 0: the date, eight temperatures, sixteen winds, sunshine
abbrev pub index_of : Word → ℕ
index_of Date = 0
index_of (Temperature n) = n
index_of (Wind n) = 8 + n
index_of Sunshine = 25
