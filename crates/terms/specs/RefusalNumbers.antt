-- The number of each refusal by its name. Clauses cite these names.
use Rattle.std.specs.Prelude.{ℕ}

-- the bytes are no line of the format
abbrev pub malformed_line : ℕ
malformed_line = 1

-- the record may not stand where it stands
abbrev pub out_of_turn : ℕ
out_of_turn = 2

-- a number is smaller or larger than its limits allow
abbrev pub beyond_limits : ℕ
beyond_limits = 3

-- eight digits are no date from 20010101 to 20991231
abbrev pub no_such_date : ℕ
no_such_date = 4

-- a date lies before the book's first day or after its last
abbrev pub outside_book : ℕ
outside_book = 5

-- a reading's energy is less than 0
abbrev pub negative_energy : ℕ
negative_energy = 6

-- a reading's point has no enrolment
abbrev pub point_not_enrolled : ℕ
point_not_enrolled = 7

-- a point is enrolled once only
abbrev pub point_enrolled_already : ℕ
point_enrolled_already = 8

-- a reading starts at no mark of its point
abbrev pub start_is_no_mark : ℕ
start_is_no_mark = 9

-- a reading does not end after its start, or neither at a mark of its point nor later than all its marks; or a span
-- ends before it starts
abbrev pub end_not_allowed : ℕ
end_not_allowed = 10

-- a day that a reading covers has no load
abbrev pub covered_day_without_load : ℕ
covered_day_without_load = 11

-- a soft reading does not replace a firm one
abbrev pub soft_over_firm : ℕ
soft_over_firm = 12

-- the list of readings has no free place
abbrev pub reading_places_full : ℕ
reading_places_full = 13

-- a day that is asked for has no load
abbrev pub asked_day_without_load : ℕ
asked_day_without_load = 14

-- a list of the caller's has too few places
abbrev pub list_too_short : ℕ
list_too_short = 15
