-- Whether the numbers of a record are within their limits, and its dates exist.
use Rattle.std.specs.Prelude.{ℕ, ◌+◌, ◌-◌, Bool, true, not, ◌&&◌, ◌||◌, if◌then◌else◌, List, [], ◌∷◌, map, take, pos, negsuc, Some, None, Option, nat_le}
use Rattle.std.specs.Option.{option_or}
use Rattle.allocation.specs.Loads.{largest_gate, largest_unaccounted}
use Rattle.calendar.specs.Digits.{is_date, day_number_of}
use Rattle.estimates.specs.Factors.{greatest_base_load, greatest_sensitivity}
use Rattle.estimators.specs.Limits.{greatest_count}
use Rattle.line_format.specs.Kind.{Kind, Value, number, signed, date}
use Rattle.allocation.specs.Loads.{largest_interval, meters}
use Rattle.terms.specs.Limits.{largest_energy, retailers}
use Rattle.terms.specs.RefusalNumbers.{beyond_limits, no_such_date}
use Rattle.line_format.specs.Record.{Content, contents, tag_of}
use Rattle.line_format.specs.declared.limits.Limits.{Limits}
use Rattle.line_format.specs.declared.record.Record.{Record}
use Rattle.line_format.specs.declared.record.Record.TheVariants as of
use Rattle.line_format.specs.declared.tag.Tag.{Tag}
use Rattle.line_format.specs.declared.tag.Tag.TheVariants.{Open, Fact, Enrl, Gate, Intv, Degd, Read}

-- the largest book that the lines of an input can open
abbrev pub largest_book : Limits
largest_book = record { days = 62; points = 32 }

-- the least and the largest number of a field
pub record Range : Type 0 where
  pub least : ℕ
  pub most : ℕ

abbrev pub range : ℕ → ℕ → Range
range a b = record { least = a; most = b }

-- of a field that holds no number
abbrev pub no_range : Range
no_range = range 0 0

-- the ranges of the four fields of each tag
abbrev pub ranges : Limits → Tag → List Range
ranges l Open = no_range ∷ range 1 l.days ∷ range 0 largest_unaccounted ∷ no_range ∷ []
ranges l Fact =
    range 1 l.points ∷ range 0 greatest_base_load ∷ range 0 greatest_sensitivity ∷ no_range ∷ []
ranges l Enrl = range 1 l.points ∷ range 1 retailers ∷ no_range ∷ no_range ∷ []
ranges l Gate = no_range ∷ range 0 largest_gate ∷ range 0 largest_gate ∷ no_range ∷ []
ranges l Intv = no_range ∷ range 1 meters ∷ range 0 largest_interval ∷ no_range ∷ []
ranges l Degd = no_range ∷ range 0 greatest_count ∷ no_range ∷ no_range ∷ []
ranges l Read = range 1 l.points ∷ no_range ∷ no_range ∷ range 0 largest_energy ∷ []

-- what stands in a field is no number, or one of its range. A negative number is not judged here
abbrev pub in_range : Range → (k : Kind) → Value k → Bool
in_range r number n = nat_le r.least n && nat_le n r.most
in_range r signed (pos n) = nat_le n r.most
in_range r signed (negsuc n) = true
in_range r _ _ = true

-- the same of each of the fields
abbrev pub all_in_range : List Range → List Content → List Bool
all_in_range [] cs = []
all_in_range (r ∷ rs) [] = []
all_in_range (r ∷ rs) (c ∷ cs) = in_range r c.kind c.value ∷ all_in_range rs cs

-- the last day of a book with this first date is 30 December 2099 at the latest, if there is such a first date
unfoldable pub ends_in_time : ℕ → ℕ → Bool
ends_in_time first_date days =
    not (is_date first_date)
    || nat_le (day_number_of first_date + days - 1) (day_number_of 20991230)

-- the first date of a book is beyond its limits where the book, of as many days as are allowed, would end too late
abbrev pub first_in_time : Limits → Record → Bool
first_in_time l (of.Opening r) =
    not (nat_le 1 r.days && nat_le r.days l.days) || ends_in_time r.first_date r.days
first_in_time l _ = true

-- the first of the fields is held to one more test
abbrev pub first_also : Bool → List Bool → List Bool
first_also t [] = []
first_also t (b ∷ bs) = (b && t) ∷ bs

-- which of the four fields hold a number within its limits, or none
abbrev pub numbers_within : Limits → Record → List Bool
numbers_within l r =
    first_also (first_in_time l r) (all_in_range (ranges l (tag_of r)) (contents r))

-- what stands in a field is no date, or a date that exists
abbrev pub exists_if_date : (k : Kind) → Value k → Bool
exists_if_date date d = is_date d
exists_if_date _ _ = true

-- the same of each of the four fields
abbrev pub dates_exist : Record → List Bool
dates_exist r = map (λ c. exists_if_date c.kind c.value) (take 4 (contents r))

-- of fields of ten columns from column c on, the first column of the leftmost that does not pass,
-- with the number that refuses it
abbrev pub leftmost_refusal : ℕ → ℕ → List Bool → Option (ℕ × ℕ)
leftmost_refusal n c [] = None
leftmost_refusal n c (b ∷ bs) = if b then leftmost_refusal n (c + 10) bs else Some (n, c)

-- of the four fields of a line
abbrev pub field_refusal : ℕ → List Bool → Option (ℕ × ℕ)
field_refusal n fields = leftmost_refusal n 5 fields

-- a number beyond its limits refuses a record as 3, else a date that does not exist as 4
abbrev pub verdict : Limits → Record → Option (ℕ × ℕ)
verdict l r =
    option_or (field_refusal beyond_limits (numbers_within l r)) (field_refusal no_such_date (dates_exist r))
