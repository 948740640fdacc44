-- The number and the layer of each refusal, and the date that it names.
use Rattle.std.specs.Prelude.{ℕ, Some, None, Option}
use Rattle.terms.specs.RefusalNumbers.{malformed_line, out_of_turn, beyond_limits, no_such_date, outside_book}
use Rattle.terms.specs.RefusalNumbers.{negative_energy, point_not_enrolled, point_enrolled_already}
use Rattle.terms.specs.RefusalNumbers.{start_is_no_mark, end_not_allowed, covered_day_without_load, soft_over_firm}
use Rattle.terms.specs.RefusalNumbers.{reading_places_full, asked_day_without_load, list_too_short}
use Rattle.terms.specs.declared.layer.Layer.{Layer}
use Rattle.terms.specs.declared.layer.Layer.TheVariants.{Line, Record, Book}
use Rattle.terms.specs.declared.refusal.Refusal.{Refusal}
use Rattle.terms.specs.declared.refusal.Refusal.TheVariants.{MalformedLine, OutOfTurn, BeyondLimits, NoSuchDate}
use Rattle.terms.specs.declared.refusal.Refusal.TheVariants.{OutsideBook, NegativeEnergy, PointNotEnrolled}
use Rattle.terms.specs.declared.refusal.Refusal.TheVariants.{PointEnrolledAlready, StartIsNoMark, EndNotAllowed}
use Rattle.terms.specs.declared.refusal.Refusal.TheVariants.{CoveredDayWithoutLoad, SoftOverFirm}
use Rattle.terms.specs.declared.refusal.Refusal.TheVariants.{ReadingPlacesFull, AskedDayWithoutLoad, ListTooShort}

-- the number of each refusal; checks run in the order of these numbers
abbrev pub number_of : Refusal → ℕ
number_of MalformedLine = malformed_line
number_of OutOfTurn = out_of_turn
number_of BeyondLimits = beyond_limits
number_of NoSuchDate = no_such_date
number_of OutsideBook = outside_book
number_of NegativeEnergy = negative_energy
number_of PointNotEnrolled = point_not_enrolled
number_of PointEnrolledAlready = point_enrolled_already
number_of StartIsNoMark = start_is_no_mark
number_of EndNotAllowed = end_not_allowed
number_of (CoveredDayWithoutLoad date) = covered_day_without_load
number_of SoftOverFirm = soft_over_firm
number_of ReadingPlacesFull = reading_places_full
number_of (AskedDayWithoutLoad date) = asked_day_without_load
number_of ListTooShort = list_too_short

-- the layer that meets each refusal: the line's bytes, the record in it, or the book
abbrev pub layer_of : Refusal → Layer
layer_of MalformedLine = Line
layer_of OutOfTurn = Record
layer_of BeyondLimits = Record
layer_of NoSuchDate = Record
layer_of OutsideBook = Book
layer_of NegativeEnergy = Book
layer_of PointNotEnrolled = Book
layer_of PointEnrolledAlready = Book
layer_of StartIsNoMark = Book
layer_of EndNotAllowed = Book
layer_of (CoveredDayWithoutLoad date) = Book
layer_of SoftOverFirm = Book
layer_of ReadingPlacesFull = Book
layer_of (AskedDayWithoutLoad date) = Book
layer_of ListTooShort = Book

-- the number of each layer
abbrev pub layer_number : Layer → ℕ
layer_number Line = 1
layer_number Record = 2
layer_number Book = 3

-- the date of the day without a load that a refusal names, if it names one
abbrev pub date_named : Refusal → Option ℕ
date_named (CoveredDayWithoutLoad date) = Some date
date_named (AskedDayWithoutLoad date) = Some date
date_named other = None
