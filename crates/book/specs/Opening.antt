-- When a book opens, and the case that it opens in.
use Rattle.std.specs.Prelude.{◌≡◌, ℕ, ◌*◌, Bool, not, ◌&&◌, [], ◌∷◌, drop, Some, None, Ok, Err, vec_items, vec_len, Option, Result, nat_le}
use Rattle.calendar.specs.Digits.{is_date}
use Rattle.ledger.specs.declared.opening.Unopened.{Unopened}
use Rattle.ledger.specs.declared.opening.OpeningRequest.{OpeningRequest}
use Rattle.terms.specs.Refusal.{number_of}
use Rattle.book.specs.Book.{IsBookOf}
use Rattle.book.specs.Case.{Beyond, Case}
use Rattle.estimators.specs.Meaning.{Meanings, IsBounded, IsBoundedUnder}
use Rattle.book.specs.declared.book.Book.{Book}
use Rattle.book.specs.declared.book.Lists.{Lists}
use Rattle.allocation.specs.Loads.{meters}
use Rattle.rules.specs.Calls.{first_refusal}
use Rattle.ledger.specs.Opening.{is_opening_beyond_limits, setting_of}
use Rattle.terms.specs.RefusalNumbers.{beyond_limits, list_too_short, no_such_date}

-- 15: the sheet list has fewer places than days times points, the interval list fewer than 32 a day, or the
-- reading list none
abbrev pub are_book_lists_short : OpeningRequest → Lists → Bool
are_book_lists_short q lists =
    not
    (nat_le (q.days * q.points) (vec_len lists.sheet)
    && (nat_le (q.days * meters) (vec_len lists.intervals) && nat_le 1 (vec_len lists.readings)))

-- the refusal of an opening, by its number; none where it is accepted
abbrev pub book_opening_refusal : OpeningRequest → Lists → Option ℕ
book_opening_refusal q lists =
    first_refusal
    (record { number = beyond_limits; holds = is_opening_beyond_limits q }
    ∷ record { number = no_such_date; holds = not (is_date q.first_date) }
    ∷ record { number = list_too_short; holds = are_book_lists_short q lists } ∷ [])

-- what lists hold beyond the places of a book of so many days and points
abbrev pub rest_of : OpeningRequest → Lists → Beyond
rest_of q lists = record {
  sheet = drop (q.days * q.points) (vec_items lists.sheet);
  intervals = drop (q.days * meters) (vec_items lists.intervals);
}

-- the case that a book opens in, in the memory of these lists and beside an estimator that means this: nothing
-- is accepted yet
abbrev pub opening_case : OpeningRequest → Lists → Meanings → Case
opening_case q lists m = record {
  setting = setting_of q (vec_len lists.readings) m.current m.under;
  rest = rest_of q lists;
  history = [];
}

-- what opens is the book of that case beside every estimator that keeps within its limits
abbrev pub OpensBook : OpeningRequest → Lists → Result Book (Unopened Lists) → Type 0
OpensBook q lists (Ok b) =
    (book_opening_refusal q lists ≡ None)
    × ((m : Meanings) → IsBounded m.current → IsBoundedUnder m.under → IsBookOf (opening_case q lists m) b m)
OpensBook q lists (Err e) = book_opening_refusal q lists ≡ Some (number_of e.refusal)

-- an opening is accepted or refused by these
abbrev pub OpensByRules : {X : Type 0} → OpeningRequest → Lists → Result X (Unopened Lists) → Type 0
OpensByRules q lists (Ok x) = book_opening_refusal q lists ≡ None
OpensByRules q lists (Err e) = book_opening_refusal q lists ≡ Some (number_of e.refusal)
