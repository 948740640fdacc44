-- What a fall-back means. Two meanings that keep the limits keep them together.
use Rattle.std.specs.Prelude.{◌≡◌, ℕ, Some, None, Option}
use Rattle.std.specs.Option.{option_or}
use Rattle.estimators.specs.Meaning.{Meaning, IsBounded, IsRanged, IsBoundedUnder, IsRangedUnder}

-- the first estimator's figure where it has one, else the second's
abbrev pub first_of : Meaning → Meaning → Meaning
first_of a b point place = option_or (a point place) (b point place)

-- whichever of two answers is taken, P holds of it
either_holds : (P : ℕ → Type 0) (a b : Option ℕ) (x : ℕ) → ((y : ℕ) → a ≡ Some y → P y)
    → ((y : ℕ) → b ≡ Some y → P y) → option_or a b ≡ Some x → P x
either_holds P None b x ha hb e = hb x e
either_holds P (Some z) b x ha hb e = ha x e

neither_holds : (a b : Option ℕ) → a ≡ None → b ≡ None → option_or a b ≡ None
neither_holds a b ea eb = rw (ea, eb)

pub joined_bounded : (a b : Meaning) → IsBounded a → IsBounded b → IsBounded (first_of a b)
joined_bounded a b ha hb point place x e =
    either_holds _ (a point place) (b point place) x (ha point place) (hb point place) e

pub joined_ranged : (a b : Meaning) → IsRanged a → IsRanged b → IsRanged (first_of a b)
joined_ranged a b ha hb point place outside =
    neither_holds (a point place) (b point place) (ha point place outside) (hb point place outside)

-- the same under each count
pub joined_bounded_under : (a b : ℕ → Meaning) → IsBoundedUnder a → IsBoundedUnder b
    → IsBoundedUnder (λ count. first_of (a count) (b count))
joined_bounded_under a b ha hb count = joined_bounded (a count) (b count) (ha count) (hb count)

pub joined_ranged_under : (a b : ℕ → Meaning) → IsRangedUnder a → IsRangedUnder b
    → IsRangedUnder (λ count. first_of (a count) (b count))
joined_ranged_under a b ha hb count point place outside =
    neither_holds (a count point place) (b count point place)
    (ha count point place outside) (hb count point place outside)
