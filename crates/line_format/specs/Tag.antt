-- The tag of each record, and what stands in its fields and in the letter's column.
use Rattle.std.specs.Prelude.{ℕ, List, [], ◌∷◌, codes}
use Rattle.line_format.specs.Kind.{Kind, number, signed, date, blank, reading_type, no_letter}
use Rattle.line_format.specs.declared.tag.Tag.{Tag}
use Rattle.line_format.specs.declared.tag.Tag.TheVariants.{Open, Fact, Enrl, Gate, Intv, Degd, Read}

-- the four capitals
abbrev pub tag_bytes : Tag → List ℕ
tag_bytes Open = codes "OPEN"
tag_bytes Fact = codes "FACT"
tag_bytes Enrl = codes "ENRL"
tag_bytes Gate = codes "GATE"
tag_bytes Intv = codes "INTV"
tag_bytes Degd = codes "DEGD"
tag_bytes Read = codes "READ"

-- the kinds of the four fields and of the letter
abbrev pub kinds_of : Tag → List Kind
kinds_of Open = date ∷ number ∷ number ∷ blank ∷ no_letter ∷ []
kinds_of Fact = number ∷ number ∷ number ∷ blank ∷ no_letter ∷ []
kinds_of Enrl = number ∷ number ∷ date ∷ blank ∷ no_letter ∷ []
kinds_of Gate = date ∷ number ∷ number ∷ blank ∷ no_letter ∷ []
kinds_of Intv = date ∷ number ∷ number ∷ blank ∷ no_letter ∷ []
kinds_of Degd = date ∷ number ∷ blank ∷ blank ∷ no_letter ∷ []
kinds_of Read = number ∷ date ∷ date ∷ signed ∷ reading_type ∷ []
