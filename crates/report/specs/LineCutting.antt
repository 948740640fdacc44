-- How the bytes of an input are cut into lines.
use Rattle.std.specs.Prelude.{ℕ, Bool, List, [], ◌∷◌, if◌then◌else◌, ◌==◌}
use Rattle.std.specs.List.{list_any, onto_first}

-- the lines of an input: each ends with its line feed, but what stands behind the last line feed is
-- a line too, if anything does
unfoldable pub input_lines : List ℕ → List (List ℕ)
input_lines [] = []
input_lines (b ∷ bs) = if b == 10 then (b ∷ []) ∷ input_lines bs else onto_first b (input_lines bs)

-- a line feed is among the bytes
abbrev pub has_line_feed : List ℕ → Bool
has_line_feed bytes = list_any (λ b. b == 10) bytes

-- the line that has no end yet: what stands behind the last line feed
unfoldable pub unended_line : List ℕ → List ℕ
unended_line [] = []
unended_line (b ∷ bs) = if has_line_feed (b ∷ bs) then unended_line bs else b ∷ bs

-- the lines that end with a line feed
unfoldable pub ended_lines : List ℕ → List (List ℕ)
ended_lines [] = []
ended_lines (b ∷ bs) =
    if b == 10
    then (b ∷ []) ∷ ended_lines bs
    else (if has_line_feed bs then onto_first b (ended_lines bs) else [])

-- a line with no end is one where it has a byte
abbrev pub line_if_any : List ℕ → List (List ℕ)
line_if_any [] = []
line_if_any (b ∷ bs) = (b ∷ bs) ∷ []
