-- The first word of a line.
use Rattle.std.specs.Prelude.{ℕ, ◌||◌, Bool, List, Option, Some, None, codes}
use Rattle.std.specs.Str.{bytes_eq}
use Rattle.cond_text.specs.Cuts.{byte_of, cut}

-- what stands before a cut, or the whole line
abbrev pub front_or : List ℕ → Option (List ℕ × List ℕ) → List ℕ
front_or line None = line
front_or line (Some found) = found.0

-- what stands before the first space
abbrev pub first_word : List ℕ → List ℕ
first_word line = front_or line (cut (byte_of (codes " ")) line)

-- the first word is "role" or "edge": only such lines may stand before the role order is known
unfoldable pub is_order_line : List ℕ → Bool
is_order_line line = bytes_eq (first_word line) (codes "role") || bytes_eq (first_word line) (codes "edge")
