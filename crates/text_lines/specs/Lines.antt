-- The lines of a text.
use Rattle.std.specs.Prelude.{ℕ, ◌==◌, if◌then◌else◌, List, [], ◌∷◌, codes}
use Rattle.cond_text.specs.Cuts.{byte_of}

-- a byte in front of the first line
abbrev pub in_front : ℕ → List (List ℕ) × List ℕ → List (List ℕ) × List ℕ
in_front b ([], part) = ([], b ∷ part)
in_front b (line ∷ lines, part) = ((b ∷ line) ∷ lines, part)

-- lines behind a line feed: one more, still empty
abbrev pub after_feed : List (List ℕ) × List ℕ → List (List ℕ) × List ℕ
after_feed rest = ([] ∷ rest.0, rest.1)

-- the whole lines of a text, each without its line feed, and what stands behind the last line feed
unfoldable pub split : List ℕ → List (List ℕ) × List ℕ
split [] = ([], [])
split (b ∷ bs) = if b == byte_of (codes "\n") then after_feed (split bs) else in_front b (split bs)
