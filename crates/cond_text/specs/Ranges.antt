-- Ranges between two names, and how they are spelled.
use Rattle.std.specs.Prelude.{ℕ, ◌==◌, Bool, true, false, if◌then◌else◌, List, [], ◌∷◌, ◌++◌, length, Option, Some, None, codes}
use Rattle.cond_text.specs.declared.ranges.NamedRange as c
use Rattle.cond_text.specs.Cuts.{IsName, byte_of, ◌>>=◌, only_if, cut, name_in}

-- a range whose ends are named
pub record NamedRange : Type 0 where
  pub low : List ℕ
  pub high : List ℕ
  pub low_open : Bool
  pub high_open : Bool

-- both ends are names
abbrev pub IsNamedRange : NamedRange → Type 0
IsNamedRange range = IsName range.low × IsName range.high

-- the bracket before the low end: a round one where that is open
abbrev pub opening_text : Bool → List ℕ
opening_text is_open = if is_open then codes "(" else codes "["

-- the bracket behind the high end
abbrev pub closing_text : Bool → List ℕ
closing_text is_open = if is_open then codes ")" else codes "]"

-- `[low,high]`
abbrev pub spell_range : NamedRange → List ℕ
spell_range range = opening_text range.low_open ++ (range.low ++ (codes "," ++ (range.high ++ closing_text range.high_open)))

-- the range as the code has it
abbrev pub range_view : c.NamedRange → NamedRange
range_view range = record { low = range.low.now; high = range.high.now; low_open = range.low_open; high_open = range.high_open }

-- whether the low end is open, and what stands behind the bracket
unfoldable pub opening_in : List ℕ → Option (Bool × List ℕ)
opening_in [] = None
opening_in (b ∷ bs) = if b == byte_of (codes "[") then Some (false, bs) else if b == byte_of (codes "(") then Some (true, bs) else None

-- the name behind which nothing but the bracket stands, and whether the end is open
abbrev pub closed_by : Bool → Option (List ℕ × List ℕ) → Option (List ℕ × Bool)
closed_by is_open None = None
closed_by is_open (Some found) = only_if (length found.1 == 0) (found.0, is_open)

-- the same, by a round bracket where there is no square one
abbrev pub or_open : List ℕ → Option (List ℕ × List ℕ) → Option (List ℕ × Bool)
or_open text None = closed_by true (cut (byte_of (codes ")")) text)
or_open text (Some found) = closed_by false (Some found)

-- the high end, and whether it is open
unfoldable pub closing_in : List ℕ → Option (List ℕ × Bool)
closing_in text = or_open text (cut (byte_of (codes "]")) text)

-- the range that the text spells, computed
unfoldable pub range_in : List ℕ → Option NamedRange
range_in text = do
  front ← opening_in text
  ends ← cut (byte_of (codes ",")) front.1
  low ← name_in ends.0
  back ← closing_in ends.1
  high ← name_in back.0
  Some (record { low = low; high = high; low_open = front.0; high_open = back.1 })
