-- Names, and the names of roles.
use Rattle.std.specs.Prelude.{ℕ, ◌<◌, Bool, not, ◌==◌, ◌||◌, ◌&&◌, nat_le, List, [], ◌∷◌, length, get_or, codes, Option, String}
use Rattle.std.specs.Prelude.{position, All, Contains}
use Rattle.std.specs.List.{list_all}
use Rattle.std.specs.List.Sorted.{IsSortedBy}
use Rattle.std.specs.Ordering.{is_lt, nat_cmp}
use Rattle.std.specs.Cmp.Lexicographic.{slice_cmp}
use Rattle.std.specs.Str.{bytes_eq}
use Rattle.std.specs.String.{string_bytes}
use Rattle.std.specs.declared.alloc.Global.{Global}
use Rattle.role_order.specs.declared.TheConstants.{MOST_NAME_BYTES}

-- the texts of strings
abbrev pub texts : List (String Global) → List (List ℕ)
texts [] = []
texts (s ∷ ss) = string_bytes s ∷ texts ss

-- A-Z a-z 0-9 _ . -
abbrev pub is_name_byte : ℕ → Bool
is_name_byte b = (nat_le 65 b && nat_le b 90) || (nat_le 97 b && nat_le b 122) || (nat_le 48 b && nat_le b 57) || (b == 95) || (b == 46) || (b == 45)

-- a text of such bytes, at least one and at most the greatest number
unfoldable pub is_name : List ℕ → Bool
is_name text = nat_le 1 (length text) && nat_le (length text) MOST_NAME_BYTES && list_all is_name_byte text

-- a word of the conditions' own
unfoldable pub is_reserved : List ℕ → Bool
is_reserved text = bytes_eq text (codes "any") || bytes_eq text (codes "not") || bytes_eq text (codes "and") || bytes_eq text (codes "or")

-- a name that is no such word
unfoldable pub is_role_name : List ℕ → Bool
is_role_name text = is_name text && not (is_reserved text)

-- the place of the first name that equals the text
abbrev pub place_of : List (List ℕ) → List ℕ → Option ℕ
place_of names text = position (λ name. bytes_eq name text) names

-- the name of a number, and no bytes where it has none
abbrev pub name_at : List (List ℕ) → ℕ → List ℕ
name_at names role = get_or names role []

-- the numbers of the names, each of them, sorted by name
pub record IsNameTable (names : List (List ℕ)) (table : List ℕ) : Type 0 where
  pub within : All (λ role. role < length names) table
  pub complete : (role : ℕ) → role < length names → Contains table role
  pub sorted : IsSortedBy (λ a b. is_lt (slice_cmp nat_cmp (name_at names a) (name_at names b))) table
