-- Pieces of a text: what stands before a byte and behind it, and the names among them.
use Rattle.std.specs.Prelude.{ℕ, ◌≡◌, ◌==◌, Bool, true, false, if◌then◌else◌, List, [], ◌∷◌, Option, Some, None, get_or}
use Rattle.std.specs.Prelude.{option_and_then}
use Rattle.role_order.specs.Names.{is_name}

-- the text is a name
abbrev pub IsName : List ℕ → Type 0
IsName text = is_name text ≡ true

-- the byte that the text begins with
abbrev pub byte_of : List ℕ → ℕ
byte_of text = get_or text 0 0

infixl 10 ◌>>=◌
-- what the second makes of what the first gives, if it gives something
abbrev pub ◌>>=◌ : {A B : Type 0} → Option A → (A → Option B) → Option B
o >>= f = option_and_then f o

-- the value where the test holds, and none where it doesn't
abbrev pub only_if : {A : Type 0} → Bool → A → Option A
only_if true x = Some x
only_if false x = None

-- what was cut, with one more byte in front
abbrev pub with_front : ℕ → Option (List ℕ × List ℕ) → Option (List ℕ × List ℕ)
with_front b None = None
with_front b (Some found) = Some (b ∷ found.0, found.1)

-- what stands before the first byte that is this one, and what stands behind it
unfoldable pub cut : ℕ → List ℕ → Option (List ℕ × List ℕ)
cut sign [] = None
cut sign (b ∷ bs) = if b == sign then Some ([], bs) else with_front b (cut sign bs)

-- the text, where it is a name
unfoldable pub name_in : List ℕ → Option (List ℕ)
name_in text = only_if (is_name text) text
