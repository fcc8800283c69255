-- Keys, and the kinds of their values.
use Rattle.std.specs.Prelude.{ℕ, ℤ, pos, ◌==◌, ◌||◌, nat_lt, nat_le, if◌then◌else◌, List, [], ◌∷◌, ◌++◌, length, Option, Some}
use Rattle.std.specs.Prelude.{None, option_map, option_and_then, codes}
use Rattle.std.specs.Fmt.{decimal}
use Rattle.std.specs.List.{list_any}
use Rattle.std.specs.Str.{bytes_eq, is_utf8}
use Rattle.toml.specs.Data.{Data, Items, no_items, item, Members, no_members, member, get_member, as_integer, as_str, as_array}
use Rattle.toml.specs.Parse.{parse_document}
use Rattle.question_text.specs.declared.TheConstants.{MOST_OF_PROFILE}
use Rattle.question_text.specs.Outcomes.{wrong_kind, missing, unknown_key, too_many, Outcome, gives, fails, fails_if, in_turn}

-- the path of the entry at a place of a list
abbrev pub entry_of : List ℕ → ℕ → List ℕ
entry_of path place = path ++ (codes "." ++ decimal place)

-- the path of a key of a table; before the document's own keys stands none
abbrev pub key_of : List ℕ → List ℕ → List ℕ
key_of [] key = key
key_of (b ∷ path) key = (b ∷ path) ++ (codes "." ++ key)

-- the table that the bytes are as TOML
abbrev pub toml_of : List ℕ → Option Members
toml_of bytes = if is_utf8 bytes then parse_document bytes else None

-- the entries of a list
abbrev pub list_of : Items → List Data
list_of no_items = []
list_of (item d ds) = d ∷ list_of ds

-- the value as a list
abbrev pub as_list : Data → Option (List Data)
as_list d = option_map list_of (as_array d)

-- a list with an entry
abbrev pub filled : List Data → Option (List Data)
filled [] = None
filled (d ∷ ds) = Some (d ∷ ds)

-- a list of at least one entry
abbrev pub as_filled_list : Data → Option (List Data)
as_filled_list d = option_and_then filled (as_list d)

-- the two texts of a list of two
abbrev pub both_texts : List Data → Option (List ℕ × List ℕ)
both_texts [] = None
both_texts (d ∷ []) = None
both_texts (d ∷ (e ∷ [])) = option_and_then (λ first. option_map (λ second. (first, second)) (as_str e)) (as_str d)
both_texts (d ∷ (e ∷ (f ∷ more))) = None

-- a list of exactly two texts
abbrev pub as_two_texts : Data → Option (List ℕ × List ℕ)
as_two_texts d = option_and_then both_texts (as_list d)

-- two texts that differ
abbrev pub if_different : List ℕ × List ℕ → Option (List ℕ × List ℕ)
if_different texts = if bytes_eq texts.0 texts.1 then None else Some texts

-- a list of exactly two texts that differ
abbrev pub as_two_different_texts : Data → Option (List ℕ × List ℕ)
as_two_different_texts d = option_and_then if_different (as_two_texts d)

-- a number from 0 up
abbrev pub unsigned : ℤ → Option ℕ
unsigned (pos n) = Some n
unsigned _ = None

-- a whole number that isn't below 0
abbrev pub as_count : Data → Option ℕ
as_count d = option_and_then unsigned (as_integer d)

-- 1 or 2
abbrev pub if_version : ℕ → Option ℕ
if_version n = if (n == 1) || (n == 2) then Some n else None

-- the number 1 or 2
abbrev pub as_version : Data → Option ℕ
as_version d = option_and_then if_version (as_count d)

-- the text `any`: any number
abbrev pub if_any : List ℕ → Option (Option ℕ)
if_any text = if bytes_eq text (codes "any") then Some None else None

-- a number within the limit
abbrev pub if_few : ℕ → Option (Option ℕ)
if_few n = if nat_le n MOST_OF_PROFILE then Some (Some n) else None

-- a number within the limit, or `any`
abbrev pub or_any : Option ℕ → Data → Option (Option ℕ)
or_any None d = option_and_then if_any (as_str d)
or_any (Some n) d = if_few n

-- a number up to the greatest, or the text `any` for no number
abbrev pub as_most : Data → Option (Option ℕ)
as_most d = or_any (as_count d) d

-- a value of the kind, else the wrong kind
abbrev pub of_kind : {A : Type 0} → Option A → List ℕ → Outcome A
of_kind None path = fails (wrong_kind path)
of_kind (Some value) path = gives value

-- the value of a key that must be there
abbrev pub must_be : {A : Type 0} → (Data → Option A) → List ℕ → Option Data → Outcome A
must_be kind path None = fails (missing path)
must_be kind path (Some d) = of_kind (kind d) path

-- the value of a key that must be there
abbrev pub required : {A : Type 0} → (Data → Option A) → Members → List ℕ → List ℕ → Outcome A
required kind table path key = must_be kind (key_of path key) (get_member key table)

-- the value of a key, or what an absent one stands for
abbrev pub may_be : {A : Type 0} → (Data → Option A) → A → List ℕ → Option Data → Outcome A
may_be kind absent path None = gives absent
may_be kind absent path (Some d) = of_kind (kind d) path

-- the value of a key that may be absent, and stands for this value then
abbrev pub optional : {A : Type 0} → (Data → Option A) → A → Members → List ℕ → List ℕ → Outcome A
optional kind absent table path key = may_be kind absent (key_of path key) (get_member key table)

-- the first key that is none of the known ones: the least, since the keys of a table ascend by their bytes
abbrev pub first_unknown : List (List ℕ) → Members → Option (List ℕ)
first_unknown known no_members = None
first_unknown known (member key d more) = if list_any (bytes_eq key) known then first_unknown known more else Some key

-- a fault where there is an unknown key
abbrev pub unless_unknown : List ℕ → Option (List ℕ) → Outcome (Unit {0})
unless_unknown path None = gives tt
unless_unknown path (Some key) = fails (unknown_key (key_of path key))

-- no key but the known ones
abbrev pub knows_only : List (List ℕ) → Members → List ℕ → Outcome (Unit {0})
knows_only known table path = unless_unknown path (first_unknown known table)

-- no more entries than the greatest number
abbrev pub at_most : ℕ → List ℕ → List Data → Outcome (Unit {0})
at_most most path list = fails_if (nat_lt most (length list)) (too_many path (length list))

-- the entries of a list, one after another
abbrev pub entries : {A : Type 0} → (List ℕ → Data → Outcome A) → List ℕ → List Data → Outcome (List A)
entries read path list = in_turn (λ place d. read (entry_of path place) d) 0 list
