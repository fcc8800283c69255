-- The words of a text. A run of name bytes is one word, "(" and ")" are one each, spaces and tabs
-- stand between words, and every other byte is a word that stands nowhere.
use Rattle.std.specs.Prelude.{ℕ, ◌+◌, Bool, false, ◌==◌, ◌||◌, if◌then◌else◌, List, [], ◌∷◌, ◌++◌, length, codes, Option, Some}
use Rattle.std.specs.Prelude.{None}
use Rattle.std.specs.List.{take_while}
use Rattle.std.specs.Option.{unwrap_or}
use Rattle.std.specs.Str.{bytes_eq}
use Rattle.role_order.specs.Names.{is_name_byte, place_of}
use Rattle.cond_text.specs.declared.word.Word.{Word}
use Rattle.cond_text.specs.declared.word.Word.TheVariants.{Any, Name, Not, And, Or, Open, Close, Stray}
use Rattle.cond_text.specs.declared.word.Placed.{Placed}

-- the role of the name, or the number of roles where it is no role's: that number is no role,
-- and a word of it is at fault
abbrev pub role_or_count : List (List ℕ) → List ℕ → ℕ
role_or_count names name = unwrap_or (place_of names name) (length names)

-- what a run of name bytes is
unfoldable pub word_of : List (List ℕ) → List ℕ → Word
word_of names run =
    if bytes_eq run (codes "any") then Any
    else if bytes_eq run (codes "not") then Not
    else if bytes_eq run (codes "and") then And
    else if bytes_eq run (codes "or") then Or
    else Name (role_or_count names run)

-- what another byte is; a space or a tab is no word
abbrev pub sign : ℕ → Option Word
sign b =
    if (b == 32) || (b == 9) then None
    else if b == 40 then Some Open
    else if b == 41 then Some Close
    else Some Stray

-- the word that begins with the first byte; behind a name byte no name byte begins one
abbrev pub word_at : List (List ℕ) → Bool → List ℕ → Option Word
word_at names behind_name [] = None
word_at names behind_name (b ∷ bs) =
    if is_name_byte b then (if behind_name then None else Some (word_of names (take_while is_name_byte (b ∷ bs))))
    else sign b

-- the word with its place, if there is one
abbrev pub placed : ℕ → Option Word → List Placed
placed place None = []
placed place (Some word) = record { place = place; word = word } ∷ []

-- the words that begin from the place on, each with the place of its first byte
unfoldable pub words_from : List (List ℕ) → ℕ → Bool → List ℕ → List Placed
words_from names place behind_name [] = []
words_from names place behind_name (b ∷ bs) =
    placed place (word_at names behind_name (b ∷ bs)) ++ words_from names (place + 1) (is_name_byte b) bs

-- the words of a text with their places
abbrev pub placed_words : List (List ℕ) → List ℕ → List Placed
placed_words names text = words_from names 0 false text

-- the words without their places
abbrev pub plain : List Placed → List Word
plain [] = []
plain (x ∷ xs) = x.word ∷ plain xs

-- the words of a text
abbrev pub words : List (List ℕ) → List ℕ → List Word
words names text = plain (placed_words names text)
