-- What `clap` takes words for, in plain words: the texts of file names and of options.
use Rattle.std.specs.Prelude.{ℕ, Bool, true, false, not, ◌&&◌, if◌then◌else◌, List, [], ◌∷◌, ◌++◌, Option, Some, None, is_some, map}
use Rattle.std.specs.Borrow.{Bor}
use Rattle.std.specs.List.{list_any}
use Rattle.std.specs.Str.{bytes_eq, IsUtf8}
use Rattle.clap.specs.Lexer.{long_of, short_of}

-- bytes
abbrev pub Text : Type 0
Text = List ℕ

-- `--`
abbrev pub dashes : Text
dashes = 45 ∷ 45 ∷ []

-- each word is text
abbrev pub AreText : List Text → Type 0
AreText [] = Unit {0}
AreText (x ∷ ws) = IsUtf8 x × AreText ws

-- the word is neither `--` nor an option
abbrev pub is_plain : Text → Bool
is_plain x = not (bytes_eq x dashes) && (not (is_some (long_of x)) && not (is_some (short_of x)))

-- file names in turn, and each option with its value, in the order of the words
pub record Texts : Type 0 where
  pub files : List Text
  pub options : List (Text × Text)

-- no file name and no option yet
abbrev pub nothing : Texts
nothing = record { files = []; options = [] }

-- the option was named before
abbrev pub has_option : Text → Texts → Bool
has_option name s = list_any (λ p. bytes_eq p.0 name) s.options

-- the value of an option
abbrev pub value_of : Text → List (Text × Text) → Option Text
value_of name [] = None
value_of name (p ∷ ps) = if bytes_eq p.0 name then Some p.1 else value_of name ps

-- the texts of file names, if there are any
abbrev pub files_in : Option (Bor (List (Bor Text))) → List Text
files_in None = []
files_in (Some files) = map (λ file. file.now) files.now

-- one file name more
abbrev pub with_file : Text → Texts → Texts
with_file x s = record s { files = s.files ++ x ∷ [] }

-- one option more
abbrev pub with_option : Text → Text → Texts → Texts
with_option name v s = record s { options = s.options ++ (name, v) ∷ [] }

module _ (names : List Text) where
  -- the text is one of the names
  abbrev pub is_name : Text → Bool
  is_name x = list_any (λ n. bytes_eq n x) names

  -- an option with its value, once
  abbrev pub once : Text → Text → Texts → (Texts → Option Texts) → Option Texts
  once name v s more = if has_option name s then None else more (with_option name v s)

  -- an option's word, `--name` or `--name=v`
  abbrev pub option_word : Text × Option Text → Texts → (Texts → Option Texts) → (Text → Option Texts) → Option Texts
  option_word (name, Some v) s more wait = if is_name name then once name v s more else None
  option_word (name, None) s more wait = if is_name name then wait name else None

  -- a word that isn't `--`: an option's, a bundle of short options, which is refused, or a file name
  abbrev pub flag_word : Option (Text × Option Text) → Option Text → Text → Texts → (Texts → Option Texts) → (Text → Option Texts) → Option Texts
  flag_word (Some p) flags x s more wait = option_word p s more wait
  flag_word None (Some flags) x s more wait = None
  flag_word None None x s more wait = more (with_file x s)

  -- the words from here on: `waits` is an option whose value comes next, and `ended` says that `--` came
  unfoldable pub said : Option Text → Bool → Texts → List Text → Option Texts
  said None ended s [] = Some s
  said (Some name) ended s [] = None
  said (Some name) ended s (x ∷ ws) = if is_plain x then once name x s (λ r. said None ended r ws) else None
  said None true s (x ∷ ws) = said None true (with_file x s) ws
  said None false s (x ∷ ws) =
      if bytes_eq x dashes then said None true s ws
      else flag_word (long_of x) (short_of x) x s (λ r. said None false r ws) (λ name. said (Some name) false s ws)
