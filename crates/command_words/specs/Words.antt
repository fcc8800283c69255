-- What the words after a command say: names of files, and options with numbers.
use Rattle.std.specs.Prelude.{ℕ, ◌≡◌, ◌≢◌, ◌≤◌, List, [], ◌∷◌, ◌++◌, length, codes, map, true, Option, Some, None}
use Rattle.std.specs.List.{list_all}
use Rattle.std.specs.Char.{is_ascii_digit}
use Rattle.std.specs.Str.Parse.{digits_value}
use Rattle.list_words.specs.Lists.{Each, IsOneOf, AreDifferent}
use Rattle.command_words.specs.declared.TheConstants.{MOST_DIGITS}

-- a name of a file: some bytes, and they don't begin with `-`
abbrev pub IsFileName : List ℕ → Type 0
IsFileName name = (name ≢ []) × ((rest : List ℕ) → name ≢ codes "-" ++ rest)

-- the text is the number in decimal digits, one at least and not too many
pub record IsNumber (text : List ℕ) (number : ℕ) : Type 0 where
  pub some : 1 ≤ length text
  pub few : length text ≤ MOST_DIGITS
  pub digits : list_all is_ascii_digit text ≡ true
  pub number_is : number ≡ digits_value 10 text

-- `--name`
abbrev pub flag : List ℕ → List ℕ
flag name = codes "--" ++ name

-- `--name=`
abbrev pub flag_with : List ℕ → List ℕ
flag_with name = flag name ++ codes "="

-- the words say these file names and these options, in turn: `--name V` or `--name=V`; behind `--` stand file names alone
pub data Say : List (List ℕ) → List (List ℕ) → List (List ℕ × ℕ) → Type 0 where
  nothing : Say [] [] []
  file : {name : List ℕ} {words files : List (List ℕ)} {options : List (List ℕ × ℕ)} → IsFileName name → Say words files options
      → Say (name ∷ words) (name ∷ files) options
  apart : {name value : List ℕ} {number : ℕ} {words files : List (List ℕ)} {options : List (List ℕ × ℕ)} → IsNumber value number
      → Say words files options → Say (flag name ∷ value ∷ words) files ((name, number) ∷ options)
  joined : {name value : List ℕ} {number : ℕ} {words files : List (List ℕ)} {options : List (List ℕ × ℕ)} → IsNumber value number
      → Say words files options → Say ((flag_with name ++ value) ∷ words) files ((name, number) ∷ options)
  ended : {words : List (List ℕ)} → Each IsFileName words → Say (codes "--" ∷ words) words []

-- the names of options
abbrev pub option_names : List (List ℕ)
option_names = codes "limit" ∷ codes "workers" ∷ codes "connections" ∷ codes "port" ∷ []

-- file names in their order, and the number of each option that is told
pub record Said : Type 0 where
  pub files : List (List ℕ)
  pub limit : Option ℕ
  pub workers : Option ℕ
  pub connections : Option ℕ
  pub port : Option ℕ

-- the options tell the number by this name, or none where nothing is told
abbrev pub IsTold : List (List ℕ × ℕ) → List ℕ → Option ℕ → Type 0
IsTold options name (Some number) = IsOneOf options (name, number)
IsTold options name None = (number : ℕ) → ¬ IsOneOf options (name, number)

-- the words say this: each option is one of the names', at most once
pub record IsSaid (words : List (List ℕ)) (said : Said) : Type 0 where
  pub options : List (List ℕ × ℕ)
  pub say : Say words said.files options
  pub known : Each (λ option. IsOneOf option_names option.0) options
  pub once : AreDifferent (map (λ option. option.0) options)
  pub limit : IsTold options (codes "limit") said.limit
  pub workers : IsTold options (codes "workers") said.workers
  pub connections : IsTold options (codes "connections") said.connections
  pub port : IsTold options (codes "port") said.port
