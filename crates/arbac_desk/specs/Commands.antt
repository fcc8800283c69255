-- The written forms of commands.
use Rattle.std.specs.Prelude.{ℕ, ◌≡◌, ◌≤◌, List, [], ◌∷◌, codes, Option, Some, None}
use Rattle.command_words.specs.Words.{Said, IsSaid, IsNumber}
use Rattle.sample_question.specs.declared.TheConstants.{MOST_SIZE}
use Rattle.arbac_desk.specs.declared.TheConstants.{MOST_LIMIT, USUAL_LIMIT, MOST_WORKERS, USUAL_WORKERS}
use Rattle.arbac_desk.specs.declared.command.Command as code
use Rattle.arbac_desk.specs.declared.command.Command.TheVariants as variants

-- a written form, with what its words tell: names of files; of a search, the limit and the workers too; the size of a sample
pub data Form : Type 0 where
  replay : List ℕ → Form
  check : List ℕ → List ℕ → Form
  ask : List ℕ → ℕ → ℕ → Form
  make : ℕ → ℕ → ℕ → Form

-- the form of the code's command
abbrev pub form_of : code.Command → Form
form_of (variants.Replay run) = replay run.now
form_of (variants.Check question cert) = check question.now cert.now
form_of (variants.Ask question limit workers) = ask question.now limit workers
form_of (variants.Make size limit workers) = make size limit workers

-- an option sets the number, from 1 up to the greatest; it is the usual one where the option isn't told
abbrev pub IsSetting : Option ℕ → ℕ → ℕ → ℕ → Type 0
IsSetting None most usual number = number ≡ usual
IsSetting (Some told) most usual number = (1 ≤ told) × (told ≤ most) × (number ≡ told)

-- files alone, no option
abbrev pub files_alone : List (List ℕ) → Said
files_alone files = record { files = files; limit = None; workers = None; connections = None; port = None }

-- files, and the options of a search set its limit and its workers
pub record IsSearch (said : Said) (files : List (List ℕ)) (limit workers : ℕ) : Type 0 where
  pub files_are : said.files ≡ files
  pub limit_is : IsSetting said.limit MOST_LIMIT USUAL_LIMIT limit
  pub workers_are : IsSetting said.workers MOST_WORKERS USUAL_WORKERS workers
  pub no_connections : said.connections ≡ None
  pub no_port : said.port ≡ None

-- the command's word, and what is said behind it, are of this form
abbrev pub IsForm : List ℕ → Said → Form → Type 0
IsForm word said (replay run) = (word ≡ codes "replay") × (said ≡ files_alone (run ∷ []))
IsForm word said (check question cert) = (word ≡ codes "check") × (said ≡ files_alone (question ∷ cert ∷ []))
IsForm word said (ask question limit workers) = (word ≡ codes "ask") × IsSearch said (question ∷ []) limit workers
IsForm word said (make size limit workers) =
    (word ≡ codes "make") × (text : List ℕ) × IsSearch said (text ∷ []) limit workers × IsNumber text size × (1 ≤ size) × (size ≤ MOST_SIZE)

-- each number of the form is within its limits
abbrev pub IsWithin : Form → Type 0
IsWithin (replay run) = Unit {0}
IsWithin (check question cert) = Unit {0}
IsWithin (ask question limit workers) = ((1 ≤ limit) × (limit ≤ MOST_LIMIT)) × ((1 ≤ workers) × (workers ≤ MOST_WORKERS))
IsWithin (make size limit workers) =
    ((1 ≤ size) × (size ≤ MOST_SIZE)) × ((1 ≤ limit) × (limit ≤ MOST_LIMIT)) × ((1 ≤ workers) × (workers ≤ MOST_WORKERS))

-- the words are of this form
abbrev pub AreWordsOf : List (List ℕ) → Form → Type 0
AreWordsOf [] form = ⊥
AreWordsOf (word ∷ words) form = (said : Said) × IsSaid words said × IsForm word said form

-- the words are of no written form
abbrev pub AreOfNoForm : List (List ℕ) → Type 0
AreOfNoForm words = (form : Form) → ¬ AreWordsOf words form
