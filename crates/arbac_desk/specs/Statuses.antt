-- The statuses that the program exits with.
use Rattle.std.specs.Prelude.{ℕ, List, [], ◌∷◌}
use Rattle.list_words.specs.Lists.{IsOneOf}
use Rattle.question_answer.specs.declared.certificates.Kind.{Kind}
use Rattle.question_answer.specs.declared.certificates.Kind.TheVariants.{Reachable, Unreachable, Undecided}

-- all acts were accepted, and the goal is met; or the certificate has its property; or the sample was searched
abbrev pub DONE : ℕ
DONE = 0

-- the words are of no written form
abbrev pub USAGE : ℕ
USAGE = 2

-- a file is too long, or isn't of its grammar
abbrev pub MALFORMED : ℕ
MALFORMED = 3

-- the shelf counted a fault
abbrev pub READ_FAULT : ℕ
READ_FAULT = 4

-- the sink counted a fault
abbrev pub WRITE_FAULT : ℕ
WRITE_FAULT = 5

-- no memory was left
abbrev pub NO_MEMORY : ℕ
NO_MEMORY = 7

-- the question is reachable
abbrev pub REACHABLE : ℕ
REACHABLE = 10

-- the question isn't reachable
abbrev pub UNREACHABLE : ℕ
UNREACHABLE = 20

-- an act was refused, or the goal isn't met; or the certificate hasn't its property
abbrev pub REFUSED : ℕ
REFUSED = 21

-- the limit of recorded requirements came first
abbrev pub UNDECIDED : ℕ
UNDECIDED = 30

-- the status of an answer to a question
abbrev pub status_of : Kind → ℕ
status_of Reachable = REACHABLE
status_of Unreachable = UNREACHABLE
status_of Undecided = UNDECIDED

-- all of them
abbrev pub statuses : List ℕ
statuses = DONE ∷ USAGE ∷ MALFORMED ∷ READ_FAULT ∷ WRITE_FAULT ∷ NO_MEMORY ∷ REACHABLE ∷ UNREACHABLE ∷ REFUSED ∷ UNDECIDED ∷ []

-- the table of statuses
abbrev pub IsStatus : ℕ → Type 0
IsStatus status = IsOneOf statuses status
