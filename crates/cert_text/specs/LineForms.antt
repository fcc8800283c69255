-- The lines of a certificate text between the first and the last, and how they are spelled.
use Rattle.std.specs.Prelude.{ℕ, ◌<◌, ◌≤◌, ◌^◌, List, [], ◌∷◌, ◌++◌, length, codes}
use Rattle.std.specs.Fmt.{decimal}
use Rattle.list_words.specs.Lists.{Each}
use Rattle.cond_text.specs.Cuts.{IsName}
use Rattle.text_lines.specs.Acts.{WrittenAct, IsWrittenAct, spell_act}
use Rattle.arbac_laws.specs.PreImages.{Pick, itself, other, fresh}
use Rattle.cert_text.specs.declared.TheConstants.{MOST_LIMIT}

-- where a step comes from, as it is written, its role by its name: `a_goal place`,
-- `an_assign parent rule conjunct role target admin`, `a_weak parent rule role target admin`
pub data WrittenOrigin : Type 0 where
  a_goal : ℕ → WrittenOrigin
  an_assign : ℕ → ℕ → ℕ → List ℕ → ℕ → Pick → WrittenOrigin
  a_weak : ℕ → ℕ → List ℕ → ℕ → Pick → WrittenOrigin

-- a line as it is written, its roles by their names: the kind of certificate, a user's profile, an act, a requirement,
-- a recorded step, the step after them, and a user of a requirement or step by its hits and lacks
pub data LineForm : Type 0 where
  a_reachable : LineForm
  an_unreachable : LineForm
  an_undecided : ℕ → LineForm
  a_start : ℕ → LineForm
  an_act : WrittenAct → LineForm
  a_need : LineForm
  a_step : WrittenOrigin → LineForm
  a_next : WrittenOrigin → LineForm
  a_user : List (List (List ℕ)) → List (List ℕ) → LineForm

-- a user's place has 32 bits
abbrev pub IsWrittenPick : Pick → Type 0
IsWrittenPick itself = Unit {0}
IsWrittenPick (other place) = place < 2 ^ 32
IsWrittenPick fresh = Unit {0}

-- each number has 32 bits, and the role is a name
abbrev pub IsWrittenOrigin : WrittenOrigin → Type 0
IsWrittenOrigin (a_goal place) = place < 2 ^ 32
IsWrittenOrigin (an_assign parent rule conjunct role target admin) =
    (parent < 2 ^ 32) × (rule < 2 ^ 32) × (conjunct < 2 ^ 32) × IsName role × (target < 2 ^ 32) × IsWrittenPick admin
IsWrittenOrigin (a_weak parent rule role target admin) =
    (parent < 2 ^ 32) × (rule < 2 ^ 32) × IsName role × (target < 2 ^ 32) × IsWrittenPick admin

-- at least one, and each is a name
pub record IsNameList (names : List (List ℕ)) : Type 0 where
  pub some : 1 ≤ length names
  pub each : Each IsName names

-- each number has 32 bits, the limit may be told, and what stands for a role is a name
abbrev pub IsWellFormed : LineForm → Type 0
IsWellFormed a_reachable = Unit {0}
IsWellFormed an_unreachable = Unit {0}
IsWellFormed (an_undecided limit) = (1 ≤ limit) × (limit ≤ MOST_LIMIT)
IsWellFormed (a_start profile) = profile < 2 ^ 32
IsWellFormed (an_act act) = IsWrittenAct act
IsWellFormed a_need = Unit {0}
IsWellFormed (a_step origin) = IsWrittenOrigin origin
IsWellFormed (a_next origin) = IsWrittenOrigin origin
IsWellFormed (a_user hits lacks) = Each IsNameList hits × Each IsName lacks

-- `self`, `new`, or a user's place
abbrev pub spell_pick : Pick → List ℕ
spell_pick itself = codes "self"
spell_pick (other place) = decimal place
spell_pick fresh = codes "new"

-- `goal PLACE`, `pre PARENT assign RULE CONJUNCT ROLE TARGET ADMIN` or `pre PARENT weak RULE ROLE TARGET ADMIN`
abbrev pub spell_origin : WrittenOrigin → List ℕ
spell_origin (a_goal place) = codes "goal " ++ decimal place
spell_origin (an_assign parent rule conjunct role target admin) =
    codes "pre " ++ (decimal parent ++ (codes " assign " ++ (decimal rule ++ (codes " " ++ (decimal conjunct ++ (codes " " ++ (role
    ++ (codes " " ++ (decimal target ++ (codes " " ++ spell_pick admin))))))))))
spell_origin (a_weak parent rule role target admin) =
    codes "pre " ++ (decimal parent ++ (codes " weak " ++ (decimal rule ++ (codes " " ++ (role
    ++ (codes " " ++ (decimal target ++ (codes " " ++ spell_pick admin))))))))

-- each name behind a comma
abbrev pub behind_commas : List (List ℕ) → List ℕ
behind_commas [] = []
behind_commas (name ∷ names) = codes "," ++ (name ++ behind_commas names)

-- the names, with commas between them
abbrev pub joined : List (List ℕ) → List ℕ
joined [] = []
joined (name ∷ names) = name ++ behind_commas names

-- ` hit LIST` for each
abbrev pub spell_hits : List (List (List ℕ)) → List ℕ
spell_hits [] = []
spell_hits (hit ∷ hits) = codes " hit " ++ (joined hit ++ spell_hits hits)

-- ` lack LIST`, and nothing where no role is lacked
abbrev pub spell_lacks : List (List ℕ) → List ℕ
spell_lacks [] = []
spell_lacks (name ∷ names) = codes " lack " ++ joined (name ∷ names)

-- the bytes of the line, without its line feed
unfoldable pub spell : LineForm → List ℕ
spell a_reachable = codes "reachable"
spell an_unreachable = codes "unreachable"
spell (an_undecided limit) = codes "undecided " ++ decimal limit
spell (a_start profile) = codes "start " ++ decimal profile
spell (an_act act) = codes "act " ++ spell_act act
spell a_need = codes "need"
spell (a_step origin) = codes "need " ++ spell_origin origin
spell (a_next origin) = codes "next " ++ spell_origin origin
spell (a_user hits lacks) = codes "user" ++ (spell_hits hits ++ spell_lacks lacks)
