-- Acts as lines write them.
use Rattle.std.specs.Prelude.{ℕ, ◌<◌, ◌^◌, if◌then◌else◌, List, ◌++◌, Option, Some, None, codes}
use Rattle.std.specs.Fmt.{decimal}
use Rattle.std.specs.Str.{bytes_eq}
use Rattle.arbac_policy.specs.declared.act.ActKind.{ActKind}
use Rattle.arbac_policy.specs.declared.act.ActKind.TheVariants.{Assign, Weak, Strong}
use Rattle.cond_text.specs.Cuts.{IsName, byte_of, ◌>>=◌, cut, name_in}
use Rattle.text_lines.specs.declared.acts.ActLine.{ActLine}
use Rattle.text_lines.specs.Numbers.{number_in}

-- an act whose users are numbers, and whose role is a text
pub record WrittenAct : Type 0 where
  pub kind : ActKind
  pub admin : ℕ
  pub target : ℕ
  pub role : List ℕ

-- both numbers have 32 bits, and the role's text is a name
abbrev pub IsWrittenAct : WrittenAct → Type 0
IsWrittenAct act = (act.admin < 2 ^ 32) × (act.target < 2 ^ 32) × IsName act.role

-- the act as the code has it
abbrev pub act_view : ActLine → WrittenAct
act_view act = record { kind = act.kind; admin = act.admin; target = act.target; role = act.role.now }

-- the word of an act's kind
abbrev pub spell_kind : ActKind → List ℕ
spell_kind Assign = codes "assign"
spell_kind Weak = codes "weak"
spell_kind Strong = codes "strong"

-- kind, administrator, target and role, one space between: what stands behind `act ` in the act's line
abbrev pub spell_act : WrittenAct → List ℕ
spell_act act = spell_kind act.kind ++ (codes " " ++ (decimal act.admin ++ (codes " " ++ (decimal act.target ++ (codes " " ++ act.role)))))

-- the kind that the word names
unfoldable pub kind_in : List ℕ → Option ActKind
kind_in word =
    if bytes_eq word (codes "assign") then Some Assign else if bytes_eq word (codes "weak") then Some Weak else if bytes_eq word
    (codes "strong") then Some Strong else None

-- the act that the text spells, computed
unfoldable pub act_in : List ℕ → Option WrittenAct
act_in text = do
  first ← cut (byte_of (codes " ")) text
  kind ← kind_in first.0
  second ← cut (byte_of (codes " ")) first.1
  admin ← number_in second.0
  third ← cut (byte_of (codes " ")) second.1
  target ← number_in third.0
  role ← name_in third.1
  Some (record { kind = kind; admin = admin; target = target; role = role })
