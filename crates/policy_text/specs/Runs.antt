-- What a run text stands for: a role order, rules for users, start sets, acts and goal conditions.
use Rattle.std.specs.Prelude.{ℕ, ◌≡◌, ◌+◌, ◌<◌, ◌≤◌, List, [], ◌∷◌, ◌++◌, map, length, Result, Ok, Err, codes}
use Rattle.role_order.specs.declared.TheConstants.{MOST_ROLES}
use Rattle.list_words.specs.Lists.{Each}
use Rattle.role_order.specs.Refusals.{IsOrder}
use Rattle.arbac_policy.specs.declared.act.Act.{Act}
use Rattle.arbac_policy.specs.declared.rule.CanRevoke.{CanRevoke}
use Rattle.arbac_policy.specs.Truth.{Term, term_of, IsKnown}
use Rattle.arbac_policy.specs.Rules.{Rules}
use Rattle.arbac_policy.specs.declared.TheConstants.{MOST_EDGES, MOST_RULES, MOST_GOALS}
use Rattle.policy_text.specs.declared.TheConstants.{MOST_USERS, MOST_ACTS}
use Rattle.policy_text.specs.declared.run.Run.{Run}
use Rattle.policy_text.specs.declared.run_error.RunError.{RunError}
use Rattle.policy_text.specs.declared.run_error.RunError.TheVariants.{Memory}
use Rattle.text_lines.specs.Lines.{split}
use Rattle.policy_text.specs.LineForms.{LineForm, a_role, an_edge, an_assign, a_revoke, a_user, an_act, a_goal, IsWellFormed, spell}
use Rattle.arbac_policy.specs.PlainRules.{AssignRule, plain_rule}
use Rattle.cond_text.specs.Named.{Names, NamesRange, ReadsAs, NamesSet}

-- a run as plain data; also what the first lines of one say
pub record RunValue : Type 0 where
  pub names : List (List ℕ)
  pub edges : List (ℕ × ℕ)
  pub assign : List AssignRule
  pub revoke : List CanRevoke
  pub start : List (List ℕ)
  pub acts : List Act
  pub goal : List Term

-- the run's parts
abbrev pub plain_of : Run → RunValue
plain_of run = record {
  names = run.policy.order.names;
  edges = run.policy.order.edges;
  assign = map plain_rule run.policy.assign;
  revoke = run.policy.revoke;
  start = run.start.items;
  acts = run.acts.items;
  goal = map term_of run.goal.items;
}

-- no rules for permissions, and no exclusive pairs
pub record IsForUsers (rules : Rules) : Type 0 where
  pub assignp : rules.assignp ≡ []
  pub revokep : rules.revokep ≡ []
  pub exclusive : rules.exclusive ≡ []

-- a run of which nothing is said yet
abbrev pub nothing : RunValue
nothing = record { names = []; edges = []; assign = []; revoke = []; start = []; acts = []; goal = [] }

-- how many lines of later sections there are behind each section
abbrev pub behind_acts : RunValue → ℕ
behind_acts run = length run.goal

-- how many lines of later sections stand behind the users
abbrev pub behind_users : RunValue → ℕ
behind_users run = length run.acts + behind_acts run

-- how many stand behind the rules that take roles
abbrev pub behind_revokes : RunValue → ℕ
behind_revokes run = length run.start + behind_users run

-- how many stand behind the rules that give roles
abbrev pub behind_assigns : RunValue → ℕ
behind_assigns run = length run.revoke + behind_revokes run

-- how many stand behind the edges
abbrev pub behind_edges : RunValue → ℕ
behind_edges run = length run.assign + behind_assigns run

-- how many stand behind the roles
abbrev pub behind_roles : RunValue → ℕ
behind_roles run = length run.edges + behind_edges run

-- the line is in its place: no line of a later section stands before it, and edges stand behind roles
abbrev pub MayStand : RunValue → LineForm → Type 0
MayStand run (a_role name) = behind_roles run ≡ 0
MayStand run (an_edge senior junior) = (behind_edges run ≡ 0) × (1 ≤ length run.names)
MayStand run (an_assign admin range condition) = behind_assigns run ≡ 0
MayStand run (a_revoke admin range) = behind_revokes run ≡ 0
MayStand run (a_user names) = behind_users run ≡ 0
MayStand run (an_act act) = behind_acts run ≡ 0
MayStand run (a_goal condition) = Unit {0}

-- there is room for one more line of the kind
abbrev pub HasRoom : RunValue → LineForm → Type 0
HasRoom run (a_role name) = length run.names < MOST_ROLES
HasRoom run (an_edge senior junior) = length run.edges < MOST_EDGES
HasRoom run (an_assign admin range condition) = length run.assign < MOST_RULES
HasRoom run (a_revoke admin range) = length run.revoke < MOST_RULES
HasRoom run (a_user names) = length run.start < MOST_USERS
HasRoom run (an_act act) = length run.acts < MOST_ACTS
HasRoom run (a_goal condition) = length run.goal < MOST_GOALS

-- with what the line says, the run becomes the next
abbrev pub Extends : RunValue → LineForm → RunValue → Type 0
Extends run (a_role name) next = next ≡ record run { names = run.names ++ name ∷ [] }
Extends run (an_edge senior junior) next =
    (edge : ℕ × ℕ) × Names run.names senior edge.0 × Names run.names junior edge.1 × (next ≡ record run { edges = run.edges ++ edge ∷ [] })
Extends run (an_assign admin range condition) next =
    (rule : AssignRule) × Names run.names admin rule.admin × NamesRange run.names range rule.range × ReadsAs run.names condition rule.cond
    × (next ≡ record run { assign = run.assign ++ rule ∷ [] })
Extends run (a_revoke admin range) next =
    (rule : CanRevoke) × Names run.names admin rule.admin × NamesRange run.names range rule.range
    × (next ≡ record run { revoke = run.revoke ++ rule ∷ [] })
Extends run (a_user names) next =
    (set : List ℕ) × NamesSet run.names names set × (next ≡ record run { start = run.start ++ set ∷ [] })
Extends run (an_act written) next =
    (act : Act) × (act.kind ≡ written.kind) × (act.admin ≡ written.admin) × (act.target ≡ written.target) × Names run.names written.role act.role
    × (next ≡ record run { acts = run.acts ++ act ∷ [] })
Extends run (a_goal condition) next = (term : Term) × ReadsAs run.names condition term × (next ≡ record run { goal = run.goal ++ term ∷ [] })

-- the line is right behind what the run says so far, and makes it the next
pub record Adds (run : RunValue) (line : LineForm) (next : RunValue) : Type 0 where
  pub place : MayStand run line
  pub room : HasRoom run line
  pub extends : Extends run line next

-- the lines are right one behind another, and make the run the last
abbrev pub AddAll : RunValue → List LineForm → RunValue → Type 0
AddAll run [] last = last ≡ run
AddAll run (line ∷ lines) last = (next : RunValue) × Adds run line next × AddAll next lines last

-- behind the first line, right lines say so much of a run; the lines `left` are left, the first of which has this number,
-- and then a part of a line
pub record IsReadTo (bytes : List ℕ) (run : RunValue) (number : ℕ) (left : List (List ℕ)) (part : List ℕ) : Type 0 where
  pub lines : List LineForm
  pub formed : Each IsWellFormed lines
  pub text : split bytes ≡ (codes "run 1" ∷ (map spell lines ++ left), part)
  pub added : AddAll nothing lines run
  pub number_is : number ≡ 2 + length lines

-- the text is a run text, and this is its run: the first line, right lines with at least one goal, `end`, and nothing more
pub record StandsFor (bytes : List ℕ) (run : RunValue) : Type 0 where
  pub number : ℕ
  pub read : IsReadTo bytes run number (codes "end" ∷ []) []
  pub order : IsOrder run.names run.edges
  pub goal : 1 ≤ length run.goal

-- no table is longer than a text may tell it
pub record KeepsLimits (run : RunValue) : Type 0 where
  pub names : length run.names ≤ MOST_ROLES
  pub edges : length run.edges ≤ MOST_EDGES
  pub assign : length run.assign ≤ MOST_RULES
  pub revoke : length run.revoke ≤ MOST_RULES
  pub start : length run.start ≤ MOST_USERS
  pub acts : length run.acts ≤ MOST_ACTS
  pub goal : length run.goal ≤ MOST_GOALS

-- each role of a goal's condition is one of the order's
abbrev pub AreKnownGoals : RunValue → Type 0
AreKnownGoals run = Each (IsKnown (length run.names)) run.goal

-- the run that was read has these parts, unless memory ran out
abbrev pub Reads : Result Run RunError → RunValue → Type 0
Reads (Ok run) value = plain_of run ≡ value
Reads (Err error) value = error ≡ Memory
