-- What the bytes of a question document stand for: a question, or their first fault.
use Rattle.std.specs.Prelude.{ℕ, Bool, List, [], ◌∷◌, Option, Some, None, codes}
use Rattle.toml.specs.Data.{Members, as_bool}
use Rattle.arbac_policy.specs.declared.rule.CanRevoke.{CanRevoke}
use Rattle.arbac_policy.specs.declared.profile.Profile.{Profile}
use Rattle.arbac_policy.specs.Truth.{Term}
use Rattle.arbac_policy.specs.PlainRules.{AssignRule}
use Rattle.question_text.specs.Outcomes.{not_toml, Outcome, gives, fails, ◌>>=◌}
use Rattle.question_text.specs.Values.{QuestionValue}
use Rattle.question_text.specs.Keys.{toml_of, as_version, required, knows_only}
use Rattle.question_text.specs.Roles.{role_names, admin_roles, role_edges, exclusive_pairs}
use Rattle.question_text.specs.Tables.{assign_rules, revoke_rules, profiles, the_goal}

-- the keys of a document
abbrev pub known_keys : List (List ℕ)
known_keys =
    codes "version" ∷ (codes "separate" ∷ (codes "roles" ∷ (codes "admin_roles" ∷ (codes "edges" ∷ (codes "exclusive"
    ∷ (codes "can_assign" ∷ (codes "can_revoke" ∷ (codes "can_assignp" ∷ (codes "can_revokep" ∷ (codes "profile" ∷ (codes "goal" ∷ [])))))))))))

-- what the first keys say
pub record HeadValue : Type 0 where
  pub version : ℕ
  pub separate : Bool

-- the roles, the administrative ones among them, the edges and the exclusive pairs
pub record RolesValue : Type 0 where
  pub names : List (List ℕ)
  pub admins : List ℕ
  pub edges : List (ℕ × ℕ)
  pub exclusive : List (ℕ × ℕ)

-- the administrative rules of the four tables
pub record RulesValue : Type 0 where
  pub assign : List AssignRule
  pub revoke : List CanRevoke
  pub assignp : List AssignRule
  pub revokep : List CanRevoke

-- what the keys of the head come to
abbrev pub the_head : Members → Outcome HeadValue
the_head table = do
  known ← knows_only known_keys table []
  version ← required as_version table [] (codes "version")
  separate ← required as_bool table [] (codes "separate")
  gives (record { version = version; separate = separate })

-- what the keys of roles, edges and pairs come to
abbrev pub the_roles : HeadValue → Members → Outcome RolesValue
the_roles head table = do
  names ← role_names table
  admins ← admin_roles head.separate names table
  edges ← role_edges head.separate admins names table
  exclusive ← exclusive_pairs head.version head.separate admins names table
  gives (record { names = names; admins = admins; edges = edges; exclusive = exclusive })

-- what the four tables of rules come to
abbrev pub the_rules : Bool → List ℕ → List (List ℕ) → Members → Outcome RulesValue
the_rules separate admins names table = do
  assign ← assign_rules separate admins names table (codes "can_assign")
  revoke ← revoke_rules separate admins names table (codes "can_revoke")
  assignp ← assign_rules separate admins names table (codes "can_assignp")
  revokep ← revoke_rules separate admins names table (codes "can_revokep")
  gives (record { assign = assign; revoke = revoke; assignp = assignp; revokep = revokep })

-- the question that the groups make with profiles and goal
abbrev pub question_of : HeadValue → RolesValue → RulesValue → List Profile → List Term → QuestionValue
question_of head roles rules profiles goal = record {
  separate = head.separate;
  names = roles.names;
  admin_roles = roles.admins;
  edges = roles.edges;
  exclusive = roles.exclusive;
  assign = rules.assign;
  revoke = rules.revoke;
  assignp = rules.assignp;
  revokep = rules.revokep;
  profiles = profiles;
  goal = goal;
}

-- the keys group by group, each in its order: all values, or the first fault
abbrev pub question : Bool → Members → Outcome QuestionValue
question need_goal table = do
  head ← the_head table
  roles ← the_roles head table
  rules ← the_rules head.separate roles.admins roles.names table
  profiles ← profiles roles.names table
  goal ← the_goal need_goal roles.names table
  gives (question_of head roles rules profiles goal)

-- the table, or the fault that the bytes are no TOML
abbrev pub if_toml : Option Members → Outcome Members
if_toml None = fails not_toml
if_toml (Some table) = gives table

-- the bytes are TOML, and their table is a question's
abbrev pub document : Bool → List ℕ → Outcome QuestionValue
document need_goal bytes = do
  table ← if_toml (toml_of bytes)
  question need_goal table
