-- The tables of a document: administrative rules and profiles, and its goal.
use Rattle.std.specs.Prelude.{ℕ, ◌≡◌, Bool, true, false, not, ◌||◌, ◌&&◌, nat_lt, List, [], ◌∷◌, Option, Some, None, codes, Ok, Err}
use Rattle.std.specs.Prelude.{◌⊎◌}
use Rattle.toml.specs.Data.{Data, Members, get_member, as_str, as_table}
use Rattle.role_order.specs.declared.range.Range.{Range}
use Rattle.role_order.specs.Roles.{has_role}
use Rattle.arbac_policy.specs.declared.rule.CanRevoke.{CanRevoke}
use Rattle.arbac_policy.specs.declared.profile.Profile.{Profile}
use Rattle.arbac_policy.specs.Truth.{Term, any, has, lacks, both, either}
use Rattle.cond_text.specs.declared.cond_error.CondError.{CondError}
use Rattle.cond_text.specs.Reading.{IsFirstOf}
use Rattle.arbac_policy.specs.declared.TheConstants.{MOST_RULES, MOST_GOALS}
use Rattle.cond_text.specs.Ranges.{NamedRange, IsNamedRange, spell_range}
use Rattle.arbac_policy.specs.PlainRules.{AssignRule}
use Rattle.cond_text.specs.Named.{ReadsAs}
use Rattle.arbac_rules.specs.declared.TheConstants.{MOST_CONJUNCTS}
use Rattle.arbac_rules.specs.Widths.{width, too_many}
use Rattle.question_text.specs.declared.TheConstants.{MOST_PROFILES}
use Rattle.question_text.specs.Outcomes.{missing, wrong_kind, no_cond, mixed_role, too_wide, Outcome, gives, fails, fails_if, ◌>>=◌}
use Rattle.question_text.specs.Keys.{as_list, as_filled_list, as_most, of_kind, required, optional, knows_only, at_most, entries, key_of}
use Rattle.question_text.specs.Roles.{role_named, role_set}

-- the text is a condition and stands for the term, or has this first fault
abbrev pub a_condition : List (List ℕ) → List ℕ → List ℕ → Outcome Term
a_condition names path text result =
    ((term : Term) × ReadsAs names text term × (result ≡ Ok term))
    ⊎ ((error : CondError) × IsFirstOf names text error × (result ≡ Err (no_cond path error)))

-- the text is a range between two names, or of the wrong kind
abbrev pub a_named_range : List ℕ → List ℕ → Outcome NamedRange
a_named_range path text result =
    ((range : NamedRange) × IsNamedRange range × (spell_range range ≡ text) × (result ≡ Ok range))
    ⊎ (((range : NamedRange) → IsNamedRange range → ¬ (spell_range range ≡ text)) × (result ≡ Err (wrong_kind path)))

-- the text is a range between two roles
abbrev pub a_range : List (List ℕ) → List ℕ → List ℕ → Outcome Range
a_range names path text = do
  range ← a_named_range path text
  low ← role_named names path range.low
  high ← role_named names path range.high
  gives (record { low = low; high = high; low_open = range.low_open; high_open = range.high_open })

-- the value of `admin`: the administrative role
abbrev pub the_admin : List (List ℕ) → Members → List ℕ → Outcome ℕ
the_admin names rule path = do
  name ← required as_str rule path (codes "admin")
  role_named names (key_of path (codes "admin")) name

-- what a rule has under `condition`
abbrev pub the_condition : List (List ℕ) → Members → List ℕ → Outcome Term
the_condition names rule path = do
  text ← required as_str rule path (codes "condition")
  a_condition names (key_of path (codes "condition")) text

-- what a rule has under `range`
abbrev pub the_range : List (List ℕ) → Members → List ℕ → Outcome Range
the_range names rule path = do
  text ← required as_str rule path (codes "range")
  a_range names (key_of path (codes "range")) text

-- the test holds of some role that a term names
abbrev pub names_some : (ℕ → Bool) → Term → Bool
names_some test any = false
names_some test (has role) = test role
names_some test (lacks role) = test role
names_some test (both left right) = names_some test left || names_some test right
names_some test (either left right) = names_some test left || names_some test right

-- the role that administers isn't administrative, or an end of the range is
abbrev pub is_mixed_rule : List ℕ → ℕ → Range → Bool
is_mixed_rule admins admin range = not (has_role admins admin) || has_role admins range.low || has_role admins range.high

-- a condition names an administrative role
abbrev pub names_admin : List ℕ → Option Term → Bool
names_admin admins None = false
names_admin admins (Some cond) = names_some (has_role admins) cond

-- where administrative roles are kept separate, the rule isn't mixed
abbrev pub not_mixed_rule : Bool → List ℕ → ℕ → Range → Option Term → List ℕ → Outcome (Unit {0})
not_mixed_rule separate admins admin range cond path =
    fails_if (separate && (is_mixed_rule admins admin range || names_admin admins cond)) (mixed_role path)

-- the condition hasn't too many conjuncts
abbrev pub not_wide : Term → List ℕ → Outcome (Unit {0})
not_wide cond path = fails_if (nat_lt MOST_CONJUNCTS (width cond)) (too_wide path (width cond))

-- the values of a rule's keys
abbrev pub assign_parts : List (List ℕ) → Members → List ℕ → Outcome AssignRule
assign_parts names rule path = do
  known ← knows_only (codes "admin" ∷ (codes "condition" ∷ (codes "range" ∷ []))) rule path
  admin ← the_admin names rule path
  cond ← the_condition names rule path
  range ← the_range names rule path
  gives (record { admin = admin; cond = cond; range = range })

-- what is asked of a rule besides
abbrev pub assign_tests : Bool → List ℕ → AssignRule → List ℕ → Outcome (Unit {0})
assign_tests separate admins rule path = do
  narrow ← not_wide rule.cond path
  not_mixed_rule separate admins rule.admin rule.range (Some rule.cond) path

-- a rule of `can_assign` or `can_assignp`
abbrev pub an_assign_rule : Bool → List ℕ → List (List ℕ) → List ℕ → Data → Outcome AssignRule
an_assign_rule separate admins names path d = do
  table ← of_kind (as_table d) path
  rule ← assign_parts names table path
  passed ← assign_tests separate admins rule path
  gives rule

-- the values of a rule's keys
abbrev pub revoke_parts : List (List ℕ) → Members → List ℕ → Outcome CanRevoke
revoke_parts names rule path = do
  known ← knows_only (codes "admin" ∷ (codes "range" ∷ [])) rule path
  admin ← the_admin names rule path
  range ← the_range names rule path
  gives (record { admin = admin; range = range })

-- a rule of `can_revoke` or `can_revokep`
abbrev pub a_revoke_rule : Bool → List ℕ → List (List ℕ) → List ℕ → Data → Outcome CanRevoke
a_revoke_rule separate admins names path d = do
  table ← of_kind (as_table d) path
  rule ← revoke_parts names table path
  apart ← not_mixed_rule separate admins rule.admin rule.range None path
  gives rule

-- a list of tables under a key, each read alike
abbrev pub tables : {A : Type 0} → ℕ → (List ℕ → Data → Outcome A) → Members → List ℕ → Outcome (List A)
tables most read table key = do
  list ← optional as_list [] table [] key
  few ← at_most most key list
  entries read key list

-- what stands under a key of rules that give roles
abbrev pub assign_rules : Bool → List ℕ → List (List ℕ) → Members → List ℕ → Outcome (List AssignRule)
assign_rules separate admins names table key = tables MOST_RULES (an_assign_rule separate admins names) table key

-- what stands under a key of rules that take roles
abbrev pub revoke_rules : Bool → List ℕ → List (List ℕ) → Members → List ℕ → Outcome (List CanRevoke)
revoke_rules separate admins names table key = tables MOST_RULES (a_revoke_rule separate admins names) table key

-- a profile: an explicit set, and how many users at most start with it
abbrev pub a_profile : List (List ℕ) → List ℕ → Data → Outcome Profile
a_profile names path d = do
  profile ← of_kind (as_table d) path
  known ← knows_only (codes "roles" ∷ (codes "most" ∷ [])) profile path
  list ← required as_list profile path (codes "roles")
  set ← role_set names (key_of path (codes "roles")) list
  most ← optional as_most None profile path (codes "most")
  gives (record { set = set; most = most })

-- what stands under `profile`
abbrev pub profiles : List (List ℕ) → Members → Outcome (List Profile)
profiles names table = tables MOST_PROFILES (a_profile names) table (codes "profile")

-- a text that is a condition
abbrev pub a_goal_condition : List (List ℕ) → List ℕ → Data → Outcome Term
a_goal_condition names path d = do
  text ← of_kind (as_str d) path
  a_condition names path text

-- the goal, where it hasn't too many requirements
abbrev pub unless_wide : Option ℕ → Outcome (Unit {0})
unless_wide None = gives tt
unless_wide (Some count) = fails (too_wide (codes "goal") count)

-- there aren't too many combinations of one conjunct of each condition
abbrev pub not_wide_goal : List Term → Outcome (Unit {0})
not_wide_goal goal = unless_wide (too_many goal)

-- the conditions of a goal that is there
abbrev pub a_goal : List (List ℕ) → Data → Outcome (List Term)
a_goal names d = do
  list ← of_kind (as_filled_list d) (codes "goal")
  few ← at_most MOST_GOALS (codes "goal") list
  conds ← entries (a_goal_condition names) (codes "goal") list
  narrow ← not_wide_goal conds
  gives conds

-- what a goal comes to that must be there, or may be absent
abbrev pub may_be_goal : Bool → List (List ℕ) → Option Data → Outcome (List Term)
may_be_goal true names None = fails (missing (codes "goal"))
may_be_goal false names None = gives []
may_be_goal need_goal names (Some d) = a_goal names d

-- `goal`: it must be there where one is needed, and one that is there is read in any case
abbrev pub the_goal : Bool → List (List ℕ) → Members → Outcome (List Term)
the_goal need_goal names table = may_be_goal need_goal names (get_member (codes "goal") table)
