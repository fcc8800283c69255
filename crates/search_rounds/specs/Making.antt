-- The candidates of a parent, level by level.
use Rattle.std.specs.Prelude.{ℕ, Bool, if◌then◌else◌, List, [], ◌++◌, length, slice_set, Option, Some, None}
use Rattle.std.specs.List.{list_any}
use Rattle.role_order.specs.Roles.{has_role}
use Rattle.role_order.specs.Reach.{seniors_of}
use Rattle.role_order.specs.declared.range.Range.{Range}
use Rattle.arbac_policy.specs.declared.rule.CanAssign.{CanAssign}
use Rattle.arbac_policy.specs.declared.rule.CanRevoke.{CanRevoke}
use Rattle.arbac_policy.specs.Rules.{Rules}
use Rattle.arbac_laws.specs.Needs.{Need}
use Rattle.arbac_laws.specs.NormalForms.{normal_form}
use Rattle.arbac_laws.specs.PreImages.{Pick, before_assign, before_weak, with_admin}
use Rattle.arbac_laws.specs.Obligations.{Obligation, assigns, revokes, flat, flat_places, picks, roles_in}
use Rattle.arbac_laws.specs.Recorded.{Entry, of_parent}
use Rattle.arbac_laws.specs.Views.{need_of}
use Rattle.req_pre.specs.Preparing.{conjuncts_of}
use Rattle.search_laws.specs.Candidates.{as_candidate}
use Rattle.search_rounds.specs.declared.picks.Change.{Change}
use Rattle.search_rounds.specs.declared.picks.Change.TheVariants.{Give, Take}

-- by the rule at the place a role is given, its condition met by the conjunct at its place; or one is taken
pub data Way : Type 0 where
  gives : ℕ → ℕ → Need → Way
  takes : ℕ → Way

abbrev pub way_of : Change → Way
way_of (Give rule place conjunct) = gives rule place (need_of conjunct.now)
way_of (Take rule) = takes rule

-- the obligation, by the administrator
abbrev pub ob_by : Way → ℕ → ℕ → Pick → Obligation
ob_by (gives rule place conjunct) role target pick = assigns rule place role target pick
ob_by (takes rule) role target pick = revokes rule role target pick

-- the act is of use to the user: it gives what one of the hits wants, or takes a lack
abbrev pub is_of_use : Way → ℕ → Need → Bool
is_of_use (gives rule place conjunct) role need = list_any (λ hit. has_role hit role) need.hits
is_of_use (takes rule) role need = has_role need.lacks role

-- what the target must meet before the act
abbrev pub before_by : Rules → Way → ℕ → Need → Option Need
before_by rules (gives rule place conjunct) role need = before_assign rules conjunct role need
before_by rules (takes rule) role need = before_weak role need

-- the candidate of the act that this administrator carries out, where the target must meet so much before
abbrev pub by_pick : ℕ → (Pick → Obligation) → List ℕ → List Need → ℕ → Need → Pick → List Entry
by_pick parent ob hit needs target before pick =
    as_candidate (of_parent parent (ob pick)) (normal_form (with_admin pick target hit (slice_set needs target before)))

-- those of all administrators
abbrev pub by_picks : ℕ → (Pick → Obligation) → List ℕ → List Need → ℕ → Need → List Entry
by_picks parent ob hit needs target before = flat (by_pick parent ob hit needs target before) (picks target (length needs))

-- none where nothing will do
abbrev pub by_before : ℕ → (Pick → Obligation) → List ℕ → List Need → ℕ → Option Need → List Entry
by_before parent ob hit needs target None = []
by_before parent ob hit needs target (Some before) = by_picks parent ob hit needs target before

-- those of the acts on the user at the place, if they are of use to it
abbrev pub by_target : Rules → ℕ → Way → List ℕ → List Need → ℕ → ℕ → Need → List Entry
by_target rules parent way hit needs role target need =
    if is_of_use way role need then by_before parent (ob_by way role target) hit needs target (before_by rules way role need) else []

-- of the acts with the role, by target
abbrev pub by_role : Rules → ℕ → Way → List ℕ → List Need → ℕ → List Entry
by_role rules parent way hit needs role = flat_places (by_target rules parent way hit needs role) 0 needs

-- of the acts with a role of the range, by role
abbrev pub by_range : Rules → ℕ → Way → List ℕ → Range → List Need → List Entry
by_range rules parent way hit range needs = flat (by_role rules parent way hit needs) (roles_in rules.order range)

-- of the acts of the rule to assign at the place, with the conjunct at its place
abbrev pub by_conjunct : Rules → ℕ → List Need → ℕ → CanAssign → ℕ → Need → List Entry
by_conjunct rules parent needs rule by place conjunct =
    by_range rules parent (gives rule place conjunct) (seniors_of rules.order by.admin) by.range needs

-- of the acts of the rule to assign at the place, by conjunct
abbrev pub by_assign : Rules → ℕ → List Need → ℕ → CanAssign → List Entry
by_assign rules parent needs rule by = flat_places (by_conjunct rules parent needs rule by) 0 (conjuncts_of rules by)

-- of the acts of the rule to revoke at the place
abbrev pub by_revoke : Rules → ℕ → List Need → ℕ → CanRevoke → List Entry
by_revoke rules parent needs rule by = by_range rules parent (takes rule) (seniors_of rules.order by.admin) by.range needs

-- of all rules to assign, and then of all rules to revoke
abbrev pub by_rules : Rules → ℕ → List Need → List Entry
by_rules rules parent needs =
    flat_places (by_assign rules parent needs) 0 rules.assign ++ flat_places (by_revoke rules parent needs) 0 rules.revoke
