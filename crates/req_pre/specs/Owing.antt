-- The lists of obligations as the loops build them, level by level.
use Rattle.std.specs.Prelude.{ℕ, ◌==◌, Bool, true, false, not, List, [], ◌∷◌, ◌++◌, length}
use Rattle.std.specs.List.{list_any}
use Rattle.role_order.specs.Graph.{Graph}
use Rattle.role_order.specs.Roles.{has_role}
use Rattle.role_order.specs.Reach.{count_up}
use Rattle.role_order.specs.declared.range.Range.{Range}
use Rattle.arbac_policy.specs.declared.rule.CanAssign.{CanAssign}
use Rattle.arbac_policy.specs.declared.rule.CanRevoke.{CanRevoke}
use Rattle.arbac_policy.specs.Rules.{Rules}
use Rattle.arbac_laws.specs.Needs.{Need}
use Rattle.arbac_laws.specs.PreImages.{Pick as Picked, itself, other, fresh}
use Rattle.arbac_laws.specs.Obligations.{Obligation as Owed, assigns, revokes, flat, flat_places, is_in_range}
use Rattle.req_pre.specs.declared.owing.Origin.{Origin}
use Rattle.req_pre.specs.declared.owing.Origin.TheVariants.{Assign, Weak}
use Rattle.req_pre.specs.Preparing.{conjuncts_of}

-- the act of the origin, with its other parts
abbrev pub act_by : Origin → ℕ → ℕ → Picked → Owed
act_by (Assign rule conjunct) role target pick = assigns rule conjunct role target pick
act_by (Weak rule) role target pick = revokes rule role target pick

-- an act of the origin with the role is of use to the user: it gives what one of the hits wants, or takes a lack
abbrev pub is_of_use : Origin → ℕ → Need → Bool
is_of_use (Assign rule conjunct) role need = list_any (λ hit. has_role hit role) need.hits
is_of_use (Weak rule) role need = has_role need.lacks role

-- the list where the test is true, and nothing otherwise
abbrev pub only_if : Bool → List Owed → List Owed
only_if true list = list
only_if false list = []

-- the user at the place administers the act, unless that is the target
abbrev pub by_other : Origin → ℕ → ℕ → ℕ → List Owed
by_other origin role target place = only_if (not (place == target)) (act_by origin role target (other place) ∷ [])

-- the target, another of so many users or a new one administers the act
abbrev pub by_picks : Origin → ℕ → ℕ → ℕ → List Owed
by_picks origin role target count =
    act_by origin role target itself ∷ (flat (by_other origin role target) (count_up 0 count) ++ act_by origin role target fresh ∷ [])

-- the acts on the user at the place, of so many
abbrev pub by_target : Origin → ℕ → ℕ → ℕ → Need → List Owed
by_target origin role count target need = only_if (is_of_use origin role need) (by_picks origin role target count)

-- the acts with the role, by target
abbrev pub by_targets : Origin → List Need → ℕ → List Owed
by_targets origin needs role = flat_places (by_target origin role (length needs)) 0 needs

-- the same, if the role is of the range
abbrev pub by_role : Origin → Graph → Range → List Need → ℕ → List Owed
by_role origin order range needs role = only_if (is_in_range order range role) (by_targets origin needs role)

-- the acts of the origin, by role
abbrev pub by_roles : Origin → Graph → Range → List Need → List Owed
by_roles origin order range needs = flat (by_role origin order range needs) (count_up 0 (length order.names))

-- the acts of a rule with the first so many conjuncts
abbrev pub by_conjuncts : Graph → Range → List Need → ℕ → ℕ → List Owed
by_conjuncts order range needs rule count = flat (λ conjunct. by_roles (Assign rule conjunct) order range needs) (count_up 0 count)

-- the acts of the rule of `can_assign` at the place
abbrev pub by_assign : Rules → List Need → ℕ → CanAssign → List Owed
by_assign rules needs place rule = by_conjuncts rules.order rule.range needs place (length (conjuncts_of rules rule))

-- the acts of the rule of `can_revoke` at the place
abbrev pub by_revoke : Rules → List Need → ℕ → CanRevoke → List Owed
by_revoke rules needs place rule = by_roles (Weak place) rules.order rule.range needs
