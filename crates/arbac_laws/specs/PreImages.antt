-- Pre-images: what a population must meet before an act, so that it meets a requirement after it.
use Rattle.std.specs.Prelude.{ℕ, zero, suc, ◌≡◌, ◌<◌, Bool, true, false, ◌||◌, ◌&&◌, not, if◌then◌else◌, List, [], ◌∷◌}
use Rattle.std.specs.Prelude.{◌++◌, map, filter, length, slice_get, slice_set, Some, None, Option}
use Rattle.list_words.specs.Lists.{Some_of, IsOneOf}
use Rattle.role_order.specs.Roles.{has_role, without_role, join_roles, IsIn}
use Rattle.role_order.specs.Graph.{Graph}
use Rattle.role_order.specs.Reach.{seniors_of}
use Rattle.role_order.specs.Ranges.{IsInRange}
use Rattle.arbac_policy.specs.declared.rule.CanAssign.{CanAssign}
use Rattle.arbac_policy.specs.declared.rule.CanRevoke.{CanRevoke}
use Rattle.arbac_policy.specs.Truth.{term_of}
use Rattle.arbac_policy.specs.Rules.{Rules}
use Rattle.arbac_laws.specs.Needs.{Need}
use Rattle.arbac_laws.specs.Conjuncts.{conjuncts}

-- the role is >= both roles of a pair, so that nobody who lacks it can be given it
abbrev pub is_barred : Graph → ℕ → List (ℕ × ℕ) → Bool
is_barred order role [] = false
is_barred order role (pair ∷ pairs) =
    (has_role (seniors_of order pair.0) role && has_role (seniors_of order pair.1) role) || is_barred order role pairs

-- what the pairs bar from whoever is given the role: of each pair that has a role below it, the
-- seniors of the other one
abbrev pub barred : Graph → ℕ → List (ℕ × ℕ) → List ℕ
barred order role [] = []
barred order role (pair ∷ pairs) =
    join_roles (if has_role (seniors_of order pair.0) role then seniors_of order pair.1 else [])
    (join_roles (if has_role (seniors_of order pair.1) role then seniors_of order pair.0 else []) (barred order role pairs))

-- what the target must meet before it is given the role: its hits with the role are met by the role
-- and go, the conjunct's hits and lacks and what the pairs bar are added; nothing will do where the
-- role is among its lacks, or is >= both roles of a pair
abbrev pub before_assign : Rules → Need → ℕ → Need → Option Need
before_assign rules conjunct role need =
    if has_role need.lacks role || is_barred rules.order role rules.exclusive then None
    else Some (record {
      hits = filter (λ hit. not (has_role hit role)) need.hits ++ conjunct.hits;
      lacks = join_roles need.lacks (join_roles conjunct.lacks (barred rules.order role rules.exclusive));
    })

-- the set has no role
abbrev pub is_empty : List ℕ → Bool
is_empty [] = true
is_empty (x ∷ xs) = false

-- some hit has no other role
abbrev pub has_alone : ℕ → List (List ℕ) → Bool
has_alone role [] = false
has_alone role (hit ∷ hits) = is_empty (without_role hit role) || has_alone role hits

-- what the target must meet before it loses the role: the role leaves its hits and its lacks; nothing
-- will do where a hit becomes empty, or was (a requirement with such a hit is impossible either way)
abbrev pub before_weak : ℕ → Need → Option Need
before_weak role need =
    if has_alone role need.hits then None
    else Some (record { hits = map (λ hit. without_role hit role) need.hits; lacks = without_role need.lacks role })

-- who the administrator is: the target itself, the user at another place, or a new user
pub data Pick : Type 0 where
  itself : Pick
  other : ℕ → Pick
  fresh : Pick

-- the user requirement with one more hit
abbrev pub add_hit : List ℕ → Need → Need
add_hit hit need = record { hits = hit ∷ need.hits; lacks = need.lacks }

-- the list with the item at the place changed
abbrev pub change_at : ℕ → (Need → Need) → List Need → List Need
change_at i change [] = []
change_at zero change (x ∷ xs) = change x ∷ xs
change_at (suc i) change (x ∷ xs) = x ∷ change_at i change xs

-- the administrator is to meet the hit too; where it is a new user, it comes behind all others
abbrev pub with_admin : Pick → ℕ → List ℕ → List Need → List Need
with_admin itself target hit needs = change_at target (add_hit hit) needs
with_admin (other place) target hit needs = change_at place (add_hit hit) needs
with_admin fresh target hit needs = needs ++ record { hits = hit ∷ []; lacks = [] } ∷ []

-- another place is a user of the requirement and not the target
abbrev pub IsPick : Pick → ℕ → ℕ → Type 0
IsPick itself target count = Unit {0}
IsPick (other place) target count = (place < count) × ¬ (place ≡ target)
IsPick fresh target count = Unit {0}

-- the administrator's place in the pre-image of a requirement of so many users
abbrev pub admin_place : Pick → ℕ → ℕ → ℕ
admin_place itself target count = target
admin_place (other place) target count = place
admin_place fresh target count = count

-- an obligation to assign, in parts: a rule, a conjunct of its condition and a role of its range,
-- a target one of whose hits has the role, an administrator, and what the target must meet before
pub record AssignObligation (rules : Rules) (needs : List Need) : Type 0 where
  pub rule : CanAssign
  pub is_rule : IsOneOf rules.assign rule
  pub conjunct : Need
  pub is_conjunct : IsOneOf (conjuncts rules.order (term_of rule.cond)) conjunct
  pub role : ℕ
  pub in_range : IsInRange rules.order rule.range role
  pub target : ℕ
  pub need : Need
  pub need_is : slice_get needs target ≡ Some need
  pub wanted : Some_of (λ hit. IsIn hit role) need.hits
  pub pick : Pick
  pub is_pick : IsPick pick target (length needs)
  pub before : Need
  pub before_is : before_assign rules conjunct role need ≡ Some before

-- its pre-image: the target's user requirement is exchanged, and the administrator has a senior of
-- the rule's administrative role
abbrev pub assign_pre_image : {rules : Rules} {needs : List Need} → AssignObligation rules needs → List Need
assign_pre_image {rules} {needs} ob =
    with_admin ob.pick ob.target (seniors_of rules.order ob.rule.admin) (slice_set needs ob.target ob.before)

-- an obligation to revoke weakly, in parts: a rule and a role of its range, a target whose lacks
-- have the role, an administrator, and what the target must meet before
pub record WeakObligation (rules : Rules) (needs : List Need) : Type 0 where
  pub rule : CanRevoke
  pub is_rule : IsOneOf rules.revoke rule
  pub role : ℕ
  pub in_range : IsInRange rules.order rule.range role
  pub target : ℕ
  pub need : Need
  pub need_is : slice_get needs target ≡ Some need
  pub wanted : IsIn need.lacks role
  pub pick : Pick
  pub is_pick : IsPick pick target (length needs)
  pub before : Need
  pub before_is : before_weak role need ≡ Some before

-- its pre-image, made in the same way
abbrev pub weak_pre_image : {rules : Rules} {needs : List Need} → WeakObligation rules needs → List Need
weak_pre_image {rules} {needs} ob =
    with_admin ob.pick ob.target (seniors_of rules.order ob.rule.admin) (slice_set needs ob.target ob.before)
