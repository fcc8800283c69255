-- Which obligations a requirement has, in parts, and their order.
use Rattle.std.specs.Prelude.{ℕ, ◌≡◌, Bool, List, [], ◌∷◌, length, slice_get, Some}
use Rattle.list_words.specs.Lists.{Some_of}
use Rattle.role_order.specs.Roles.{IsIn}
use Rattle.role_order.specs.Orders.{set_before}
use Rattle.role_order.specs.Ranges.{IsInRange}
use Rattle.arbac_policy.specs.declared.rule.CanAssign.{CanAssign}
use Rattle.arbac_policy.specs.declared.rule.CanRevoke.{CanRevoke}
use Rattle.arbac_policy.specs.Truth.{term_of}
use Rattle.arbac_policy.specs.Rules.{Rules}
use Rattle.arbac_laws.specs.Needs.{Need}
use Rattle.arbac_laws.specs.Conjuncts.{conjuncts}
use Rattle.arbac_laws.specs.PreImages.{Pick, itself, other, fresh, IsPick}
use Rattle.arbac_laws.specs.Obligations.{Obligation, assigns, revokes}

-- the places of a rule and of a conjunct of its condition, a role of its range, the place of a user one
-- of whose hits has the role, and an administrator
pub record IsAssignOf (rules : Rules) (needs : List Need) (rule conjunct role target : ℕ) (pick : Pick) : Type 0 where
  pub by : CanAssign
  pub by_is : slice_get rules.assign rule ≡ Some by
  pub when : Need
  pub when_is : slice_get (conjuncts rules.order (term_of by.cond)) conjunct ≡ Some when
  pub in_range : IsInRange rules.order by.range role
  pub need : Need
  pub need_is : slice_get needs target ≡ Some need
  pub wanted : Some_of (λ hit. IsIn hit role) need.hits
  pub is_pick : IsPick pick target (length needs)

-- the place of a rule, a role of its range, the place of a user whose lacks have the role, and an
-- administrator
pub record IsRevokeOf (rules : Rules) (needs : List Need) (rule role target : ℕ) (pick : Pick) : Type 0 where
  pub by : CanRevoke
  pub by_is : slice_get rules.revoke rule ≡ Some by
  pub in_range : IsInRange rules.order by.range role
  pub need : Need
  pub need_is : slice_get needs target ≡ Some need
  pub barred : IsIn need.lacks role
  pub is_pick : IsPick pick target (length needs)

-- the obligation is one of the requirement
abbrev pub IsObligation : Rules → List Need → Obligation → Type 0
IsObligation rules needs (assigns rule conjunct role target pick) = IsAssignOf rules needs rule conjunct role target pick
IsObligation rules needs (revokes rule role target pick) = IsRevokeOf rules needs rule role target pick

-- the target itself first, then others by place, someone new last
abbrev pub pick_key : Pick → List ℕ
pick_key itself = 0 ∷ []
pick_key (other place) = 1 ∷ place ∷ []
pick_key fresh = 2 ∷ []

-- those to assign first; by rule, by conjunct, by role, by target, by administrator
abbrev pub obligation_key : Obligation → List ℕ
obligation_key (assigns rule conjunct role target pick) = 0 ∷ rule ∷ conjunct ∷ role ∷ target ∷ pick_key pick
obligation_key (revokes rule role target pick) = 1 ∷ rule ∷ role ∷ target ∷ pick_key pick

-- keys as lists of numbers
abbrev pub obligation_before : Obligation → Obligation → Bool
obligation_before a b = set_before (obligation_key a) (obligation_key b)
