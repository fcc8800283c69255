-- What the step of an obligation comes from, part by part.
use Rattle.std.specs.Prelude.{ℕ, ◌≡◌, List, length, slice_set, Some}
use Rattle.list_words.specs.Lists.{IsOneOf}
use Rattle.role_order.specs.Reach.{seniors_of}
use Rattle.arbac_policy.specs.Rules.{Rules}
use Rattle.arbac_laws.specs.Listings.{IsAssignOf, IsRevokeOf}
use Rattle.arbac_laws.specs.Needs.{Need}
use Rattle.arbac_laws.specs.NormalForms.{normal_form}
use Rattle.arbac_laws.specs.Obligations.{Obligation, obligations, pre_image}
use Rattle.arbac_laws.specs.PreImages.{Pick, itself, IsPick, before_assign, before_weak, with_admin}

-- the form is the normal form of the requirement's pre-image by the obligation, which is one of its own
abbrev pub IsFormBefore : Rules → List Need → Obligation → List Need → Type 0
IsFormBefore rules needs ob form =
    (before : List Need) × IsOneOf (obligations rules needs) ob × (pre_image rules needs ob ≡ Some before) × (normal_form before ≡ Some form)

-- the target can be given the role so, by whoever administers: what it must meet before, and the roles one of which the
-- administrator must have
pub record IsGiven (rules : Rules) (needs : List Need) (rule conjunct role target : ℕ) (hit : List ℕ) (before : Need) : Type 0 where
  pub parts : IsAssignOf rules needs rule conjunct role target itself
  pub hit_is : hit ≡ seniors_of rules.order parts.by.admin
  pub before_is : before_assign rules parts.when role parts.need ≡ Some before

-- the role can be taken so from the target: the same
pub record IsTaken (rules : Rules) (needs : List Need) (rule role target : ℕ) (hit : List ℕ) (before : Need) : Type 0 where
  pub parts : IsRevokeOf rules needs rule role target itself
  pub hit_is : hit ≡ seniors_of rules.order parts.by.admin
  pub before_is : before_weak role parts.need ≡ Some before

-- the target is to meet this before, and the administrator, who is a pick, to have a role of the hit: the form is the normal
-- form of that
abbrev pub IsExchanged : List Need → ℕ → Pick → List ℕ → Need → List Need → Type 0
IsExchanged needs target pick hit before form =
    IsPick pick target (length needs) × (normal_form (with_admin pick target hit (slice_set needs target before)) ≡ Some form)
