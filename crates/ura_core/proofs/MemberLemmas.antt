-- Membership of a set with one more role.
use Rattle.std.proofs.Common.{ℕ, ◌≡◌, ◌∙◌, true, List, sym, refl, subst, inl, inr, eqb}
use Rattle.std.specs.Prelude.{◌⊎◌}
use Rattle.std.proofs.lemmas.Bool.{eq-eqb, eqb-true}
use Rattle.role_order.specs.Roles.{has_role, with_role}
use Rattle.role_order.specs.Graph.{Leads}
use Rattle.role_order.proofs.SetLemmas.{has_role-with_role}
use Rattle.list_words.proofs.TestLemmas.{or_cases, or_right}
use Rattle.arbac_policy.specs.Truth.{IsMember}

pub member_by : (edges : List (ℕ × ℕ)) (set : List ℕ) (role other : ℕ) → Leads edges role other → IsMember edges (with_role set role) other
member_by edges set role other led = (role, has_role-with_role set role role ∙ rw (eq-eqb role role refl) refl, led)

pub member_more : (edges : List (ℕ × ℕ)) (set : List ℕ) (role other : ℕ) → IsMember edges set other → IsMember edges (with_role set role) other
member_more edges set role other member =
    (member.0, has_role-with_role set role member.0 ∙ or_right (eqb role member.0) (has_role set member.0) member.1, member.2)

pub member_split : (edges : List (ℕ × ℕ)) (set : List ℕ) (role other : ℕ) → (Leads edges role other → ⊥)
    → IsMember edges (with_role set role) other
    → IsMember edges set other
member_split edges set role other none member =
    by_case (or_cases (eqb role member.0) (has_role set member.0) (sym (has_role-with_role set role member.0) ∙ member.1))
  where
    by_case : (eqb role member.0 ≡ true) ⊎ (has_role set member.0 ≡ true) → IsMember edges set other
    by_case (inl e) = let same : role ≡ member.0 = eqb-true role member.0 e in absurd (none (subst (λ r. Leads edges r other) (sym same) member.2))
    by_case (inr h) = (member.0, h, member.2)
