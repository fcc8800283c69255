-- The roles that a strong revocation reaches.
use Rattle.std.proofs.Common.{ℕ, ◌≡◌, ◌<◌, ◌∙◌, true, List, length, sym, subst, inl, inr, eqb}
use Rattle.std.specs.Prelude.{◌⊎◌, filter}
use Rattle.std.proofs.lemmas.Bool.{eqb-true}
use Rattle.role_order.specs.Roles.{has_role, IsIn}
use Rattle.role_order.specs.Graph.{Graph, AreEdges}
use Rattle.role_order.proofs.SetLemmas.{has_role-with_role, has_role-filter}
use Rattle.list_words.proofs.TestLemmas.{or_cases, and_both}
use Rattle.role_order.proofs.ReachLemmas.{in_seniors, in_juniors, leads_from_below, leads_to_below}
use Rattle.arbac_policy.specs.Truth.{Holder}
use Rattle.arbac_policy.specs.declared.holder.On.TheVariants.{User, Permission}
use Rattle.arbac_policy.specs.Holders.{reach_of, falling}

pub reach_below : (holder : Holder) (order : Graph) (role : ℕ) → AreEdges (length order.names) order.edges → role < length order.names
    → (q : ℕ) → IsIn (reach_of holder order role) q → q < length order.names
reach_below User order role ends l q h = by_end (leads_from_below ((in_seniors order role ends q).0 h) (length order.names) ends)
  where
    by_end : (q ≡ role) ⊎ (q < length order.names) → q < length order.names
    by_end (inl e) = subst (λ r. r < length order.names) (sym e) l
    by_end (inr k) = k
reach_below Permission order role ends l q h = by_end (leads_to_below ((in_juniors order role ends q).0 h) (length order.names) ends)
  where
    by_end : (role ≡ q) ⊎ (q < length order.names) → q < length order.names
    by_end (inl e) = subst (λ r. r < length order.names) e l
    by_end (inr k) = k

pub falling_below : (holder : Holder) (order : Graph) (set : List ℕ) (role : ℕ) → AreEdges (length order.names) order.edges → role < length order.names
    → (q : ℕ) → IsIn (falling holder order set role) q → q < length order.names
falling_below holder order set role ends l q h =
    by_case (or_cases (eqb role q) (has_role (filter (has_role (reach_of holder order role)) set) q)
    (sym (has_role-with_role (filter (has_role (reach_of holder order role)) set) role q) ∙ h))
  where
    by_case : (eqb role q ≡ true) ⊎ (has_role (filter (has_role (reach_of holder order role)) set) q ≡ true) → q < length order.names
    by_case (inl e) = subst (λ r. r < length order.names) (eqb-true role q e) l
    by_case (inr k) =
        reach_below holder order role ends l q
        (and_both (has_role set q) (has_role (reach_of holder order role) q) (sym (has_role-filter (has_role (reach_of holder order role)) set q) ∙ k)).1
