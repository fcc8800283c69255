use Rattle.std.proofs.Common.{◌≡◌, List, length, Some, sym, subst}
use Rattle.list_words.specs.Lists.{IsOneOf}
use Rattle.role_order.specs.Graph.{AreEdges}
use Rattle.arbac_policy.specs.Rules.{IsPolicy}
use Rattle.arbac_laws.specs.Barriers as laws
use Rattle.arbac_laws.specs.Closed.{IsUnmet}
use Rattle.arbac_laws.specs.Needs.{IsCovered, Need}
use Rattle.arbac_laws.specs.Obligations.{Obligation, obligations, pre_image}
use Rattle.arbac_laws.proofs.BarrierLemmas.{barriers_closed, barriers_unmet}
use Rattle.arbac_laws.proofs.ConjunctLemmas.{are_seniors}
use Rattle.rule_prune.proofs.outside.barriers.Goals as goal

-- the list is that of the laws, which is closed
pub returns-clause-closed : goal.returns-clause-closed
returns-clause-closed c =
    let prepared = c.args.prepared.now in
    let set = c.ceiling-set.result in
    let is : c.in_ok-list.list.items ≡ laws.barriers (length prepared.order.names) set =
    rw (c.outside.ensures, c.order-order.ensures.order, c.policy.ensures) at c.in_ok-list.ensures in
    let ends : AreEdges (length prepared.order.names) prepared.order.edges = rw (c.order-order.ensures.order, c.policy.ensures) at c.is_order.ensures.ends in
    let known : IsPolicy prepared = rw c.policy.ensures at c.order-order.ensures.known in
    subst (λ (list : List (List Need)). (needs : List Need) → IsOneOf list needs → (ob : Obligation) → IsOneOf (obligations prepared needs) ob
    → (before : List Need) → pre_image prepared needs ob ≡ Some before → IsCovered list before) (sym is)
    (barriers_closed prepared (are_seniors prepared.order ends) ends known c.args.profiles.now set c.ceiling-set.ensures.gains)

-- and unmet
pub returns-clause-unmet : goal.returns-clause-unmet
returns-clause-unmet c =
    let prepared = c.args.prepared.now in
    let set = c.ceiling-set.result in
    let is : c.in_ok-list.list.items ≡ laws.barriers (length prepared.order.names) set =
    rw (c.outside.ensures, c.order-order.ensures.order, c.policy.ensures) at c.in_ok-list.ensures in
    subst (λ (list : List (List Need)). (needs : List Need) → IsOneOf list needs → IsUnmet c.args.profiles.now needs) (sym is)
    (barriers_unmet prepared c.args.profiles.now set c.ceiling-set.ensures.gains)
