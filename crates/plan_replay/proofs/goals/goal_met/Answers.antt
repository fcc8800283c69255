use Rattle.std.proofs.Common.{ℕ, List, length, map, sym, subst}
use Rattle.std.proofs.lemmas.List.{length-map}
use Rattle.std.proofs.lemmas.Option.{IfSome_then}
use Rattle.hall_match.proofs.JoinedLemmas.{none_then, none_embeds}
use Rattle.hall_match.specs.Joined.{IsTransversal, IsLeastTransversal, JoinsAt}
use Rattle.arbac_policy.specs.Truth.{term_of}
use Rattle.plan_replay.proofs.GoalLemmas.{MeetsOne, least_meets}
use Rattle.plan_replay.proofs.goals.goal_met.Goals as goal

-- the goal is one of the policy, whose order is read
pub invariant_of-meeting : goal.invariant_of-meeting
invariant_of-meeting c = record { known = rw (c.order.ensures.order) c.requires.known }

-- the least transversal is the least list of users who meet the goal
pub returns-clause-met : goal.returns-clause-met
returns-clause-met c =
    let edges = c.args.policy.now.order.edges in
    let goal = map term_of c.args.goal.now in
    let sets = c.args.population.now in
    IfSome_then c.in_ok-users.users c.in_ok-users.ensures.least (λ list h.
    let least : IsLeastTransversal (JoinsAt (MeetsOne edges) goal sets) (length c.args.goal.now) (length sets) list.items = rw (c.order.ensures.order) at h in
    least_meets edges goal sets list.items
    (subst (λ n. IsLeastTransversal (JoinsAt (MeetsOne edges) goal sets) n (length sets) list.items) (sym (length-map c.args.goal.now term_of)) least))

-- an injective map would be a transversal
pub returns-clause-unmet : goal.returns-clause-unmet
returns-clause-unmet c =
    let edges = c.args.policy.now.order.edges in
    let goal = map term_of c.args.goal.now in
    let sets = c.args.population.now in
    none_then c.in_ok-users.users c.in_ok-users.ensures.none (λ h.
    let none : (list : List ℕ) → ¬ IsTransversal (JoinsAt (MeetsOne edges) goal sets) (length c.args.goal.now) (length sets) list =
    rw (c.order.ensures.order) at h in
    none_embeds (MeetsOne edges) goal sets
    (subst (λ n. (list : List ℕ) → ¬ IsTransversal (JoinsAt (MeetsOne edges) goal sets) n (length sets) list)
    (sym (length-map c.args.goal.now term_of)) none))
