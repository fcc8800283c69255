use Rattle.std.proofs.Common.{ℕ, ◌≡◌, ◌∙◌, List, false, get_or, refl, sym, ap, subst}
use Rattle.std.specs.Prelude.{filter}
use Rattle.role_order.specs.Graph.{Graph}
use Rattle.role_order.specs.Roles.{has_role}
use Rattle.role_order.specs.Reach.{seniors_of}
use Rattle.arbac_policy.specs.declared.rule.CanRevoke.{CanRevoke}
use Rattle.arbac_policy.specs.Rules.{Rules}
use Rattle.arbac_laws.specs.Obligations.{flat, roles_in}
use Rattle.search_rounds.specs.Keeping.{Gathers}
use Rattle.search_rounds.specs.Making.{takes, by_role}
use Rattle.search_rounds.specs.Listing.{parent_needs}
use Rattle.search_rounds.proofs.KeepingLemmas.{gathers_none}
use Rattle.search_rounds.proofs.ListingLemmas.{item_same}
use Rattle.search_rounds.proofs.UsefulLemmas.{revoke_gathered}
use Rattle.search_rounds.proofs.making.gather_revoke.Goals as goal

-- no role of the range is of use
pub returns-then-is_empty : goal.returns-then-is_empty
returns-then-is_empty c = λ rule at.
    let work = c.args.work.now in
    let rules = work.prepared.now in
    let none : CanRevoke = record { admin = 0; range = record { low = 0; high = 0; low_open = false; high_open = false } } in
    let one : CanRevoke = get_or c.revoke.result.now c.args.place none in
    let taken = work.useful.taken in
    let same : one ≡ rule = item_same rules.revoke c.revoke.result.now c.args.place rule one none
    (c.revoke.ensures ∙ ap (λ (r : Rules). r.revoke) c.policy-policy.ensures) at refl in
    let order_is : c.order-order.result.now ≡ rules.order = c.order-order.ensures.order ∙ ap (λ (r : Rules). r.order) c.policy-policy.ensures in
    revoke_gathered c.args.gathering.now c.args.gathering.now rules work.parent.number (parent_needs work) c.args.place one rule
    (seniors_of rules.order one.admin) taken c.useful_in-roles.result same refl c.requires.work.useful.taken
    (c.useful_in-roles.ensures.roles ∙ ap (λ (g : Graph). filter (has_role taken) (roles_in g one.range)) order_is)
    (subst (λ (l : List ℕ). Gathers c.args.gathering.now c.args.gathering.now
    (flat (by_role rules work.parent.number (takes c.args.place) (seniors_of rules.order one.admin) (parent_needs work)) l))
    (sym (c.is_empty.ensures.0 c.if-is_empty.true)) (gathers_none c.args.gathering.now))

-- the acts are those of the rule at the place
pub returns : goal.returns
returns c = λ rule at.
    let work = c.args.work.now in
    let rules = work.prepared.now in
    let none : CanRevoke = record { admin = 0; range = record { low = 0; high = 0; low_open = false; high_open = false } } in
    let one : CanRevoke = get_or c.revoke.result.now c.args.place none in
    let taken = work.useful.taken in
    let same : one ≡ rule = item_same rules.revoke c.revoke.result.now c.args.place rule one none
    (c.revoke.ensures ∙ ap (λ (r : Rules). r.revoke) c.policy-policy.ensures) at refl in
    let order_is : c.order-order.result.now ≡ rules.order = c.order-order.ensures.order ∙ ap (λ (r : Rules). r.order) c.policy-policy.ensures in
    revoke_gathered c.args.gathering.now c.gather_roles.new.gathering rules work.parent.number (parent_needs work) c.args.place one rule
    c.seniors.result taken c.useful_in-roles.result same
    (c.seniors.ensures.seniors ∙ ap (λ (g : Graph). seniors_of g one.admin) order_is) c.requires.work.useful.taken
    (c.useful_in-roles.ensures.roles ∙ ap (λ (g : Graph). filter (has_role taken) (roles_in g one.range)) order_is)
    c.in_ok-gather_roles.ensures
