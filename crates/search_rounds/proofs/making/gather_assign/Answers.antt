use Rattle.std.proofs.Common.{◌≡◌, ◌∙◌, sym, ap, subst}
use Rattle.std.specs.Prelude.{filter}
use Rattle.list_words.proofs.GetLemmas.{same_some}
use Rattle.role_order.specs.Graph.{Graph}
use Rattle.role_order.specs.Roles.{has_role}
use Rattle.arbac_policy.specs.declared.rule.CanAssign.{CanAssign}
use Rattle.arbac_policy.specs.Rules.{Rules}
use Rattle.arbac_laws.specs.Obligations.{roles_in}
use Rattle.arbac_laws.specs.Views.{needs_of}
use Rattle.req_pre.specs.Preparing.{conjuncts_of}
use Rattle.search_rounds.specs.Keeping.{Gathers}
use Rattle.search_rounds.specs.Listing.{parent_needs}
use Rattle.search_rounds.proofs.KeepingLemmas.{gathers_none}
use Rattle.search_rounds.proofs.ListingLemmas.{item_same}
use Rattle.search_rounds.proofs.UsefulLemmas.{assign_idle, assign_gathered}
use Rattle.search_rounds.proofs.making.gather_assign.Goals as goal

-- no role of the range is of use
pub returns-then-is_empty : goal.returns-then-is_empty
returns-then-is_empty c = λ rule at.
    let work = c.args.work.now in
    let rules = work.prepared.now in
    let one = c.index-assign-place.result in
    let given = work.useful.given in
    let same : one ≡ rule = item_same rules.assign c.assign.result.now c.args.place rule one one
    (c.assign.ensures ∙ ap (λ (r : Rules). r.assign) c.policy-policy.ensures) at c.index-assign-place.is in
    let roles_are = c.useful_in-roles.ensures.roles
    ∙ ap (λ (g : Graph). filter (has_role given) (roles_in g one.range)) (c.order.ensures.order ∙ ap (λ (r : Rules). r.order) c.policy-policy.ensures)
    ∙ ap (λ (r : CanAssign). filter (has_role given) (roles_in rules.order r.range)) same in
    subst (Gathers c.args.gathering.now c.args.gathering.now)
    (sym (assign_idle rules work.parent.number (parent_needs work) c.args.place rule given c.useful_in-roles.result c.requires.work.useful.given roles_are
    (c.is_empty.ensures.0 c.if-is_empty.true)))
    (gathers_none c.args.gathering.now)

-- by each conjunct of the rule's condition
pub returns-in_ok-gather_conjuncts : goal.returns-in_ok-gather_conjuncts
returns-in_ok-gather_conjuncts c = λ rule at.
    let work = c.args.work.now in
    let rules = work.prepared.now in
    let one = c.index-assign-place.result in
    let given = work.useful.given in
    let kept = c.in-Some.ensures.list in
    let same : one ≡ rule = item_same rules.assign c.assign.result.now c.args.place rule one one
    (c.assign.ensures ∙ ap (λ (r : Rules). r.assign) c.policy-policy.ensures) at c.index-assign-place.is in
    let roles_are = c.useful_in-roles.ensures.roles
    ∙ ap (λ (g : Graph). filter (has_role given) (roles_in g one.range)) (c.order.ensures.order ∙ ap (λ (r : Rules). r.order) c.policy-policy.ensures)
    ∙ ap (λ (r : CanAssign). filter (has_role given) (roles_in rules.order r.range)) same in
    assign_gathered c.args.gathering.now c.gather_conjuncts.new.gathering rules work.parent.number (parent_needs work) c.args.place one rule given
    c.useful_in-roles.result (needs_of c.in-Some.conjuncts.now) same (kept.2 ∙ ap (conjuncts_of rules) (same_some kept.0 rule (sym kept.1 ∙ at)))
    c.requires.work.useful.given roles_are c.in_ok-gather_conjuncts.ensures
