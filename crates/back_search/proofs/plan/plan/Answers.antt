use Rattle.std.proofs.Common.{◌<◌, ◌∙◌, IsSome, ap, length, subst, sym}
use Rattle.std.proofs.Common.{ℕ, ◌≡◌, get_or}
use Rattle.role_order.specs.Graph.{Graph}
use Rattle.role_order.specs.Refusals.{IsOrder}
use Rattle.arbac_policy.specs.Rules.{Rules}
use Rattle.arbac_laws.specs.NormalForms.{pre_form}
use Rattle.arbac_laws.specs.Obligations.{act_of, target_of}
use Rattle.req_pre.specs.Answers.{HasAdmin}
use Rattle.req_pre.specs.Views.{owed_of}
use Rattle.shared_reqs.specs.Shared.{needs_marked}
use Rattle.search_rounds.specs.Views.{entries_of, entry_of, origin_of}
use Rattle.back_search.specs.Standing.{AreStanding}
use Rattle.back_search.proofs.PlanLemmas.{IsAt, begins, comes_nearer, ends_at, goes_back, left_of, names_parent, parent_has, parent_recorded, parent_there}
use Rattle.back_search.proofs.PlanLemmas.{stand_longer, stand_within, users_long}
use Rattle.back_search.proofs.plan.plan.Goals as goal

-- each user of the found requirement stands at its own place, and there is no act yet
pub loop-origin-init : goal.loop-origin-init
loop-origin-init c =
    let order = subst (λ (o : Graph). IsOrder o.names o.edges) (c.order.ensures.order ∙ ap (λ (p : Rules). p.order) c.policy.ensures) c.is_order.ensures in
    let long = users_long c.users.result.now c.deref.result.now c.args.entry.now.req.value c.users.ensures.users c.deref.ensures in
    rw c.new-acts.ensures.items (begins c.args.prepared.now order (entries_of c.args.recorded.now) (entry_of c.args.entry.now) c.requires
    c.in_ok-to.to.items (c.in_ok-to.ensures.long ∙ long)
    (subst (λ n. (user : ℕ) → user < n → get_or c.in_ok-to.to.items user 0 ≡ user) long c.in_ok-to.ensures.own))

-- a parent is recorded
pub bounds-recorded-parent : goal.bounds-recorded-parent
bounds-recorded-parent c =
    let at = names_parent c.args.prepared.now c.args.recorded.now (entry_of c.args.entry.now) c.loop-origin.origin c.in-Pre.parent c.in-Pre.ob
    c.loop-origin.to.items c.loop-origin.acts.items c.loop-origin.invariant c.in-Pre.is in
    parent_recorded c.args.prepared.now c.args.recorded.now (entry_of c.args.entry.now) c.in-Pre.parent (owed_of c.in-Pre.ob)
    c.loop-origin.to.items c.loop-origin.acts.items at

-- the obligation is one of the parent's
pub places_before-requires-clause-admin : goal.places_before-requires-clause-admin
places_before-requires-clause-admin c =
    let at = names_parent c.args.prepared.now c.args.recorded.now (entry_of c.args.entry.now) c.loop-origin.origin c.in-Pre.parent c.in-Pre.ob
    c.loop-origin.to.items c.loop-origin.acts.items c.loop-origin.invariant c.in-Pre.is in
    let there = parent_there c.args.prepared.now c.args.recorded.now (entry_of c.args.entry.now) c.in-Pre.parent (owed_of c.in-Pre.ob)
    c.loop-origin.to.items c.loop-origin.acts.items at c.index-recorded-parent.result c.index-recorded-parent.is in
    subst (λ req. HasAdmin (length (needs_marked req)) (owed_of c.in-Pre.ob)) (sym c.deref-in-Pre.ensures)
    (parent_has c.args.prepared.now (entries_of c.args.recorded.now) (entry_of c.args.entry.now) c.in-Pre.parent (owed_of c.in-Pre.ob)
    c.loop-origin.to.items c.loop-origin.acts.items at (entry_of c.index-recorded-parent.result) there).0

-- the entry is the normal form of the parent's pre-image
pub places_before-requires-clause-form : goal.places_before-requires-clause-form
places_before-requires-clause-form c =
    let at = names_parent c.args.prepared.now c.args.recorded.now (entry_of c.args.entry.now) c.loop-origin.origin c.in-Pre.parent c.in-Pre.ob
    c.loop-origin.to.items c.loop-origin.acts.items c.loop-origin.invariant c.in-Pre.is in
    let there = parent_there c.args.prepared.now c.args.recorded.now (entry_of c.args.entry.now) c.in-Pre.parent (owed_of c.in-Pre.ob)
    c.loop-origin.to.items c.loop-origin.acts.items at c.index-recorded-parent.result c.index-recorded-parent.is in
    subst (λ req. IsSome (pre_form c.args.prepared.now (needs_marked req) (owed_of c.in-Pre.ob))) (sym c.deref-in-Pre.ensures)
    (parent_has c.args.prepared.now (entries_of c.args.recorded.now) (entry_of c.args.entry.now) c.in-Pre.parent (owed_of c.in-Pre.ob)
    c.loop-origin.to.items c.loop-origin.acts.items at (entry_of c.index-recorded-parent.result) there).1

-- the users of a pre-image stand in the entry, each of whose users has its place
pub onward-requires : goal.onward-requires
onward-requires c =
    let at = names_parent c.args.prepared.now c.args.recorded.now (entry_of c.args.entry.now) c.loop-origin.origin c.in-Pre.parent c.in-Pre.ob
    c.loop-origin.to.items c.loop-origin.acts.items c.loop-origin.invariant c.in-Pre.is in
    let there = parent_there c.args.prepared.now c.args.recorded.now (entry_of c.args.entry.now) c.in-Pre.parent (owed_of c.in-Pre.ob)
    c.loop-origin.to.items c.loop-origin.acts.items at c.index-recorded-parent.result c.index-recorded-parent.is in
    let standing = subst (λ req. AreStanding c.args.prepared.now (needs_marked req) (owed_of c.in-Pre.ob) c.in_ok-places.places.items)
    c.deref-in-Pre.ensures c.in_ok-places.ensures in
    rw (c.deref-in-Pre-2.ensures.value, c.deref-in-Pre-3.ensures.value)
    (stand_within c.args.prepared.now (entries_of c.args.recorded.now) (entry_of c.args.entry.now) c.in-Pre.parent (owed_of c.in-Pre.ob)
    c.loop-origin.to.items c.loop-origin.acts.items at (entry_of c.index-recorded-parent.result) there
    c.in_ok-places.places.items standing)

-- the target is one of the users of the pre-image
pub act-requires-clause-target : goal.act-requires-clause-target
act-requires-clause-target c =
    let at = names_parent c.args.prepared.now c.args.recorded.now (entry_of c.args.entry.now) c.loop-origin.origin c.in-Pre.parent c.in-Pre.ob
    c.loop-origin.to.items c.loop-origin.acts.items c.loop-origin.invariant c.in-Pre.is in
    let there = parent_there c.args.prepared.now c.args.recorded.now (entry_of c.args.entry.now) c.in-Pre.parent (owed_of c.in-Pre.ob)
    c.loop-origin.to.items c.loop-origin.acts.items at c.index-recorded-parent.result c.index-recorded-parent.is in
    let standing = subst (λ req. AreStanding c.args.prepared.now (needs_marked req) (owed_of c.in-Pre.ob) c.in_ok-places.places.items)
    c.deref-in-Pre.ensures c.in_ok-places.ensures in
    let next = rw (c.deref-in-Pre-2.ensures.value, c.deref-in-Pre-3.ensures.value) at c.in_ok-to-2.ensures in
    subst (λ list. target_of (owed_of c.in-Pre.ob) < length list) (sym c.deref-in-Pre-5.ensures.value)
    (stand_longer c.args.prepared.now (entries_of c.args.recorded.now) (entry_of c.args.entry.now) c.in-Pre.parent (owed_of c.in-Pre.ob)
    c.loop-origin.to.items c.loop-origin.acts.items at (entry_of c.index-recorded-parent.result) there
    c.in_ok-places.places.items standing c.in_ok-to-2.to.items next).1

-- so is the administrator, a new one among them
pub act-requires-clause-admin : goal.act-requires-clause-admin
act-requires-clause-admin c =
    let at = names_parent c.args.prepared.now c.args.recorded.now (entry_of c.args.entry.now) c.loop-origin.origin c.in-Pre.parent c.in-Pre.ob
    c.loop-origin.to.items c.loop-origin.acts.items c.loop-origin.invariant c.in-Pre.is in
    let there = parent_there c.args.prepared.now c.args.recorded.now (entry_of c.args.entry.now) c.in-Pre.parent (owed_of c.in-Pre.ob)
    c.loop-origin.to.items c.loop-origin.acts.items at c.index-recorded-parent.result c.index-recorded-parent.is in
    let standing = subst (λ req. AreStanding c.args.prepared.now (needs_marked req) (owed_of c.in-Pre.ob) c.in_ok-places.places.items)
    c.deref-in-Pre.ensures c.in_ok-places.ensures in
    let next = rw (c.deref-in-Pre-2.ensures.value, c.deref-in-Pre-3.ensures.value) at c.in_ok-to-2.ensures in
    let count = users_long c.users-in-Pre.result.now c.deref-in-Pre-4.result.now c.index-recorded-parent.result.req.value
    c.users-in-Pre.ensures.users c.deref-in-Pre-4.ensures in
    rw (count, c.deref-in-Pre-5.ensures.value)
    (stand_longer c.args.prepared.now (entries_of c.args.recorded.now) (entry_of c.args.entry.now) c.in-Pre.parent (owed_of c.in-Pre.ob)
    c.loop-origin.to.items c.loop-origin.acts.items at (entry_of c.index-recorded-parent.result) there
    c.in_ok-places.places.items standing c.in_ok-to-2.to.items next).2

-- a parent stands before its children
pub loop-origin-smaller : goal.loop-origin-smaller
loop-origin-smaller c =
    let at = names_parent c.args.prepared.now c.args.recorded.now (entry_of c.args.entry.now) c.loop-origin.origin c.in-Pre.parent c.in-Pre.ob
    c.loop-origin.to.items c.loop-origin.acts.items c.loop-origin.invariant c.in-Pre.is in
    let there = parent_there c.args.prepared.now c.args.recorded.now (entry_of c.args.entry.now) c.in-Pre.parent (owed_of c.in-Pre.ob)
    c.loop-origin.to.items c.loop-origin.acts.items at c.index-recorded-parent.result c.index-recorded-parent.is in
    subst (λ o. left_of (origin_of c.index-recorded-parent.result.origin) < left_of (origin_of o)) (sym c.in-Pre.is)
    (comes_nearer c.args.prepared.now (entries_of c.args.recorded.now) (entry_of c.args.entry.now) c.in-Pre.parent (owed_of c.in-Pre.ob)
    c.loop-origin.to.items c.loop-origin.acts.items at (entry_of c.index-recorded-parent.result) there)

-- the act was added, and the parent's users stand where those of its pre-image do
pub loop-origin-preserved : goal.loop-origin-preserved
loop-origin-preserved c =
    let at = names_parent c.args.prepared.now c.args.recorded.now (entry_of c.args.entry.now) c.loop-origin.origin c.in-Pre.parent c.in-Pre.ob
    c.loop-origin.to.items c.loop-origin.acts.items c.loop-origin.invariant c.in-Pre.is in
    let there = parent_there c.args.prepared.now c.args.recorded.now (entry_of c.args.entry.now) c.in-Pre.parent (owed_of c.in-Pre.ob)
    c.loop-origin.to.items c.loop-origin.acts.items at c.index-recorded-parent.result c.index-recorded-parent.is in
    let standing = subst (λ req. AreStanding c.args.prepared.now (needs_marked req) (owed_of c.in-Pre.ob) c.in_ok-places.places.items)
    c.deref-in-Pre.ensures c.in_ok-places.ensures in
    let next = rw (c.deref-in-Pre-2.ensures.value, c.deref-in-Pre-3.ensures.value) at c.in_ok-to-2.ensures in
    let count = users_long c.users-in-Pre.result.now c.deref-in-Pre-4.result.now c.index-recorded-parent.result.req.value
    c.users-in-Pre.ensures.users c.deref-in-Pre-4.ensures in
    rw c.in_ok-push.ensures.items
    (goes_back c.args.prepared.now (entries_of c.args.recorded.now) (entry_of c.args.entry.now) c.in-Pre.parent (owed_of c.in-Pre.ob)
    c.loop-origin.to.items c.loop-origin.acts.items at (entry_of c.index-recorded-parent.result) there
    c.in_ok-places.places.items standing c.in_ok-to-2.to.items next c.act.result
    (c.act.ensures ∙ ap (λ n. act_of (owed_of c.in-Pre.ob) n (λ user. get_or c.deref-in-Pre-5.result.now user 0)) count
    ∙ ap (λ list. act_of (owed_of c.in-Pre.ob) (length (needs_marked c.index-recorded-parent.result.req.value)) (λ user. get_or list user 0))
    c.deref-in-Pre-5.ensures.value))

-- at a goal requirement the acts are the plan
pub returns : goal.returns
returns c =
    ends_at c.args.prepared.now (entries_of c.args.recorded.now) (entry_of c.args.entry.now) c.in_default.field-0
    c.loop-origin.to.items c.loop-origin.acts.items
    (subst (λ o. IsAt c.args.prepared.now (entries_of c.args.recorded.now) (entry_of c.args.entry.now) (origin_of o) c.loop-origin.to.items
    c.loop-origin.acts.items) c.in_default.is c.loop-origin.invariant)
