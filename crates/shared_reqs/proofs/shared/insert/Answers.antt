use Rattle.std.proofs.Common.{◌≡◌, ◌∙◌, ap, List, Global}
use Rattle.std.specs.declared.sync.Arc.{Arc}
use Rattle.req_core.specs.Forms.{IsSpot}
use Rattle.shared_reqs.specs.Shared.{MarkedNeed, marked_before, marked_of, shared_before}
use Rattle.shared_reqs.proofs.SortedLemmas.{copy_inserted}
use Rattle.shared_reqs.proofs.shared.insert.Goals as goal

-- a copy of the user is put in at its place
pub returns-clause-inserted : goal.returns-clause-inserted
returns-clause-inserted c =
    let users = c.args.users.now.items in
    let at = c.place_of-at.result in
    let spot : IsSpot shared_before c.args.user.now users at = rw c.deref-2.ensures.value at c.place_of-at.ensures in
    let copy = c.in_ok-clone.field-0 in
    let same : copy.value ≡ c.args.user.now.value = c.in_ok-clone.ensures.cases in
    ap (λ (l : List (Arc MarkedNeed Global)). marked_of l) c.in_ok-insert.ensures.items
    ∙ copy_inserted (λ (u : Arc MarkedNeed Global). u.value) marked_before c.args.user.now copy users at spot same
