use Rattle.std.proofs.Common.{◌≡◌, ◌≤◌, ◌∙◌, ap, sym, length, arith, Some}
use Rattle.std.specs.Prelude.{slice_get}
use Rattle.mask_match.specs.declared.TheConstants.{MOST_PLACES}
use Rattle.need_marks.specs.Marks.{AreUserMarks}
use Rattle.need_marks.proofs.MarkLemmas.{covering_fits}
use Rattle.shared_reqs.specs.Shared.{AreOwnMarks, needs_marked}
use Rattle.shared_reqs.specs.Indexes.{Indexed}
use Rattle.shared_reqs.proofs.RowLemmas.{needs_long}
use Rattle.shared_reqs.proofs.IndexLemmas.{members_of, found_tells}
use Rattle.shared_reqs.proofs.index.Index.is_covered_by.Goals as goal

-- the mark of a member that covers fits the query
pub find-requires : goal.find-requires
find-requires c = λ item mark mark_at accepted.
    let raw = needs_marked c.args.req.now in
    let order = c.self.inside.order.now in
    let same : order ≡ c.args.self.now.order = ap (λ (i : Indexed). i.order) c.self.view_is in
    let own : AreOwnMarks order c.args.req.now = rw same c.requires in
    let marked : AreUserMarks order raw c.deref-2.result.now = rw c.deref-2.ensures.value (c.in_ok-marks.ensures.own order own) in
    let at : slice_get (members_of c.self.inside.members.items) item ≡ Some accepted.1.needs = rw c.deref.ensures.value at accepted.1.at in
    covering_fits order accepted.1.needs raw mark c.of.result accepted.1.covers (c.self.invariant.each item accepted.1.needs mark at mark_at)
    (c.of.ensures order raw marked)

-- whether one was found is the answer
pub returns : goal.returns
returns c =
    let raw = needs_marked c.args.req.now in
    let users = c.users.result.now in
    let members = members_of c.deref.result.now in
    let seen : members ≡ c.args.self.now.members = ap members_of c.deref.ensures.value ∙ ap (λ (i : Indexed). i.members) c.self.view_is in
    let long : length c.self.inside.marks ≡ length members = c.self.invariant.long ∙ ap length (sym (ap members_of c.deref.ensures.value)) in
    let same : length raw ≡ length users = ap (λ u. length (needs_marked u)) (sym c.users.ensures.users) ∙ needs_long users in
    let few : length raw ≤ MOST_PLACES = omega (arith, same, c.if-users-gt-MOST_PLACES.false) in
    rw (sym seen) (found_tells members raw c.args.end (length c.self.inside.marks) c.find.result c.is_some.result c.is_some.ensures few long
    c.find.ensures.found c.find.ensures.none)
