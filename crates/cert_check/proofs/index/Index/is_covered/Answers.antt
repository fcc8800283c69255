use Rattle.std.proofs.Common.{◌≡◌, ◌≤◌, ◌∙◌, ap, sym, map, length, arith, List, Bor, Some}
use Rattle.std.specs.Prelude.{slice_get}
use Rattle.std.proofs.lemmas.List.{length-map}
use Rattle.arbac_policy.specs.declared.conjunct.Conjunct.{Conjunct}
use Rattle.arbac_laws.specs.Views.{needs_of}
use Rattle.mask_match.specs.declared.TheConstants.{MOST_PLACES}
use Rattle.cert_needs.specs.Wanted.{need_wanted, needs_wanted}
use Rattle.need_marks.specs.Marks.{AreUserMarks}
use Rattle.need_marks.proofs.MarkLemmas.{covering_fits}
use Rattle.cert_check.specs.Indexes.{Indexed}
use Rattle.cert_check.proofs.IndexLemmas.{first_tells, found_tells}
use Rattle.cert_check.proofs.index.Index.is_covered.Goals as goal

pub returns-then-raw-gt-MOST_PLACES : goal.returns-then-raw-gt-MOST_PLACES
returns-then-raw-gt-MOST_PLACES c =
    first_tells c.args.self.now.members (needs_wanted c.args.raw.now) c.in_ok-found.found c.is_some.result c.is_some.ensures
    c.in_ok-found.ensures.first c.in_ok-found.ensures.none

-- the mark of a member that covers fits the query
pub find-requires : goal.find-requires
find-requires c = λ item mark mark_at accepted.
    let view = λ (users : Bor (List Conjunct)). needs_of users.now in
    let raw = needs_wanted c.args.raw.now in
    let order = c.self.inside.order.now in
    let same : order ≡ c.args.self.now.order = ap (λ (i : Indexed). i.order) c.self.view_is in
    let marked : AreUserMarks order raw c.args.marks.now = rw same c.requires in
    let at : slice_get (map view c.self.inside.members.items) item ≡ Some accepted.needs = rw c.deref.ensures.value at accepted.at in
    covering_fits order accepted.needs raw mark c.of.result accepted.covers (c.self.invariant.each item accepted.needs mark at mark_at)
    (c.of.ensures order raw marked)

-- whether one was found is the answer
pub returns : goal.returns
returns c =
    let view = λ (users : Bor (List Conjunct)). needs_of users.now in
    let seen : map view c.deref.result.now ≡ c.args.self.now.members = ap (map view) c.deref.ensures.value ∙ ap (λ (i : Indexed). i.members) c.self.view_is in
    let inside : map view c.deref.result.now ≡ map view c.self.inside.members.items = ap (map view) c.deref.ensures.value in
    let long : length c.self.inside.marks ≡ length (map view c.deref.result.now) = c.self.invariant.long ∙ ap length (sym inside) in
    let users = length-map c.args.raw.now need_wanted in
    let few : length (needs_wanted c.args.raw.now) ≤ MOST_PLACES = omega (arith, users, c.if-raw-gt-MOST_PLACES.false) in
    rw (sym seen) (found_tells (map view c.deref.result.now) (needs_wanted c.args.raw.now) (length c.self.inside.marks) c.find.result c.is_some-2.result
    c.is_some-2.ensures few long c.find.ensures.found c.find.ensures.none)
