use Rattle.std.proofs.Common.{◌≡◌, ◌∙◌, ap, sym, map, Some}
use Rattle.std.specs.Prelude.{slice_get}
use Rattle.req_pre.specs.Preparing.{conjuncts_of}
use Rattle.req_pre.specs.Views.{lists_of}
use Rattle.req_pre.proofs.PreparedLemmas.{list_there, looked_up}
use Rattle.arbac_laws.specs.Views.{needs_of}
use Rattle.req_pre.proofs.prepared.Prepared.conjuncts_at.Goals as goal

pub returns-in-Some-clause-list : goal.returns-in-Some-clause-list
returns-in-Some-clause-list c =
    let list = c.in-Some.list.now in
    let at : slice_get c.deref.result.now c.args.rule ≡ Some list = looked_up _ _ _ _ c.in-Some.ensures.lookup.0 c.in-Some.ensures.lookup.1 in
    let kept : lists_of c.deref.result.now ≡ map (conjuncts_of c.args.self.now) c.args.self.now.assign =
    rw (c.deref.ensures.value, sym c.self.view_is) c.self.invariant.0 in
    let found = list_there c.args.self.now c.deref.result.now c.args.rule list kept at in
    (found.0, found.1, ap needs_of c.as_slice.ensures.value ∙ found.2)
