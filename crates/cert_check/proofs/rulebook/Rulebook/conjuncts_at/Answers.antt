use Rattle.std.proofs.Common.{◌≡◌, ◌∙◌, ap, sym, map, Some}
use Rattle.std.specs.Prelude.{slice_get}
use Rattle.arbac_laws.specs.Views.{needs_of}
use Rattle.cert_check.specs.Rulebooks.{conjuncts_of, lists_of}
use Rattle.cert_check.proofs.BookLemmas.{list_there, looked_up}
use Rattle.cert_check.proofs.rulebook.Rulebook.conjuncts_at.Goals as goal

-- the list at the place is that of the rule there
pub returns-in-Some-clause-list : goal.returns-in-Some-clause-list
returns-in-Some-clause-list c =
    let list = c.in-Some.list.now in
    let at : slice_get c.deref.result.now c.args.rule ≡ Some list = looked_up _ _ _ _ c.in-Some.ensures.lookup.0 c.in-Some.ensures.lookup.1 in
    let kept : lists_of (λ l. l.items) c.deref.result.now ≡ map (conjuncts_of c.args.self.now) c.args.self.now.assign =
    rw (c.deref.ensures.value, sym c.self.view_is) c.self.invariant in
    let found = list_there c.args.self.now c.deref.result.now c.args.rule list kept at in
    (found.0, found.1, ap needs_of c.as_slice.ensures.value ∙ found.2)
