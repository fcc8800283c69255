use Rattle.std.proofs.Common.{◌≡◌, ◌-◌, ◌∙◌, Bor, Global, Some, ap, arith, subst, sym}
use Rattle.std.specs.Prelude.{slice_get}
use Rattle.std.specs.declared.sync.Arc.{Arc}
use Rattle.list_words.proofs.GetLemmas.{get_at, get_map}
use Rattle.shared_reqs.specs.Shared.{MarkedNeed, marked_by, marked_of}
use Rattle.shared_reqs.proofs.SortedLemmas.{AreSortedFrom, sorted_more, sorted_normal}
use Rattle.shared_reqs.proofs.shared.sorted.Goals as goal

-- one user more, before the others
pub loop-at-preserved : goal.loop-at-preserved
loop-at-preserved c =
    let users = c.args.users.now in
    let at = c.loop-at.at - 1 in
    let one = c.index-users-at.result in
    let here : slice_get users at ≡ Some one =
    get_at users at one (omega (arith, c.loop-at.auto.at, c.loop-at-test.true)) ∙ ap Some (sym c.index-users-at.is) in
    let view = λ (u : Bor (Arc MarkedNeed Global)). u.now.value in
    sorted_more (marked_by users) at c.loop-at.at one.now.value (marked_of c.loop-at.list.items) (marked_of c.insert.new.users.items)
    (omega (arith, c.loop-at-test.true)) (get_map view users at one here) c.in_ok-insert.ensures.normal c.in_ok-insert.ensures.inserted
    c.loop-at.invariant

-- in the end all users are sorted
pub invariant_of-result : goal.invariant_of-result
invariant_of-result c =
    let none : c.loop-at.at ≡ 0 = omega (arith, c.loop-at-test.false) in
    sorted_normal (marked_by c.args.users.now) (marked_of c.loop-at.list.items)
    (subst (λ n. AreSortedFrom (marked_by c.args.users.now) n (marked_of c.loop-at.list.items)) none c.loop-at.invariant)
