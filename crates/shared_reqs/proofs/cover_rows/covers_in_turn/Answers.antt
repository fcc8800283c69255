use Rattle.std.proofs.Common.{◌≡◌, ◌∙◌, arith, false, refl, sym, true, Some}
use Rattle.std.specs.Prelude.{slice_get}
use Rattle.list_words.proofs.GetLemmas.{get_below}
use Rattle.shared_reqs.specs.Shared.{needs_shared}
use Rattle.shared_reqs.proofs.RowLemmas.{item_there, need_read, needs_long, none_placed, one_placed, placed_all, one_alone}
use Rattle.shared_reqs.proofs.cover_rows.covers_in_turn.Goals as goal

-- nobody is placed yet
pub loop-user-init : goal.loop-user-init
loop-user-init c = none_placed (needs_shared c.args.users.now) (needs_shared c.args.others.now) 0

-- the place is one of the others
pub bit-taken-requires : goal.bit-taken-requires
bit-taken-requires c =
    let there = c.in-Some.ensures.1 in
    let less = get_below (needs_shared c.args.others.now) c.in-Some.place there.0 there.1 in
    let long = needs_long c.args.others.now in
    omega (arith, less, long, c.requires)

-- someone covers nobody
pub returns-in-None : goal.returns-in-None
returns-in-None c =
    let users = c.args.users.now in
    let at = c.loop-user.user-index in
    let user = c.user-in-None.result.now in
    let here : slice_get (needs_shared users) at ≡ Some user =
    need_read users at c.user-item.result c.deref-in-None.result.now user
    (item_there users at c.user-item.result c.loop-user-test.true c.user-item.is) c.deref-in-None.ensures c.user-in-None.ensures.need in (
      λ passes. absurd (let never : false ≡ true = passes in cc),
      λ covers. absurd (one_alone (needs_shared users) (needs_shared c.args.others.now) at user here
          (λ some. let never : false ≡ true = sym c.if-covers_one.false ∙ c.covers_one.ensures.1 some in cc) covers),
    )

-- one more is placed
pub loop-user-preserved : goal.loop-user-preserved
loop-user-preserved c =
    let users = c.args.users.now in
    let at = c.loop-user.user-index in
    let user = c.user.result.now in
    let here : slice_get (needs_shared users) at ≡ Some user =
    need_read users at c.user-item.result c.deref.result.now user
    (item_there users at c.user-item.result c.loop-user-test.true c.user-item.is) c.deref.ensures c.user.ensures.need in
    rw c.bit-taken.ensures
    (one_placed (needs_shared users) (needs_shared c.args.others.now) at c.loop-user.taken c.in-Some.place user here c.in-Some.ensures.0
    c.in-Some.ensures.1 c.loop-user.invariant)

-- all are placed
pub returns : goal.returns
returns c =
    let users = c.args.users.now in
    let long = needs_long users in (
      λ _. placed_all (needs_shared users) (needs_shared c.args.others.now) c.loop-user.user-index c.loop-user.taken
          (omega (arith, long, c.loop-user-test.false)) c.loop-user.invariant,
      λ covers. refl,
    )
