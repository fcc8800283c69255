use Rattle.std.proofs.Common.{◌≡◌, ◌∙◌, arith, refl, sym, Some, false, true}
use Rattle.std.specs.Prelude.{slice_get}
use Rattle.list_words.proofs.GetLemmas.{get_below, below_more}
use Rattle.list_words.proofs.EachLemmas.{some_at, some_none}
use Rattle.arbac_laws.specs.Needs.{Need, CoversNeed}
use Rattle.shared_reqs.specs.Shared.{needs_shared}
use Rattle.shared_reqs.proofs.RowLemmas.{item_there, need_read, needs_long}
use Rattle.shared_reqs.proofs.cover_rows.covers_one.Goals as goal

-- this one is covered
pub returns-then-covers_user : goal.returns-then-covers_user
returns-then-covers_user c =
    let others = c.args.others.now in
    let at = c.loop-other.other-index in
    let other = c.user.result.now in
    let here : slice_get (needs_shared others) at ≡ Some other =
    need_read others at c.other-item.result c.deref.result.now other
    (item_there others at c.other-item.result c.loop-other-test.true c.other-item.is) c.deref.ensures c.user.ensures.need in
    (λ _. some_at (CoversNeed c.args.user.now) (needs_shared others) at other here (c.covers_user.ensures.0 c.if-covers_user.true), λ _. refl)

-- one more isn't covered
pub loop-other-preserved : goal.loop-other-preserved
loop-other-preserved c =
    let user = c.args.user.now in
    let others = c.args.others.now in
    let at = c.loop-other.other-index in
    let other = c.user.result.now in
    let here : slice_get (needs_shared others) at ≡ Some other =
    need_read others at c.other-item.result c.deref.result.now other
    (item_there others at c.other-item.result c.loop-other-test.true c.other-item.is) c.deref.ensures c.user.ensures.need in
    below_more (λ (one : Need). ¬ CoversNeed user one) (needs_shared others) at other c.loop-other.invariant here
    (λ covers. let never : false ≡ true = sym c.if-covers_user.false ∙ c.covers_user.ensures.1 covers in cc)

-- none of all is covered
pub returns : goal.returns
returns c =
    let others = c.args.others.now in (
      λ passes. absurd (let never : false ≡ true = passes in cc),
      λ some. absurd (some_none (CoversNeed c.args.user.now) (needs_shared others) (λ k other at covers. c.loop-other.invariant k other
          (let less = get_below (needs_shared others) k other at in let long = needs_long others in omega (arith, less, long, c.loop-other-test.false))
          at covers) some),
    )
