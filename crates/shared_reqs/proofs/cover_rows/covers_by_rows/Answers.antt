use Rattle.std.proofs.Common.{◌≡◌, ◌<◌, ◌≤◌, ◌∙◌, false, true, length, arith, Some}
use Rattle.std.specs.Prelude.{slice_get}
use Rattle.list_words.proofs.GetLemmas.{length_set}
use Rattle.mask_match.specs.declared.TheConstants.{MOST_PLACES}
use Rattle.shared_reqs.specs.Shared.{needs_shared}
use Rattle.shared_reqs.specs.CoverRows.{AreRows}
use Rattle.shared_reqs.proofs.RowLemmas.{item_there, need_read, needs_long, rows_more, rows_of_all, none_covered, placed_cover}
use Rattle.shared_reqs.proofs.cover_rows.covers_by_rows.Goals as goal

-- a user who covers nobody is enough
pub returns-then-row-eq0 : goal.returns-then-row-eq0
returns-then-row-eq0 c =
    let users = c.args.users.now in
    let others = needs_shared c.args.others.now in
    let at = c.loop-at.at in
    let user = c.user.result.now in
    let here : slice_get (needs_shared users) at ≡ Some user =
    need_read users at c.index-users-at.result c.deref.result.now user
    (item_there users at c.index-users-at.result c.loop-at-test.true c.index-users-at.is) c.deref.ensures c.user.ensures.need in (
      λ passes. absurd (let never : false ≡ true = passes in cc),
      λ covers. absurd (none_covered (needs_shared users) others at c.row_of-row.result user here c.row_of-row.ensures c.if-row-eq0.true covers),
    )

-- one row more
pub loop-at-preserved : goal.loop-at-preserved
loop-at-preserved c =
    let users = c.args.users.now in
    let others = c.args.others.now in
    let at = c.loop-at.at in
    let rows = c.loop-at.rows in
    let user = c.user.result.now in
    let long = c.loop-at.invariant.0 in
    let here : slice_get (needs_shared users) at ≡ Some user =
    need_read users at c.index-users-at.result c.deref.result.now user
    (item_there users at c.index-users-at.result c.loop-at-test.true c.index-users-at.is) c.deref.ensures c.user.ensures.need in
    let room : at < length rows = omega (arith, long, c.loop-at-test.true, c.requires.fit, c.requires.few) in (
      length_set rows at c.row_of-row.result ∙ long,
      rows_more (needs_shared users) (needs_shared others) rows at c.row_of-row.result user room here c.loop-at.invariant.1 c.row_of-row.ensures,
    )

-- all rows are there, and the places decide
pub returns : goal.returns
returns c =
    let users = c.args.users.now in
    let others = c.args.others.now in
    let rows = c.loop-at.rows in
    let long = c.loop-at.invariant.0 in
    let users_long = needs_long users in
    let others_long = needs_long others in
    let few : length (needs_shared others) ≤ MOST_PLACES = omega (arith, others_long, c.requires.few) in
    let room : length (needs_shared users) ≤ length rows = omega (arith, users_long, long, c.requires.fit, c.requires.few) in
    let are : AreRows (needs_shared users) (needs_shared others) rows (length (needs_shared users)) =
    rows_of_all (needs_shared users) (needs_shared others) rows c.loop-at.at (omega (arith, users_long, c.loop-at-test.false)) c.loop-at.invariant.1 in
    let same = placed_cover (needs_shared users) (needs_shared others) rows few room are in
    let placed = rw users_long at same in
    (λ passes. placed.0 (c.all_placed.ensures.0 passes), λ covers. c.all_placed.ensures.1 (placed.1 covers))
