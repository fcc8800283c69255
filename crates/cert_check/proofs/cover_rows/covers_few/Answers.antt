use Rattle.std.proofs.Common.{◌≡◌, ◌<◌, ◌≤◌, ◌∙◌, false, true, length, arith, Some}
use Rattle.std.specs.Prelude.{slice_get}
use Rattle.list_words.proofs.GetLemmas.{length_set}
use Rattle.mask_match.specs.declared.TheConstants.{MOST_PLACES}
use Rattle.cert_needs.proofs.CoverLemmas.{too_many}
use Rattle.cert_check.specs.CoverRows.{AreRows}
use Rattle.cert_check.proofs.BookLemmas.{item_there}
use Rattle.cert_check.proofs.RowLemmas.{rows_more, rows_of_all, none_covered, placed_cover}
use Rattle.cert_check.proofs.cover_rows.covers_few.Goals as goal

-- more users cover no fewer others
pub returns-then-users-others : goal.returns-then-users-others
returns-then-users-others c = (
  λ passes. absurd (let never : false ≡ true = passes in cc),
  λ both. absurd (too_many c.args.users.now c.args.others.now c.if-users-others.true both.1),
)

-- a user who covers nobody is enough
pub returns-then-row-eq0 : goal.returns-then-row-eq0
returns-then-row-eq0 c =
    let users = c.args.users.now in
    let user = c.index-users-at.result in
    let at = c.loop-at.at in
    let here : slice_get users at ≡ Some user = item_there users at user c.loop-at-test.true c.index-users-at.is in (
      λ passes. absurd (let never : false ≡ true = passes in cc),
      λ both. absurd (none_covered users c.args.others.now at c.row_of-row.result user here c.row_of-row.ensures c.if-row-eq0.true both.1),
    )

-- one row more
pub loop-at-preserved : goal.loop-at-preserved
loop-at-preserved c =
    let users = c.args.users.now in
    let user = c.index-users-at.result in
    let at = c.loop-at.at in
    let rows = c.loop-at.rows in
    let long = c.loop-at.invariant.0 in
    let here : slice_get users at ≡ Some user = item_there users at user c.loop-at-test.true c.index-users-at.is in
    let room : at < length rows = omega (arith, long, c.loop-at-test.true, c.if-users-others.false, c.if-others-gt-MOST_PLACES.false) in (
      length_set rows at c.row_of-row.result ∙ long,
      rows_more users c.args.others.now rows at c.row_of-row.result user room here c.loop-at.invariant.1
          c.row_of-row.ensures,
    )

-- all rows are there, and the places decide
pub returns : goal.returns
returns c =
    let users = c.args.users.now in
    let others = c.args.others.now in
    let rows = c.loop-at.rows in
    let long = c.loop-at.invariant.0 in
    let few : length others ≤ MOST_PLACES = c.if-others-gt-MOST_PLACES.false in
    let room : length users ≤ length rows = omega (arith, long, c.if-users-others.false, c.if-others-gt-MOST_PLACES.false) in
    let are : AreRows users others rows (length users) = rows_of_all users others rows c.loop-at.at c.loop-at-test.false c.loop-at.invariant.1 in
    let same = placed_cover users others rows few room are in
    (λ passes. (few, same.0 (c.all_placed.ensures.0 passes)), λ both. c.all_placed.ensures.1 (same.1 both.1))
