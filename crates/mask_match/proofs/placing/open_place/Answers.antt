use Rattle.std.proofs.Common.{◌<◌, ◌≡◌, arith}
use Rattle.std.specs.Prelude.{bit_and}
use Rattle.std.proofs.lemmas.Bool.Decides.{nat_tests}
use Rattle.std.proofs.lemmas.Nat.{and_le_l}
use Rattle.mask_match.proofs.BitLemmas.{left_open, open_lowest, open_and, none_open}
use Rattle.mask_match.proofs.placing.open_place.Goals as goal

-- the lowest free one
pub returns-then-open-free-ne0-clause-found : goal.returns-then-open-free-ne0-clause-found
returns-then-open-free-ne0-clause-found c =
    let row = c.args.row in
    let seen = c.args.seen in
    let more : 0 < bit_and (left_open row seen) c.args.free = grind (arith, nat_tests) in
    open_lowest row seen (bit_and (left_open row seen) c.args.free) c.ranges.row.fits c.ranges.seen.fits (and_le_l (left_open row seen) c.args.free) more
    (open_and row seen c.args.free)

-- the lowest one
pub returns-then-open-ne0-clause-found : goal.returns-then-open-ne0-clause-found
returns-then-open-ne0-clause-found c =
    let row = c.args.row in
    let seen = c.args.seen in
    let more : 0 < left_open row seen = grind (arith, nat_tests) in
    open_lowest row seen (left_open row seen) c.ranges.row.fits c.ranges.seen.fits (omega arith) more (λ k e. e)

-- none is left
pub returns-clause-none : goal.returns-clause-none
returns-clause-none c =
    let none : left_open c.args.row c.args.seen ≡ 0 = grind (arith, nat_tests) in
    none_open c.args.row c.args.seen c.ranges.row.fits c.ranges.seen.fits none
