use Rattle.std.proofs.Common.{◌≡◌, ◌<◌, ◌/◌, ◌^◌, arith}
use Rattle.std.proofs.lemmas.Bool.Decides.{nat_tests}
use Rattle.role_order.specs.declared.TheConstants.{MASK_BITS}
use Rattle.role_order.proofs.MaskLemmas.{has_bit_above, none_left, next_of_left}
use Rattle.role_order.proofs.mask.next_bit.Goals as goal

-- a mask has no bit there
pub returns-then-from-ge-MASK_BITS-clause-none : goal.returns-then-from-ge-MASK_BITS-clause-none
returns-then-from-ge-MASK_BITS-clause-none c = λ k l. has_bit_above c.args.mask MASK_BITS k c.ranges.mask.fits (omega arith)

-- nothing is left behind the place
pub returns-then-left-eq0-clause-none : goal.returns-then-left-eq0-clause-none
returns-then-left-eq0-clause-none c =
    let none : c.args.mask / 2 ^ c.args.from ≡ 0 = grind (arith, nat_tests) in
    none_left c.args.mask c.args.from none

-- the lowest bit of what is left is the next one
pub returns-clause-found : goal.returns-clause-found
returns-clause-found c =
    let more : 0 < c.args.mask / 2 ^ c.args.from = grind (arith, nat_tests) in
    next_of_left c.args.mask c.args.from c.ranges.mask.fits more
