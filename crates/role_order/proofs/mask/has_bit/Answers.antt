use Rattle.std.proofs.Common.{◌≡◌, ◌≤◌, ltb, false, sym, ◌∙◌, arith}
use Rattle.std.proofs.lemmas.Bool.Decides.{nat_tests}
use Rattle.role_order.specs.declared.TheConstants.{MASK_BITS}
use Rattle.role_order.proofs.MaskLemmas.{tested_bit, has_bit_above}
use Rattle.role_order.proofs.mask.has_bit.Goals as goal

-- the test by `&` is that of the bit
pub returns-then-place-lt-MASK_BITS : goal.returns-then-place-lt-MASK_BITS
returns-then-place-lt-MASK_BITS c = rw c.bit.ensures (tested_bit c.args.mask c.args.place)

-- a mask has no bit there
pub returns-else-place-lt-MASK_BITS : goal.returns-else-place-lt-MASK_BITS
returns-else-place-lt-MASK_BITS c =
    let past : MASK_BITS ≤ c.args.place = grind (arith, nat_tests) in
    let no : ltb c.args.place MASK_BITS ≡ false = grind (arith, nat_tests) in
    no ∙ sym (has_bit_above c.args.mask MASK_BITS c.args.place c.ranges.mask.fits past)
