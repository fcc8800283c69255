use Rattle.std.proofs.lemmas.Nat.{one_shl}
use Rattle.role_order.specs.declared.TheConstants.{MASK_BITS}
use Rattle.role_order.proofs.mask.bit.Goals as goal

pub returns : goal.returns
returns c = one_shl c.args.place MASK_BITS c.requires
