use Rattle.std.proofs.Common.{sym, ◌∙◌, ap}
use Rattle.std.specs.Prelude.{bit_and}
use Rattle.std.specs.Int.Bits.{and_self}
use Rattle.std.proofs.lemmas.Nat.{and_assoc, and_comm}
use Rattle.mark_bag.proofs.tests.BitsMark.common.Goals as goal

pub returns-clause-one : goal.returns-clause-one
returns-clause-one c =
    let a = c.args.self.now.0 in
    let b = c.args.other.now.0 in
    and_comm (bit_and a b) a ∙ sym (and_assoc b a a) ∙ ap (λ x. bit_and x b) (and_self a)

pub returns-clause-other : goal.returns-clause-other
returns-clause-other c =
    let a = c.args.self.now.0 in
    let b = c.args.other.now.0 in
    and_assoc b a b ∙ ap (λ x. bit_and a x) (and_self b)
