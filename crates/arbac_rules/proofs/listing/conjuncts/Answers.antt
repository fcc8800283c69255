use Rattle.std.proofs.Common.{◌∙◌, sym, arith}
use Rattle.arbac_policy.specs.Truth.{term_of}
use Rattle.arbac_rules.proofs.WidthLemmas.{width_law}
use Rattle.arbac_rules.proofs.listing.conjuncts.Goals as goal

pub returns-then-count-clause-wide : goal.returns-then-count-clause-wide
returns-then-count-clause-wide c =
    let law = width_law c.args.order.now (term_of c.args.cond.now) in
    (c.width_of-count.ensures ∙ sym law, omega (c.if-count.true, c.width_of-count.ensures, law, arith))

pub returns-in-Ok-clause-few : goal.returns-in-Ok-clause-few
returns-in-Ok-clause-few c = omega (c.if-count.false, c.width_of-count.ensures, width_law c.args.order.now (term_of c.args.cond.now), arith)
