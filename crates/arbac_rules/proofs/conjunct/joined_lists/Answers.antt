use Rattle.std.proofs.Common.{◌∙◌, ap}
use Rattle.arbac_laws.specs.Conjuncts.{join_all}
use Rattle.arbac_laws.specs.Views.{needs_of}
use Rattle.arbac_rules.proofs.JoinLemmas.{joined_one, get_needs, take_needs}
use Rattle.arbac_rules.proofs.conjunct.joined_lists.Goals as goal

pub loop-left-preserved : goal.loop-left-preserved
loop-left-preserved c =
    joined_one c.args.lefts.now c.args.rights.now c.loop-left.all.items c.add_joined.new.out.items c.loop-left.left-index c.left-item.result
    (get_needs c.args.lefts.now c.loop-left.left-index c.left-item.result c.loop-left-test.true c.left-item.is)
    c.in_ok-add_joined.ensures c.loop-left.invariant

pub returns : goal.returns
returns c =
    c.loop-left.invariant
    ∙ ap (λ xs. join_all xs (needs_of c.args.rights.now)) (take_needs c.args.lefts.now c.loop-left.left-index c.loop-left-test.false)
