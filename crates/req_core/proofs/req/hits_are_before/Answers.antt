use Rattle.std.proofs.Common.{◌≡◌, arith, length, ◌∙◌}
use Rattle.std.specs.Prelude.{min}
use Rattle.req_core.proofs.BeforeLemmas.{before_end}
use Rattle.req_core.proofs.req.hits_are_before.Goals as goal

pub returns : goal.returns
returns c =
    let end : c.loop-at.at ≡ min (length c.args.hits.now) (length c.args.others.now) =
    omega (arith, c.loop-at.auto.at-end, c.loop-at-test.false, c.min-count.ensures) in
    before_end c.loop-at.at c.args.hits.now c.args.others.now end ∙ c.loop-at.invariant
