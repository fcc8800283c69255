use Rattle.std.proofs.Common.{◌≡◌, arith, length, ◌∙◌}
use Rattle.std.specs.Prelude.{min}
use Rattle.cert_needs.proofs.FormLemmas.{before_end}
use Rattle.cert_needs.proofs.forms.hits_are_before.Goals as goal

-- where the shorter list ends, its length decides
pub returns : goal.returns
returns c =
    let end : c.loop-at.at ≡ min (length c.args.hits.now) (length c.args.others.now) =
    omega (arith, c.loop-at.auto.at-end, c.loop-at-test.false, c.min-count.ensures) in
    before_end c.loop-at.at c.args.hits.now c.args.others.now end ∙ c.loop-at.invariant
