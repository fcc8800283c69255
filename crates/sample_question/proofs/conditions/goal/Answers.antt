use Rattle.std.proofs.Common.{◌≡◌, ◌∙◌, ap, sym, arith}
use Rattle.sample_question.specs.Samples as samples
use Rattle.sample_question.proofs.RuleLemmas.{goal_more}
use Rattle.sample_question.proofs.conditions.goal.Goals as goal

pub loop-at-preserved : goal.loop-at-preserved
loop-at-preserved c =
    rw (c.in_ok-cond.ensures, c.loop-at.invariant, c.key-in-loop-at.ensures) (sym (goal_more c.loop-at.at c.loop-at.auto.at))

pub returns : goal.returns
returns c =
    let same : c.loop-at.at ≡ c.args.size = omega (arith, c.loop-at.auto.at-end, c.requires.some, c.loop-at-test.false) in
    c.loop-at.invariant ∙ ap samples.goal same
