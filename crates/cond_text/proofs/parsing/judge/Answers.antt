use Rattle.std.proofs.Common.{◌+◌, ◌∙◌, ap, sym, arith}
use Rattle.cond_text.specs.Views.{state_of}
use Rattle.cond_text.specs.Judge.{judge, advance}
use Rattle.cond_text.proofs.ReadLemmas.{judge_step, few_step}
use Rattle.cond_text.proofs.parsing.judge.Goals as goal

pub loop-first-preserved : goal.loop-first-preserved
loop-first-preserved c = record {
  few = omega (arith, few_step c.loop-first.terms c.loop-first.rest.now (c.in-Some.first, c.in-Some.after.now) c.in-Some.ensures, c.weight-terms.ensures);
  same = ap (λ w. judge c.args.count c.args.size (state_of c.in_ok-state.state) (c.loop-first.terms + w) c.in-Some.after.now) c.weight-terms.ensures
      ∙ judge_step c.args.count c.args.size (state_of c.loop-first.state) (state_of c.in_ok-state.state) c.loop-first.terms c.loop-first.rest.now
      (c.in-Some.first, c.in-Some.after.now) c.in-Some.ensures
      (ap (λ ahead. advance c.args.count (state_of c.loop-first.state) c.loop-first.terms c.in-Some.first.place ahead c.in-Some.first.word)
      (sym c.begins_with_name.ensures) ∙ c.in_ok-state.ensures)
      ∙ c.loop-first.invariant.same;
}
