use Rattle.std.proofs.Common.{arith, inl, refl}
use Rattle.std.proofs.lemmas.Result.{err_from_is_err_and}
use Rattle.policy_text.specs.Runs.{nothing}
use Rattle.policy_text.specs.Steps.{listing_view}
use Rattle.cond_text.proofs.CutLemmas.{cut_shorter}
use Rattle.policy_text.proofs.StepLemmas.{passes_more, told_stop}
use Rattle.policy_text.proofs.RunLemmas.{few_nothing}
use Rattle.policy_text.proofs.listing.read_listing.Goals as goal

pub add_line-requires-clause-few : goal.add_line-requires-clause-few
add_line-requires-clause-few c =
    let p = c.loop-line.invariant.passed in (few_nothing (listing_view c.loop-line.listing) p.lines p.added).names

pub returns-in_err-add_line-clause-fault : goal.returns-in_err-add_line-clause-fault
returns-in_err-add_line-clause-fault c =
    let p = err_from_is_err_and c.from_residual.result c.from_residual.ensures.1 in
    rw (p.1, p.2) (told_stop nothing
    (listing_view c.loop-line.listing) c.args.text.now c.loop-line.rest.now c.in-Some.line.now c.in-Some.after.now 2 c.loop-line.number _
    c.loop-line.invariant.passed c.in-Some.ensures.found.0 (inl (refl, c.in-Some.ensures.found.1)) c.in_err-add_line.ensures.fault)

pub loop-line-smaller : goal.loop-line-smaller
loop-line-smaller c = cut_shorter 10 c.loop-line.rest.now c.in-Some.line.now c.in-Some.after.now c.in-Some.ensures.found.0

pub loop-line-preserved : goal.loop-line-preserved
loop-line-preserved c =
    let shorter = cut_shorter 10 c.loop-line.rest.now c.in-Some.line.now c.in-Some.after.now c.in-Some.ensures.found.0 in
    record {
      passed = passes_more nothing (listing_view c.loop-line.listing)
          (listing_view c.add_line.new.self) c.args.text.now c.loop-line.rest.now c.in-Some.line.now c.in-Some.after.now 2 c.loop-line.number
          c.loop-line.invariant.passed c.in-Some.ensures.found.0 c.in_ok-add_line.ensures.added;
      room = omega (arith, shorter);
    }
