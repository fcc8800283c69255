use Rattle.std.proofs.Common.{◌≡◌, ◌∙◌, sym, arith, Some, ap}
use Rattle.std.specs.Prelude.{slice_get}
use Rattle.std.proofs.lemmas.Bool.{false≢true}
use Rattle.list_words.proofs.GetLemmas.{get_at, get_below}
use Rattle.role_order.specs.Closures.{HasAt}
use Rattle.role_order.proofs.ClosureLemmas.{one_more, no_more, all_of_them, has_at_place}
use Rattle.role_order.proofs.SetLemmas.{rises-with_role}
use Rattle.role_order.proofs.closure.juniors_in.Goals.{Joined-has, then-has, else-has}
use Rattle.role_order.proofs.closure.juniors_in.Goals as goal

pub loop-junior-init : goal.loop-junior-init
loop-junior-init c = rw c.empty-juniors.ensures record { rises = tt; each = λ junior. (λ h. absurd (false≢true h), λ h. absurd (omega (arith, h.0))) }

-- the junior is there where its set has the senior
pub loop-junior-preserved : goal.loop-junior-preserved
loop-junior-preserved c =
    let at : slice_get c.args.above.now c.loop-junior.junior ≡ Some c.index-above-junior.result =
    get_at c.args.above.now c.loop-junior.junior c.index-above-junior.result c.loop-junior-test.true ∙ ap Some (sym c.index-above-junior.is) in
    elim c.if-has.branch [
      | then-has w ↦ rw (w.juniors-is, w.with-juniors.ensures) record {
        rises = rises-with_role c.loop-junior.juniors c.loop-junior.junior c.loop-junior.invariant.rises;
        each = one_more (λ junior. HasAt c.args.above.now junior c.args.senior) c.loop-junior.junior c.loop-junior.juniors c.loop-junior.invariant.each
            record { set = c.index-above-junior.result; at = at; there = sym w.if-has.ensures.value };
      }
      | else-has w ↦ rw w.juniors-is record {
        rises = c.loop-junior.invariant.rises;
        each = no_more (λ junior. HasAt c.args.above.now junior c.args.senior) c.loop-junior.junior c.loop-junior.juniors c.loop-junior.invariant.each
            (λ has. false≢true (w.if-has.ensures.value
            ∙ has_at_place c.args.above.now c.loop-junior.junior c.args.senior c.index-above-junior.result at has));
      }
    ]

-- a place with a set is one of the list
pub returns-clause-each : goal.returns-clause-each
returns-clause-each c = all_of_them (λ junior. HasAt c.args.above.now junior c.args.senior) c.loop-junior.junior c.loop-junior.juniors
    (λ junior has. omega (arith, get_below c.args.above.now junior has.set has.at)) c.loop-junior.invariant.each
