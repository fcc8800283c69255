use Rattle.std.proofs.Common.{List, length, map, refl}
use Rattle.list_words.proofs.EachLemmas.{each_at}
use Rattle.arbac_laws.specs.Obligations.{flat}
use Rattle.arbac_laws.specs.Recorded.{Entry}
use Rattle.cert_text.specs.Certificates.{entry_of, IsWrittenEntry}
use Rattle.cert_text.specs.Texts.{step_lines, line_text}
use Rattle.cert_text.specs.Sizes.{IsSizedEntry}
use Rattle.cert_text.proofs.PutLemmas.{next_put, all_put, one_more, all_so_far, viewed_at, viewed_end, flat_append}
use Rattle.cert_text.proofs.writing.put_steps.Goals as goal

pub put_step-requires : goal.put_step-requires
put_step-requires c =
    each_at (IsWrittenEntry (length c.args.order.now.names)) (map entry_of c.args.steps.now) c.loop-step.step-index (entry_of c.step-item.result) c.requires
    (viewed_at entry_of c.args.steps.now c.loop-step.step-index c.step-item.result c.loop-step-test.true c.step-item.is)

pub loop-step-preserved : goal.loop-step-preserved
loop-step-preserved c =
    let names = c.args.order.now.names in
    let entry = entry_of c.step-item.result in
    let at = viewed_at entry_of c.args.steps.now c.loop-step.step-index c.step-item.result c.loop-step-test.true c.step-item.is in (
      next_put (λ (list : List Entry). flat line_text (flat (step_lines names) list)) (flat line_text (step_lines names entry))
          (map entry_of c.args.steps.now) c.loop-step.step-index entry c.loop-step.text.items c.put_step.new.text.items _
          at (flat_append line_text (step_lines names entry) (flat (step_lines names) _)) c.loop-step.invariant.0 c.in_ok-put_step.ensures.text,
      one_more IsSizedEntry (map entry_of c.args.steps.now) c.loop-step.step-index entry at c.loop-step.invariant.1 c.in_ok-put_step.ensures.sized,
    )

pub returns : goal.returns
returns c =
    let end = viewed_end entry_of c.args.steps.now c.loop-step.step-index c.loop-step-test.false in
    record {
      text = all_put (λ (list : List Entry). flat line_text (flat (step_lines c.args.order.now.names) list)) (map entry_of c.args.steps.now)
          c.loop-step.step-index c.loop-step.text.items _ end refl c.loop-step.invariant.0;
      sized = all_so_far IsSizedEntry (map entry_of c.args.steps.now) c.loop-step.step-index end c.loop-step.invariant.1;
    }
