use Rattle.std.proofs.Common.{List, ◌<◌, length, map, refl}
use Rattle.list_words.proofs.EachLemmas.{each_at}
use Rattle.list_words.proofs.GetLemmas.{get_at}
use Rattle.arbac_policy.specs.declared.act.Act.{Act}
use Rattle.arbac_laws.specs.Obligations.{flat}
use Rattle.cert_text.specs.LineForms.{an_act}
use Rattle.cert_text.specs.Texts.{written_act, line_text}
use Rattle.cert_text.specs.Sizes.{IsSizedAct}
use Rattle.cert_text.proofs.PutLemmas.{next_put, all_put, one_more, all_so_far}
use Rattle.cert_text.proofs.writing.put_acts.Goals as goal

pub put_act_line-requires : goal.put_act_line-requires
put_act_line-requires c =
    each_at (λ (act : Act). act.role < length c.args.order.now.names) c.args.acts.now c.loop-act.act-index _ c.requires
    (get_at c.args.acts.now c.loop-act.act-index _ c.loop-act-test.true)

pub loop-act-preserved : goal.loop-act-preserved
loop-act-preserved c =
    let names = c.args.order.now.names in
    let at = get_at c.args.acts.now c.loop-act.act-index _ c.loop-act-test.true in (
      next_put (λ (acts : List Act). flat line_text (map (λ (act : Act). an_act (written_act names act)) acts)) (line_text (an_act (written_act names _)))
          c.args.acts.now c.loop-act.act-index _ c.loop-act.text.items c.put_act_line.new.text.items _
          at refl c.loop-act.invariant.0 c.in_ok-put_act_line.ensures.text,
      one_more IsSizedAct c.args.acts.now c.loop-act.act-index _ at c.loop-act.invariant.1 c.in_ok-put_act_line.ensures.sized,
    )

pub returns : goal.returns
returns c = record {
  text = all_put (λ (acts : List Act). flat line_text (map (λ (act : Act). an_act (written_act c.args.order.now.names act)) acts)) c.args.acts.now
      c.loop-act.act-index c.loop-act.text.items _ c.loop-act-test.false refl c.loop-act.invariant.0;
  sized = all_so_far IsSizedAct c.args.acts.now c.loop-act.act-index c.loop-act-test.false c.loop-act.invariant.1;
}
