use Rattle.list_words.proofs.GetLemmas.{get_at}
use Rattle.question_writer.specs.Texts.{revoke_text}
use Rattle.question_writer.proofs.writing.put_revoke_rules.Goals as goal
use Rattle.text_pieces.proofs.PieceLemmas.{flat_step, flat_end}

pub loop-rule-preserved : goal.loop-rule-preserved
loop-rule-preserved c =
    flat_step (revoke_text c.args.key.now c.args.order.now.names) c.args.rules.now c.loop-rule.rule-index _ c.loop-rule.text.items
    c.put_revoke_rule.new.text.items _
    (get_at c.args.rules.now c.loop-rule.rule-index _ c.loop-rule-test.true) c.loop-rule.invariant c.in_ok-put_revoke_rule.ensures

pub returns : goal.returns
returns c = flat_end
    (revoke_text c.args.key.now c.args.order.now.names) c.args.rules.now c.loop-rule.rule-index c.loop-rule.text.items _ c.loop-rule-test.false
    c.loop-rule.invariant
