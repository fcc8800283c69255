use Rattle.std.proofs.Common.{◌∙◌, sym, ap, arith, map, Some}
use Rattle.role_order.proofs.ClosureLemmas.{length_mapped}
use Rattle.list_words.proofs.GetLemmas.{get_at, get_map}
use Rattle.arbac_policy.specs.PlainRules.{plain_rule}
use Rattle.question_writer.specs.Texts.{assign_text}
use Rattle.question_writer.proofs.writing.put_assign_rules.Goals as goal
use Rattle.text_pieces.proofs.PieceLemmas.{flat_step, flat_end}

pub loop-rule-preserved : goal.loop-rule-preserved
loop-rule-preserved c =
    flat_step (assign_text c.args.key.now c.args.order.now.names) (map plain_rule c.args.rules.now) c.loop-rule.rule-index (plain_rule c.rule-item.result)
    c.loop-rule.text.items c.put_assign_rule.new.text.items _
    (get_map plain_rule c.args.rules.now c.loop-rule.rule-index c.rule-item.result
    (get_at c.args.rules.now c.loop-rule.rule-index c.rule-item.result c.loop-rule-test.true ∙ ap Some (sym c.rule-item.is)))
    c.loop-rule.invariant c.in_ok-put_assign_rule.ensures

pub returns : goal.returns
returns c = flat_end (assign_text c.args.key.now c.args.order.now.names) (map plain_rule c.args.rules.now) c.loop-rule.rule-index c.loop-rule.text.items _
    (let same = length_mapped plain_rule c.args.rules.now in omega arith) c.loop-rule.invariant
