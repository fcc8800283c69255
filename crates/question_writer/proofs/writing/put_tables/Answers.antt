use Rattle.std.proofs.Common.{ap, map}
use Rattle.role_order.specs.Graph.{Graph}
use Rattle.arbac_policy.specs.PlainRules.{plain_rule}
use Rattle.question_text.specs.Values.{plain_of}
use Rattle.question_writer.proofs.PieceLemmas.{tables_done}
use Rattle.question_writer.proofs.writing.put_tables.Goals as goal

pub returns : goal.returns
returns c = tables_done (plain_of c.args.question.now) c.order-order.result.now.names (map plain_rule c.assign.result.now)
    (map plain_rule c.assignp.result.now) c.revoke.result.now c.revokep.result.now c.deref.result.now
    c.args.text.now.items _ _ _ _ c.put_profiles.new.text.items
    (ap (λ (o : Graph). o.names) c.order-order.ensures.order) (ap (map plain_rule) c.assign.ensures) c.revoke.ensures
    (ap (map plain_rule) c.assignp.ensures) c.revokep.ensures c.deref.ensures.value
    c.in_ok-put_assign_rules.ensures c.in_ok-put_revoke_rules.ensures c.in_ok-put_assign_rules-2.ensures c.in_ok-put_revoke_rules-2.ensures
    c.in_ok-put_profiles.ensures
