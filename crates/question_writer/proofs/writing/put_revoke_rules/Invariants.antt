use Rattle.std.proofs.Common.{◌≡◌, ◌++◌, drop}
use Rattle.std.specs.List.{flat_map}
use Rattle.question_writer.specs.Texts.{revoke_text}
use Rattle.question_writer.proofs.writing.put_revoke_rules.Given as goal

abbrev pub invariant-loop-rule : goal.invariant-loop-rule
invariant-loop-rule l =
    l.text.items ++ flat_map (revoke_text l.key l.order.names) (drop l.rule-index l.rules) ≡ l.initial.text.items ++ flat_map
    (revoke_text l.key l.order.names) l.rules
