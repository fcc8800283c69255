use Rattle.std.proofs.Common.{◌≡◌, ◌++◌, drop, map}
use Rattle.std.specs.List.{flat_map}
use Rattle.arbac_policy.specs.PlainRules.{plain_rule}
use Rattle.question_writer.specs.Texts.{assign_text}
use Rattle.question_writer.proofs.writing.put_assign_rules.Given as goal

abbrev pub invariant-loop-rule : goal.invariant-loop-rule
invariant-loop-rule l =
    l.text.items ++ flat_map (assign_text l.key l.order.names) (drop l.rule-index (map plain_rule l.rules)) ≡ l.initial.text.items ++ flat_map
    (assign_text l.key l.order.names) (map plain_rule l.rules)
