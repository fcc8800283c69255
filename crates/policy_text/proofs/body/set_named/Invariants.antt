use Rattle.std.proofs.Common.{map, take}
use Rattle.cond_text.specs.Named.{NamesSet}
use Rattle.policy_text.proofs.body.set_named.Given as goal

abbrev pub invariant-loop-name : goal.invariant-loop-name
invariant-loop-name l = NamesSet l.order.names (take l.name-index (map (λ name. name.now) l.names)) l.set
