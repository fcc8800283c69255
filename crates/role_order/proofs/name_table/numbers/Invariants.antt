use Rattle.std.proofs.Common.{ℕ, ◌<◌}
use Rattle.std.specs.Prelude.{All, Contains}
use Rattle.role_order.proofs.name_table.numbers.Given as goal

abbrev pub invariant-loop-number : goal.invariant-loop-number
invariant-loop-number l = All (λ role. role < l.number) l.numbers.items × ((role : ℕ) → role < l.number → Contains l.numbers.items role)
