use Rattle.std.proofs.Common.{◌≡◌, ◌++◌, ◌-◌}
use Rattle.role_order.specs.Names.{texts}
use Rattle.role_order.specs.Reach.{count_up}
use Rattle.arbac_laws.specs.Obligations.{flat}
use Rattle.sample_question.specs.Samples.{role_names}
use Rattle.sample_question.proofs.NameLemmas.{names_at}
use Rattle.sample_question.proofs.names.names.Given as goal

-- the names so far, and those that are left
abbrev pub invariant-loop-at : goal.invariant-loop-at
invariant-loop-at l = texts l.names.items ++ flat names_at (count_up l.at (l.size - l.at)) ≡ role_names l.size
