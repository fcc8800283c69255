use Rattle.std.proofs.Common.{◌≡◌, [], ◌∷◌, ◌++◌, take}
use Rattle.arbac_laws.specs.Views.{need_of, needs_of}
use Rattle.cert_check.proofs.goals.with_first.Given as goal

abbrev pub invariant-loop-user : goal.invariant-loop-user
invariant-loop-user l = needs_of l.users.items ≡ (need_of l.first ∷ []) ++ take l.user-index (needs_of l.tail)
