use Rattle.std.proofs.Common.{◌≡◌, take}
use Rattle.arbac_laws.specs.Views.{needs_of}
use Rattle.question_answer.proofs.certificates.need.Given as goal

abbrev pub invariant-loop-user : goal.invariant-loop-user
invariant-loop-user l = needs_of l.made.items ≡ take l.user-index l.req
