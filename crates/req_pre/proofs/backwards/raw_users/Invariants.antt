use Rattle.std.proofs.Common.{◌≡◌, take}
use Rattle.arbac_laws.specs.Views.{needs_of}
use Rattle.req_pre.proofs.backwards.raw_users.Given as goal

abbrev pub invariant-loop-user : goal.invariant-loop-user
invariant-loop-user l = needs_of l.raw.items ≡ take l.user-index l.req
