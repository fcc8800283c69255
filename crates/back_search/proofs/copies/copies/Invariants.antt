use Rattle.std.proofs.Common.{◌≡◌, take}
use Rattle.back_search.proofs.copies.copies.Given as goal

abbrev pub invariant-loop-req : goal.invariant-loop-req
invariant-loop-req l = l.made.items ≡ take l.req-index l.list
