use Rattle.std.proofs.Common.{◌≡◌, ◌++◌, map, take, drop}
use Rattle.req_core.specs.Forms.{moved}
use Rattle.req_core.proofs.forms.make_room.Given as goal

abbrev pub invariant-loop-place : goal.invariant-loop-place
invariant-loop-place l = l.place-items ≡ map (moved l.at) (take l.place-index l.initial.place-items) ++ drop l.place-index l.initial.place-items
