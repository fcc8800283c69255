use Rattle.std.proofs.Common.{◌≡◌, take, length}
use Rattle.arbac_policy.specs.Steps.{Run}
use Rattle.plan_replay.proofs.replaying.replay.Given as goal

abbrev pub invariant-loop-place : goal.invariant-loop-place
invariant-loop-place l = record {
  run : Run l.policy l.start (take l.place l.acts) l.users.items;
  long : length l.users.items ≡ length l.start;
}
