use Rattle.std.proofs.Common.{ℕ, ◌≡◌, ◌<◌, map, take, Some}
use Rattle.std.specs.Prelude.{slice_get}
use Rattle.arbac_policy.specs.declared.rule.CanAssign.{CanAssign}
use Rattle.req_pre.specs.Preparing.{conjuncts_of, IsWide}
use Rattle.req_pre.specs.Views.{lists_of}
use Rattle.req_pre.proofs.prepared.lists_for.Given as goal

abbrev pub invariant-loop-place : goal.invariant-loop-place
invariant-loop-place l = record {
  lists : lists_of l.lists.items ≡ map (conjuncts_of l.fn.policy) (take l.place l.fn.policy.assign);
  narrow : (k : ℕ) (rule : CanAssign) → k < l.place → slice_get l.fn.policy.assign k ≡ Some rule → ¬ IsWide rule;
}
