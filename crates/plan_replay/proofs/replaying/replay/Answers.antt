use Rattle.std.proofs.Common.{◌∙◌, arith, rules}
use Rattle.std.proofs.lemmas.Grind.{common_steps}
use Rattle.list_words.proofs.GetLemmas.{get_at}
use Rattle.plan_replay.specs.Replays.{StopsAt}
use Rattle.plan_replay.proofs.RunLemmas.{run_taken, no_run, length-slice_set}
use Rattle.plan_replay.proofs.replaying.replay.Goals as goal

pub index_mut-requires : goal.index_mut-requires
index_mut-requires c = grind (arith, common_steps, c.in-Granted.ensures.inside, c.loop-place.users.ok.0, c.loop-place.invariant.long)

pub returns-in-Denied-clause-stopped : goal.returns-in-Denied-clause-stopped
returns-in-Denied-clause-stopped c =
    let stops : StopsAt c.args.policy.now c.args.start.now c.args.acts.now c.loop-place.place c.in-Denied.part = record {
      act = _;
      at = get_at c.args.acts.now c.loop-place.place _ c.loop-place-test.true;
      state = c.loop-place.users.items;
      run = c.loop-place.invariant.run;
      denied = rw c.deref.ensures.value at c.in-Denied.ensures.denied;
    } in search (rules, stops)

pub returns-in-Denied-clause-no_run : goal.returns-in-Denied-clause-no_run
returns-in-Denied-clause-no_run c = no_run c.args.policy.now c.args.start.now c.loop-place.users.items c.args.acts.now c.loop-place.place _
    (get_at c.args.acts.now c.loop-place.place _ c.loop-place-test.true) c.loop-place.invariant.run (rw c.deref.ensures.value at c.in-Denied.ensures.no_step)

pub loop-place-preserved : goal.loop-place-preserved
loop-place-preserved c = record {
  run = run_taken c.args.policy.now c.args.start.now c.loop-place.users.items _ c.args.acts.now c.loop-place.place _
      (get_at c.args.acts.now c.loop-place.place _ c.loop-place-test.true) c.loop-place.invariant.run
      (rw c.deref.ensures.value at c.in-Granted.ensures.granted);
  long = length-slice_set c.loop-place.users.items _ c.in-Granted.set ∙ c.loop-place.invariant.long;
}
