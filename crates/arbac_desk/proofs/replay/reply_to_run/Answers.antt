use Rattle.std.proofs.Common.{◌≡◌, ◌∙◌, ap, arith, length, refl, inl, inr}
use Rattle.role_order.specs.Graph.{Graph}
use Rattle.arbac_desk.specs.ReplayTexts.{stopped_text}
use Rattle.arbac_desk.proofs.replay.reply_to_run.Goals as goal

-- as many users are left as began
pub reply_at_end-requires-clause-users : goal.reply_at_end-requires-clause-users
reply_at_end-requires-clause-users c =
    let same : length c.in-Ended.sets.items ≡ length c.deref.result.now = rw c.in-Ended.is at c.in_ok-place.ensures.users in
    omega (arith, same, ap length c.deref-in-Ended.ensures.value, ap length c.deref.ensures.value)

-- the act that is refused ends the replay
pub returns-in_ok-text-in-Stopped : goal.returns-in_ok-text-in-Stopped
returns-in_ok-text-in-Stopped c = λ name. inr (inl (
  refl,
  inr (record {
    few = c.requires.few;
    run = c.args.run.now;
    stands = c.requires.stands;
    users = c.requires.for_users;
    place = c.in-Stopped.place;
    part = c.in-Stopped.part;
    stops = rw (c.deref.ensures.value, c.deref-2.ensures.value) at (rw c.in-Stopped.is at c.in_ok-place.ensures.stopped);
    no_run = rw (c.deref.ensures.value, c.deref-2.ensures.value) at (rw c.in-Stopped.is at c.in_ok-place.ensures.no_run);
    text_is = c.in_ok-text-in-Stopped.ensures ∙ ap (λ (order : Graph). stopped_text order.names c.in-Stopped.place c.in-Stopped.part) c.order.ensures.order;
  }),
))
