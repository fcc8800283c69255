use Rattle.std.proofs.Common.{◌∙◌, ap, refl, inl, inr}
use Rattle.role_order.specs.Graph.{Graph}
use Rattle.arbac_desk.specs.ReplayTexts.{done_text, unmet_text}
use Rattle.arbac_desk.proofs.replay.reply_at_end.Goals as goal

-- the users are the least who meet the goal
pub returns-in_ok-text-in-Some : goal.returns-in_ok-text-in-Some
returns-in_ok-text-in-Some c = λ name. inl (
  refl,
  record {
    run = c.args.run.now;
    sets = c.args.sets.now;
    users = c.in-Some.users.items;
    ends = c.requires.ends;
    met = rw c.deref.ensures.value at (rw c.in-Some.is at c.in_ok-users.ensures.met);
    text_is = c.in_ok-text-in-Some.ensures
        ∙ ap (λ (order : Graph). done_text order.names c.args.sets.now c.deref-in-Some.result.now) c.order.ensures.order
        ∙ ap (done_text c.args.run.now.policy.order.names c.args.sets.now) c.deref-in-Some.ensures.value;
  },
)

-- no users meet the goal
pub returns-in_ok-text-in-None : goal.returns-in_ok-text-in-None
returns-in_ok-text-in-None c = λ name. inr (inl (
  refl,
  inl (record {
    run = c.args.run.now;
    sets = c.args.sets.now;
    ends = c.requires.ends;
    unmet = rw c.deref.ensures.value at (rw c.in-None.is at c.in_ok-users.ensures.unmet);
    text_is = c.in_ok-text-in-None.ensures ∙ ap (λ (order : Graph). unmet_text order.names c.args.sets.now) c.order-in-None.ensures.order;
  }),
))
