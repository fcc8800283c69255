use Rattle.std.proofs.Common.{arith, subst, take, ◌≡◌}
use Rattle.arbac_policy.specs.Goals.{AreUsers}
use Rattle.list_words.proofs.GetLemmas.{take_all}
use Rattle.cert_check.proofs.PlanLemmas.{user_pushed, users_long}
use Rattle.cert_check.proofs.plan.users_of.Goals as goal

pub loop-at-preserved : goal.loop-at-preserved
loop-at-preserved c =
    user_pushed c.args.profiles.now c.args.choice.now c.loop-at.users.items c.push.new.self.items c.loop-at.at c.index-profiles-choice.result c.requires
    c.loop-at-test.true c.loop-at.invariant c.in_ok-push.ensures.items

-- the loop ends with the whole choice
pub returns-clause-long : goal.returns-clause-long
returns-clause-long c =
    let whole : take c.loop-at.at c.args.choice.now ≡ c.args.choice.now = take_all c.args.choice.now c.loop-at.at (omega (arith, c.loop-at-test.false)) in
    users_long c.args.profiles.now c.args.choice.now c.loop-at.users.items
    (subst (λ front. AreUsers c.args.profiles.now front c.loop-at.users.items) whole c.loop-at.invariant)
