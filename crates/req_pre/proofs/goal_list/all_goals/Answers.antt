use Rattle.std.proofs.Common.{◌≡◌, ◌∙◌, map, ap, subst}
use Rattle.arbac_policy.specs.Truth.{term_of}
use Rattle.arbac_laws.specs.Goals.{goal_requirements}
use Rattle.req_pre.specs.Views.{lists_of}
use Rattle.req_pre.specs.Answers.{AreGoalPlaces}
use Rattle.req_pre.proofs.goal_list.all_goals.Goals as goal

pub returns-clause-places : goal.returns-clause-places
returns-clause-places c =
    let all : lists_of c.deref.result.now ≡ goal_requirements c.args.order.now (map term_of c.args.goal.now) =
    ap lists_of c.deref.ensures.value ∙ c.in_ok-raws.ensures in
    subst (λ goals. AreGoalPlaces goals c.in_ok-list.list.items) all c.in_ok-list.ensures.places
