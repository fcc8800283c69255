use Rattle.toml.specs.View.{view}
use Rattle.question_text.proofs.TableLaws.{goal_known}
use Rattle.question_text.proofs.goals.the_goal.Goals as goal

pub returns-in-Some-clause-kept : goal.returns-in-Some-clause-kept
returns-in-Some-clause-kept c = goal_known c.args.order.now.names (view c.in-Some.value.now) c.goal_at.result c.goal_at.ensures
