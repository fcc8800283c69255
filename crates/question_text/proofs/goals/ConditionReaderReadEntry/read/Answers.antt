use Rattle.toml.specs.View.{view}
use Rattle.arbac_policy.specs.Truth.{term_of}
use Rattle.question_text.specs.Tables.{a_goal_condition}
use Rattle.question_text.proofs.SeenLemmas.{seen_answer}
use Rattle.question_text.proofs.goals.ConditionReaderReadEntry.read.Goals as goal

pub returns : goal.returns
returns c = seen_answer term_of
    (a_goal_condition c.args.self.now.order.now.names c.args.path.now (view c.args.value.now)) c.condition_of.result c.condition_of.ensures
