use Rattle.toml.specs.View.{view}
use Rattle.arbac_policy.specs.PlainRules.{plain_rule}
use Rattle.question_text.specs.Tables.{an_assign_rule}
use Rattle.question_text.proofs.SeenLemmas.{seen_answer}
use Rattle.question_text.proofs.rules.AssignReaderReadEntry.read.Goals as goal

pub returns : goal.returns
returns c = seen_answer plain_rule
    (an_assign_rule c.args.self.now.separate c.args.self.now.admins.now c.args.self.now.order.now.names c.args.path.now
    (view c.args.value.now)) c.an_assign_rule.result c.an_assign_rule.ensures
