use Rattle.toml.specs.Data.{as_str}
use Rattle.toml.specs.View.{view}
use Rattle.question_text.specs.Keys.{of_kind}
use Rattle.question_text.specs.Roles.{role_named}
use Rattle.question_text.proofs.OutcomeLemmas.{answers_on}
use Rattle.question_text.proofs.KeyLemmas.{kind_text}
use Rattle.question_text.proofs.roles.role_of.Goals as goal

pub returns-clause-role : goal.returns-clause-role
returns-clause-role c =
    let d = view c.args.value.now in
    answers_on (λ role. role) (of_kind (as_str d) c.args.path.now)
    (role_named c.args.order.now.names c.args.path.now) c.in_ok-name.name.now c.role_named.result
    (kind_text c.as_str.result (as_str d) c.args.path.now c.in_ok-name.name c.as_str.ensures c.in_ok-name.ensures) c.role_named.ensures.role
