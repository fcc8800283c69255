use Rattle.std.proofs.Common.{◌∙◌}
use Rattle.std.specs.Prelude.{codes}
use Rattle.toml.specs.View.{table_view}
use Rattle.question_text.specs.Roles.{role_named}
use Rattle.question_text.proofs.TableLemmas.{behind_text}
use Rattle.question_text.proofs.rules.the_admin.Goals as goal

pub returns : goal.returns
returns c =
    behind_text (λ role. role) (role_named c.args.order.now.names) (table_view c.args.rule.now) c.args.path.now
    (codes "admin") c.in_ok-name.name.now c.as_str.result.now c.role_named.result
    c.in_ok-name.ensures (c.as_str.ensures.value ∙ c.in_ok-key.ensures) c.role_named.ensures.role
