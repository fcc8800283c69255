use Rattle.toml.specs.View.{table_view, array_view}
use Rattle.std.specs.Prelude.{codes}
use Rattle.question_text.specs.Keys.{list_of}
use Rattle.question_text.specs.Roles.{admin_list, role_set}
use Rattle.question_text.proofs.OutcomeLemmas.{answers_on}
use Rattle.question_text.proofs.roles.admin_roles.Goals as goal

pub returns-in-Some : goal.returns-in-Some
returns-in-Some c =
    answers_on (λ set. set) (admin_list c.args.separate (table_view c.args.table.now)) (role_set c.args.order.now.names (codes "admin_roles"))
    (list_of (array_view c.in-Some.list.now)) c.role_set.result
    (rw c.in-Some.is at c.in_ok-list.ensures) c.role_set.ensures
