use Rattle.std.proofs.Common.{map, refl, inl, inr}
use Rattle.toml.specs.View.{table_view}
use Rattle.arbac_policy.specs.Truth.{term_of}
use Rattle.question_text.specs.Values.{plain_of}
use Rattle.question_text.specs.Tables.{profiles, the_goal}
use Rattle.question_text.specs.Documents.{the_roles, the_rules, question}
use Rattle.question_text.specs.Views.{head_view, roles_view, rules_view}
use Rattle.question_text.proofs.TableLemmas.{stops}
use Rattle.question_text.proofs.ReadLemmas.{policy_read, few_read}
use Rattle.question_text.proofs.reading.read_table.Goals as goal

pub returns-in_err-roles : goal.returns-in_err-roles
returns-in_err-roles c =
    let table = table_view c.args.table.now in
    let head = head_view c.in_ok-head.head in
    stops plain_of (the_roles head table) (question c.args.need_goal table) _ _ c.from_residual-in_err-roles.ensures.1
    (λ fault h. inr (head, c.in_ok-head.ensures, inl (fault, h, refl))) c.in_err-roles.ensures

pub returns-in_err-rules : goal.returns-in_err-rules
returns-in_err-rules c =
    let table = table_view c.args.table.now in
    let head = head_view c.in_ok-head.head in
    let roles = roles_view c.in_ok-roles.roles in
    stops plain_of (the_rules head.separate roles.admins roles.names table) (question c.args.need_goal table) _ _ c.from_residual-in_err-rules.ensures.1
    (λ fault h. inr (head, c.in_ok-head.ensures, inr (roles, c.in_ok-roles.ensures, inl (fault, h, refl)))) c.in_err-rules.ensures

pub returns-in_err-profiles : goal.returns-in_err-profiles
returns-in_err-profiles c =
    let table = table_view c.args.table.now in
    let head = head_view c.in_ok-head.head in
    let roles = roles_view c.in_ok-roles.roles in
    let rules = rules_view c.in_ok-rules.rules in
    stops plain_of (profiles roles.names table) (question c.args.need_goal table) _ _ c.from_residual-in_err-profiles.ensures.1
    (λ fault h. inr (head, c.in_ok-head.ensures, inr (roles, c.in_ok-roles.ensures, inr (rules, c.in_ok-rules.ensures, inl (fault, h, refl)))))
    c.in_err-profiles.ensures

pub returns-in_err-goal : goal.returns-in_err-goal
returns-in_err-goal c =
    let table = table_view c.args.table.now in
    let head = head_view c.in_ok-head.head in
    let roles = roles_view c.in_ok-roles.roles in
    let rules = rules_view c.in_ok-rules.rules in
    stops plain_of (the_goal c.args.need_goal roles.names table) (question c.args.need_goal table) _ _ c.from_residual-in_err-goal.ensures.1
    (λ fault h. inr (
      head,
      c.in_ok-head.ensures,
      inr (
        roles,
        c.in_ok-roles.ensures,
        inr (rules, c.in_ok-rules.ensures, inr (c.in_ok-profiles.profiles.items, c.in_ok-profiles.ensures, inl (fault, h, refl))),
      ),
    )) c.in_err-goal.ensures.goal

pub policy_of-requires-clause-known : goal.policy_of-requires-clause-known
policy_of-requires-clause-known c =
    policy_read (head_view c.in_ok-head.head)
    (table_view c.args.table.now) c.in_ok-roles.roles c.in_ok-rules.rules c.in_ok-roles.ensures c.in_ok-rules.ensures

pub policy_of-requires-clause-few : goal.policy_of-requires-clause-few
policy_of-requires-clause-few c =
    few_read (head_view c.in_ok-head.head) (table_view c.args.table.now) c.in_ok-roles.roles c.in_ok-rules.rules c.in_ok-roles.ensures c.in_ok-rules.ensures

pub returns : goal.returns
returns c =
    let head = head_view c.in_ok-head.head in
    let roles = roles_view c.in_ok-roles.roles in
    let rules = rules_view c.in_ok-rules.rules in
    rw c.policy_of.ensures
    (inr (
      head,
      c.in_ok-head.ensures,
      inr (
        roles,
        c.in_ok-roles.ensures,
        inr (
          rules,
          c.in_ok-rules.ensures,
          inr (c.in_ok-profiles.profiles.items, c.in_ok-profiles.ensures, inr (map term_of c.in_ok-goal.goal.items, c.in_ok-goal.ensures.goal, refl)),
        ),
      ),
    ))
