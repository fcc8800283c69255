use Rattle.std.proofs.Common.{ℕ, List, ◌++◌, ◌∷◌, [], Ok, ap, ◌∙◌}
use Rattle.toml.specs.View.{array_view}
use Rattle.cond_text.specs.Named.{set_of}
use Rattle.question_text.specs.Outcomes.{gives}
use Rattle.question_text.specs.Keys.{entries, list_of}
use Rattle.question_text.specs.Roles.{a_role, role_set}
use Rattle.question_text.specs.Answers.{fault_of}
use Rattle.question_text.proofs.OutcomeLemmas.{passes, goes_on, answers_exit}
use Rattle.question_text.proofs.KeyLemmas.{stops_at, goes_past, ends_at}
use Rattle.question_text.proofs.RoleLemmas.{set_more}
use Rattle.question_text.proofs.roles.role_set.Goals as goal

pub returns-in_err-role : goal.returns-in_err-role
returns-in_err-role c =
    let names = c.args.order.now.names in
    let list = list_of (array_view c.args.list.now) in
    let told = fault_of c.in_err-role.field-0.0 in
    answers_exit (λ set. set)
    (role_set names c.args.path.now list) c.in_err-role.field-0.0 c.from_residual-in_err-role.result c.from_residual-in_err-role.ensures.1
    (passes (entries (a_role names) c.args.path.now list) (λ roles. gives (set_of roles)) told
    (stops_at (a_role names) c.args.path.now c.args.list.now.items c.deref-value-items.result.now c.loop-place.place c.value-item.result
    c.as_str.result.now c.loop-place.invariant.0 told
    c.deref-value-items.ensures.value c.loop-place-test.true c.value-item.is
    (c.as_str.ensures.value ∙ c.in_ok-at.ensures) c.loop-place.invariant.1 c.in_err-role.ensures.role))

pub loop-place-preserved : goal.loop-place-preserved
loop-place-preserved c =
    let roles = c.loop-place.invariant.0 in (
      roles ++ c.in_ok-role.role ∷ [],
      goes_past (a_role c.args.order.now.names) c.args.path.now c.args.list.now.items c.deref-value-items.result.now c.loop-place.place
          c.value-item.result c.as_str.result.now roles c.in_ok-role.role
          c.deref-value-items.ensures.value c.loop-place-test.true c.value-item.is
          (c.as_str.ensures.value ∙ c.in_ok-at.ensures) c.loop-place.invariant.1 c.in_ok-role.ensures.role,
      set_more c.loop-place.set c.with-set.result roles c.in_ok-role.role c.loop-place.invariant.2 c.with-set.ensures,
    )

pub returns : goal.returns
returns c =
    let names = c.args.order.now.names in
    let roles = c.loop-place.invariant.0 in
    goes_on (entries (a_role names) c.args.path.now (list_of (array_view c.args.list.now))) (λ roles. gives (set_of roles)) roles (Ok c.loop-place.set)
    (ends_at (a_role names) c.args.path.now c.args.list.now.items c.deref-value-items.result.now c.loop-place.place roles
    c.deref-value-items.ensures.value c.loop-place-test.false c.loop-place.invariant.1)
    (ap (λ (set : List ℕ). Ok set) c.loop-place.invariant.2)
