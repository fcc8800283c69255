use Rattle.std.proofs.Common.{refl, inl, inr}
use Rattle.cond_text.specs.Ranges.{range_view}
use Rattle.question_text.specs.Roles.{role_named}
use Rattle.question_text.specs.Tables.{a_range}
use Rattle.question_text.proofs.TableLemmas.{stops}
use Rattle.question_text.proofs.rules.a_range.Goals as goal

pub returns-in_err-low-clause-answers : goal.returns-in_err-low-clause-answers
returns-in_err-low-clause-answers c =
    let written = range_view c.in-Some.named in
    let found = c.in-Some.ensures.found in
    let names = c.args.order.now.names in
    stops _ (role_named names c.args.path.now written.low) (a_range names c.args.path.now c.args.text.now) _ _ c.from_residual-in_err-low.ensures.1
    (λ fault h. inr (written, inl (written, found.0, found.1, refl), inl (fault, h, refl))) c.in_err-low.ensures.role

pub returns-in_err-high-clause-answers : goal.returns-in_err-high-clause-answers
returns-in_err-high-clause-answers c =
    let written = range_view c.in-Some.named in
    let found = c.in-Some.ensures.found in
    let names = c.args.order.now.names in
    stops _ (role_named names c.args.path.now written.high) (a_range names c.args.path.now c.args.text.now) _ _ c.from_residual-in_err-high.ensures.1
    (λ fault h. inr (written, inl (written, found.0, found.1, refl), inr (c.in_ok-low.low, c.in_ok-low.ensures.role, inl (fault, h, refl))))
    c.in_err-high.ensures.role

pub returns-clause-answers : goal.returns-clause-answers
returns-clause-answers c =
    let written = range_view c.in-Some.named in
    let found = c.in-Some.ensures.found in
    inr (
      written,
      inl (written, found.0, found.1, refl),
      inr (c.in_ok-low.low, c.in_ok-low.ensures.role, inr (c.in_ok-high.high, c.in_ok-high.ensures.role, refl)),
    )
