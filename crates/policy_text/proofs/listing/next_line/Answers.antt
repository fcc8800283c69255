use Rattle.std.proofs.Common.{◌∙◌, sym}
use Rattle.policy_text.proofs.StepLemmas.{ends_none, ends_line}
use Rattle.policy_text.proofs.listing.next_line.Goals as goal

pub returns-else-is_order_line-clause-none : goal.returns-else-is_order_line-clause-none
returns-else-is_order_line-clause-none c =
    ends_line c.args.bytes.now c.in-Some.line.now c.in-Some.rest.now (sym c.in-Some.ensures) (sym c.is_order_line.ensures ∙ c.if-is_order_line.false)

pub returns-in-None-clause-none : goal.returns-in-None-clause-none
returns-in-None-clause-none c = ends_none c.args.bytes.now (sym c.in-None.ensures)
