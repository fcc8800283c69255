use Rattle.std.proofs.Common.{◌∙◌, ap, sym, subst, arith, Some}
use Rattle.cond_text.proofs.CutLemmas.{cut_shorter}
use Rattle.cert_text.specs.declared.sections.Kind.TheVariants as kinds
use Rattle.cert_text.specs.Drafts.{Draft, nothing}
use Rattle.cert_text.specs.Steps.{IsReadUpTo}
use Rattle.cert_text.proofs.ReadLemmas.{ends_early, read_kinds, no_kind}
use Rattle.cert_text.proofs.reading.read_kind.Goals as goal

pub returns-in_default : goal.returns-in_default
returns-in_default c = λ bytes read. ends_early c.args.order.now.names bytes c.args.text.now nothing 2 read (sym c.in_default.ensures)

pub read_lines-requires : goal.read_lines-requires
read_lines-requires c =
    let shorter = cut_shorter 10 c.args.text.now c.in-Some.line.now c.in-Some.rest.now (sym c.in-Some.ensures) in
    omega (arith, shorter, c.requires)

pub read_lines-requires-in-Some-Unreachable : goal.read_lines-requires-in-Some-Unreachable
read_lines-requires-in-Some-Unreachable c =
    let shorter = cut_shorter 10 c.args.text.now c.in-Some.line.now c.in-Some.rest.now (sym c.in-Some.ensures) in
    omega (arith, shorter, c.requires)

pub read_lines-requires-in-Some-Undecided : goal.read_lines-requires-in-Some-Undecided
read_lines-requires-in-Some-Undecided c =
    let shorter = cut_shorter 10 c.args.text.now c.in-Some.line.now c.in-Some.rest.now (sym c.in-Some.ensures) in
    omega (arith, shorter, c.requires)

pub returns-in-Some-Reachable : goal.returns-in-Some-Reachable
returns-in-Some-Reachable c = λ bytes read. c.read_lines.ensures bytes
    (subst (λ (draft : Draft). IsReadUpTo c.args.order.now.names bytes draft 3 c.in-Some.rest.now) (sym c.new.ensures)
    (read_kinds c.args.order.now.names bytes c.args.text.now c.in-Some.line.now c.in-Some.rest.now c.in_ok-read_line.field-0 kinds.Reachable
    (sym c.in-Some.ensures) c.in_ok-read_line.ensures.line (sym c.in-Some-Reachable.ensures ∙ ap Some c.in-Some-Reachable.field-0-is) read))

pub returns-in-Some-Unreachable : goal.returns-in-Some-Unreachable
returns-in-Some-Unreachable c = λ bytes read. c.read_lines-in-Some-Unreachable.ensures bytes
    (subst (λ (draft : Draft). IsReadUpTo c.args.order.now.names bytes draft 3 c.in-Some.rest.now) (sym c.new-in-Some-Unreachable.ensures)
    (read_kinds c.args.order.now.names bytes c.args.text.now c.in-Some.line.now c.in-Some.rest.now c.in_ok-read_line.field-0 kinds.Unreachable
    (sym c.in-Some.ensures) c.in_ok-read_line.ensures.line (sym c.in-Some-Unreachable.ensures ∙ ap Some c.in-Some-Unreachable.field-0-is) read))

pub returns-in-Some-Undecided : goal.returns-in-Some-Undecided
returns-in-Some-Undecided c = λ bytes read. c.read_lines-in-Some-Undecided.ensures bytes
    (subst (λ (draft : Draft). IsReadUpTo c.args.order.now.names bytes draft 3 c.in-Some.rest.now) (sym c.new-in-Some-Undecided.ensures)
    (read_kinds c.args.order.now.names bytes c.args.text.now c.in-Some.line.now c.in-Some.rest.now c.in_ok-read_line.field-0
    (kinds.Undecided c.in-Some-Undecided.limit)
    (sym c.in-Some.ensures) c.in_ok-read_line.ensures.line (sym c.in-Some-Undecided.ensures ∙ ap Some c.in-Some-Undecided.field-0-is) read))

pub returns-in-None : goal.returns-in-None
returns-in-None c = λ bytes read.
    no_kind c.args.order.now.names bytes c.args.text.now c.in-Some.line.now c.in-Some.rest.now c.in_ok-read_line.field-0 (sym c.in-Some.ensures)
    c.in_ok-read_line.ensures.line c.in_ok-read_line.ensures.none (sym c.in-None.ensures) read
