use Rattle.std.proofs.Common.{Option, subst}
use Rattle.std.specs.Prelude.{IfSome}
use Rattle.cert_text.specs.declared.line.Line.{Line}
use Rattle.cert_text.specs.Views.{IsLine}
use Rattle.cert_text.proofs.StepLemmas.{line_adds, line_faults}
use Rattle.cert_text.proofs.reading.add_line.Goals as goal

pub returns-clause-added : goal.returns-clause-added
returns-clause-added g c =
    let names = c.args.order.now.names in
    let is = subst (λ (o : Option Line). IfSome o (IsLine names c.args.line.now)) c.in-Some.is c.in_ok-form.ensures.line in
    line_adds names (g.S.Section.draft c.args.section.now) c.args.line.now c.in-Some.form c.args.number
    (g.S.Section.draft c.add.new.self) c.add.result is (c.add.ensures names)

pub returns-clause-fault : goal.returns-clause-fault
returns-clause-fault g c =
    let names = c.args.order.now.names in
    let is = subst (λ (o : Option Line). IfSome o (IsLine names c.args.line.now)) c.in-Some.is c.in_ok-form.ensures.line in
    line_faults names (g.S.Section.draft c.args.section.now) c.args.line.now c.in-Some.form c.args.number
    (g.S.Section.draft c.add.new.self) c.add.result is (c.add.ensures names)
