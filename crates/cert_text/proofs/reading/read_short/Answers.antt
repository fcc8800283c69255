use Rattle.std.proofs.Common.{◌∙◌, sym, arith}
use Rattle.std.specs.Prelude.{codes}
use Rattle.std.proofs.lemmas.Bool.{false≢true}
use Rattle.std.proofs.lemmas.Slice.Eq.{bytes_eq-Decides}
use Rattle.cert_text.proofs.ReadLemmas.{read_first, behind_first, no_line_first, ahead_first}
use Rattle.cert_text.proofs.reading.read_short.Goals as goal

pub returns-in_default : goal.returns-in_default
returns-in_default c = no_line_first c.args.order.now.names c.args.bytes.now (sym c.in_default.ensures)

pub returns-then-not-is : goal.returns-then-not-is
returns-then-not-is c =
    ahead_first c.args.order.now.names c.args.bytes.now c.in-Some.line.now c.in-Some.rest.now (sym c.in-Some.ensures)
    (λ is. false≢true (sym (sym c.is.ensures ∙ c.if-not-is.true) ∙ (bytes_eq-Decides c.in-Some.line.now (codes "arbac certificate 1")).1 is))

pub read_kind-requires : goal.read_kind-requires
read_kind-requires c =
    let is = (bytes_eq-Decides c.in-Some.line.now (codes "arbac certificate 1")).0 (sym c.is.ensures ∙ c.if-not-is.false) in
    let long = behind_first c.args.bytes.now c.in-Some.line.now c.in-Some.rest.now (sym c.in-Some.ensures) is in
    omega (arith, long, c.requires)

pub returns : goal.returns
returns c =
    let is = (bytes_eq-Decides c.in-Some.line.now (codes "arbac certificate 1")).0 (sym c.is.ensures ∙ c.if-not-is.false) in
    c.read_kind.ensures c.args.bytes.now
    (read_first c.args.order.now.names c.args.bytes.now c.in-Some.line.now c.in-Some.rest.now (sym c.in-Some.ensures) is)
