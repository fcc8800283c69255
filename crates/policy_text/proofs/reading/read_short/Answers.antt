use Rattle.std.proofs.Common.{◌∙◌, sym, arith, refl, subst}
use Rattle.std.specs.Prelude.{codes}
use Rattle.std.proofs.lemmas.Bool.{false≢true}
use Rattle.std.proofs.lemmas.Slice.Eq.{bytes_eq-Decides}
use Rattle.std.proofs.lemmas.Result.{err_from_is_err_and}
use Rattle.role_order.proofs.NameLemmas.{length_texts}
use Rattle.policy_text.specs.Runs.{StandsFor}
use Rattle.policy_text.specs.Steps.{listing_view, order_view, run_view}
use Rattle.policy_text.proofs.RunLemmas.{few_nothing}
use Rattle.policy_text.proofs.ReadLemmas.{headed, no_line_first, ahead_first, told_first, order_first, order_passes, body_first, stands, is_policy}
use Rattle.policy_text.proofs.ReadLemmas.{is_countable, behind_head}
use Rattle.policy_text.proofs.reading.read_short.Goals as goal

pub returns-in_default-clause-first : goal.returns-in_default-clause-first
returns-in_default-clause-first c = no_line_first c.args.bytes.now (sym c.in_default.ensures)

pub returns-then-not-is-clause-first : goal.returns-then-not-is-clause-first
returns-then-not-is-clause-first c =
    ahead_first c.args.bytes.now c.in-Some.line.now c.in-Some.rest.now (sym c.in-Some.ensures)
    (λ is. false≢true (sym (sym c.is.ensures ∙ c.if-not-is.true) ∙ (bytes_eq-Decides c.in-Some.line.now (codes "run 1")).1 is))

pub read_listing-requires : goal.read_listing-requires
read_listing-requires c =
    let head = (bytes_eq-Decides c.in-Some.line.now (codes "run 1")).0 (sym c.is.ensures ∙ c.if-not-is.false) in
    let long = behind_head c.args.bytes.now c.in-Some.line.now c.in-Some.rest.now (sym c.in-Some.ensures) head in
    omega (arith, long, c.requires)

pub returns-in_err-listing-clause-first : goal.returns-in_err-listing-clause-first
returns-in_err-listing-clause-first c =
    let head = (bytes_eq-Decides c.in-Some.line.now (codes "run 1")).0 (sym c.is.ensures ∙ c.if-not-is.false) in
    let p = err_from_is_err_and c.from_residual.result c.from_residual.ensures.1 in
    rw (p.1, p.2) (told_first c.args.bytes.now c.in-Some.rest.now _
    (headed c.args.bytes.now c.in-Some.line.now c.in-Some.rest.now (sym c.in-Some.ensures) head) c.in_err-listing.ensures.fault)

pub order_of-requires-clause-names : goal.order_of-requires-clause-names
order_of-requires-clause-names c =
    let listing = c.in_ok-listing.field-0.listing in
    let few = few_nothing (listing_view listing) c.in_ok-listing.ensures.read.lines c.in_ok-listing.ensures.read.added in
    let count = length_texts listing.names.items in
    omega (arith, few.names, count, listing.names.ok.0)

pub order_of-requires-clause-edges : goal.order_of-requires-clause-edges
order_of-requires-clause-edges c =
    let listing = c.in_ok-listing.field-0.listing in
    let few = few_nothing (listing_view listing) c.in_ok-listing.ensures.read.lines c.in_ok-listing.ensures.read.added in
    omega (arith, few.edges, listing.edges.ok.0)

pub returns-in_err-order-clause-first : goal.returns-in_err-order-clause-first
returns-in_err-order-clause-first c =
    let head = (bytes_eq-Decides c.in-Some.line.now (codes "run 1")).0 (sym c.is.ensures ∙ c.if-not-is.false) in
    let p = err_from_is_err_and c.from_residual-in_err-order.result c.from_residual-in_err-order.ensures.1 in
    rw (p.1, p.2) (order_first c.args.bytes.now c.in-Some.rest.now c.in_ok-listing.field-0.rest.now
    (listing_view c.in_ok-listing.field-0.listing) c.in_ok-listing.field-0.number _
    (headed c.args.bytes.now c.in-Some.line.now c.in-Some.rest.now (sym c.in-Some.ensures) head) c.in_ok-listing.ensures.read refl
    c.in_ok-listing.ensures.ends c.in_err-order.ensures.refused)

pub read_body-requires-clause-short : goal.read_body-requires-clause-short
read_body-requires-clause-short c =
    let head = (bytes_eq-Decides c.in-Some.line.now (codes "run 1")).0 (sym c.is.ensures ∙ c.if-not-is.false) in
    let long = behind_head c.args.bytes.now c.in-Some.line.now c.in-Some.rest.now (sym c.in-Some.ensures) head in
    omega (arith, long, c.requires, c.in_ok-listing.ensures.room)

pub returns-in_err-body-clause-first : goal.returns-in_err-body-clause-first
returns-in_err-body-clause-first c =
    let head = (bytes_eq-Decides c.in-Some.line.now (codes "run 1")).0 (sym c.is.ensures ∙ c.if-not-is.false) in
    let p = err_from_is_err_and c.from_residual-in_err-body.result c.from_residual-in_err-body.ensures.1 in
    rw (p.1, p.2) (body_first c.args.bytes.now c.in-Some.rest.now c.in_ok-listing.field-0.rest.now
    (order_view c.in_ok-order.order) c.in_ok-listing.field-0.number _
    (headed c.args.bytes.now c.in-Some.line.now c.in-Some.rest.now (sym c.in-Some.ensures) head)
    (order_passes c.in-Some.rest.now c.in_ok-listing.field-0.rest.now c.in_ok-listing.field-0.listing c.in_ok-order.order
    c.in_ok-listing.field-0.number c.in_ok-listing.ensures.read c.in_ok-order.ensures.names
    c.in_ok-order.ensures.edges) c.in_err-body.ensures.fault)

pub run_of-requires-clause-known : goal.run_of-requires-clause-known
run_of-requires-clause-known c =
    is_policy c.in-Some.rest.now c.in_ok-listing.field-0.rest.now c.in_ok-order.order c.in_ok-body.body c.in_ok-listing.field-0.number
    (order_passes c.in-Some.rest.now c.in_ok-listing.field-0.rest.now c.in_ok-listing.field-0.listing c.in_ok-order.order
    c.in_ok-listing.field-0.number c.in_ok-listing.ensures.read c.in_ok-order.ensures.names
    c.in_ok-order.ensures.edges) c.in_ok-body.ensures.read

pub run_of-requires-clause-few : goal.run_of-requires-clause-few
run_of-requires-clause-few c =
    is_countable c.in-Some.rest.now c.in_ok-listing.field-0.rest.now c.in_ok-order.order c.in_ok-body.body c.in_ok-listing.field-0.number
    (order_passes c.in-Some.rest.now c.in_ok-listing.field-0.rest.now c.in_ok-listing.field-0.listing c.in_ok-order.order
    c.in_ok-listing.field-0.number c.in_ok-listing.ensures.read c.in_ok-order.ensures.names
    c.in_ok-order.ensures.edges) c.in_ok-body.ensures.read

pub returns-clause-found : goal.returns-clause-found
returns-clause-found c =
    let head = (bytes_eq-Decides c.in-Some.line.now (codes "run 1")).0 (sym c.is.ensures ∙ c.if-not-is.false) in
    subst (StandsFor c.args.bytes.now) (sym c.run_of.ensures.run)
    (stands c.args.bytes.now c.in-Some.rest.now c.in_ok-listing.field-0.rest.now (order_view c.in_ok-order.order)
    (run_view c.in_ok-order.order c.in_ok-body.body) c.in_ok-listing.field-0.number
    (headed c.args.bytes.now c.in-Some.line.now c.in-Some.rest.now (sym c.in-Some.ensures) head)
    (order_passes c.in-Some.rest.now c.in_ok-listing.field-0.rest.now c.in_ok-listing.field-0.listing c.in_ok-order.order
    c.in_ok-listing.field-0.number c.in_ok-listing.ensures.read c.in_ok-order.ensures.names
    c.in_ok-order.ensures.edges) c.in_ok-body.ensures.read)
