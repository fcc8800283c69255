use Rattle.std.proofs.Common.{Bor, List, ℕ, ◌≡◌, ◌∙◌, sym, refl, rules, Some, length, arith, ◌+◌}
use Rattle.std.proofs.lemmas.Bool.{false≢true}
use Rattle.std.proofs.lemmas.Result.{err_from_is_err_and}
use Rattle.profile_set.proofs.RowLemmas.{few, no_record, first_refused, other_first, header_read, row_read, is_text, all_read, row_refused, record_refused}
use Rattle.profile_set.proofs.members.read.Goals as goal

pub returns-in_default-clause-fault : goal.returns-in_default-clause-fault
returns-in_default-clause-fault c =
    no_record (λ (s : Bor (List ℕ)). Some s.now) c.args.order.now.names c.args.bytes.now c.records_of-records.result c.next.new.self
    c.records_of-records.ensures c.in_default.ensures.steps

pub returns-in_err-taken-clause-fault : goal.returns-in_err-taken-clause-fault
returns-in_err-taken-clause-fault c =
    let p = err_from_is_err_and c.from_residual.result c.from_residual.ensures.1 in
    rw (p.1, p.2)
    (first_refused (λ (s : Bor (List ℕ)). Some s.now) c.args.order.now.names c.args.bytes.now c.records_of-records.result c.next.new.self c.in-Some.first _
    c.records_of-records.ensures c.in-Some.ensures.steps c.in_err-taken.ensures.err)

pub returns-then-not-is_header-clause-fault : goal.returns-then-not-is_header-clause-fault
returns-then-not-is_header-clause-fault c =
    other_first (λ (s : Bor (List ℕ)). Some s.now) c.args.order.now.names c.args.bytes.now c.records_of-records.result c.next.new.self c.in_ok-taken.field-0
    c.records_of-records.ensures
    (rw c.in_ok-taken.ensures.ok at c.in-Some.ensures.steps) (λ is. false≢true (sym c.if-not-is_header.true ∙ c.is_header-2.ensures.1 is))

-- the first record is the header, and no record behind it was read yet
pub loop-given-init : goal.loop-given-init
loop-given-init c =
    let start = c.into_iter-given-iterator.ensures.into_iter_gives ∙ refl in
    rw (start, c.new-rows.ensures.items)
    (header_read (λ (s : Bor (List ℕ)). Some s.now) c.args.order.now.names c.args.bytes.now c.records_of-records.result c.next.new.self c.in_ok-taken.field-0
    c.records_of-records.ensures
    (rw c.in_ok-taken.ensures.ok at c.in-Some.ensures.steps) (c.is_header-2.ensures.0 c.if-not-is_header.false))

-- each row took a byte at least
pub overflow_cast-number : goal.overflow_cast-number
overflow_cast-number c =
    let most = few (λ (s : Bor (List ℕ)). Some s.now) c.args.order.now.names c.args.bytes.now c.loop-given.given-iterator c.loop-given.rows.items
    c.loop-given.invariant in
    let count : c.len.result ≡ length c.loop-given.rows.items = search rules in
    omega (arith, most, count, c.requires)

-- each row took a byte at least
pub overflow_add-number : goal.overflow_add-number
overflow_add-number c =
    let most = few (λ (s : Bor (List ℕ)). Some s.now) c.args.order.now.names c.args.bytes.now c.loop-given.given-iterator c.loop-given.rows.items
    c.loop-given.invariant in
    let count : c.len.result ≡ length c.loop-given.rows.items = search rules in
    omega (arith, most, count, c.requires)

pub returns-in_err-fields-clause-fault : goal.returns-in_err-fields-clause-fault
returns-in_err-fields-clause-fault c =
    let p = err_from_is_err_and c.from_residual-in_err-fields.result c.from_residual-in_err-fields.ensures.1 in
    let count : c.len.result ≡ length c.loop-given.rows.items = search rules in
    rw (p.1, p.2)
    (record_refused (λ (s : Bor (List ℕ)). Some s.now) c.args.order.now.names c.args.bytes.now c.loop-given.given-iterator c.next-in-loop-given.new.self
    c.loop-given.rows.items c.in-Some-given.given (c.len.result + 2) _
    c.loop-given.invariant c.in-Some-given.ensures.steps (omega (arith, count)) c.in_err-fields.ensures.err)

-- csv gives text
pub row_of-requires : goal.row_of-requires
row_of-requires c =
    is_text (λ (s : Bor (List ℕ)). Some s.now) c.args.order.now.names c.args.bytes.now c.loop-given.given-iterator c.next-in-loop-given.new.self
    c.loop-given.rows.items c.in_ok-fields.fields
    c.loop-given.invariant (rw c.in_ok-fields.ensures.ok at c.in-Some-given.ensures.steps)

pub returns-in_err-row_of-clause-fault : goal.returns-in_err-row_of-clause-fault
returns-in_err-row_of-clause-fault c =
    let p = err_from_is_err_and c.from_residual-in_err-row_of.result c.from_residual-in_err-row_of.ensures.1 in
    let count : c.len.result ≡ length c.loop-given.rows.items = search rules in
    rw (p.1, p.2)
    (row_refused (λ (s : Bor (List ℕ)). Some s.now) c.args.order.now.names c.args.bytes.now c.loop-given.given-iterator c.next-in-loop-given.new.self
    c.loop-given.rows.items c.in_ok-fields.fields (c.len.result + 2) _
    c.loop-given.invariant (rw c.in_ok-fields.ensures.ok at c.in-Some-given.ensures.steps) (omega (arith, count)) c.in_err-row_of.ensures.fault)

-- the record stands for the row that it is read as
pub loop-given-preserved : goal.loop-given-preserved
loop-given-preserved c =
    rw c.in_ok-push.ensures.items
    (row_read (λ (s : Bor (List ℕ)). Some s.now) c.args.order.now.names c.args.bytes.now c.loop-given.given-iterator c.next-in-loop-given.new.self
    c.loop-given.rows.items c.in_ok-fields.fields c.in_ok-row_of.field-0
    c.loop-given.invariant (rw c.in_ok-fields.ensures.ok at c.in-Some-given.ensures.steps) c.in_ok-row_of.ensures.row)

-- no record is left
pub returns-clause-rows : goal.returns-clause-rows
returns-clause-rows c =
    all_read (λ (s : Bor (List ℕ)). Some s.now) c.args.order.now.names c.args.bytes.now c.loop-given.given-iterator c.next-in-loop-given.new.self
    c.loop-given.rows.items c.loop-given.invariant c.in-None.ensures.steps
