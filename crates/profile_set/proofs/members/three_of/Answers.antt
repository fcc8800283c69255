use Rattle.std.proofs.Common.{sym, arith, ◌≡◌, length}
use Rattle.csv.specs.Records.{fields_of}
use Rattle.csv.proofs.RecordFacts.{field-there}
use Rattle.profile_set.proofs.FieldLemmas.{none_told, three_are}
use Rattle.profile_set.proofs.members.three_of.Goals as goal

pub returns-in_err-get-clause-none : goal.returns-in_err-get-clause-none
returns-in_err-get-clause-none c =
    none_told c.from_residual.result _ (λ kind name role e. field-there (fields_of c.args.fields.now) 0 (omega arith) (sym c.in_err-get.ensures.value))

pub returns-in_err-get-2-clause-none : goal.returns-in_err-get-2-clause-none
returns-in_err-get-2-clause-none c =
    none_told c.from_residual-in_err-get-2.result _
    (λ kind name role e. field-there (fields_of c.args.fields.now) 1 (omega arith) (sym c.in_err-get-2.ensures.value))

pub returns-in_err-get-3-clause-none : goal.returns-in_err-get-3-clause-none
returns-in_err-get-3-clause-none c =
    none_told c.from_residual-in_err-get-3.result _
    (λ kind name role e. field-there (fields_of c.args.fields.now) 2 (omega arith) (sym c.in_err-get-3.ensures.value))

pub returns-clause-some : goal.returns-clause-some
returns-clause-some c =
    let three : length (fields_of c.args.fields.now) ≡ 3 = omega (arith, c.len.ensures) in
    three_are (fields_of c.args.fields.now) c.in_ok-get.field-0.now c.in_ok-get-2.field-0.now c.in_ok-get-3.field-0.now three c.in_ok-get.ensures.value
    c.in_ok-get-2.ensures.value c.in_ok-get-3.ensures.value
