use Rattle.cert_text.specs.declared.line.Keyword.TheVariants as k
use Rattle.cert_text.proofs.ToldLemmas.{behind_keyword, word_alone}
use Rattle.cert_text.proofs.line.line_of.Goals as goal

pub returns-in_default : goal.returns-in_default
returns-in_default c =
    let names = c.args.order.now.names in
    word_alone names c.args.bytes.now c.word_line.result c.in_default.ensures (c.word_line.ensures names)

pub returns-in-Some-Undecided : goal.returns-in-Some-Undecided
returns-in-Some-Undecided c =
    let names = c.args.order.now.names in
    behind_keyword names c.args.bytes.now c.in-Some.word.now c.in-Some.rest.now k.Undecided c.undecided_line.result c.in-Some.ensures
    (rw c.in-Some-Undecided.field-0-is at c.in-Some-Undecided.ensures) (c.undecided_line.ensures names)

pub returns-in-Some-Start : goal.returns-in-Some-Start
returns-in-Some-Start c =
    let names = c.args.order.now.names in
    behind_keyword names c.args.bytes.now c.in-Some.word.now c.in-Some.rest.now k.Start c.start_line.result c.in-Some.ensures
    (rw c.in-Some-Start.field-0-is at c.in-Some-Start.ensures) (c.start_line.ensures names)
