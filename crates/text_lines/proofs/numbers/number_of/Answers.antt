use Rattle.text_lines.proofs.NumberLemmas.{digits_are, no_digits}
use Rattle.text_lines.proofs.numbers.number_of.Goals as goal

pub returns-clause-digits : goal.returns-clause-digits
returns-clause-digits c = digits_are c.args.bytes.now c.read_number.result c.read_number.ensures

pub returns-clause-none : goal.returns-clause-none
returns-clause-none c = no_digits c.args.bytes.now c.read_number.result c.read_number.ensures
