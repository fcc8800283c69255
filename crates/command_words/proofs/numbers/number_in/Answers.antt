use Rattle.command_words.proofs.NumberLemmas.{none_parsed}
use Rattle.command_words.proofs.numbers.number_in.Goals as goal

-- a text that is a number would have been parsed
pub returns-clause-none : goal.returns-clause-none
returns-clause-none c = none_parsed c.args.text.now c.parse.result c.ok.result c.parse.ensures.value.0 c.ok.ensures.value
