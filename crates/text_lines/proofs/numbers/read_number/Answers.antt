use Rattle.std.proofs.Common.{◌∙◌, sym, subst, List, ℕ}
use Rattle.std.specs.Str.Parse.{ParsesUnsigned}
use Rattle.text_lines.proofs.NumberLemmas.{number_parsed, numeral_text}
use Rattle.text_lines.proofs.numbers.read_number.Goals as goal

-- digits are text, so this arm is taken, and what is parsed is the number
pub returns-in-Ok : goal.returns-in-Ok
returns-in-Ok c =
    let P : List ℕ → Type 0 = λ t. ParsesUnsigned 32 10 t c.parse.result in
    c.ok.ensures.value ∙ number_parsed c.args.bytes.now c.parse.result (sym c.is_numeral.ensures ∙ c.if-not-is_numeral.false)
    (subst P c.in-Ok.ensures.cases.0 c.parse.ensures.value.0)

-- digits are text, so this arm isn't taken
pub returns-in-Err : goal.returns-in-Err
returns-in-Err c = absurd (c.in-Err.ensures.cases.0 (numeral_text c.args.bytes.now (sym c.is_numeral.ensures ∙ c.if-not-is_numeral.false)))
