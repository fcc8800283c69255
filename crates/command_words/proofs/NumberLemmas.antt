-- A text that is a number is read as that number.
use Rattle.std.proofs.Common.{ℕ, ◌≡◌, ◌<◌, ◌^◌, true, List, ◌∙◌, ap, arith, rules, Option, Some, None, Result, Ok, IfNone}
use Rattle.std.specs.List.{list_all}
use Rattle.std.specs.Result.{result_ok}
use Rattle.std.specs.Char.{is_ascii_digit}
use Rattle.std.specs.Str.Parse.{ParsesUnsigned, digits_value}
use Rattle.std.proofs.lemmas.Str.Parse.{IsNumeralModel, IsDigitsTest, numerals_by_value, parse_gives, digits_value_short}
use Rattle.command_words.specs.Words.{IsNumber}

digits_test : IsDigitsTest (λ ds. list_all is_ascii_digit ds ≡ true)
digits_test = search rules

-- bytes of digits alone are the numerals that std reads
own : IsNumeralModel (λ ds. list_all is_ascii_digit ds ≡ true) (digits_value 10)
own = numerals_by_value _ digits_test

pub number_parsed : {E : Type 0} (text : List ℕ) (number : ℕ) (read : Result ℕ E) → ParsesUnsigned 32 10 text read → IsNumber text number
    → read ≡ Ok (digits_value 10 text)
number_parsed text number read parses is =
    let some = is.some in
    let below : digits_value 10 text < 10 ^ 7 = digits_value_short own text 7 is.digits is.few in
    parse_gives own 32 text read parses is.digits (omega (arith, some)) (omega (arith, below))

-- where nothing was read the text is no number
pub none_parsed : {E : Type 0} (text : List ℕ) (read : Result ℕ E) (found : Option ℕ) → ParsesUnsigned 32 10 text read → found ≡ result_ok read
    → IfNone found ((number : ℕ) → ¬ IsNumber text number)
none_parsed text read (Some x) parses e = tt
none_parsed text read None parses e = λ number is.
    let never : ◌≡◌ {A = Option ℕ} None (Some (digits_value 10 text)) = e ∙ ap result_ok (number_parsed text number read parses is) in cc never
