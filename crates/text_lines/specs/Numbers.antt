-- Numbers as lines write them.
use Rattle.std.specs.Prelude.{ℕ, ◌==◌, ◌&&◌, ◌||◌, nat_lt, ◌^◌, Bool, not, List, length, Option, codes}
use Rattle.std.specs.List.{list_all}
use Rattle.std.specs.Char.{is_ascii_digit}
use Rattle.std.specs.Str.Parse.{digits_value}
use Rattle.cond_text.specs.Cuts.{byte_of, only_if}

-- decimal digits, without a leading zero
unfoldable pub is_numeral : List ℕ → Bool
is_numeral text = list_all is_ascii_digit text && not (length text == 0) && (not (byte_of text == byte_of (codes "0")) || (length text == 1))

-- the number of 32 bits that the text is
unfoldable pub number_in : List ℕ → Option ℕ
number_in text = only_if (is_numeral text && nat_lt (digits_value 10 text) (2 ^ 32)) (digits_value 10 text)
