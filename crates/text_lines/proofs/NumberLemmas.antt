-- Numbers are read from their decimal digits, and from these alone.
use Rattle.std.proofs.Common.{ℕ, ◌≡◌, ◌<◌, ◌^◌, Bool, true, false, List, [], ◌∷◌, length, get_or, refl, arith, rules, sym, ◌∙◌, ap}
use Rattle.std.proofs.Common.{subst, Option, Some, None, Result, Ok, Err, IfSome, IfNone, eqb, ltb, zero, suc}
use Rattle.std.specs.Prelude.{not, ◌&&◌, ◌||◌}
use Rattle.std.specs.List.{list_all}
use Rattle.std.specs.Result.{result_ok, OkIff}
use Rattle.std.specs.Char.{is_ascii_digit}
use Rattle.std.specs.Fmt.{decimal}
use Rattle.std.specs.Str.{IsUtf8, IsAscii}
use Rattle.std.specs.Str.Parse.{ParsesUnsigned, digits_value}
use Rattle.std.proofs.lemmas.Bool.{ne_eqb, eq-eqb, eqb-true}
use Rattle.std.proofs.lemmas.Bool.Decides.{nat_tests}
use Rattle.std.proofs.lemmas.Fmt.{digits_decimal, digits_value-decimal, decimal_nonempty, decimal_digit, first_decimal, decimal-digits_value}
use Rattle.std.proofs.lemmas.Str.{IsUtf8-from_ascii}
use Rattle.std.proofs.lemmas.Str.Parse.{IsNumeralModel, IsDigitsTest, numerals_by_value, parse_digits}
use Rattle.cond_text.specs.Cuts.{only_if}
use Rattle.text_lines.specs.Numbers.{is_numeral, number_in}
use Rattle.cond_text.proofs.CutLemmas.{Lacks}
use Rattle.cond_text.proofs.NamedLemmas.{lacks_other}
use Rattle.list_words.proofs.TestLemmas.{and_both}

-- bytes of digits alone are the numerals that std reads
digits_test : IsDigitsTest (λ ds. list_all is_ascii_digit ds ≡ true)
digits_test = search rules

own : IsNumeralModel (λ ds. list_all is_ascii_digit ds ≡ true) (digits_value 10)
own = numerals_by_value _ digits_test

digits_of : (bytes : List ℕ) → is_numeral bytes ≡ true → list_all is_ascii_digit bytes ≡ true
unfolding is_numeral
digits_of bytes h = (and_both (list_all is_ascii_digit bytes) _ ((and_both (list_all is_ascii_digit bytes && not (eqb (length bytes) 0)) _ h).0)).0

numeral_long : (bytes : List ℕ) → is_numeral bytes ≡ true → 0 < length bytes
unfolding is_numeral
numeral_long bytes h =
    longer bytes ((and_both (list_all is_ascii_digit bytes) _ ((and_both (list_all is_ascii_digit bytes && not (eqb (length bytes) 0)) _ h).0)).1)
  where
    longer : (bytes : List ℕ) → not (eqb (length bytes) 0) ≡ true → 0 < length bytes
    longer [] e = absurd (cc)
    longer (b ∷ bs) e = omega arith

digit_small : (b : ℕ) → is_ascii_digit b ≡ true → b < 128
digit_small b h = grind (arith, nat_tests)

-- a numeral is text
pub numeral_text : (bytes : List ℕ) → is_numeral bytes ≡ true → IsUtf8 bytes
numeral_text bytes h = IsUtf8-from_ascii bytes (small bytes (digits_of bytes h))
  where
    small : (text : List ℕ) → list_all is_ascii_digit text ≡ true → IsAscii text
    small [] h i = omega arith
    small (b ∷ bs) h zero = digit_small b ((and_both (is_ascii_digit b) _ h).0)
    small (b ∷ bs) h (suc i) = small bs ((and_both (is_ascii_digit b) _ h).1) i

pub number_refused : (bytes : List ℕ) → is_numeral bytes ≡ false → None ≡ number_in bytes
unfolding number_in
number_refused bytes h = rw h refl

-- what std parses is the number
pub number_parsed : {E : Type 0} (bytes : List ℕ) (r : Result ℕ E) → is_numeral bytes ≡ true → ParsesUnsigned 32 10 bytes r
    → result_ok r ≡ number_in bytes
unfolding number_in
number_parsed {E} bytes r h parses = by_result r (parse_digits own 32 bytes r parses (digits_of bytes h))
  where
    by_result : (r : Result ℕ E) → OkIff r ((0 < length bytes) × (digits_value 10 bytes < 2 ^ 32)) (digits_value 10 bytes)
        → result_ok r ≡ only_if (is_numeral bytes && ltb (digits_value 10 bytes) (2 ^ 32)) (digits_value 10 bytes)
    by_result (Ok x) k =
        let fits : ltb (digits_value 10 bytes) (2 ^ 32) ≡ true = grind (arith, nat_tests) in
        rw (h, fits) (ap Some k.1)
    by_result (Err e) k = by_size (ltb (digits_value 10 bytes) (2 ^ 32)) refl
      where
        by_size : (t : Bool) → ltb (digits_value 10 bytes) (2 ^ 32) ≡ t → None ≡ only_if (is_numeral bytes && t) (digits_value 10 bytes)
        by_size true s = let less : digits_value 10 bytes < 2 ^ 32 = grind (arith, nat_tests) in absurd (k (numeral_long bytes h, less))
        by_size false s = rw h refl

fits : (n : ℕ) → n < 2 ^ 32 → n < 2 ^ 64
fits n h = omega arith

leading : (n : ℕ) → n < 2 ^ 32 → (not (eqb (get_or (decimal n) 0 0) 48) || eqb (length (decimal n)) 1) ≡ true
leading zero h = rw (decimal_digit 0 (omega arith)) refl
leading (suc n) h =
    let first : 48 < get_or (decimal (suc n)) 0 0 = first_decimal (suc n) (omega arith) (fits (suc n) h) in
    let other : eqb (get_or (decimal (suc n)) 0 0) 48 ≡ false = ne_eqb (get_or (decimal (suc n)) 0 0) 48 (λ e. omega arith) in
    rw other refl

numeral_decimal : (n : ℕ) → n < 2 ^ 32 → is_numeral (decimal n) ≡ true
unfolding is_numeral
numeral_decimal n h =
    let long : 0 < length (decimal n) = decimal_nonempty n (fits n h) in
    let full : eqb (length (decimal n)) 0 ≡ false = ne_eqb (length (decimal n)) 0 (λ e. omega arith) in
    let digits : list_all is_ascii_digit (decimal n) ≡ true = digits_decimal own n (fits n h) in
    rw (digits, full, leading n h) refl

-- a number is read from its digits
pub number_found : (n : ℕ) → n < 2 ^ 32 → number_in (decimal n) ≡ Some n
unfolding number_in
number_found n h =
    let small : ltb n (2 ^ 32) ≡ true = grind (arith, nat_tests) in
    rw (numeral_decimal n h, digits_value-decimal own n (fits n h), small) refl

-- no digit is another byte
pub decimal_lacks : (sign n : ℕ) → is_ascii_digit sign ≡ false → n < 2 ^ 32 → Lacks sign (decimal n)
decimal_lacks sign n out h = lacks_other is_ascii_digit sign (decimal n) out (digits_decimal own n (fits n h))

unled : (text : List ℕ) → (not (eqb (get_or text 0 0) 48) || eqb (length text) 1) ≡ true → get_or text 0 0 ≡ 48 → length text ≡ 1
unled text h first =
    let same : eqb (get_or text 0 0) 48 ≡ true = eq-eqb (get_or text 0 0) 48 first in
    eqb-true (length text) 1 (rw same at h)

value_is : (text : List ℕ) → is_numeral text ≡ true → ltb (digits_value 10 text) (2 ^ 32) ≡ true → (digits_value 10 text < 2 ^ 32)
    × (decimal (digits_value 10 text) ≡ text)
unfolding is_numeral
value_is text numeral small =
    let less : digits_value 10 text < 2 ^ 32 = grind (arith, nat_tests) in (
      less,
      decimal-digits_value own text (digits_of text numeral) (numeral_long text numeral) (unled text ((and_both _ _ numeral).1))
          (fits (digits_value 10 text) less),
    )

-- what is read as a number is its digits
pub number_is : (text : List ℕ) (n : ℕ) → number_in text ≡ Some n → (n < 2 ^ 32) × (decimal n ≡ text)
unfolding number_in
number_is text n e = by_test (is_numeral text && ltb (digits_value 10 text) (2 ^ 32)) refl e
  where
    by_test : (t : Bool) → (is_numeral text && ltb (digits_value 10 text) (2 ^ 32)) ≡ t → only_if t (digits_value 10 text) ≡ Some n → (n < 2 ^ 32)
        × (decimal n ≡ text)
    by_test true t e =
        let same : digits_value 10 text ≡ n = cc in
        let P : ℕ → Type 0 = λ m. (m < 2 ^ 32) × (decimal m ≡ text) in
        subst P same (value_is text ((and_both (is_numeral text) _ t).0) ((and_both (is_numeral text) _ t).1))
    by_test false t e = absurd (cc)

-- a text that is read as a number is its digits
pub digits_are : (text : List ℕ) (read : Option ℕ) → read ≡ number_in text → IfSome read (λ n. decimal n ≡ text)
digits_are text None e = tt
digits_are text (Some n) e = (number_is text n (sym e)).1

-- a text that isn't read as a number is no number's digits
pub no_digits : (text : List ℕ) (read : Option ℕ) → read ≡ number_in text → IfNone read ((n : ℕ) → n < 2 ^ 32 → decimal n ≡ text → ⊥)
no_digits text (Some n) e = tt
no_digits text None e = λ n h spelled. differ n (e ∙ ap number_in (sym spelled) ∙ number_found n h)
  where
    differ : (n : ℕ) → None ≡ Some n → ⊥
    differ n same = cc
