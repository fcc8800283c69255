-- How words are spelled: names of files, numbers, and options with a value or without.
use Rattle.std.proofs.Common.{refl, ap, sym, subst, ◌≡◌, ◌∙◌, ℕ, suc, ◌+◌, Bool, true, false, cond, eqb, [], ◌∷◌, ◌++◌, Option}
use Rattle.std.proofs.Common.{Some, None, codes, inl, inr, arith, append_assoc}
use Rattle.std.specs.Prelude.{not, ◌==◌, ◌⊎◌, option_and_then}
use Rattle.std.specs.List.{before_first, after_first, prefix_len}
use Rattle.std.specs.Str.{bytes_eq}
use Rattle.std.specs.Char.{is_ascii_digit}
use Rattle.std.proofs.lemmas.Bool.{cases_Bool, false≢true}
use Rattle.std.proofs.lemmas.Bool.Decides.{eqb_tells, nat_tests}
use Rattle.std.proofs.lemmas.Slice.Eq.{bytes_eq-Decides}
use Rattle.clap.specs.Lexer.{long_of, long_of_rest, short_of, strip_byte, has_byte, name_and_value}
use Rattle.list_words.specs.Lists.{IsOneOf}
use Rattle.list_words.proofs.EachLemmas.{each_at}
use Rattle.list_words.proofs.TestLemmas.{and_both}
use Rattle.command_words.specs.Words.{IsFileName, IsNumber, flag, flag_with, option_names}
use Rattle.command_words.specs.Reading.{Text, dashes, is_plain, is_name}

-- the word is neither `--` nor an option
pub record IsPlain (word : Text) : Type 0 where
  pub other : bytes_eq word dashes ≡ false
  pub long : long_of word ≡ None
  pub short : short_of word ≡ None

begins_plain : (first : ℕ) (rest : Text) → eqb first 45 ≡ false → IsPlain (first ∷ rest)
begins_plain first rest e = record { other = rw e refl; long = rw e refl; short = rw e refl }

pub file_plain : (word : Text) → IsFileName word → IsPlain word
file_plain [] named = absurd (named.0 refl)
file_plain (first ∷ rest) named = elim (eqb_tells first 45) [
  | inl hyphen ↦ absurd (named.1 rest (ap (λ b. b ∷ rest) hyphen.1))
  | inr other ↦ begins_plain first rest other.0
]

digit_other : (b : ℕ) → is_ascii_digit b ≡ true → eqb b 45 ≡ false
digit_other b h = grind (arith, nat_tests)

pub number_plain : (word : Text) (number : ℕ) → IsNumber word number → IsPlain word
number_plain [] number is = let some = is.some in absurd (omega (arith, some))
number_plain (first ∷ rest) number is = begins_plain first rest (digit_other first (and_both (is_ascii_digit first) _ is.digits).0)

pub plain_is : (word : Text) → IsPlain word → is_plain word ≡ true
plain_is word plain = rw (plain.other, plain.long, plain.short) refl

-- ---- the names of options

-- what holds of the four names holds of each
pub by_names : (P : Text → Type 0) → P (codes "limit") → P (codes "workers") → P (codes "connections") → P (codes "port")
    → (name : Text) → is_name option_names name ≡ true → P name
by_names P limit workers connections port name known = elim (cases_Bool (bytes_eq (codes "limit") name)) [
  | inl first ↦ subst P ((bytes_eq-Decides (codes "limit") name).0 first) limit
  | inr not_first ↦ elim (cases_Bool (bytes_eq (codes "workers") name)) [
    | inl second ↦ subst P ((bytes_eq-Decides (codes "workers") name).0 second) workers
    | inr not_second ↦ elim (cases_Bool (bytes_eq (codes "connections") name)) [
      | inl third ↦ subst P ((bytes_eq-Decides (codes "connections") name).0 third) connections
      | inr not_third ↦ elim (cases_Bool (bytes_eq (codes "port") name)) [
        | inl fourth ↦ subst P ((bytes_eq-Decides (codes "port") name).0 fourth) port
        | inr not_fourth ↦
            let none : is_name option_names name ≡ false = rw (not_first, not_second, not_third, not_fourth) refl in absurd (false≢true (sym none ∙ known))
      ]
    ]
  ]
]

pub name_listed : (name : Text) → is_name option_names name ≡ true → IsOneOf option_names name
name_listed name known = by_names (λ n. IsOneOf option_names n) (0, refl) (1, refl) (2, refl) (3, refl) name known

pub listed_name : (name : Text) → IsOneOf option_names name → is_name option_names name ≡ true
listed_name name listed =
    each_at (λ n. is_name option_names n ≡ true) option_names listed.0 name (refl, (refl, (refl, (refl, tt)))) listed.1

-- ---- options, read

-- the word is an option's, with a value or without
pub record IsOption (word name : Text) (value : Option Text) : Type 0 where
  pub other : bytes_eq word dashes ≡ false
  pub long : long_of word ≡ Some (name, value)

pub flag_read : (name : Text) → is_name option_names name ≡ true → IsOption (flag name) name None
flag_read name known =
    by_names (λ n. IsOption (flag n) n None) (record { other = refl; long = refl }) (record { other = refl; long = refl })
    (record { other = refl; long = refl }) (record { other = refl; long = refl }) name known

pub joined_read : (name value : Text) → is_name option_names name ≡ true → IsOption (flag_with name ++ value) name (Some value)
joined_read name value known =
    by_names (λ n. IsOption (flag_with n ++ value) n (Some value)) (record { other = refl; long = refl }) (record { other = refl; long = refl })
    (record { other = refl; long = refl }) (record { other = refl; long = refl }) name known

-- ---- and back to their words

abbrev is_equals : ℕ → Bool
is_equals b = b == 61

-- where there is a `=`, the text is what stands before the first one and what stands after it
cut_back : (text : Text) → has_byte 61 text ≡ true → before_first is_equals text ++ 61 ∷ after_first is_equals text ≡ text
cut_back [] has = absurd (false≢true has)
cut_back (first ∷ rest) has = elim (eqb_tells first 61) [
  | inl hit ↦ rw hit.0 (ap (λ b. b ∷ rest) (sym hit.1))
  | inr miss ↦
      let has_rest : has_byte 61 rest ≡ true = rw miss.0 at has in
      let back = cut_back rest has_rest in
      let n = prefix_len (λ b. not (is_equals b)) rest in
      let after : 1 + n + 1 ≡ suc (n + 1) = omega arith in
      let before : 1 + n ≡ suc n = omega arith in
      rw (miss.0, after, before) (ap (λ t. first ∷ t) back)
]

uncut : (text : Text) → has_byte 61 text ≡ false → before_first is_equals text ≡ text
uncut [] has = refl
uncut (first ∷ rest) has = elim (eqb_tells first 61) [
  | inl hit ↦ let never : true ≡ false = rw hit.0 at has in absurd (false≢true (sym never))
  | inr miss ↦
      let has_rest : has_byte 61 rest ≡ false = rw miss.0 at has in
      let back = uncut rest has_rest in
      let n = prefix_len (λ b. not (is_equals b)) rest in
      let before : 1 + n ≡ suc n = omega arith in
      rw (miss.0, before) (ap (λ t. first ∷ t) back)
]

-- what stands behind the hyphens
abbrev rest_of : Text → Option Text → Text
rest_of name None = name
rest_of name (Some value) = name ++ 61 ∷ value

name_back : (text name : Text) (value : Option Text) → name_and_value text ≡ (name, value) → text ≡ rest_of name value
name_back text name value e = by_test (has_byte 61 text) refl e
  where
    by_value : (v : Option Text) → text ≡ rest_of (before_first is_equals text) v → before_first is_equals text ≡ name → v ≡ value
        → text ≡ rest_of name value
    by_value v is named valued = is ∙ ap (λ n. rest_of n v) named ∙ ap (rest_of name) valued

    by_test : (t : Bool) → has_byte 61 text ≡ t
        → ◌≡◌ {A = Text × Option Text} (before_first is_equals text, cond t (Some (after_first is_equals text)) None) (name, value) → text ≡ rest_of name value
    by_test true has e = by_value (Some (after_first is_equals text)) (sym (cut_back text has)) (ap (λ p. p.0) e) (ap (λ p. p.1) e)
    by_test false has e = by_value None (sym (uncut text has)) (ap (λ p. p.0) e) (ap (λ p. p.1) e)

-- the word of an option
abbrev pub word_of : Text → Option Text → Text
word_of name None = flag name
word_of name (Some value) = flag_with name ++ value

with_hyphens : (name : Text) (value : Option Text) → 45 ∷ 45 ∷ rest_of name value ≡ word_of name value
with_hyphens name None = refl
with_hyphens name (Some value) = ap (λ t. 45 ∷ 45 ∷ t) (sym (append_assoc name (61 ∷ []) value))

pub long_back : (word name : Text) (value : Option Text) → long_of word ≡ Some (name, value) → word ≡ word_of name value
long_back [] name value e = cc e
long_back (first ∷ rest) name value e = by_first (eqb_tells first 45)
  where
    behind_both : (text : Text) → long_of_rest text ≡ Some (name, value) → 45 ∷ 45 ∷ text ≡ word_of name value
    behind_both [] e = cc e
    behind_both (b ∷ text) e =
        let same : name_and_value (b ∷ text) ≡ (name, value) = cc e in
        ap (λ t. 45 ∷ 45 ∷ t) (name_back (b ∷ text) name value same) ∙ with_hyphens name value

    by_second : (text : Text) → option_and_then long_of_rest (strip_byte 45 text) ≡ Some (name, value) → 45 ∷ text ≡ word_of name value
    by_second [] e = cc e
    by_second (b ∷ text) e = elim (eqb_tells b 45) [
      | inl hyphen ↦
          let behind : long_of_rest text ≡ Some (name, value) = rw hyphen.0 at e in
          ap (λ c. 45 ∷ c ∷ text) hyphen.1 ∙ behind_both text behind
      | inr other ↦ let none : ◌≡◌ {A = Option (Text × Option Text)} None (Some (name, value)) = rw other.0 at e in cc none
    ]

    by_first : ((eqb first 45 ≡ true) × (first ≡ 45)) ⊎ ((eqb first 45 ≡ false) × (first ≡ 45 → ⊥)) → first ∷ rest ≡ word_of name value
    by_first (inl hyphen) =
        let behind : option_and_then long_of_rest (strip_byte 45 rest) ≡ Some (name, value) = rw hyphen.0 at e in
        ap (λ c. c ∷ rest) hyphen.1 ∙ by_second rest behind
    by_first (inr other) = let none : ◌≡◌ {A = Option (Text × Option Text)} None (Some (name, value)) = rw other.0 at e in cc none
