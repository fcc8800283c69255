-- The values of options, and the numbers that they are.
use Rattle.std.proofs.Common.{refl, ap, sym, subst, ◌≡◌, ◌∙◌, ℕ, zero, suc, true, false, List, [], ◌∷◌, map, Option, Some, None, inl, inr}
use Rattle.std.specs.Prelude.{slice_get}
use Rattle.std.specs.Str.{bytes_eq}
use Rattle.std.proofs.lemmas.Bool.{cases_Bool, false≢true}
use Rattle.std.proofs.lemmas.Slice.Eq.{bytes_eq-Decides}
use Rattle.list_words.specs.Lists.{Each, IsOneOf, AreDifferent}
use Rattle.list_words.proofs.EachLemmas.{each_at, different_rest}
use Rattle.list_words.proofs.GetLemmas.{same_some, get_map}
use Rattle.command_words.specs.Words.{IsNumber, IsTold}
use Rattle.command_words.specs.Views.{IsToldAs}
use Rattle.command_words.specs.Reading.{Text, value_of}

-- the options' values are these numbers, name by name
abbrev pub AreValues : List (Text × Text) → List (Text × ℕ) → Type 0
AreValues [] [] = Unit {0}
AreValues [] (o ∷ os) = ⊥
AreValues (p ∷ ps) [] = ⊥
AreValues (p ∷ ps) (o ∷ os) = (p.0 ≡ o.0) × IsNumber p.1 o.1 × AreValues ps os

abbrev pub name_in : {A : Type 0} → Text × A → Text
name_in p = p.0

pub names_same : (values : List (Text × Text)) (options : List (Text × ℕ)) → AreValues values options → map name_in values ≡ map name_in options
names_same [] [] are = refl
names_same [] (o ∷ options) are = absurd are
names_same (p ∷ values) [] are = absurd are
names_same (p ∷ values) (o ∷ options) are =
    ap (λ n. n ∷ map name_in values) are.0 ∙ ap (λ ns. o.0 ∷ ns) (names_same values options are.2)

-- where each value is a number, these are the numbers
pub numbers_of : (values : List (Text × Text)) → Each (λ p. (number : ℕ) × IsNumber p.1 number) values
    → (options : List (Text × ℕ)) × AreValues values options
numbers_of [] each = ([], tt)
numbers_of (p ∷ values) each = let more = numbers_of values each.1 in ((p.0, each.0.0) ∷ more.0, (refl, each.0.1, more.1))

one_number : (text : Text) (m n : ℕ) → IsNumber text m → IsNumber text n → m ≡ n
one_number text m n is also = is.number_is ∙ sym also.number_is

same_name : (a b : Text) → bytes_eq a b ≡ true → a ≡ b
same_name a b e = (bytes_eq-Decides a b).0 e

pub same_bytes : (a b : Text) → a ≡ b → bytes_eq a b ≡ true
same_bytes a b e = (bytes_eq-Decides a b).1 e

pub other_bytes : (a b : Text) → (a ≡ b → ⊥) → bytes_eq a b ≡ false
other_bytes a b apart = elim (cases_Bool (bytes_eq a b)) [
  | inl hit ↦ absurd (apart (same_name a b hit))
  | inr miss ↦ miss
]

pub apart_bytes : (a b : Text) → bytes_eq a b ≡ false → a ≡ b → ⊥
apart_bytes a b miss e = false≢true (sym miss ∙ same_bytes a b e)

-- no later item has the name of the first
later_apart : {A : Type 0} (p : Text × A) (ps : List (Text × A)) → AreDifferent (map name_in (p ∷ ps))
    → (place : ℕ) (q : Text × A) → slice_get ps place ≡ Some q → p.0 ≡ q.0 → ⊥
later_apart p ps different place q at =
    each_at (λ n. p.0 ≡ n → ⊥) (map name_in ps) place q.0 (different_rest p.0 (map name_in ps) different).0 (get_map name_in ps place q at)

-- each value is found by its name
pub value_there : (values : List (Text × Text)) → AreDifferent (map name_in values) → (place : ℕ) (p : Text × Text)
    → slice_get values place ≡ Some p → value_of p.0 values ≡ Some p.1
value_there [] different place p at = cc at
value_there (q ∷ values) different zero p at =
    let same = same_some q p at in
    rw (same_bytes q.0 p.0 (ap name_in same)) (ap (λ (r : Text × Text). Some r.1) same)
value_there (q ∷ values) different (suc place) p at =
    rw (other_bytes q.0 p.0 (later_apart q values different place p at))
    (value_there values (different_rest q.0 (map name_in values) different).1 place p at)

-- ---- what is told by numbers is told by their values

none_valued : (values : List (Text × Text)) (options : List (Text × ℕ)) → AreValues values options → (name : Text)
    → ((number : ℕ) → ¬ IsOneOf options (name, number)) → value_of name values ≡ None
none_valued [] [] are name none = refl
none_valued [] (o ∷ options) are name none = absurd are
none_valued (p ∷ values) [] are name none = absurd are
none_valued (p ∷ values) (o ∷ options) are name none = elim (cases_Bool (bytes_eq p.0 name)) [
  | inl hit ↦
      let named : o.0 ≡ name = sym are.0 ∙ same_name p.0 name hit in
      absurd (none o.1 (0, ap (λ (n : Text). Some (n, o.1)) named))
  | inr miss ↦ rw miss (none_valued values options are.2 name (λ number listed. none number (suc listed.0, listed.1)))
]

some_valued : (values : List (Text × Text)) (options : List (Text × ℕ)) → AreValues values options → AreDifferent (map name_in options)
    → (name : Text) (number : ℕ) (place : ℕ) → slice_get options place ≡ Some (name, number)
    → (value : Text) × (value_of name values ≡ Some value) × IsNumber value number
some_valued [] [] are different name number place at = cc at
some_valued [] (o ∷ options) are different name number place at = absurd are
some_valued (p ∷ values) [] are different name number place at = absurd are
some_valued (p ∷ values) (o ∷ options) are different name number zero at =
    let same = same_some o (name, number) at in
    let named : p.0 ≡ name = are.0 ∙ ap name_in same in
    (p.1, rw (same_bytes p.0 name named) refl, subst (λ n. IsNumber p.1 n) (ap (λ (q : Text × ℕ). q.1) same) are.1)
some_valued (p ∷ values) (o ∷ options) are different name number (suc place) at =
    let more = some_valued values options are.2 (different_rest o.0 (map name_in options) different).1 name number place at in
    let other = other_bytes p.0 name (λ e. later_apart o options different place (name, number) at (sym are.0 ∙ e)) in
    (more.0, rw other more.1, more.2)

pub told_valued : (values : List (Text × Text)) (options : List (Text × ℕ)) → AreValues values options → AreDifferent (map name_in options)
    → (name : Text) (told : Option ℕ) → IsTold options name told → IsToldAs (value_of name values) told
told_valued values options are different name None none = subst (λ v. IsToldAs v None) (sym (none_valued values options are name none)) refl
told_valued values options are different name (Some number) listed =
    let found = some_valued values options are different name number listed.0 listed.1 in
    subst (λ v. IsToldAs v (Some number)) (sym found.1) found.2

-- ---- and back

told_more : (o : Text × ℕ) (options : List (Text × ℕ)) (name : Text) (told : Option ℕ) → (o.0 ≡ name → ⊥) → IsTold options name told
    → IsTold (o ∷ options) name told
told_more o options name (Some number) other listed = (suc listed.0, listed.1)
told_more o options name None other none = λ number listed. at_place number listed.0 listed.1
  where
    at_place : (number place : ℕ) → slice_get (o ∷ options) place ≡ Some (name, number) → ⊥
    at_place number zero at = other (ap name_in (same_some o (name, number) at))
    at_place number (suc place) at = none number (place, at)

told_first : (o : Text × ℕ) (options : List (Text × ℕ)) (name value : Text) (told : Option ℕ) → o.0 ≡ name → IsNumber value o.1
    → IsToldAs (Some value) told → IsTold (o ∷ options) name told
told_first o options name value None named is told = absurd told
told_first o options name value (Some number) named is told =
    (0, ap (λ (n : Text). Some (n, o.1)) named ∙ ap (λ n. Some (name, n)) (one_number value o.1 number is told))

pub valued_told : (values : List (Text × Text)) (options : List (Text × ℕ)) → AreValues values options → (name : Text) (told : Option ℕ)
    → IsToldAs (value_of name values) told → IsTold options name told
valued_told [] [] are name None as_told = λ number listed. cc listed.1
valued_told [] [] are name (Some number) as_told = cc as_told
valued_told [] (o ∷ options) are name told as_told = absurd are
valued_told (p ∷ values) [] are name told as_told = absurd are
valued_told (p ∷ values) (o ∷ options) are name told as_told = elim (cases_Bool (bytes_eq p.0 name)) [
  | inl hit ↦
      let first : IsToldAs (Some p.1) told = rw hit at as_told in
      told_first o options name p.1 told (sym are.0 ∙ same_name p.0 name hit) are.1 first
  | inr miss ↦
      let rest : IsToldAs (value_of name values) told = rw miss at as_told in
      told_more o options name told (λ e. apart_bytes p.0 name miss (are.0 ∙ e)) (valued_told values options are.2 name told rest)
]

-- a value that is told as something is a number
pub number_there : (found : Option Text) (told : Option ℕ) (value : Text) → IsToldAs found told → found ≡ Some value
    → (number : ℕ) × IsNumber value number
number_there None told value as_told e = cc e
number_there (Some text) None value as_told e = absurd as_told
number_there (Some text) (Some number) value as_told e = (number, subst (λ t. IsNumber t number) (same_some text value e) as_told)
