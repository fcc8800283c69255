-- Words of text are sound: what follows a hyphen has a first character.
use Rattle.std.proofs.Common.{refl, ap, sym, ◌≡◌, ◌∙◌, ℕ, List, [], ◌∷◌, ◌++◌, length, Option, Some, None, cond, Bool, true, false, ◌==◌, arith, inl}
use Rattle.std.proofs.Common.{inr, subst}
use Rattle.std.specs.Prelude.{slice_get, option_and_then, map, String}
use Rattle.std.specs.String.{string_bytes}
use Rattle.std.specs.declared.alloc.Global.{Global}
use Rattle.std.specs.Char.{encode_utf8}
use Rattle.std.specs.Str.{IsUtf8, chars, encode_utf8_all}
use Rattle.std.proofs.lemmas.Str.{encodes-chars}
use Rattle.std.proofs.lemmas.Bool.Decides.{eqb_tells}
use Rattle.clap.specs.Lexer.{short_of, short_of_rest}
use Rattle.command_words.specs.Reading.{Text, AreText}
use Rattle.command_words.proofs.WalkLemmas.{Sound}
use Rattle.role_order.specs.Names.{texts}

-- the characters of a text that begins with a hyphen
hyphen_chars : (b : ℕ) (rest : Text) → chars (45 ∷ b ∷ rest) ≡ 45 ∷ chars (b ∷ rest)
unfolding chars
hyphen_chars b rest = refl

first_char : (b : ℕ) (rest : Text) → IsUtf8 (45 ∷ b ∷ rest) → (c : ℕ) × (slice_get (chars (b ∷ rest)) 0 ≡ Some c)
unfolding encode_utf8
first_char b rest text = go (chars (b ∷ rest)) refl
  where
    go : (cs : List ℕ) → chars (b ∷ rest) ≡ cs → (c : ℕ) × (slice_get cs 0 ≡ Some c)
    go (c ∷ cs) e = (c, refl)
    go [] e =
        let chars_are : chars (45 ∷ b ∷ rest) ≡ 45 ∷ [] = hyphen_chars b rest ∙ ap (λ t. 45 ∷ t) e in
        let all : encode_utf8_all (45 ∷ []) ≡ 45 ∷ b ∷ rest = ap encode_utf8_all (sym chars_are) ∙ encodes-chars (45 ∷ b ∷ rest) text in
        let size : 1 ≡ length (45 ∷ b ∷ rest) = ap length all in
        absurd (omega arith)

sound_word : (x flags : Text) → IsUtf8 x → short_of x ≡ Some flags → (c : ℕ) × (slice_get (chars flags) 0 ≡ Some c)
sound_word [] flags text e = cc e
sound_word (h ∷ []) flags text e = go (h == 45) e
  where
    go : (q : Bool) → option_and_then short_of_rest (cond q (Some []) None) ≡ Some flags → (c : ℕ) × (slice_get (chars flags) 0 ≡ Some c)
    go true e = cc e
    go false e = cc e
sound_word (h ∷ b ∷ rest) flags text e = elim (eqb_tells h 45) [
  | inl hyphen ↦
      let same : short_of (45 ∷ b ∷ rest) ≡ Some flags = rw hyphen.1 at e in
      let is : IsUtf8 (45 ∷ b ∷ rest) = rw hyphen.1 at text in
      second (b == 45) is same
  | inr other ↦ let none : ◌≡◌ {A = Option Text} None (Some flags) = rw other.0 at e in cc none
]
  where
    second : (q : Bool) → IsUtf8 (45 ∷ b ∷ rest) → cond q None (Some (b ∷ rest)) ≡ Some flags → (c : ℕ) × (slice_get (chars flags) 0 ≡ Some c)
    second true is e = cc e
    second false is e =
        let same : b ∷ rest ≡ flags = cc e in
        subst (λ (f : Text). (c : ℕ) × (slice_get (chars f) 0 ≡ Some c)) same (first_char b rest is)

pub text_sound : (ws : List Text) → AreText ws → Sound ws
text_sound [] all = tt
text_sound (x ∷ ws) all = (λ flags e. sound_word x flags all.0 e, text_sound ws all.1)

pub more_text : (ws : List Text) (x : Text) → AreText ws → IsUtf8 x → AreText (ws ++ x ∷ [])
more_text [] x all text = (text, tt)
more_text (y ∷ ws) x all text = (all.0, more_text ws x all.1 text)

-- the texts of strings, one by one
pub texts_are : (words : List (String Global)) → texts words ≡ map string_bytes words
texts_are [] = refl
texts_are (x ∷ words) = ap (λ t. string_bytes x ∷ t) (texts_are words)

pub texts_more : (words : List (String Global)) (word : String Global) → texts (words ++ word ∷ []) ≡ texts words ++ string_bytes word ∷ []
texts_more [] word = refl
texts_more (x ∷ words) word = ap (λ t. string_bytes x ∷ t) (texts_more words word)
