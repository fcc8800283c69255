-- The plain reader, word by word.
use Rattle.std.proofs.Common.{refl, ◌≡◌, true, false, List, ◌∷◌, Option, Some, None}
use Rattle.std.specs.Str.{bytes_eq}
use Rattle.clap.specs.Lexer.{long_of, short_of}
use Rattle.command_words.specs.Reading.{Text, dashes, is_plain, is_name, Texts, has_option, with_file, with_option, said}

module _ (names : List Text) where
  pub said_ends : (x : Text) (r : Texts) (ws : List Text) → bytes_eq x dashes ≡ true → said names None true r ws ≡ said names None false r (x ∷ ws)
  unfolding said
  said_ends x r ws d = rw d refl

  pub said_unknown : (x name : Text) (v : Option Text) (r : Texts) (ws : List Text) → bytes_eq x dashes ≡ false → long_of x ≡ Some (name, v)
      → is_name names name ≡ false → None ≡ said names None false r (x ∷ ws)
  unfolding said
  said_unknown x name None r ws d l none = rw (d, l, none) refl
  said_unknown x name (Some v) r ws d l none = rw (d, l, none) refl

  pub said_twice : (x name v : Text) (r : Texts) (ws : List Text) → bytes_eq x dashes ≡ false → long_of x ≡ Some (name, Some v) → is_name names name ≡ true
      → has_option name r ≡ true → None ≡ said names None false r (x ∷ ws)
  unfolding said
  said_twice x name v r ws d l is yet = rw (d, l, is, yet) refl

  pub said_attached : (x name v : Text) (r : Texts) (ws : List Text) → bytes_eq x dashes ≡ false → long_of x ≡ Some (name, Some v) → is_name names name ≡ true
      → has_option name r ≡ false → said names None false (with_option name v r) ws ≡ said names None false r (x ∷ ws)
  unfolding said
  said_attached x name v r ws d l is new = rw (d, l, is, new) refl

  pub said_bare : (x name : Text) (r : Texts) (ws : List Text) → bytes_eq x dashes ≡ false → long_of x ≡ Some (name, None) → is_name names name ≡ true
      → said names (Some name) false r ws ≡ said names None false r (x ∷ ws)
  unfolding said
  said_bare x name r ws d l is = rw (d, l, is) refl

  pub said_short : (x flags : Text) (r : Texts) (ws : List Text) → bytes_eq x dashes ≡ false → long_of x ≡ None → short_of x ≡ Some flags
      → None ≡ said names None false r (x ∷ ws)
  unfolding said
  said_short x flags r ws d l h = rw (d, l, h) refl

  pub said_file : (x : Text) (r : Texts) (ws : List Text) → bytes_eq x dashes ≡ false → long_of x ≡ None → short_of x ≡ None
      → said names None false (with_file x r) ws ≡ said names None false r (x ∷ ws)
  unfolding said
  said_file x r ws d l h = rw (d, l, h) refl

  pub said_no_value : (x name : Text) (r : Texts) (ws : List Text) → is_plain x ≡ false → None ≡ said names (Some name) false r (x ∷ ws)
  unfolding said
  said_no_value x name r ws no_value = rw no_value refl

  pub said_value : (x name : Text) (r : Texts) (ws : List Text) → is_plain x ≡ true → has_option name r ≡ false
      → said names None false (with_option name x r) ws ≡ said names (Some name) false r (x ∷ ws)
  unfolding said
  said_value x name r ws is new = rw (is, new) refl

  pub said_value_twice : (x name : Text) (r : Texts) (ws : List Text) → is_plain x ≡ true → has_option name r ≡ true
      → None ≡ said names (Some name) false r (x ∷ ws)
  unfolding said
  said_value_twice x name r ws is yet = rw (is, yet) refl
