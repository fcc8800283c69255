-- Names of roles, ranges and conditions are plain texts, and a role's name stands at its place alone.
use Rattle.std.proofs.Common.{◌≡◌, ℕ, ◌<◌, Bool, true, false, cond, ◌&&◌, List, [], ◌∷◌, ◌++◌, length, get_or, Option, Some, None}
use Rattle.std.proofs.Common.{refl, sym, ap, subst, arith, eqb}
use Rattle.std.specs.Prelude.{codes, not}
use Rattle.std.specs.Option.{unwrap_or}
use Rattle.std.specs.Str.{bytes_eq}
use Rattle.role_order.specs.declared.range.Range.{Range}
use Rattle.role_order.specs.Names.{is_name, is_reserved, is_role_name, place_of}
use Rattle.role_order.specs.Refusals.{AreNames}
use Rattle.list_words.specs.Lists.{Each}
use Rattle.role_order.specs.Roles.{AreBelow, has_role}
use Rattle.list_words.proofs.TestLemmas.{or_right, and_both}
use Rattle.std.proofs.lemmas.Bool.{eq-eqb}
use Rattle.list_words.proofs.EachLemmas.{each_at}
use Rattle.list_words.proofs.GetLemmas.{get_at}
use Rattle.arbac_policy.specs.Truth.{Term, IsKnown}
use Rattle.arbac_policy.specs.Rules.{IsKnownRange}
use Rattle.cond_text.specs.declared.level.Level.TheVariants.{Condition}
use Rattle.cond_text.specs.declared.word.Word.TheVariants.{Any, Name, Not, And, Or}
use Rattle.cond_text.specs.Words.{word_of, role_or_count}
use Rattle.cond_text.specs.Grammar.{Phrase, an_any, a_name, a_not, enclosed, an_and, an_or, value}
use Rattle.cond_text.specs.Printing.{phrase_at, written, text_of}
use Rattle.cond_text.proofs.FewestLemmas.{phrase_value}
use Rattle.cond_text.proofs.NameLemmas.{IsProper, proper}
use Rattle.cond_text.specs.Ranges.{spell_range, opening_text, closing_text}
use Rattle.cond_text.proofs.NamedLemmas.{name_bytes}
use Rattle.question_writer.specs.Texts.{named}
use Rattle.question_writer.proofs.ValueLemmas.{IsPlain, names_plain, plain-append}

-- each role of a set of the order is below the count
pub each_below : (count : ℕ) (set : List ℕ) → AreBelow count set → Each (λ role. role < count) set
each_below count [] h = tt
each_below count (x ∷ xs) h = (h x (rw (eq-eqb x x refl) refl), each_below count xs (λ y there. h y (or_right (eqb x y) (has_role xs y) there)))

-- the name of the role
pub record IsNamed (names : List (List ℕ)) (role : ℕ) : Type 0 where
  pub plain : IsPlain (get_or names role [])
  pub name : is_name (get_or names role []) ≡ true
  pub place : place_of names (get_or names role []) ≡ Some role

the_role : (names : List (List ℕ)) (role : ℕ) (found : Option ℕ) → role < length names → unwrap_or found (length names) ≡ role
    → found ≡ Some role
the_role names role None h e = absurd (omega arith)
the_role names role (Some r) h e = ap Some e

the_word : (a b c d : Bool) (n role : ℕ) → cond a Any (cond b Not (cond c And (cond d Or (Name n)))) ≡ Name role → n ≡ role
the_word true b c d n role e = cc
the_word false true c d n role e = cc
the_word false false true d n role e = cc
the_word false false false true n role e = cc
the_word false false false false n role e = cc

the_place : (names : List (List ℕ)) (role : ℕ) → role < length names → IsProper names role → place_of names (get_or names role []) ≡ Some role
unfolding word_of
the_place names role h p =
    let text : List ℕ = get_or names role [] in
    the_role names role (place_of names text) h
    (the_word (bytes_eq text (codes "any")) (bytes_eq text (codes "not")) (bytes_eq text (codes "and")) (bytes_eq text (codes "or"))
    (role_or_count names text) role p.word)

role_name_is : (text : List ℕ) → is_role_name text ≡ true → is_name text ≡ true
unfolding is_role_name
role_name_is text h = (and_both (is_name text) (not (is_reserved text)) h).0

pub name_plain : (text : List ℕ) → is_role_name text ≡ true → IsPlain text
name_plain text h = names_plain text (name_bytes text (role_name_is text h))

pub is_named : (names : List (List ℕ)) → AreNames names → (role : ℕ) → role < length names → IsNamed names role
is_named names ok role h =
    let p = proper names ok role h in
    record {
      plain = names_plain (get_or names role []) p.bytes;
      name = role_name_is (get_or names role []) (each_at (λ name. is_role_name name ≡ true) names role (get_or names role []) ok.named
          (get_at names role [] h));
      place = the_place names role h p;
    }

module _ (names : List (List ℕ)) (ok : AreNames names) where
  written_plain : (p : Phrase) → IsKnown (length names) (value p) → IsPlain (written names p)
  unfolding written
  written_plain an_any h = refl
  written_plain (a_name role) h = (is_named names ok role h).plain
  written_plain (a_not role) h = plain-append (codes "not ") (get_or names role []) refl (is_named names ok role h).plain
  written_plain (enclosed p) h =
      plain-append (codes "(") (written names p ++ codes ")") refl (plain-append (written names p) (codes ")") (written_plain p h) refl)
  written_plain (an_and p q) h =
      plain-append (written names p) (codes " and " ++ written names q) (written_plain p h.0)
      (plain-append (codes " and ") (written names q) refl (written_plain q h.1))
  written_plain (an_or p q) h =
      plain-append (written names p) (codes " or " ++ written names q) (written_plain p h.0)
      (plain-append (codes " or ") (written names q) refl (written_plain q h.1))

  pub text_plain : (t : Term) → IsKnown (length names) t → IsPlain (text_of names t)
  text_plain t h =
      let P : Term → Type 0 = λ v. IsKnown (length names) v in
      written_plain (phrase_at Condition t) (subst P (sym (phrase_value Condition t)) h)

  opening_plain : (is_open : Bool) → IsPlain (opening_text is_open)
  opening_plain true = refl
  opening_plain false = refl

  closing_plain : (is_open : Bool) → IsPlain (closing_text is_open)
  closing_plain true = refl
  closing_plain false = refl

  pub range_plain : (range : Range) → IsKnownRange (length names) range → IsPlain (spell_range (named names range))
  range_plain range h =
      let low : List ℕ = get_or names range.low [] in
      let high : List ℕ = get_or names range.high [] in
      let back = closing_text range.high_open in
      plain-append (opening_text range.low_open) (low ++ (codes "," ++ (high ++ back))) (opening_plain range.low_open)
      (plain-append low (codes "," ++ (high ++ back)) (is_named names ok range.low h.0).plain
      (plain-append (codes ",") (high ++ back) refl (plain-append high back (is_named names ok range.high h.1).plain (closing_plain range.high_open))))
