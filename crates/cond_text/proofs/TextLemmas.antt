-- The words of what is written are the phrase's.
use Rattle.std.proofs.Common.{ℕ, ◌≡◌, ◌≢◌, ◌+◌, ◌∙◌, ap, subst, sym, refl, Bool, true, false, cond, List, [], ◌∷◌, ◌++◌}
use Rattle.std.proofs.Common.{append_assoc, append-nil, length, get_or, Option, Some, None}
use Rattle.std.specs.Prelude.{codes}
use Rattle.std.specs.List.{list_all, take_while}
use Rattle.std.proofs.lemmas.Bool.{false≢true}
use Rattle.std.proofs.lemmas.List.Sums.{take_while-cons}
use Rattle.list_words.proofs.TestLemmas.{and_both}
use Rattle.role_order.specs.Names.{is_name_byte}
use Rattle.arbac_policy.specs.Truth.{Term, IsKnown}
use Rattle.cond_text.specs.declared.level.Level.TheVariants.{Condition}
use Rattle.cond_text.specs.declared.word.Placed.{Placed}
use Rattle.cond_text.specs.declared.word.Word.{Word}
use Rattle.cond_text.specs.declared.word.Word.TheVariants.{Any, Name, Not, And, Or, Open, Close}
use Rattle.cond_text.specs.Words.{word_of, sign, word_at, placed, words_from, plain, words}
use Rattle.cond_text.specs.Grammar.{Phrase, an_any, a_name, a_not, enclosed, an_and, an_or, spell, value}
use Rattle.cond_text.specs.Printing.{phrase_at, written, text_of}
use Rattle.cond_text.specs.Reading.{StandsFor}
use Rattle.cond_text.proofs.FewestLemmas.{phrase_at_level, phrase_value}
use Rattle.cond_text.proofs.NameLemmas.{AreProper}

-- the word, where there is one, and the words behind it
abbrev pub with_word : Option Word → List Word → List Word
with_word None ws = ws
with_word (Some w) ws = w ∷ ws

-- the words without their places
unfoldable pub bare : List (List ℕ) → Bool → List ℕ → List Word
bare names behind_name [] = []
bare names behind_name (b ∷ bs) = with_word (word_at names behind_name (b ∷ bs)) (bare names (is_name_byte b) bs)

placed_plain : (place : ℕ) (o : Option Word) (xs : List Placed) → plain (placed place o ++ xs) ≡ with_word o (plain xs)
placed_plain place None xs = refl
placed_plain place (Some w) xs = refl

pub same_bare : (names : List (List ℕ)) (place : ℕ) (behind_name : Bool) (bs : List ℕ)
    → plain (words_from names place behind_name bs) ≡ bare names behind_name bs
unfolding words_from bare
same_bare names place behind_name [] = refl
same_bare names place behind_name (b ∷ bs) =
    placed_plain place (word_at names behind_name (b ∷ bs)) (words_from names (place + 1) (is_name_byte b) bs)
    ∙ ap (with_word (word_at names behind_name (b ∷ bs))) (same_bare names (place + 1) (is_name_byte b) bs)

-- the text begins with no name byte
abbrev Stops : List ℕ → Type 0
Stops [] = Unit {0}
Stops (b ∷ bs) = is_name_byte b ≡ false

-- name bytes are the run that they begin
run_name : (name rest : List ℕ) → list_all is_name_byte name ≡ true → Stops rest → take_while is_name_byte (name ++ rest) ≡ name
run_name [] [] all stops = refl
run_name [] (b ∷ bs) all stops = take_while-cons is_name_byte b bs ∙ rw stops refl
run_name (n ∷ ns) rest all stops =
    let p = and_both (is_name_byte n) (list_all is_name_byte ns) all in
    take_while-cons is_name_byte n (ns ++ rest) ∙ rw p.0 (ap (λ l. n ∷ l) (run_name ns rest p.1 stops))

-- behind a name byte, further name bytes begin no word
skipped : (names : List (List ℕ)) (name rest : List ℕ) → list_all is_name_byte name ≡ true → bare names true (name ++ rest) ≡ bare names true rest
unfolding bare
skipped names [] rest all = refl
skipped names (n ∷ ns) rest all = let p = and_both (is_name_byte n) (list_all is_name_byte ns) all in rw p.0 (skipped names ns rest p.1)

stopped : (names : List (List ℕ)) (rest : List ℕ) → Stops rest → bare names true rest ≡ bare names false rest
unfolding bare
stopped names [] stops = refl
stopped names (b ∷ bs) stops = rw stops refl

chosen : (t : Bool) (o p : Option Word) → t ≡ true → cond t o p ≡ o
chosen true o p e = refl
chosen false o p e = absurd (false≢true e)

-- the word that a name byte begins
named_first : (names : List (List ℕ)) (b : ℕ) (bs run : List ℕ) → is_name_byte b ≡ true → take_while is_name_byte (b ∷ bs) ≡ run
    → word_at names false (b ∷ bs) ≡ Some (word_of names run)
named_first names b bs run h e =
    chosen (is_name_byte b) (Some (word_of names (take_while is_name_byte (b ∷ bs)))) (sign b) h ∙ ap (λ r. Some (word_of names r)) e

-- a name, and what follows it
name_words : (names : List (List ℕ)) (name rest : List ℕ) (w : Word) → list_all is_name_byte name ≡ true → name ≢ [] → word_of names name ≡ w
    → Stops rest
    → bare names false (name ++ rest) ≡ w ∷ bare names false rest
unfolding bare
name_words names [] rest w all ne e stops = absurd (ne refl)
name_words names (n ∷ ns) rest w all ne e stops =
    let p = and_both (is_name_byte n) (list_all is_name_byte ns) all in
    ap (λ o. with_word o (bare names (is_name_byte n) (ns ++ rest))) (named_first names n (ns ++ rest) (n ∷ ns) p.0 (run_name (n ∷ ns) rest all stops))
    ∙ ap (λ t. word_of names (n ∷ ns) ∷ bare names t (ns ++ rest)) p.0
    ∙ ap (λ v. v ∷ bare names true (ns ++ rest)) e
    ∙ ap (λ l. w ∷ l) (skipped names ns rest p.1 ∙ stopped names rest stops)

any_words : (names : List (List ℕ)) (rest : List ℕ) → Stops rest → bare names false (codes "any" ++ rest) ≡ Any ∷ bare names false rest
unfolding word_of
any_words names rest stops = name_words names (codes "any") rest Any refl (λ e. cc) refl stops

not_words : (names : List (List ℕ)) (rest : List ℕ) → bare names false (codes "not " ++ rest) ≡ Not ∷ bare names false rest
unfolding word_of bare
not_words names rest = refl

and_words : (names : List (List ℕ)) (rest : List ℕ) → bare names false (codes " and " ++ rest) ≡ And ∷ bare names false rest
unfolding word_of bare
and_words names rest = refl

or_words : (names : List (List ℕ)) (rest : List ℕ) → bare names false (codes " or " ++ rest) ≡ Or ∷ bare names false rest
unfolding word_of bare
or_words names rest = refl

open_words : (names : List (List ℕ)) (rest : List ℕ) → bare names false (codes "(" ++ rest) ≡ Open ∷ bare names false rest
unfolding bare
open_words names rest = refl

close_words : (names : List (List ℕ)) (rest : List ℕ) → bare names false (codes ")" ++ rest) ≡ Close ∷ bare names false rest
unfolding bare
close_words names rest = refl

-- the words of what is written, and what follows it
written_words : (names : List (List ℕ)) → AreProper names → (p : Phrase) (rest : List ℕ) → IsKnown (length names) (value p) → Stops rest
    → bare names false (written names p ++ rest) ≡ spell p (bare names false rest)
unfolding written
written_words names proper an_any rest h stops = any_words names rest stops
written_words names proper (a_name role) rest h stops =
    let n = proper role h in name_words names (get_or names role []) rest (Name role) n.bytes n.some n.word stops
written_words names proper (a_not role) rest h stops =
    let n = proper role h in
    ap (bare names false) (append_assoc (codes "not ") (get_or names role []) rest) ∙ not_words names (get_or names role [] ++ rest)
    ∙ ap (λ l. Not ∷ l) (name_words names (get_or names role []) rest (Name role) n.bytes n.some n.word stops)
written_words names proper (enclosed p) rest h stops =
    ap (bare names false) (append_assoc (codes "(") (written names p ++ codes ")") rest) ∙ open_words names ((written names p ++ codes ")") ++ rest)
    ∙ ap (λ l. Open ∷ l) (ap (bare names false) (append_assoc (written names p) (codes ")") rest)
    ∙ written_words names proper p (codes ")" ++ rest) h refl ∙ ap (spell p) (close_words names rest))
written_words names proper (an_and p q) rest h stops =
    ap (bare names false) (append_assoc (written names p) (codes " and " ++ written names q) rest
    ∙ ap (λ l. written names p ++ l) (append_assoc (codes " and ") (written names q) rest))
    ∙ written_words names proper p (codes " and " ++ (written names q ++ rest)) h.0 refl
    ∙ ap (spell p) (and_words names (written names q ++ rest) ∙ ap (λ l. And ∷ l) (written_words names proper q rest h.1 stops))
written_words names proper (an_or p q) rest h stops =
    ap (bare names false) (append_assoc (written names p) (codes " or " ++ written names q) rest
    ∙ ap (λ l. written names p ++ l) (append_assoc (codes " or ") (written names q) rest))
    ∙ written_words names proper p (codes " or " ++ (written names q ++ rest)) h.0 refl
    ∙ ap (spell p) (or_words names (written names q ++ rest) ∙ ap (λ l. Or ∷ l) (written_words names proper q rest h.1 stops))

nothing : (names : List (List ℕ)) → bare names false [] ≡ []
unfolding bare
nothing names = refl

known_along : (count : ℕ) (t u : Term) → t ≡ u → IsKnown count u → IsKnown count t
known_along count t u e h = let P : Term → Type 0 = λ v. IsKnown count v in subst P (sym e) h

-- the words of a term's text are those of its phrase
pub text_words : (names : List (List ℕ)) (t : Term) → AreProper names → IsKnown (length names) t
    → words names (text_of names t) ≡ spell (phrase_at Condition t) []
text_words names t proper h =
    same_bare names 0 false (text_of names t) ∙ ap (bare names false) (sym (append-nil (text_of names t)))
    ∙ written_words names proper (phrase_at Condition t) [] (known_along (length names) (value (phrase_at Condition t)) t (phrase_value Condition t) h) tt
    ∙ ap (spell (phrase_at Condition t)) (nothing names)

-- a term's text stands for it
pub text_stands : (names : List (List ℕ)) (t : Term) → AreProper names → IsKnown (length names) t → StandsFor names (text_of names t) t
text_stands names t proper h =
    record {
      phrase = phrase_at Condition t;
      whole = phrase_at_level Condition t;
      spelled = sym
          (text_words names t proper h);
      valued = phrase_value Condition t;
    }
