-- Names and texts: what the code finds is what the definitions say.
use Rattle.std.proofs.Common.{ℕ, ◌≡◌, Bool, true, false, List, [], ◌∷◌, ◌++◌, refl, ◌∙◌, ap, Option, Some, None, eqb, cond, map}
use Rattle.std.specs.Str.{IsUtf8, is_utf8}
use Rattle.std.proofs.lemmas.Str.{is_utf8-from_IsUtf8, IsUtf8-from_is_utf8}
use Rattle.cond_text.specs.Cuts.{cut, with_front, only_if, name_in}
use Rattle.policy_text.specs.Spelling.{text_in, words, in_first, names_behind}
use Rattle.cond_text.proofs.CutLemmas.{same_pair}
use Rattle.cond_text.proofs.NamedLemmas.{name_is, no_name}
use Rattle.std.proofs.lemmas.List.{map-append}

pub text_given : (bytes text : List ℕ) → text ≡ bytes → IsUtf8 bytes → Some text ≡ text_in bytes
unfolding text_in
text_given bytes text same h = rw (is_utf8-from_IsUtf8 bytes h) (ap Some same)

pub text_refused : (bytes : List ℕ) → (IsUtf8 bytes → ⊥) → None ≡ text_in bytes
unfolding text_in
text_refused bytes bad = by_test (is_utf8 bytes) refl
  where
    by_test : (t : Bool) → is_utf8 bytes ≡ t → None ≡ only_if t bytes
    by_test true e = absurd (bad (IsUtf8-from_is_utf8 bytes e))
    by_test false e = refl

-- the words of a text, cut at its first space
pub words_cut : (bytes word rest : List ℕ) → cut 32 bytes ≡ Some (word, rest) → words bytes ≡ word ∷ words rest
unfolding cut words
words_cut [] word rest e = cc
words_cut (b ∷ bs) word rest e = by_byte (eqb b 32) e (words_cut bs)
  where
    by_byte : (t : Bool) → cond t (Some ([], bs)) (with_front b (cut 32 bs)) ≡ Some (word, rest)
        → ((w r : List ℕ) → cut 32 bs ≡ Some (w, r) → words bs ≡ w ∷ words r)
        → cond t ([] ∷ words bs) (in_first b (words bs)) ≡ word ∷ words rest
    by_byte true e later = let same = same_pair ([], bs) (word, rest) e in rw (← same.0, ← same.1)
    by_byte false e later = by_rest (cut 32 bs) refl e later
      where
        by_rest : (o : Option (List ℕ × List ℕ)) → cut 32 bs ≡ o → with_front b o ≡ Some (word, rest)
            → ((w r : List ℕ) → cut 32 bs ≡ Some (w, r) → words bs ≡ w ∷ words r) → in_first b (words bs) ≡ word ∷ words rest
        by_rest None f e later = cc
        by_rest (Some (l, r)) f e later = let same = same_pair (b ∷ l, r) (word, rest) e in rw (later l r f, ← same.0, ← same.1)

pub words_one : (bytes : List ℕ) → cut 32 bytes ≡ None → words bytes ≡ bytes ∷ []
unfolding cut words
words_one [] e = refl
words_one (b ∷ bs) e = by_byte (eqb b 32) e (words_one bs)
  where
    by_byte : (t : Bool) → cond t (Some ([], bs)) (with_front b (cut 32 bs)) ≡ None → (cut 32 bs ≡ None → words bs ≡ bs ∷ [])
        → cond t ([] ∷ words bs) (in_first b (words bs)) ≡ (b ∷ bs) ∷ []
    by_byte true e later = cc
    by_byte false e later = by_rest (cut 32 bs) refl e later
      where
        by_rest : (o : Option (List ℕ × List ℕ)) → cut 32 bs ≡ o → with_front b o ≡ None → (cut 32 bs ≡ None → words bs ≡ bs ∷ [])
            → in_first b (words bs) ≡ (b ∷ bs) ∷ []
        by_rest (Some found) f e later = cc
        by_rest None f e later = rw (later f) refl

-- one word more, which is a name
pub names_more : (before more : List (List ℕ)) (bytes word rest name : List ℕ) → cut 32 bytes ≡ Some (word, rest) → Some name ≡ name_in word
    → more ≡ before ++ name ∷ []
    → names_behind more (words rest) ≡ names_behind before (words bytes)
unfolding names_behind
names_more before more bytes word rest name e n is =
    let k = name_is word name n in
    rw (words_cut bytes word rest e, k.0, is, k.1) refl

pub names_stop : (before : List (List ℕ)) (bytes word rest : List ℕ) → cut 32 bytes ≡ Some (word, rest) → None ≡ name_in word
    → names_behind before (words bytes) ≡ None
unfolding names_behind
names_stop before bytes word rest e n = rw (words_cut bytes word rest e, no_name word n) refl

pub names_last : (before more : List (List ℕ)) (bytes name : List ℕ) → cut 32 bytes ≡ None → Some name ≡ name_in bytes → more ≡ before ++ name ∷ []
    → names_behind before (words bytes) ≡ Some more
unfolding names_behind
names_last before more bytes name e n is = let k = name_is bytes name n in rw (words_one bytes e, k.0, is, k.1) refl

pub names_no_last : (before : List (List ℕ)) (bytes : List ℕ) → cut 32 bytes ≡ None → None ≡ name_in bytes
    → names_behind before (words bytes) ≡ None
unfolding names_behind
names_no_last before bytes e n = rw (words_one bytes e, no_name bytes n) refl

pub map-pushed : {A B : Type 0} (f : A → B) (xs ys : List A) (x : A) → ys ≡ xs ++ x ∷ [] → map f ys ≡ map f xs ++ f x ∷ []
map-pushed f xs ys x e = ap (map f) e ∙ map-append f xs (x ∷ [])
