-- Names among the bytes: what the code finds is what the definitions say.
use Rattle.std.proofs.Common.{ℕ, ◌≡◌, ◌<◌, Bool, true, false, List, [], ◌∷◌, length, refl, arith, sym, ◌∙◌, ap, subst, Some, None}
use Rattle.std.proofs.Common.{ltb, leb, zero, suc}
use Rattle.std.specs.Prelude.{◌&&◌}
use Rattle.std.specs.List.{list_all}
use Rattle.std.specs.Str.{IsUtf8, IsAscii}
use Rattle.std.proofs.lemmas.Bool.{ne_eqb}
use Rattle.std.proofs.lemmas.Bool.Decides.{nat_tests}
use Rattle.std.proofs.lemmas.Str.{IsUtf8-from_ascii}
use Rattle.role_order.specs.Names.{is_name, is_name_byte}
use Rattle.cond_text.specs.Cuts.{IsName, only_if, name_in}
use Rattle.cond_text.proofs.CutLemmas.{Lacks}
use Rattle.list_words.proofs.TestLemmas.{and_both}

pub name_bytes : (text : List ℕ) → is_name text ≡ true → list_all is_name_byte text ≡ true
unfolding is_name
name_bytes text h = (and_both (leb 1 (length text) && leb (length text) 64) _ h).1

byte_small : (b : ℕ) → is_name_byte b ≡ true → b < 128
byte_small b h = by_size (ltb b 128) refl
  where
    by_size : (t : Bool) → ltb b 128 ≡ t → b < 128
    by_size true e = grind (arith, nat_tests)
    by_size false e = grind (arith, nat_tests)

are_small : (text : List ℕ) → list_all is_name_byte text ≡ true → IsAscii text
are_small [] h i = omega arith
are_small (b ∷ bs) h zero = byte_small b ((and_both (is_name_byte b) _ h).0)
are_small (b ∷ bs) h (suc i) = are_small bs ((and_both (is_name_byte b) _ h).1) i

-- a name is text
pub name_text : (text : List ℕ) → is_name text ≡ true → IsUtf8 text
name_text text h = IsUtf8-from_ascii text (are_small text (name_bytes text h))

-- a text of such bytes alone has no other byte
pub lacks_other : (p : ℕ → Bool) (sign : ℕ) (text : List ℕ) → p sign ≡ false → list_all p text ≡ true → Lacks sign text
lacks_other p sign [] out h = tt
lacks_other p sign (b ∷ bs) out h = (ne_eqb b sign (λ e. absurd (other e)), lacks_other p sign bs out ((and_both (p b) _ h).1))
  where
    other : b ≡ sign → ⊥
    other same = let there : p sign ≡ true = ap p (sym same) ∙ (and_both (p b) _ h).0 in cc

-- a name has none of the bytes that aren't a name's
pub name_lacks : (sign : ℕ) (text : List ℕ) → is_name_byte sign ≡ false → is_name text ≡ true → Lacks sign text
name_lacks sign text out h = lacks_other is_name_byte sign text out (name_bytes text h)

pub name_given : (bytes text : List ℕ) → text ≡ bytes → is_name bytes ≡ true → Some text ≡ name_in bytes
unfolding name_in
name_given bytes text same h = rw h (ap Some same)

pub name_refused : (bytes : List ℕ) → is_name bytes ≡ false → None ≡ name_in bytes
unfolding name_in
name_refused bytes h = rw h refl

pub name_unread : (bytes : List ℕ) → (IsUtf8 bytes → ⊥) → None ≡ name_in bytes
name_unread bytes bad = by_name (is_name bytes) refl
  where
    by_name : (t : Bool) → is_name bytes ≡ t → None ≡ name_in bytes
    by_name true e = absurd (bad (name_text bytes e))
    by_name false e = name_refused bytes e

pub name_is : (bytes name : List ℕ) → Some name ≡ name_in bytes → (is_name bytes ≡ true) × (name ≡ bytes)
unfolding name_in
name_is bytes name e = by_test (is_name bytes) refl e
  where
    by_test : (t : Bool) → is_name bytes ≡ t → Some name ≡ only_if t bytes → (is_name bytes ≡ true) × (name ≡ bytes)
    by_test true h e = (h, cc)
    by_test false h e = absurd (cc)

pub no_name : (bytes : List ℕ) → None ≡ name_in bytes → is_name bytes ≡ false
unfolding name_in
no_name bytes e = by_test (is_name bytes) refl e
  where
    by_test : (t : Bool) → is_name bytes ≡ t → None ≡ only_if t bytes → is_name bytes ≡ false
    by_test true h e = absurd (cc)
    by_test false h e = h

pub name_found : (text : List ℕ) → is_name text ≡ true → name_in text ≡ Some text
unfolding name_in
name_found text h = rw h refl

pub named : (text name : List ℕ) → name_in text ≡ Some name → IsName name × (name ≡ text)
named text name e = let n = name_is text name (sym e) in (subst IsName (sym n.1) n.0, n.1)
