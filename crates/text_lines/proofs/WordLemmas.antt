-- Words that are told apart by their bytes.
use Rattle.std.proofs.Common.{ℕ, ◌≡◌, Bool, true, false, List, refl, sym, ◌∙◌, ap, Option, Some, cond}
use Rattle.std.specs.Str.{bytes_eq}
use Rattle.std.proofs.lemmas.Slice.Eq.{bytes_eq-Decides}

-- a word is what is found by it
pub pick : {K : Type 0} (word text : List ℕ) (a b : K) (o : Option K) (spelled : K → List ℕ) → spelled a ≡ text
    → cond (bytes_eq word text) (Some a) o ≡ Some b → (o ≡ Some b → word ≡ spelled b) → word ≡ spelled b
pick {K} word text a b o spelled is e later = by_test (bytes_eq word text) refl e
  where
    by_test : (t : Bool) → bytes_eq word text ≡ t → cond t (Some a) o ≡ Some b → word ≡ spelled b
    by_test true t e =
        let same : a ≡ b = cc in
        (bytes_eq-Decides word text).0 t ∙ sym is ∙ ap spelled same
    by_test false t e = later e
