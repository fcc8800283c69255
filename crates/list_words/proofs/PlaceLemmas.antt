-- An injective map is a list of places.
use Rattle.std.proofs.Common.{ℕ, ◌≡◌, ◌<◌, List, [], ◌∷◌, length, get_or, refl, arith, zero, suc, sym, ◌∙◌, ap, subst}
use Rattle.std.specs.Prelude.{slice_get}
use Rattle.list_words.specs.Embeds.{Embeds}
use Rattle.list_words.specs.Places.{ArePlaces}
use Rattle.list_words.proofs.GetLemmas.{get_below}

abbrev pub told : (ℕ → ℕ) → ℕ → List ℕ
told to zero = []
told to (suc n) = to 0 ∷ told (λ i. to (suc i)) n

pub length-told : (to : ℕ → ℕ) (n : ℕ) → length (told to n) ≡ n
length-told to zero = refl
length-told to (suc n) = ap suc (length-told (λ i. to (suc i)) n)

pub get-told : (to : ℕ → ℕ) (n i : ℕ) → i < n → get_or (told to n) i 0 ≡ to i
get-told to zero i l = absurd (omega arith)
get-told to (suc n) zero l = refl
get-told to (suc n) (suc i) l = get-told (λ i. to (suc i)) n i (omega arith)

pub from_places : {A B : Type 0} (R : A → B → Type 0) (xs : List A) (ys : List B) (places : List ℕ) → ArePlaces R xs ys places → Embeds R xs ys
from_places R xs ys places p = record {
  to = λ i. get_or places i 0;
  apart = λ i j l m e. p.apart i j (subst (λ n. i < n) (sym p.long) l) (subst (λ n. j < n) (sym p.long) m) e;
  each = p.each;
}

pub told_places : {A B : Type 0} (R : A → B → Type 0) (xs : List A) (ys : List B) → (f : Embeds R xs ys) → ArePlaces R xs ys (told f.to (length xs))
told_places {A} {B} R xs ys f = record {
  long = length-told f.to (length xs);
  apart = λ i j l m e. let li = within i l in let lj = within j m in
      f.apart i j li lj (sym (get-told f.to (length xs) i li) ∙ e ∙ get-told f.to (length xs) j lj);
  each = λ i x is. let one = f.each i x is in (one.0, ap (slice_get ys) (get-told f.to (length xs) i (get_below xs i x is)) ∙ one.1, one.2);
}
  where
    within : (i : ℕ) → i < length (told f.to (length xs)) → i < length xs
    within i l = subst (λ n. i < n) (length-told f.to (length xs)) l

pub to_places : {A B : Type 0} (R : A → B → Type 0) (xs : List A) (ys : List B) → Embeds R xs ys → (places : List ℕ) × ArePlaces R xs ys places
to_places R xs ys f = (told f.to (length xs), told_places R xs ys f)
