-- A list made beside another, one by one.
use Rattle.std.proofs.Common.{ℕ, ◌≡◌, ◌+◌, List, [], ◌∷◌, ◌++◌, Some, length, refl, sym, ◌∙◌, ap, subst, inl, inr}
use Rattle.std.specs.Prelude.{◌⊎◌, slice_get}
use Rattle.list_words.proofs.GetLemmas.{same_some, length_more, get_last_cases}
use Rattle.mark_bag.specs.Index.{AreBeside}

-- as many as there are before the place, each beside its own
pub record AreBesideUpTo {A B : Type 0} (R : A → B → Type 0) (xs : List A) (ys : List B) (at : ℕ) : Type 0 where
  pub long : length ys ≡ at
  pub each : (place : ℕ) (x : A) (y : B) → slice_get xs place ≡ Some x → slice_get ys place ≡ Some y → R x y

module _ {A B : Type 0} (R : A → B → Type 0) (xs : List A) where
  pub beside_none : AreBesideUpTo R xs [] 0
  beside_none = record { long = refl; each = λ place x y e f. absurd (nothing place y f) }
    where
      nothing : (place : ℕ) (y : B) → slice_get [] place ≡ Some y → ⊥
      nothing place y f = cc

  pub beside_more : (ys : List B) (at : ℕ) (here : A) (next : B) → AreBesideUpTo R xs ys at → slice_get xs at ≡ Some here → R here next
      → AreBesideUpTo R xs (ys ++ next ∷ []) (at + 1)
  beside_more ys at here next so_far is_here stands = record {
    long = length_more ys next ∙ ap (λ n. n + 1) so_far.long;
    each = λ place x y e f. by_place place x y e (get_last_cases ys next y place f);
  }
    where
      by_place : (place : ℕ) (x : A) (y : B) → slice_get xs place ≡ Some x → (slice_get ys place ≡ Some y) ⊎ ((place ≡ length ys) × (next ≡ y)) → R x y
      by_place place x y e (inl f) = so_far.each place x y e f
      by_place place x y e (inr last) =
          let there : slice_get xs at ≡ Some x = subst (λ k. slice_get xs k ≡ Some x) (last.0 ∙ so_far.long) e in
          subst (λ z. R x z) last.1 (subst (λ z. R z next) (same_some here x (sym is_here ∙ there)) stands)

  pub beside_whole : (ys : List B) (at : ℕ) → at ≡ length xs → AreBesideUpTo R xs ys at → AreBeside R xs ys
  beside_whole ys at all so_far = record { long = so_far.long ∙ all; each = so_far.each }
