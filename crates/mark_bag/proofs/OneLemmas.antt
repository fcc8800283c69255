-- The items of a list in which one was replaced, or to which one was added.
use Rattle.std.proofs.Common.{ℕ, ◌≡◌, ◌<◌, List, [], ◌∷◌, ◌++◌, Some, length, get_or, sym, ◌∙◌, ap, subst, inl, inr}
use Rattle.std.specs.Prelude.{◌⊎◌, slice_get, slice_set}
use Rattle.list_words.specs.Lists.{IsOneOf}
use Rattle.list_words.proofs.NumberLemmas.{cases_eq}
use Rattle.list_words.proofs.GetLemmas.{same_some, get_within, get_at, get_any, get_below, get_append, get_last, get_last_cases}
use Rattle.list_words.proofs.GetLemmas.{get_set, get_set_same, get_set_other, length_set}

module _ {A : Type 0} where
  -- what was read there is the item there
  pub read_at : (xs : List A) (k : ℕ) (x y : A) → slice_get xs k ≡ Some x → y ≡ get_or xs k y → x ≡ y
  read_at xs k x y e is = let w = get_within xs k x e in w.1 ∙ get_any xs k x y w.0 ∙ sym is

  pub item_read : (xs : List A) (k : ℕ) (x : A) → k < length xs → x ≡ get_or xs k x → slice_get xs k ≡ Some x
  item_read xs k x below is = get_at xs k x below ∙ ap Some (sym is)

  pub one_of_set : (xs : List A) (at : ℕ) (new y : A) → IsOneOf (slice_set xs at new) y → (y ≡ new) ⊎ IsOneOf xs y
  one_of_set xs at new y (k, e) = by_place (cases_eq at k)
    where
      by_place : (at ≡ k) ⊎ (at ≡ k → ⊥) → (y ≡ new) ⊎ IsOneOf xs y
      by_place (inl same) =
          let here : slice_get (slice_set xs at new) at ≡ Some y = subst (λ j. slice_get (slice_set xs at new) j ≡ Some y) (sym same) e in
          let less : at < length xs = subst (λ n. at < n) (length_set xs at new) (get_below (slice_set xs at new) at y here) in
          inl (same_some y new (sym here ∙ get_set_same xs at new less))
      by_place (inr apart) = inr (k, sym (get_set_other xs at k new apart) ∙ e)

  -- what stood there is the old item, or it still stands there
  pub one_of_old : (xs : List A) (at : ℕ) (old new y : A) → slice_get xs at ≡ Some old → IsOneOf xs y → (y ≡ old) ⊎ IsOneOf (slice_set xs at new) y
  one_of_old xs at old new y here (k, e) = by_place (cases_eq at k)
    where
      by_place : (at ≡ k) ⊎ (at ≡ k → ⊥) → (y ≡ old) ⊎ IsOneOf (slice_set xs at new) y
      by_place (inl same) = inl (same_some y old (sym (subst (λ j. slice_get xs j ≡ Some y) (sym same) e) ∙ here))
      by_place (inr apart) = inr (k, get_set_other xs at k new apart ∙ e)

  pub one_of_new : (xs : List A) (at : ℕ) (old new : A) → slice_get xs at ≡ Some old → IsOneOf (slice_set xs at new) new
  one_of_new xs at old new here = (at, get_set xs at old new here)

  pub one_of_front : (xs : List A) (last y : A) → IsOneOf xs y → IsOneOf (xs ++ last ∷ []) y
  one_of_front xs last y (k, e) = (k, get_append xs last k (get_below xs k y e) ∙ e)

  pub one_of_last : (xs : List A) (last : A) → IsOneOf (xs ++ last ∷ []) last
  one_of_last xs last = (length xs, get_last xs last)

  pub one_of_more : (xs : List A) (last y : A) → IsOneOf (xs ++ last ∷ []) y → IsOneOf xs y ⊎ (last ≡ y)
  one_of_more xs last y (k, e) = by_place (get_last_cases xs last y k e)
    where
      by_place : (slice_get xs k ≡ Some y) ⊎ ((k ≡ length xs) × (last ≡ y)) → IsOneOf xs y ⊎ (last ≡ y)
      by_place (inl e) = inl (k, e)
      by_place (inr e) = inr e.1
