-- Least places of items, and the least transversal.
use Rattle.std.proofs.Common.{ℕ, ◌≡◌, ◌<◌, ◌≤◌, ◌∙◌, List, [], ◌∷◌, length, get_or, take, refl, arith, suc, sym, subst, ap, inl}
use Rattle.std.proofs.Common.{inr}
use Rattle.std.specs.Prelude.{◌⊎◌}
use Rattle.list_words.proofs.NumberLemmas.{compare}
use Rattle.hall_match.specs.Matchings.{IsBefore}
use Rattle.hall_match.specs.Joined.{IsTransversal, IsLeastTransversal}
use Rattle.hall_match.specs.Firsts.{AreFirstPlaces, HasNoPlace}

-- a list that is nowhere above another of its length is the same or before it
least_by_places : (list other : List ℕ) → length other ≡ length list → ((i : ℕ) → i < length list → get_or list i 0 ≤ get_or other i 0)
    → (other ≡ list) ⊎ IsBefore list other
least_by_places [] [] long below = inl refl
least_by_places [] (y ∷ ys) long below = absurd (omega (arith, long))
least_by_places (x ∷ xs) [] long below = absurd (omega (arith, long))
least_by_places (x ∷ xs) (y ∷ ys) long below =
    by_first (compare x y) (least_by_places xs ys (omega (arith, long)) (λ i l. below (suc i) (omega (arith, l))))
  where
    by_first : (x < y) ⊎ ((x ≡ y) ⊎ (y < x)) → (ys ≡ xs) ⊎ IsBefore xs ys → (y ∷ ys ≡ x ∷ xs) ⊎ IsBefore (x ∷ xs) (y ∷ ys)
    by_first (inl l) rest = inr (record { item = 0; inside = omega arith; same = refl; less = l })
    by_first (inr (inl e)) (inl same) = inl (ap (λ (n : ℕ). n ∷ ys) (sym e) ∙ ap (λ (l : List ℕ). x ∷ l) same)
    by_first (inr (inl e)) (inr b) = inr (record {
      item = suc b.item;
      inside = let l = b.inside in omega (arith, l);
      same = ap (λ (l : List ℕ). x ∷ l) b.same ∙ ap (λ (n : ℕ). n ∷ take b.item ys) e;
      less = b.less;
    })
    by_first (inr (inr l)) rest = let h = below 0 (omega arith) in absurd (omega (arith, h, l))

-- different least places are the least transversal
pub firsts_least : (Joins : ℕ → ℕ → Type 0) (left places : ℕ) (list : List ℕ) → AreFirstPlaces Joins places left list
    → ((i j : ℕ) → i < length list → j < length list → get_or list i 0 ≡ get_or list j 0 → i ≡ j) → IsLeastTransversal Joins left places list
firsts_least Joins left places list are apart = record {
  transversal = record { long = are.long; apart = apart; each = λ item l. let one = are.each item l in (one.within, one.joins) };
  least = λ other t. let long = t.long in least_by_places list other (long ∙ sym are.long)
      (λ i l. let less : i < left = subst (λ n. i < n) are.long l in let one = are.each i less in one.least (get_or other i 0) (t.each i less).1);
}

-- where an item has no place, there is no transversal
pub none_first : (Joins : ℕ → ℕ → Type 0) (left places : ℕ) → (item : ℕ) × (item < left) × HasNoPlace Joins places item → (list : List ℕ)
    → ¬ IsTransversal Joins left places list
none_first Joins left places (item, l, none) list t = let one = t.each item l in none (get_or list item 0) one.0 one.1
