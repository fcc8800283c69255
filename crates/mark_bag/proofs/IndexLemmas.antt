-- The index of one item more, and of the same items.
use Rattle.std.proofs.Common.{ℕ, ◌≡◌, ◌<◌, ◌+◌, List, [], ◌∷◌, ◌++◌, length, arith, sym, subst, inl, inr}
use Rattle.std.specs.Prelude.{◌⊎◌}
use Rattle.list_words.proofs.NumberLemmas.{cases_eq}
use Rattle.list_words.proofs.GetLemmas.{length_more}
use Rattle.mark_bag.specs.declared.bag.TheConstants.{MOST}
use Rattle.mark_bag.specs.declared.node.Node.{Node}
use Rattle.mark_bag.specs.Index.{AreGroups, IsInGroups, HaveAll, IsIndex}

module _ {M : Type 0} (within : M → M → Type 0) (marks : List M) (old new : List (Node M (Node M ℕ))) (index : IsIndex within marks old)
    (all : HaveAll old new) where
  pub index_same : AreGroups within marks new → IsIndex within marks new
  index_same groups = record {
    few = index.few;
    groups_lie = groups;
    whole = λ item below. all item (index.whole item below);
  }

  pub index_more : (mark : M) → length marks < MOST → AreGroups within (marks ++ mark ∷ []) new → IsInGroups new (length marks)
      → IsIndex within (marks ++ mark ∷ []) new
  index_more mark few groups there = let long = length_more marks mark in record {
    few = omega (arith, long);
    groups_lie = groups;
    whole = λ item below. by_item item (omega (arith, long, below)) (cases_eq item (length marks));
  }
    where
      by_item : (item : ℕ) → item < length marks + 1 → (item ≡ length marks) ⊎ (item ≡ length marks → ⊥) → IsInGroups new item
      by_item item below (inl last) = subst (λ k. IsInGroups new k) (sym last) there
      by_item item below (inr other) = all item (index.whole item (omega (arith, other)))
