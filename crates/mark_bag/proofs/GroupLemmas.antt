-- Groups of leaves: grouped anew, and with an item more.
use Rattle.std.proofs.Common.{ℕ, ◌≡◌, List, [], ◌∷◌, ◌++◌, Some, length, refl, sym, ◌∙◌, subst, inl, inr}
use Rattle.std.specs.Prelude.{◌⊎◌, slice_get, slice_set}
use Rattle.list_words.specs.Lists.{IsOneOf}
use Rattle.mark_bag.specs.declared.node.Node.{Node}
use Rattle.mark_bag.specs.Nodes.{IsPartOf, HaveSameParts, HaveOneMore, AreBegun, IsRegrouped}
use Rattle.mark_bag.specs.Index.{LiesUnder, LiesUnderAll, AreLeaves, IsGroup, AreGroups, IsInGroups, HaveAll, AreCommons}
use Rattle.mark_bag.proofs.OneLemmas.{one_of_set, one_of_old, one_of_new}
use Rattle.mark_bag.proofs.NodeLemmas.{same_begun, over_begun, over_regrouped, same_regrouped}
use Rattle.mark_bag.proofs.LeafLemmas.{lies_within, lies_still, lies_last}

module _ {M : Type 0} where
  pub all_same : (old new : List (Node M (Node M ℕ))) → HaveSameParts old new → HaveAll old new
  all_same old new same item (leaf, h, q) = (leaf, (same leaf).0 h, q)

  pub all_through : (a b c : List (Node M (Node M ℕ))) → HaveAll a b → HaveAll b c → HaveAll a c
  all_through a b c f g item h = g item (f item h)

  -- in one of the groups
  pub in_set : (groups : List (Node M (Node M ℕ))) (at : ℕ) (group new : Node M (Node M ℕ)) (item : ℕ) → slice_get groups at ≡ Some group
      → IsPartOf new.parts.items item → IsInGroups (slice_set groups at new) item
  in_set groups at group new item here (leaf, o, q) = (leaf, (new, one_of_new groups at group new here, o), q)

  -- a group is replaced by one that has its items
  pub all_set : (groups : List (Node M (Node M ℕ))) (at : ℕ) (group new : Node M (Node M ℕ)) → slice_get groups at ≡ Some group
      → ((item : ℕ) → IsPartOf group.parts.items item → IsPartOf new.parts.items item) → HaveAll groups (slice_set groups at new)
  all_set groups at group new here more item (leaf, (g, o, p), q) = by_group (one_of_old groups at group new g here o)
    where
      by_group : (g ≡ group) ⊎ IsOneOf (slice_set groups at new) g → IsInGroups (slice_set groups at new) item
      by_group (inr h) = (leaf, (g, h, p), q)
      by_group (inl same) = in_set groups at group new item here
          (more item (leaf, subst (λ (m : Node M (Node M ℕ)). IsOneOf m.parts.items leaf) same p, q))

module _ {M : Type 0} (within : M → M → Type 0) (through : (a b c : M) → within a b → within b c → within a c) (marks : List M) where
  all_within : (a b : M) (leaf : Node M ℕ) → within a b → LiesUnderAll within marks b leaf → LiesUnderAll within marks a leaf
  all_within a b leaf lies under item p = lies_within within through marks a b item lies (under item p)

  -- each leaf of the groups was one of those before
  of_same : (old new : List (Node M (Node M ℕ))) → HaveSameParts old new → AreGroups within marks old
      → (group : Node M (Node M ℕ)) → IsOneOf new group → AreLeaves within marks group.parts.items
  of_same old new same held group o leaf p = let was = (same leaf).1 (group, o, p) in (held was.0 was.1).leaves leaf was.2

  unders : (groups : List (Node M (Node M ℕ))) → AreGroups within marks groups
      → (group : Node M (Node M ℕ)) → IsOneOf groups group → (leaf : Node M ℕ) → IsOneOf group.parts.items leaf → LiesUnderAll within marks group.common leaf
  unders groups held group o = (held group o).under

  pub groups_begun : (old new : List (Node M (Node M ℕ))) → AreBegun old new → AreGroups within marks old → AreGroups within marks new
  groups_begun old new begun held group o = record {
    leaves = of_same old new (same_begun old new begun) held group o;
    under = over_begun (LiesUnderAll within marks) old new begun (unders old held) group o;
  }

  pub groups_regrouped : (old new : List (Node M (Node M ℕ))) (at : ℕ) (parted : Node M (Node M ℕ)) (own : List M) → slice_get old at ≡ Some parted
      → AreCommons parted.parts.items own → IsRegrouped within parted.parts.items own old new → AreGroups within marks old
      → AreGroups within marks new
  groups_regrouped old new at parted own here commons grouped held group o = record {
    leaves = of_same old new (same_regrouped within parted.parts.items own old new at parted here refl grouped) held group o;
    under = over_regrouped within parted.parts.items own (LiesUnderAll within marks) old new all_within under_own grouped (unders old held) group o;
  }
    where
      under_own : (place : ℕ) (leaf : Node M ℕ) (mark : M) → slice_get parted.parts.items place ≡ Some leaf → slice_get own place ≡ Some mark
          → LiesUnderAll within marks mark leaf
      under_own place leaf mark is_leaf is_mark = subst (λ m. LiesUnderAll within marks m leaf) (commons.each place leaf mark is_leaf is_mark)
          ((held parted (at, here)).leaves leaf (place, is_leaf))

  pub group_still : (more : M) (group : Node M (Node M ℕ)) → IsGroup within marks group → IsGroup within (marks ++ more ∷ []) group
  group_still more group held = record {
    leaves = λ leaf o item p. lies_still within through marks more leaf.common item (held.leaves leaf o item p);
    under = λ leaf o item p. lies_still within through marks more group.common item (held.under leaf o item p);
  }

  -- the next item in a group, whose common mark lies within its own
  pub group_more : (group new : Node M (Node M ℕ)) (item : ℕ) (mark : M) → IsGroup within marks group → within new.common group.common
      → within new.common mark → item ≡ length marks → AreLeaves within (marks ++ mark ∷ []) new.parts.items
      → HaveOneMore group.parts.items item new.parts.items → IsGroup within (marks ++ mark ∷ []) new
  group_more group new item mark held less lies last leaves more = record {
    leaves = leaves;
    under = λ leaf o i p. by_item i ((more i).0 (leaf, o, p));
  }
    where
      by_item : (i : ℕ) → IsPartOf group.parts.items i ⊎ (i ≡ item) → LiesUnder within (marks ++ mark ∷ []) new.common i
      by_item i (inl (leaf, o, p)) = lies_still within through marks mark new.common i
          (lies_within within through marks new.common group.common i less (held.under leaf o i p))
      by_item i (inr same) = lies_last within through marks mark new.common i (same ∙ last) lies

  -- the same items in a group
  pub group_same : (group new : Node M (Node M ℕ)) → IsGroup within marks group → within new.common group.common
      → AreLeaves within marks new.parts.items → HaveSameParts group.parts.items new.parts.items → IsGroup within marks new
  group_same group new held less leaves same = record {
    leaves = leaves;
    under = λ leaf o i p. let was = (same i).1 (leaf, o, p) in
        lies_within within through marks new.common group.common i less (held.under was.0 was.1 i was.2);
  }

  pub groups_set : (groups : List (Node M (Node M ℕ))) (at : ℕ) (new : Node M (Node M ℕ)) → AreGroups within marks groups → IsGroup within marks new
      → AreGroups within marks (slice_set groups at new)
  groups_set groups at new held group g o = by_group (one_of_set groups at new g o)
    where
      by_group : (g ≡ new) ⊎ IsOneOf groups g → IsGroup within marks g
      by_group (inr h) = held g h
      by_group (inl same) = subst (λ (m : Node M (Node M ℕ)). IsGroup within marks m) (sym same) group
