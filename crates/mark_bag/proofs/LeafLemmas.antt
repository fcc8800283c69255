-- Leaves: what lies under a mark, and an item more.
use Rattle.std.proofs.Common.{ℕ, ◌≡◌, ◌<◌, List, [], ◌∷◌, ◌++◌, Some, length, arith, sym, ◌∙◌, subst, inl, inr}
use Rattle.std.specs.Prelude.{◌⊎◌, slice_get, slice_set}
use Rattle.list_words.specs.Lists.{IsOneOf}
use Rattle.list_words.proofs.GetLemmas.{get_below, get_append, get_last}
use Rattle.mark_bag.specs.declared.node.Node.{Node}
use Rattle.mark_bag.specs.Nodes.{IsPartOf, HaveOneMore, IsRegrouped}
use Rattle.mark_bag.specs.Index.{LiesUnder, AreLeaves, AreOwn}
use Rattle.mark_bag.proofs.NodeLemmas.{over_regrouped}
use Rattle.mark_bag.proofs.OneLemmas.{one_of_set, one_of_old, one_of_new, one_of_front, one_of_last, one_of_more}

-- a part more in one of the nodes
pub one_more : {M T : Type 0} (nodes : List (Node M T)) (at : ℕ) (node new : Node M T) (item : T) → slice_get nodes at ≡ Some node
    → new.parts.items ≡ node.parts.items ++ item ∷ [] → HaveOneMore nodes item (slice_set nodes at new)
one_more {M} {T} nodes at node new item here its part = (λ h. to h, from)
  where
    new_cases : IsOneOf node.parts.items part ⊎ (item ≡ part) → IsPartOf nodes part ⊎ (part ≡ item)
    new_cases (inl h) = inl (node, (at, here), h)
    new_cases (inr same) = inr (sym same)

    to_cases : (n : Node M T) → IsOneOf n.parts.items part → (n ≡ new) ⊎ IsOneOf nodes n → IsPartOf nodes part ⊎ (part ≡ item)
    to_cases n p (inr h) = inl (n, h, p)
    to_cases n p (inl same) = new_cases (one_of_more node.parts.items item part
        (subst (λ list. IsOneOf list part) its (subst (λ (m : Node M T). IsOneOf m.parts.items part) same p)))

    to : IsPartOf (slice_set nodes at new) part → IsPartOf nodes part ⊎ (part ≡ item)
    to (n, o, p) = to_cases n p (one_of_set nodes at new n o)

    old_cases : (n : Node M T) → IsOneOf n.parts.items part → (n ≡ node) ⊎ IsOneOf (slice_set nodes at new) n → IsPartOf (slice_set nodes at new) part
    old_cases n p (inr h) = (n, h, p)
    old_cases n p (inl same) = (
      new,
      one_of_new nodes at node new here,
      subst (λ list. IsOneOf list part) (sym its)
          (one_of_front node.parts.items item part (subst (λ (m : Node M T). IsOneOf m.parts.items part) same p)),
    )

    from : IsPartOf nodes part ⊎ (part ≡ item) → IsPartOf (slice_set nodes at new) part
    from (inl (n, o, p)) = old_cases n p (one_of_old nodes at node new n here o)
    from (inr same) = (
      new,
      one_of_new nodes at node new here,
      subst (λ list. IsOneOf list part) (sym its)
          (subst (λ q. IsOneOf (node.parts.items ++ item ∷ []) q) (sym same) (one_of_last node.parts.items item)),
    )

module _ {M : Type 0} (within : M → M → Type 0) (through : (a b c : M) → within a b → within b c → within a c) (marks : List M) where
  pub lies_within : (a b : M) (item : ℕ) → within a b → LiesUnder within marks b item → LiesUnder within marks a item
  lies_within a b item lies (own, is_own, under) = (own, is_own, through a b own lies under)

  -- with a mark more
  pub lies_still : (more mark : M) (item : ℕ) → LiesUnder within marks mark item → LiesUnder within (marks ++ more ∷ []) mark item
  lies_still more mark item (own, is_own, under) = (own, get_append marks more item (get_below marks item own is_own) ∙ is_own, under)

  pub lies_last : (more mark : M) (item : ℕ) → item ≡ length marks → within mark more → LiesUnder within (marks ++ more ∷ []) mark item
  lies_last more mark item last lies = (more, subst (λ k. slice_get (marks ++ more ∷ []) k ≡ Some more) (sym last) (get_last marks more), lies)

  -- the next item in a leaf
  pub leaves_more : (leaves : List (Node M ℕ)) (at : ℕ) (leaf new : Node M ℕ) (item : ℕ) (mark : M) → slice_get leaves at ≡ Some leaf
      → new.parts.items ≡ leaf.parts.items ++ item ∷ [] → within new.common mark → (0 < length leaf.parts.items → within new.common leaf.common)
      → item ≡ length marks → AreLeaves within marks leaves → AreLeaves within (marks ++ mark ∷ []) (slice_set leaves at new)
  leaves_more leaves at leaf new item mark here its lies kept last held n o i p = by_node (one_of_set leaves at new n o)
    where
      by_item : IsOneOf leaf.parts.items i ⊎ (item ≡ i) → LiesUnder within (marks ++ mark ∷ []) new.common i
      by_item (inl h) =
          let below = get_below leaf.parts.items h.0 i h.1 in
          let some : 0 < length leaf.parts.items = omega (arith, below) in
          lies_still mark new.common i (lies_within new.common leaf.common i (kept some) (held leaf (at, here) i h))
      by_item (inr same) = lies_last mark new.common i (sym same ∙ last) lies

      by_node : (n ≡ new) ⊎ IsOneOf leaves n → LiesUnder within (marks ++ mark ∷ []) n.common i
      by_node (inr h) = lies_still mark n.common i (held n h i p)
      by_node (inl same) = subst (λ (m : Node M ℕ). LiesUnder within (marks ++ mark ∷ []) m.common i) (sym same)
          (by_item (one_of_more leaf.parts.items item i
          (subst (λ list. IsOneOf list i) its (subst (λ (m : Node M ℕ). IsOneOf m.parts.items i) same p))))

  -- the items of a leaf grouped anew
  pub leaves_regrouped : ((mark : M) → within mark mark) → (old new : List (Node M ℕ)) (items : List ℕ) (own : List M) → AreOwn marks items own
      → IsRegrouped within items own old new → AreLeaves within marks old → AreLeaves within marks new
  leaves_regrouped itself old new items own are_own grouped held = over_regrouped within items own (LiesUnder within marks) old new lies_within
      (λ place item mark is_item is_mark. (mark, are_own.each place item mark is_item is_mark, itself mark)) grouped held
