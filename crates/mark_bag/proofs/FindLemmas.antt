-- An item that is sought stands under marks that fit, so what is passed over has none.
use Rattle.std.proofs.Common.{ℕ, ◌≡◌, ◌<◌, ◌≤◌, List, Option, None, Some, length, arith, sym, ◌∙◌, subst}
use Rattle.std.specs.Prelude.{slice_get, IfNone}
use Rattle.list_words.specs.Lists.{IsOneOf}
use Rattle.list_words.proofs.GetLemmas.{same_some, get_below, get_there}
use Rattle.mark_bag.specs.declared.node.Node.{Node}
use Rattle.mark_bag.specs.Nodes.{IsPartOf}
use Rattle.mark_bag.specs.Index.{LiesUnder, LiesUnderAll, IsGroup, IsInGroups, IsHit}

-- P holds of those before the place
abbrev pub HoldBefore : {A : Type 0} → (A → Type 0) → List A → ℕ → Type 0
HoldBefore {A} P xs at = (k : ℕ) (x : A) → k < at → slice_get xs k ≡ Some x → P x

pub hold_all : {A : Type 0} (P : A → Type 0) (xs : List A) (at : ℕ) → length xs ≤ at → HoldBefore P xs at → (x : A) → IsOneOf xs x → P x
hold_all P xs at past held x (k, e) = let below = get_below xs k x e in held k x (omega (arith, below)) e

module _ {M : Type 0} (Fits : M → Type 0) (Accepted : ℕ → Type 0) (marks : List M) where
  abbrev pub IsNone : ℕ → Type 0
  IsNone item = IsHit Fits Accepted marks item → ⊥

  abbrev pub HasNoneIn : Node M ℕ → Type 0
  HasNoneIn leaf = (item : ℕ) → IsOneOf leaf.parts.items item → IsNone item

  abbrev pub HasNoneBelow : Node M (Node M ℕ) → Type 0
  HasNoneBelow group = (item : ℕ) → IsPartOf group.parts.items item → IsNone item

  -- all leaves, all groups
  pub none_in_leaves : (leaves : List (Node M ℕ)) (at : ℕ) → length leaves ≤ at → HoldBefore HasNoneIn leaves at
      → (item : ℕ) → IsPartOf leaves item → IsNone item
  none_in_leaves leaves at past held item (leaf, o, p) = hold_all HasNoneIn leaves at past held leaf o item p

  pub none_in_groups : (groups : List (Node M (Node M ℕ))) (at : ℕ) → length groups ≤ at → HoldBefore HasNoneBelow groups at
      → (item : ℕ) → IsInGroups groups item → IsNone item
  none_in_groups groups at past held item (leaf, (group, o, p), q) = hold_all HasNoneBelow groups at past held group o item (leaf, p, q)

  -- all that is accepted fits, and all items are in the groups
  pub none_accepted : (groups : List (Node M (Node M ℕ))) (result : Option ℕ) → ((item : ℕ) → item < length marks → IsInGroups groups item)
      → ((item : ℕ) (mark : M) → slice_get marks item ≡ Some mark → Accepted item → Fits mark)
      → IfNone result ((item : ℕ) → IsInGroups groups item → IsNone item)
      → IfNone result ((item : ℕ) → item < length marks → Accepted item → ⊥)
  none_accepted groups None whole fits none = λ item below accepted.
      let here = get_there marks item below in none item (whole item below) (here.0, here.1, fits item here.0 here.1 accepted, accepted)
  none_accepted groups (Some item) whole fits none = tt

  module _ (within : M → M → Type 0) (falls : (a b : M) → within a b → Fits b → Fits a) where
    hit_fits : (mark : M) (item : ℕ) → LiesUnder within marks mark item → IsHit Fits Accepted marks item → Fits mark
    hit_fits mark item (own, is_own, lies) (found, is_found, fits, accepted) =
        falls mark own lies (subst Fits (same_some found own (sym is_found ∙ is_own)) fits)

    pub unfit_leaf : (leaf : Node M ℕ) → LiesUnderAll within marks leaf.common leaf → (Fits leaf.common → ⊥) → HasNoneIn leaf
    unfit_leaf leaf under unfit item o hit = unfit (hit_fits leaf.common item (under item o) hit)

    pub unfit_group : (group : Node M (Node M ℕ)) → IsGroup within marks group → (Fits group.common → ⊥) → HasNoneBelow group
    unfit_group group held unfit item (leaf, o, q) hit = unfit (hit_fits group.common item (held.under leaf o item q) hit)
