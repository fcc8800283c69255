-- An index of items by their marks: leaves of items, and groups of leaves.
use Rattle.std.specs.Prelude.{ℕ, ◌≡◌, ◌<◌, ◌≤◌, List, length, slice_get, Some}
use Rattle.list_words.specs.Lists.{IsOneOf}
use Rattle.mark_bag.specs.declared.node.Node.{Node}
use Rattle.mark_bag.specs.declared.bag.TheConstants.{MOST}
use Rattle.mark_bag.specs.Nodes.{IsPartOf}

-- each is an item of those with these marks
abbrev pub AreItems : {M : Type 0} → List M → List ℕ → Type 0
AreItems marks items = (item : ℕ) → IsOneOf items item → item < length marks

-- the item has a mark, in which this one lies
abbrev pub LiesUnder : {M : Type 0} → (M → M → Type 0) → List M → M → ℕ → Type 0
LiesUnder {M} within marks mark item = (own : M) × (slice_get marks item ≡ Some own) × within mark own

-- the mark lies within those of all items of the leaf
abbrev pub LiesUnderAll : {M : Type 0} → (M → M → Type 0) → List M → M → Node M ℕ → Type 0
LiesUnderAll within marks mark leaf = (item : ℕ) → IsOneOf leaf.parts.items item → LiesUnder within marks mark item

-- the common mark of each leaf lies within those of its items
abbrev pub AreLeaves : {M : Type 0} → (M → M → Type 0) → List M → List (Node M ℕ) → Type 0
AreLeaves {M} within marks leaves = (leaf : Node M ℕ) → IsOneOf leaves leaf → LiesUnderAll within marks leaf.common leaf

-- the parts of the group are leaves, and its common mark lies within those of their items
pub record IsGroup {M : Type 0} (within : M → M → Type 0) (marks : List M) (group : Node M (Node M ℕ)) : Type 0 where
  pub leaves : AreLeaves within marks group.parts.items
  pub under : (leaf : Node M ℕ) → IsOneOf group.parts.items leaf → LiesUnderAll within marks group.common leaf

-- each is a group of leaves of these items
abbrev pub AreGroups : {M : Type 0} → (M → M → Type 0) → List M → List (Node M (Node M ℕ)) → Type 0
AreGroups {M} within marks groups = (group : Node M (Node M ℕ)) → IsOneOf groups group → IsGroup within marks group

-- the item is in a leaf of one of the groups
abbrev pub IsInGroups : {M : Type 0} → List (Node M (Node M ℕ)) → ℕ → Type 0
IsInGroups {M} groups item = (leaf : Node M ℕ) × IsPartOf groups leaf × IsOneOf leaf.parts.items item

-- the groups have all items that they had
abbrev pub HaveAll : {M : Type 0} → List (Node M (Node M ℕ)) → List (Node M (Node M ℕ)) → Type 0
HaveAll old new = (item : ℕ) → IsInGroups old item → IsInGroups new item

-- the groups of an index of the items with these marks
pub record IsIndex {M : Type 0} (within : M → M → Type 0) (marks : List M) (groups : List (Node M (Node M ℕ))) : Type 0 where
  pub few : length marks ≤ MOST
  pub groups_lie : AreGroups within marks groups
  pub whole : (item : ℕ) → item < length marks → IsInGroups groups item

-- as many as those of the first list, each of which stands to the one at its place as R says
pub record AreBeside {A B : Type 0} (R : A → B → Type 0) (xs : List A) (ys : List B) : Type 0 where
  pub long : length ys ≡ length xs
  pub each : (place : ℕ) (x : A) (y : B) → slice_get xs place ≡ Some x → slice_get ys place ≡ Some y → R x y

-- the marks of the items, one after another
abbrev pub AreOwn : {M : Type 0} → List M → List ℕ → List M → Type 0
AreOwn marks items own = AreBeside (λ item mark. slice_get marks item ≡ Some mark) items own

-- the common marks of the leaves, one after another
abbrev pub AreCommons : {M : Type 0} → List (Node M ℕ) → List M → Type 0
AreCommons {M} leaves own = AreBeside (λ (leaf : Node M ℕ) mark. leaf.common ≡ mark) leaves own

-- the item's mark fits, and the item is accepted
abbrev pub IsHit : {M : Type 0} → (M → Type 0) → (ℕ → Type 0) → List M → ℕ → Type 0
IsHit {M} Fits Accepted marks item = (mark : M) × (slice_get marks item ≡ Some mark) × Fits mark × Accepted item
