-- Nodes, each with parts and a common mark: which parts there are, and what becomes of them where a node is parted.
use Rattle.std.specs.Prelude.{ℕ, ◌≡◌, ◌⊎◌, ◌↔◌, List, [], ◌∷◌, ◌++◌, length, slice_get, Some}
use Rattle.list_words.specs.Lists.{IsOneOf}
use Rattle.mark_bag.specs.declared.node.Node.{Node}

-- one of the nodes has the part
abbrev pub IsPartOf : {M T : Type 0} → List (Node M T) → T → Type 0
IsPartOf {M} {T} nodes part = (node : Node M T) × IsOneOf nodes node × IsOneOf node.parts.items part

-- the nodes have the same parts as before
abbrev pub HaveSameParts : {M T : Type 0} → List (Node M T) → List (Node M T) → Type 0
HaveSameParts {M} {T} old new = (part : T) → IsPartOf old part ↔ IsPartOf new part

-- the nodes have this part more than before
abbrev pub HaveOneMore : {M T : Type 0} → List (Node M T) → T → List (Node M T) → Type 0
HaveOneMore {M} {T} old more new = (part : T) → IsPartOf new part ↔ (IsPartOf old part ⊎ (part ≡ more))

-- the nodes are as before, or a node without parts stands where there was none
abbrev pub AreBegun : {M T : Type 0} → List (Node M T) → List (Node M T) → Type 0
AreBegun {M} {T} old new = (new ≡ old) ⊎ ((node : Node M T) × (node.parts.items ≡ []) × (new ≡ old ++ node ∷ []))

-- the node at the place has as many parts as there are marks
abbrev pub HaveOwn : {M T : Type 0} → List (Node M T) → ℕ → List M → Type 0
HaveOwn {M} {T} nodes at marks = (node : Node M T) → slice_get nodes at ≡ Some node → length marks ≡ length node.parts.items

-- the mark lies within that of the part, which stands among the marks where the part stands among the parts
abbrev pub IsWithinOwn : {M T : Type 0} → (M → M → Type 0) → List T → List M → M → T → Type 0
IsWithinOwn {M} within parts marks mark part =
    (place : ℕ) × (own : M) × (slice_get parts place ≡ Some part) × (slice_get marks place ≡ Some own) × within mark own

-- the parts, with these marks, went into two nodes whose common marks lie within those of their parts
pub record IsParting {M T : Type 0} (within : M → M → Type 0) (parts : List T) (marks : List M) (one other : Node M T) : Type 0 where
  pub all : (part : T) → IsOneOf parts part → IsOneOf one.parts.items part ⊎ IsOneOf other.parts.items part
  pub of_one : (part : T) → IsOneOf one.parts.items part → IsWithinOwn within parts marks one.common part
  pub of_other : (part : T) → IsOneOf other.parts.items part → IsWithinOwn within parts marks other.common part

-- one of the nodes has the mark and the part
abbrev pub IsPartUnder : {M T : Type 0} → List (Node M T) → M → T → Type 0
IsPartUnder {M} {T} nodes mark part = (node : Node M T) × IsOneOf nodes node × (node.common ≡ mark) × IsOneOf node.parts.items part

-- the nodes have the parts of those before, each under the common mark that it had; or it is one of these
-- parts, with these marks, and the common mark lies within its own
pub record IsRegrouped {M T : Type 0} (within : M → M → Type 0) (parts : List T) (marks : List M) (old new : List (Node M T)) : Type 0 where
  pub all : (part : T) → IsPartOf old part → IsPartOf new part
  pub each : (node : Node M T) (part : T) → IsOneOf new node → IsOneOf node.parts.items part
      → IsPartUnder old node.common part ⊎ IsWithinOwn within parts marks node.common part

-- the parts of the node at the place, with these marks, are grouped anew
abbrev pub IsRegroupedAt : {M T : Type 0} → (M → M → Type 0) → List (Node M T) → ℕ → List M → List (Node M T) → Type 0
IsRegroupedAt {M} {T} within old at marks new =
    (node : Node M T) → slice_get old at ≡ Some node → IsRegrouped within node.parts.items marks old new
