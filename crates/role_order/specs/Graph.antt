-- A role order: the names of its roles and its written edges.
use Rattle.std.specs.Prelude.{ℕ, ◌≡◌, ◌<◌, List, Contains, slice_get, Some, take}
use Rattle.list_words.specs.Lists.{Each}

-- the place of a name, from 0, is its role; edges are pairs, with the senior in front
pub record Graph : Type 0 where
  pub names : List (List ℕ)
  pub edges : List (ℕ × ℕ)

-- x >= y: x is y, or an edge goes down from x to some role that is >= y
pub data Leads (edges : List (ℕ × ℕ)) : ℕ → ℕ → Type 0 where
  here : {x : ℕ} → Leads edges x x
  down : {x y z : ℕ} → Contains edges (x, y) → Leads edges y z → Leads edges x z

-- both ends are below the count
abbrev pub IsEdge : ℕ → ℕ × ℕ → Type 0
IsEdge count edge = (edge.0 < count) × (edge.1 < count)

-- both ends of each edge are below the count
abbrev pub AreEdges : ℕ → List (ℕ × ℕ) → Type 0
AreEdges count edges = Each (IsEdge count) edges

-- the edge turned round
abbrev pub turned : ℕ × ℕ → ℕ × ℕ
turned edge = (edge.1, edge.0)

-- by the edges before it, no edge's junior is already >= its senior
abbrev pub AreAcyclic : List (ℕ × ℕ) → Type 0
AreAcyclic edges = (place : ℕ) (edge : ℕ × ℕ) → slice_get edges place ≡ Some edge → ¬ Leads (take place edges) edge.1 edge.0

-- the first edge that closes a circle: the edges in front of it lead from its junior down to its senior
pub record IsCycle (edges : List (ℕ × ℕ)) (place : ℕ) : Type 0 where
  pub edge : ℕ × ℕ
  pub at : slice_get edges place ≡ Some edge
  pub back : Leads (take place edges) edge.1 edge.0
  pub none_before : AreAcyclic (take place edges)
