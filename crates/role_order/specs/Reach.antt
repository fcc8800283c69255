-- The seniors and juniors of a role, computed; the contracts say that they are those of the order.
use Rattle.std.specs.Prelude.{ℕ, zero, suc, ◌+◌, ◌==◌, Bool, false, ◌||◌, ◌&&◌, List, [], ◌∷◌, filter, length}
use Rattle.role_order.specs.Roles.{with_role}
use Rattle.role_order.specs.Graph.{Graph}

-- so many numbers from one on
abbrev pub count_up : ℕ → ℕ → List ℕ
count_up at zero = []
count_up at (suc n) = at ∷ count_up (at + 1) n

-- the pair is one of the edges
abbrev pub is_edge : List (ℕ × ℕ) → ℕ → ℕ → Bool
is_edge [] x y = false
is_edge (edge ∷ edges) x y = ((edge.0 == x) && (edge.1 == y)) || is_edge edges x y

-- edges lead from x down to y by way of roles below the number alone
abbrev pub leads_by : List (ℕ × ℕ) → ℕ → ℕ → ℕ → Bool
leads_by edges zero x y = (x == y) || is_edge edges x y
leads_by edges (suc k) x y = leads_by edges k x y || (leads_by edges k x k && leads_by edges k k y)

-- the role and all above it
unfoldable pub seniors_of : Graph → ℕ → List ℕ
seniors_of order role = with_role (filter (λ senior. leads_by order.edges (length order.names) senior role) (count_up 0 (length order.names))) role

-- the role and all below it
unfoldable pub juniors_of : Graph → ℕ → List ℕ
juniors_of order role = with_role (filter (λ junior. leads_by order.edges (length order.names) role junior) (count_up 0 (length order.names))) role
