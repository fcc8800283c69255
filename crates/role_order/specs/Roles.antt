-- Sets of roles, as strictly rising lists of role numbers.
use Rattle.std.specs.Prelude.{ℕ, ◌≡◌, ◌<◌, ◌≤◌, Bool, true, false, not, ◌==◌, ◌||◌, ◌&&◌, nat_lt, nat_le, Option, Some, None}
use Rattle.std.specs.Prelude.{if◌then◌else◌, List, [], ◌∷◌, filter}
use Rattle.std.specs.List.{list_any, list_all}
use Rattle.list_words.specs.Lists.{Each}
use Rattle.role_order.specs.declared.TheConstants.{MOST_ROLES}

-- whether the role is in the set
abbrev pub has_role : List ℕ → ℕ → Bool
has_role [] role = false
has_role (x ∷ xs) role = (x == role) || has_role xs role

-- the set with the role, at its place
abbrev pub with_role : List ℕ → ℕ → List ℕ
with_role [] role = role ∷ []
with_role (x ∷ xs) role = if nat_lt role x then role ∷ x ∷ xs else if x == role then x ∷ xs else x ∷ with_role xs role

-- the set without the role
abbrev pub without_role : List ℕ → ℕ → List ℕ
without_role xs role = filter (λ x. not (x == role)) xs

-- the roles of the first that the second lacks
abbrev pub less_roles : List ℕ → List ℕ → List ℕ
less_roles xs ys = filter (λ x. not (has_role ys x)) xs

-- whether each role of the first is in the second
abbrev pub is_within : List ℕ → List ℕ → Bool
is_within xs ys = list_all (has_role ys) xs

-- whether a role is in both
abbrev pub have_common : List ℕ → List ℕ → Bool
have_common xs ys = list_any (has_role ys) xs

-- the roles of the first that are in the second
abbrev pub common_roles : List ℕ → List ℕ → List ℕ
common_roles xs ys = filter (has_role ys) xs

-- the roles of one or the other
abbrev pub join_roles : List ℕ → List ℕ → List ℕ
join_roles [] ys = ys
join_roles (x ∷ xs) ys = with_role (join_roles xs ys) x

-- whether just one of two tests passes
abbrev pub differ : Bool → Bool → Bool
differ a b = (a && not b) || (b && not a)

-- the first role of the list that isn't below the number
abbrev pub first_from : List ℕ → ℕ → Option ℕ
first_from [] from = None
first_from (x ∷ xs) from = if nat_le from x then Some x else first_from xs from

-- the role is in the set
abbrev pub IsIn : List ℕ → ℕ → Type 0
IsIn set role = has_role set role ≡ true

-- the role isn't in the set
abbrev pub IsOut : List ℕ → ℕ → Type 0
IsOut set role = has_role set role ≡ false

-- the least role of the set that isn't below the number
pub record IsFirstFrom (set : List ℕ) (from role : ℕ) : Type 0 where
  pub there : IsIn set role
  pub reached : from ≤ role
  pub none_between : (other : ℕ) → from ≤ other → other < role → IsOut set other

-- each role of the first is in the second
abbrev pub IsWithin : List ℕ → List ℕ → Type 0
IsWithin xs ys = (role : ℕ) → IsIn xs role → IsIn ys role

-- no role of the first is in the second
abbrev pub AreApart : List ℕ → List ℕ → Type 0
AreApart xs ys = (role : ℕ) → IsIn xs role → IsIn ys role → ⊥

-- a role is in both
abbrev pub HaveCommon : List ℕ → List ℕ → Type 0
HaveCommon xs ys = (role : ℕ) × IsIn xs role × IsIn ys role

-- each role of the set is below the number
abbrev pub AreBelow : ℕ → List ℕ → Type 0
AreBelow count set = (role : ℕ) → IsIn set role → role < count

-- the list rises strictly
abbrev pub Rises : List ℕ → Type 0
Rises [] = Unit {0}
Rises (x ∷ xs) = Each (λ y. x < y) xs × Rises xs

-- the list of a role set: it rises strictly, and each role is below MOST_ROLES
pub record IsRoleSet (set : List ℕ) : Type 0 where
  pub rises : Rises set
  pub below : AreBelow MOST_ROLES set
