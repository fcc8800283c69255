-- What is wanted of users, where one of them may administer an act besides.
use Rattle.std.specs.Prelude.{ℕ, zero, suc, ◌≡◌, List, [], ◌∷◌, ◌++◌, map, slice_get, Option, Some, None}
use Rattle.arbac_laws.specs.Needs.{Need}
use Rattle.cert_needs.specs.declared.wanted.Wanted.{Wanted}

-- the hits, the administrator's first where there is one
abbrev pub and_admin : Option (List ℕ) → List (List ℕ) → List (List ℕ)
and_admin None hits = hits
and_admin (Some hit) hits = hit ∷ hits

-- what is wanted of the user
abbrev pub need_wanted : Wanted → Need
need_wanted user = record { hits = and_admin user.admin user.hits.now; lacks = user.lacks }

-- what is wanted of each
abbrev pub needs_wanted : List Wanted → List Need
needs_wanted users = map need_wanted users

-- the user at the place doesn't administer
abbrev pub IsFree : ℕ → List Wanted → Type 0
IsFree place users = (user : Wanted) → slice_get users place ≡ Some user → user.admin ≡ None

-- no user administers
abbrev pub AreFree : List Wanted → Type 0
AreFree users = (place : ℕ) → IsFree place users

-- the users, of whom the one at the place has this administrator's hit, or has none
abbrev pub set_admin : ℕ → Option (List ℕ) → List Wanted → List Wanted
set_admin place admin [] = []
set_admin zero admin (user ∷ users) = record user { admin = admin } ∷ users
set_admin (suc place) admin (user ∷ users) = user ∷ set_admin place admin users

-- the second list is the first and then a new user, who is to have a role of the hit, and of whom nothing else is wanted
pub record AddsFresh (hit : List ℕ) (before after : List Wanted) : Type 0 where
  pub user : Wanted
  pub last : after ≡ before ++ user ∷ []
  pub need : need_wanted user ≡ record { hits = hit ∷ []; lacks = [] }
