-- Whom users cover, by tests.
use Rattle.std.specs.Prelude.{ℕ, ◌≡◌, ◌<◌, Bool, true, ◌&&◌, List, length, slice_get, slice_index, Some}
use Rattle.std.specs.List.{list_any, list_all}
use Rattle.role_order.specs.Roles.{is_within, less_roles}
use Rattle.arbac_policy.specs.declared.conjunct.Conjunct.{Conjunct}
use Rattle.arbac_laws.specs.Needs.{Need}
use Rattle.arbac_laws.specs.Views.{need_of}
use Rattle.cert_needs.specs.declared.wanted.Wanted.{Wanted}
use Rattle.cert_needs.specs.Wanted.{need_wanted}

-- the second lacks all that the first does, and within each hit of the first lies one of the second, less the second's lacks
abbrev pub covers_need : Need → Need → Bool
covers_need a b = is_within a.lacks b.lacks && list_all (λ hit. list_any (λ one. is_within (less_roles one b.lacks) hit) b.hits) a.hits

-- the user covers what is wanted of the other
abbrev pub IsPartner : Conjunct → Wanted → Type 0
IsPartner user other = covers_need (need_of user) (need_wanted other) ≡ true

-- the user covers what is wanted of the one at the place, which is none of those taken
pub record IsFreePartner (user : Conjunct) (others : List Wanted) (taken : List ℕ) (place : ℕ) : Type 0 where
  pub other : Wanted
  pub at : slice_get others place ≡ Some other
  pub covered : IsPartner user other
  pub free : (k : ℕ) → k < length taken → ¬ (slice_index taken k ≡ place)
