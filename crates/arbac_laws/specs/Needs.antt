-- Requirements: what a population must meet, and when one requirement covers another.
use Rattle.std.specs.Prelude.{ℕ, ◌≡◌, List}
use Rattle.list_words.specs.Lists.{Each, Some_of}
use Rattle.role_order.specs.Roles.{less_roles, IsIn, IsOut, IsWithin, AreApart, HaveCommon}
use Rattle.list_words.specs.Embeds.{Embeds}

-- what is wanted of one user: of each hit at least one role, of the lacks none; a requirement is a
-- list of these, for different users
pub record Need : Type 0 where
  pub hits : List (List ℕ)
  pub lacks : List ℕ

-- the set has a role of each hit
abbrev pub HasHits : List ℕ → List (List ℕ) → Type 0
HasHits set hits = Each (λ hit. HaveCommon hit set) hits

-- each hit shares a role with the set, and the lacks share none
pub record MeetsNeed (need : Need) (set : List ℕ) : Type 0 where
  pub hits : HasHits set need.hits
  pub lacks : AreApart need.lacks set

-- different users of the population meet the user requirements one by one
abbrev pub Meets : List (List ℕ) → List Need → Type 0
Meets users needs = Embeds MeetsNeed needs users

-- the same, where the user requirements stand where the map says
abbrev pub MeetsBy : List (List ℕ) → List Need → (ℕ → ℕ) → Type 0
MeetsBy users needs to = (met : Meets users needs) × ((i : ℕ) → met.to i ≡ to i)

-- within each hit of the first lies a hit of the second, the second's lacks taken out of it,
-- and the second lacks all that the first does
pub record CoversNeed (a b : Need) : Type 0 where
  pub hits : Each (λ hit. Some_of (λ other. IsWithin (less_roles other b.lacks) hit) b.hits) a.hits
  pub lacks : IsWithin a.lacks b.lacks

-- an injective map sends each user requirement of the first to one of the second that it covers
abbrev pub Covers : List Need → List Need → Type 0
Covers a b = Embeds CoversNeed a b

-- one of the list covers the requirement
abbrev pub IsCovered : List (List Need) → List Need → Type 0
IsCovered list needs = Some_of (λ one. Covers one needs) list

-- each hit has a role that isn't among the lacks
abbrev pub IsPossibleNeed : Need → Type 0
IsPossibleNeed need = Each (λ hit. (role : ℕ) × IsIn hit role × IsOut need.lacks role) need.hits

-- no hit lies within the lacks of its user
abbrev pub IsPossible : List Need → Type 0
IsPossible needs = Each IsPossibleNeed needs
