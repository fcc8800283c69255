-- The normal form of a requirement.
use Rattle.std.specs.Prelude.{ℕ, ◌≡◌, ◌<◌, Bool, ◌&&◌, not, if◌then◌else◌, List, [], ◌∷◌, map, filter, length, get_or, slice_get}
use Rattle.std.specs.Prelude.{Some, None, Option}
use Rattle.std.specs.List.{list_any}
use Rattle.list_words.specs.Lists.{Each}
use Rattle.role_order.specs.Roles.{is_within, less_roles, IsIn, IsWithin, AreApart, Rises}
use Rattle.arbac_policy.specs.Rules.{Rules}
use Rattle.arbac_laws.specs.Needs.{Need}
use Rattle.arbac_laws.specs.PreImages.{is_empty}
use Rattle.arbac_laws.specs.Obligations.{Obligation, and_then, pre_image}
use Rattle.role_order.specs.Orders.{set_before}
use Rattle.arbac_laws.specs.Orders.{need_before}
use Rattle.list_words.specs.Places.{ArePlaces}
use Rattle.list_words.specs.Orders.{AreRising, AreSorted}

-- put before the first item that isn't before it
abbrev pub insert_by : {A : Type 0} → (A → A → Bool) → A → List A → List A
insert_by before x [] = x ∷ []
insert_by before x (y ∷ ys) = if before y x then y ∷ insert_by before x ys else x ∷ y ∷ ys

-- sorted stably
abbrev pub sort_by : {A : Type 0} → (A → A → Bool) → List A → List A
sort_by before [] = []
sort_by before (x ∷ xs) = insert_by before x (sort_by before xs)

-- the same, where an equal item isn't repeated
abbrev pub insert_once : {A : Type 0} → (A → A → Bool) → A → List A → List A
insert_once before x [] = x ∷ []
insert_once before x (y ∷ ys) =
    if before y x then y ∷ insert_once before x ys
    else if before x y then x ∷ y ∷ ys
    else y ∷ ys

-- sorted without repeats
abbrev pub sort_once : {A : Type 0} → (A → A → Bool) → List A → List A
sort_once before [] = []
sort_once before (x ∷ xs) = insert_once before x (sort_once before xs)

-- it lies within the other, and not the other way round; two spellings of one set are no different sets
abbrev pub is_less : List ℕ → List ℕ → Bool
is_less xs ys = is_within xs ys && not (is_within ys xs)

-- without those that contain a different one
abbrev pub least_hits : List (List ℕ) → List (List ℕ)
least_hits hits = filter (λ hit. not (list_any (λ other. is_less other hit) hits)) hits

-- the hits less the lacks
abbrev pub bare_hits : Need → List (List ℕ)
bare_hits need = map (λ hit. less_roles hit need.lacks) need.hits

-- from each hit the lacks go; then only the hits that contain no different one stay, sorted and
-- each of them once
abbrev pub normal_need : Need → Need
normal_need need = record { hits = sort_once set_before (least_hits (bare_hits need)); lacks = need.lacks }

-- a hit is empty without the lacks
abbrev pub is_impossible : List Need → Bool
is_impossible needs = list_any (λ need. list_any is_empty (bare_hits need)) needs

-- each user in normal form, sorted stably; none where the requirement is impossible.
-- Nothing is dropped: someone of whom nothing is wanted must still be there.
abbrev pub normal_form : List Need → Option (List Need)
normal_form needs = if is_impossible needs then None else Some (sort_by need_before (map normal_need needs))

-- the pre-image of the obligation in normal form; none where there is no pre-image or it is impossible
abbrev pub pre_form : Rules → List Need → Obligation → Option (List Need)
pre_form rules needs ob = and_then (pre_image rules needs ob) normal_form

-- sets that rise; hits that have roles and no lacks, none within a different one, and sorted.
-- A hit without a role would make the requirement impossible. All else is needed for two normal forms
-- that cover each other to be equal: with a hit that has lacks, or one that contains another, they can
-- be different lists.
pub record IsNormalNeed (need : Need) : Type 0 where
  pub lacks : Rises need.lacks
  pub rising : Each Rises need.hits
  pub filled : Each (λ hit. (role : ℕ) × IsIn hit role) need.hits
  pub bare : Each (λ hit. AreApart need.lacks hit) need.hits
  pub least : Each (λ hit. Each (λ other. IsWithin other hit → other ≡ hit) need.hits) need.hits
  pub sorted : AreRising set_before need.hits

-- users in normal form, sorted
pub record IsNormal (needs : List Need) : Type 0 where
  pub each : Each IsNormalNeed needs
  pub sorted : AreSorted need_before needs

-- hits and lacks are strictly rising lists, as sets of roles are; lists that have the same roles
-- wouldn't do, since they are compared and sorted as lists
pub record AreSets (need : Need) : Type 0 where
  pub hits : Each Rises need.hits
  pub lacks : Rises need.lacks

-- where the users of a requirement stand in its normal form: each of them, put in normal form, stands
-- at its place, the places are different and are all that there are, and of users whose normal forms
-- are equal the earlier stands before the later
pub record AreFormPlaces (needs form : List Need) (places : List ℕ) : Type 0 where
  pub at : ArePlaces (λ need one. normal_need need ≡ one) needs form places
  pub all : length form ≡ length needs
  pub stable : (i j : ℕ) (a b : Need) → i < j → slice_get needs i ≡ Some a → slice_get needs j ≡ Some b
      → normal_need a ≡ normal_need b → get_or places i 0 < get_or places j 0
