-- Obligations: the acts after which a requirement may be met, in their order, and what each wants before it.
use Rattle.std.specs.Prelude.{ℕ, ◌≡◌, ◌+◌, ◌==◌, Bool, true, false, ◌&&◌, not, List, [], ◌∷◌, ◌++◌, map, filter, length}
use Rattle.std.specs.Prelude.{slice_get, slice_set, Some, None, Option}
use Rattle.std.specs.List.{list_any}
use Rattle.list_words.specs.Lists.{Some_of}
use Rattle.role_order.specs.Roles.{has_role}
use Rattle.role_order.specs.Graph.{Graph}
use Rattle.role_order.specs.Reach.{count_up, seniors_of}
use Rattle.role_order.specs.declared.range.Range.{Range}
use Rattle.arbac_policy.specs.declared.act.Act.{Act}
use Rattle.arbac_policy.specs.declared.act.ActKind.{ActKind}
use Rattle.arbac_policy.specs.declared.act.ActKind.TheVariants.{Assign, Weak}
use Rattle.arbac_policy.specs.Truth.{term_of}
use Rattle.arbac_policy.specs.Rules.{Rules}
use Rattle.arbac_laws.specs.Needs.{Need, Meets}
use Rattle.arbac_laws.specs.Conjuncts.{conjuncts}
use Rattle.arbac_laws.specs.PreImages.{before_assign, before_weak, Pick, itself, other, fresh, with_admin, admin_place}

-- by places and role: `assigns rule conjunct role target pick` and `revokes rule role target pick`
pub data Obligation : Type 0 where
  assigns : ℕ → ℕ → ℕ → ℕ → Pick → Obligation
  revokes : ℕ → ℕ → ℕ → Pick → Obligation

-- assignments and weak revocations alone are obligations
abbrev pub kind_of : Obligation → ActKind
kind_of (assigns rule conjunct role target pick) = Assign
kind_of (revokes rule role target pick) = Weak

-- the role that the act gives or takes
abbrev pub role_of : Obligation → ℕ
role_of (assigns rule conjunct role target pick) = role
role_of (revokes rule role target pick) = role

-- the user of the requirement who is the target
abbrev pub target_of : Obligation → ℕ
target_of (assigns rule conjunct role target pick) = target
target_of (revokes rule role target pick) = target

-- who administers
abbrev pub pick_of : Obligation → Pick
pick_of (assigns rule conjunct role target pick) = pick
pick_of (revokes rule role target pick) = pick

-- the act that the obligation names, where the pre-image's users go to these places of a population
abbrev pub act_of : Obligation → ℕ → (ℕ → ℕ) → Act
act_of ob count to = record {
  kind = kind_of ob;
  admin = to (admin_place (pick_of ob) (target_of ob) count);
  target = to (target_of ob);
  role = role_of ob;
}

-- the role stands between the ends, and is no end that is open
abbrev pub is_in_range : Graph → Range → ℕ → Bool
is_in_range order range role =
    has_role (seniors_of order range.low) role && (has_role (seniors_of order role) range.high
    && (not (range.low_open && (role == range.low)) && not (range.high_open && (role == range.high))))

-- the roles of the range, rising; a range has roles of the order alone
abbrev pub roles_in : Graph → Range → List ℕ
roles_in order range = filter (is_in_range order range) (count_up 0 (length order.names))

-- what the function makes of each item, one after another
abbrev pub flat : {A B : Type 0} → (A → List B) → List A → List B
flat f [] = []
flat f (x ∷ xs) = f x ++ flat f xs

-- the same, where the function is told the item's place, counted from `at`
abbrev pub flat_places : {A B : Type 0} → (ℕ → A → List B) → ℕ → List A → List B
flat_places f at [] = []
flat_places f at (x ∷ xs) = f at x ++ flat_places f (at + 1) xs

-- the place where the test is true, and nothing otherwise
abbrev pub if_wanted : Bool → ℕ → List ℕ
if_wanted true place = place ∷ []
if_wanted false place = []

-- first the target as its own administrator, then the others by place, then someone new
abbrev pub picks : ℕ → ℕ → List Pick
picks target count = itself ∷ (map other (filter (λ place. not (place == target)) (count_up 0 count)) ++ fresh ∷ [])

-- the places of the users one of whose hits has the role
abbrev pub wanting : ℕ → List Need → List ℕ
wanting role needs = flat_places (λ place need. if_wanted (list_any (λ hit. has_role hit role) need.hits) place) 0 needs

-- the places of the users whose lacks have the role
abbrev pub barring : ℕ → List Need → List ℕ
barring role needs = flat_places (λ place need. if_wanted (has_role need.lacks role) place) 0 needs

-- by rule, within it by conjunct, then by role of the range, by target and by administrator
abbrev pub assign_obligations : Rules → List Need → List Obligation
assign_obligations rules needs =
    flat_places (λ i rule. flat_places (λ j conjunct. flat (λ role. flat (λ target.
    map (λ pick. assigns i j role target pick) (picks target (length needs)))
    (wanting role needs))
    (roles_in rules.order rule.range))
    0 (conjuncts rules.order (term_of rule.cond)))
    0 rules.assign

-- by rule, within it by role of the range, then by target and by administrator
abbrev pub weak_obligations : Rules → List Need → List Obligation
weak_obligations rules needs =
    flat_places (λ i rule. flat (λ role. flat (λ target.
    map (λ pick. revokes i role target pick) (picks target (length needs)))
    (barring role needs))
    (roles_in rules.order rule.range))
    0 rules.revoke

-- first those to assign, then those to revoke
abbrev pub obligations : Rules → List Need → List Obligation
obligations rules needs = assign_obligations rules needs ++ weak_obligations rules needs

-- what the function makes of the item, if there is one
abbrev pub and_then : {A B : Type 0} → Option A → (A → Option B) → Option B
and_then None f = None
and_then (Some x) f = f x

-- what a population must meet before the act of the obligation, or none where nothing will do
abbrev pub pre_image : Rules → List Need → Obligation → Option (List Need)
pre_image rules needs (assigns i j role target pick) =
    and_then (slice_get rules.assign i) (λ rule.
    and_then (slice_get (conjuncts rules.order (term_of rule.cond)) j) (λ conjunct.
    and_then (slice_get needs target) (λ need.
    and_then (before_assign rules conjunct role need) (λ before.
    Some (with_admin pick target (seniors_of rules.order rule.admin) (slice_set needs target before))))))
pre_image rules needs (revokes i role target pick) =
    and_then (slice_get rules.revoke i) (λ rule.
    and_then (slice_get needs target) (λ need.
    and_then (before_weak role need) (λ before.
    Some (with_admin pick target (seniors_of rules.order rule.admin) (slice_set needs target before)))))

-- the population meets the pre-image of an obligation
abbrev pub MeetsPreImage : Rules → List (List ℕ) → List Need → Type 0
MeetsPreImage rules users needs =
    Some_of (λ ob. (before : List Need) × (pre_image rules needs ob ≡ Some before) × Meets users before) (obligations rules needs)
