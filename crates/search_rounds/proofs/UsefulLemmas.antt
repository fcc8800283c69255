-- Roles with which acts may be of use, and the roles of a range.
use Rattle.std.proofs.Common.{ℕ, ◌≡◌, ◌<◌, ◌+◌, ◌∙◌, Bool, true, false, List, [], ◌∷◌, ◌++◌, length, map, take, Some, zero, suc}
use Rattle.std.proofs.Common.{refl, sym, ap, subst, arith, eqb, inl, inr}
use Rattle.std.specs.Prelude.{slice_get, filter, ◌||◌, ◌↔◌, ◌⊎◌}
use Rattle.std.specs.List.{list_any}
use Rattle.std.proofs.lemmas.Bool.{eq-eqb}
use Rattle.std.proofs.lemmas.Bool.Decides.{nat_tests}
use Rattle.std.proofs.lemmas.List.Folds.{list_any_more}
use Rattle.list_words.specs.Lists.{Each}
use Rattle.list_words.proofs.GetLemmas.{get_within, same_some}
use Rattle.list_words.proofs.EachLemmas.{each_of}
use Rattle.list_words.proofs.TestLemmas.{or_none, same_test, both_true, and_both, or_cases, or_right}
use Rattle.role_order.specs.Graph.{Graph}
use Rattle.role_order.specs.Roles.{has_role, join_roles, Rises, IsIn}
use Rattle.role_order.specs.Ranges.{IsInRange}
use Rattle.role_order.specs.Reach.{count_up, seniors_of}
use Rattle.role_order.specs.Refusals.{IsOrder}
use Rattle.role_order.specs.declared.range.Range.{Range}
use Rattle.role_order.proofs.SetLemmas.{has_role-join_roles, same_set, has_role-filter, has_role-count_up, rises-filter, rises-count_up}
use Rattle.arbac_policy.specs.declared.rule.CanAssign.{CanAssign}
use Rattle.arbac_policy.specs.declared.rule.CanRevoke.{CanRevoke}
use Rattle.arbac_policy.specs.Rules.{Rules, policy_of}
use Rattle.arbac_laws.specs.Needs.{Need}
use Rattle.arbac_laws.specs.Obligations.{flat, flat_places, is_in_range, roles_in}
use Rattle.arbac_laws.proofs.ConjunctLemmas.{are_seniors}
use Rattle.arbac_laws.proofs.FlatLemmas.{in_range, range_in}
use Rattle.req_pre.specs.Preparing.{conjuncts_of}
use Rattle.req_pre.proofs.OwingLemmas.{places_same}
use Rattle.search_rounds.specs.Keeping.{Gathered, Gathers}
use Rattle.search_rounds.specs.Making.{Way, gives, takes, is_of_use, by_target, by_role, by_range, by_conjunct, by_assign, by_revoke}
use Rattle.search_rounds.proofs.ListingLemmas.{places_none}

-- one set more is joined
pub joined_more : {A : Type 0} (p : A → ℕ → Bool) (xs : List A) (i : ℕ) (x : A) (all set : List ℕ) (role : ℕ) → slice_get xs i ≡ Some x
    → has_role all role ≡ list_any (λ y. p y role) (take i xs) → has_role set role ≡ p x role
    → has_role (join_roles all set) role ≡ list_any (λ y. p y role) (take (i + 1) xs)
joined_more p xs i x all set role at before same =
    let there = get_within xs i x at in
    has_role-join_roles all set role
    ∙ ap (λ b. b || has_role set role) before
    ∙ ap (λ b. list_any (λ y. p y role) (take i xs) || b) (same ∙ ap (λ y. p y role) there.1)
    ∙ sym (list_any_more (λ y. p y role) xs i x there.0)

pub any_mapped : {A B : Type 0} (f : A → B) (p : B → Bool) (xs : List A) → list_any (λ x. p (f x)) xs ≡ list_any p (map f xs)
any_mapped f p [] = refl
any_mapped f p (x ∷ xs) = ap (λ b. p (f x) || b) (any_mapped f p xs)

-- where the role is of use to no user, there is no candidate with it
pub idle_role : (rules : Rules) (parent : ℕ) (way : Way) (hit : List ℕ) (all : List Need) (role at : ℕ) (needs : List Need)
    → list_any (λ need. is_of_use way role need) needs ≡ false → flat_places (by_target rules parent way hit all role) at needs ≡ []
idle_role rules parent way hit all role at [] h = refl
idle_role rules parent way hit all role at (need ∷ needs) h =
    let both = or_none (is_of_use way role need) (list_any (λ one. is_of_use way role one) needs) h in
    let none : is_of_use way role need ≡ false = both.0 in
    rw none (idle_role rules parent way hit all role (at + 1) needs both.1)

pub flat_filtered : {B : Type 0} (f : ℕ → List B) (test : ℕ → Bool) → ((x : ℕ) → test x ≡ false → f x ≡ []) → (xs : List ℕ)
    → flat f (filter test xs) ≡ flat f xs
flat_filtered f test none [] = refl
flat_filtered f test none (x ∷ xs) = by_test (test x) refl (flat_filtered f test none xs)
  where
    by_test : (t : Bool) → test x ≡ t → flat f (filter test xs) ≡ flat f xs → flat f (filter test (x ∷ xs)) ≡ f x ++ flat f xs
    by_test true e rest = rw e (ap (λ l. f x ++ l) rest)
    by_test false e rest = rw (e, none x e) rest

-- so other roles are left out
pub useful_flat : (rules : Rules) (parent : ℕ) (way : Way) (hit : List ℕ) (range : Range) (needs : List Need) (useful : List ℕ)
    → ((role : ℕ) → has_role useful role ≡ list_any (λ need. is_of_use way role need) needs)
    → flat (by_role rules parent way hit needs) (filter (has_role useful) (roles_in rules.order range)) ≡ by_range rules parent way hit range needs
useful_flat rules parent way hit range needs useful same =
    flat_filtered (by_role rules parent way hit needs) (has_role useful)
    (λ role out. idle_role rules parent way hit needs role 0 needs (sym (same role) ∙ out)) (roles_in rules.order range)

-- the roles of a range

pub counted : (at n role : ℕ) → has_role (count_up at n) role ≡ true → role < at + n
counted at zero role h = cc
counted at (suc n) role h = by_case (or_cases (eqb at role) (has_role (count_up (at + 1) n) role) h) (counted (at + 1) n role)
  where
    by_case : (eqb at role ≡ true) ⊎ (has_role (count_up (at + 1) n) role ≡ true)
        → (has_role (count_up (at + 1) n) role ≡ true → role < (at + 1) + n) → role < at + suc n
    by_case (inl e) rest = let same : at ≡ role = grind (arith, nat_tests) in omega (arith, same)
    by_case (inr i) rest = let l = rest i in omega (arith, l)

-- a set that has them is their list
pub range_is : (order : Graph) → IsOrder order.names order.edges → (range : Range) (set : List ℕ) → Rises set
    → ((role : ℕ) → IsIn set role ↔ IsInRange order range role) → set ≡ roles_in order range
range_is order ok range set rises same =
    same_set set (roles_in order range) rises
    (rises-filter (is_in_range order range) (count_up 0 (length order.names)) (rises-count_up 0 (length order.names)))
    (λ role. same_test (has_role set role) (has_role (roles_in order range) role) (λ i. into role ((same role).0 i)) (λ i. (same role).1 (out role i)))
  where
    into : (role : ℕ) → IsInRange order range role → has_role (roles_in order range) role ≡ true
    into role h =
        has_role-filter (is_in_range order range) (count_up 0 (length order.names)) role
        ∙ both_true (has_role (count_up 0 (length order.names)) role) (is_in_range order range role)
        (has_role-count_up 0 (length order.names) role (omega arith) (let l = h.is_role in omega (arith, l)))
        (in_range (policy_of order [] [] [] [] []) (are_seniors order ok.ends) range role h)

    out : (role : ℕ) → has_role (roles_in order range) role ≡ true → IsInRange order range role
    out role h =
        let both = and_both (has_role (count_up 0 (length order.names)) role) (is_in_range order range role)
        (sym (has_role-filter (is_in_range order range) (count_up 0 (length order.names)) role) ∙ h) in
        range_in (policy_of order [] [] [] [] []) (are_seniors order ok.ends) range role
        (let l = counted 0 (length order.names) role both.0 in omega (arith, l)) both.1

-- they are roles of the order
pub roles_known : (order : Graph) (range : Range) (set : List ℕ) → ((role : ℕ) → IsIn set role ↔ IsInRange order range role)
    → Each (λ role. role < length order.names) set
roles_known order range set same = each_of (λ role. role < length order.names) set (λ k role at. let h = (same role).0 (in_at set k role at) in h.is_role)
  where
    in_at : (xs : List ℕ) (k role : ℕ) → slice_get xs k ≡ Some role → has_role xs role ≡ true
    in_at [] k role e = cc
    in_at (x ∷ xs) zero role e = let here : eqb x role ≡ true = eq-eqb x role (same_some x role e) in rw here refl
    in_at (x ∷ xs) (suc k) role e = or_right (eqb x role) (has_role xs role) (in_at xs k role e)

-- the acts of a rule to assign, with its useful roles alone

pub assign_useful : (rules : Rules) (parent : ℕ) (needs : List Need) (place : ℕ) (rule : CanAssign) (useful roles : List ℕ)
    → ((role : ℕ) → has_role useful role ≡ list_any (λ (need : Need). list_any (λ hit. has_role hit role) need.hits) needs)
    → roles ≡ filter (has_role useful) (roles_in rules.order rule.range)
    → flat_places (λ j conjunct. flat (by_role rules parent (gives place j conjunct) (seniors_of rules.order rule.admin) needs) roles)
    0 (conjuncts_of rules rule) ≡ by_assign rules parent needs place rule
assign_useful rules parent needs place rule useful roles same is =
    places_same (λ j conjunct. flat (by_role rules parent (gives place j conjunct) (seniors_of rules.order rule.admin) needs) roles)
    (by_conjunct rules parent needs place rule)
    (λ j conjunct. ap (flat (by_role rules parent (gives place j conjunct) (seniors_of rules.order rule.admin) needs)) is
    ∙ useful_flat rules parent (gives place j conjunct) (seniors_of rules.order rule.admin) rule.range needs useful same)
    0 (conjuncts_of rules rule)

-- without any there is no candidate
pub assign_idle : (rules : Rules) (parent : ℕ) (needs : List Need) (place : ℕ) (rule : CanAssign) (useful roles : List ℕ)
    → ((role : ℕ) → has_role useful role ≡ list_any (λ (need : Need). list_any (λ hit. has_role hit role) need.hits) needs)
    → roles ≡ filter (has_role useful) (roles_in rules.order rule.range) → roles ≡ [] → by_assign rules parent needs place rule ≡ []
assign_idle rules parent needs place rule useful roles same is none =
    sym (assign_useful rules parent needs place rule useful roles same is)
    ∙ places_none (λ j conjunct. flat (by_role rules parent (gives place j conjunct) (seniors_of rules.order rule.admin) needs) roles)
    (λ j conjunct. ap (flat (by_role rules parent (gives place j conjunct) (seniors_of rules.order rule.admin) needs)) none) 0 (conjuncts_of rules rule)

-- the acts of the rule to assign at a place, with the conjuncts that are listed for it
pub assign_gathered : (old new : Gathered) (rules : Rules) (parent : ℕ) (needs : List Need) (place : ℕ) (one rule : CanAssign)
    (useful roles : List ℕ) (list : List Need) → one ≡ rule → list ≡ conjuncts_of rules rule
    → ((role : ℕ) → has_role useful role ≡ list_any (λ (need : Need). list_any (λ hit. has_role hit role) need.hits) needs)
    → roles ≡ filter (has_role useful) (roles_in rules.order rule.range)
    → Gathers old new
    (flat_places (λ j conjunct. flat (by_role rules parent (gives place j conjunct) (seniors_of rules.order one.admin) needs) roles) 0 list)
    → Gathers old new (by_assign rules parent needs place rule)
assign_gathered old new rules parent needs place one rule useful roles list same list_is are is h =
    subst (Gathers old new) (assign_useful rules parent needs place rule useful roles are is)
    (subst (λ (l : List Need). Gathers old new
    (flat_places (λ j conjunct. flat (by_role rules parent (gives place j conjunct) (seniors_of rules.order rule.admin) needs) roles) 0 l)) list_is
    (subst (λ (r : CanAssign). Gathers old new
    (flat_places (λ j conjunct. flat (by_role rules parent (gives place j conjunct) (seniors_of rules.order r.admin) needs) roles) 0 list)) same h))

-- the acts of the rule to revoke at a place
pub revoke_gathered : (old new : Gathered) (rules : Rules) (parent : ℕ) (needs : List Need) (place : ℕ) (one rule : CanRevoke)
    (hit useful roles : List ℕ) → one ≡ rule → hit ≡ seniors_of rules.order one.admin
    → ((role : ℕ) → has_role useful role ≡ list_any (λ (need : Need). has_role need.lacks role) needs)
    → roles ≡ filter (has_role useful) (roles_in rules.order one.range)
    → Gathers old new (flat (by_role rules parent (takes place) hit needs) roles)
    → Gathers old new (by_revoke rules parent needs place rule)
revoke_gathered old new rules parent needs place one rule hit useful roles same hit_is are is h =
    subst (λ (r : CanRevoke). Gathers old new (by_revoke rules parent needs place r)) same
    (subst (Gathers old new) (useful_flat rules parent (takes place) (seniors_of rules.order one.admin) one.range needs useful are)
    (subst (λ (l : List ℕ). Gathers old new (flat (by_role rules parent (takes place) (seniors_of rules.order one.admin) needs) l)) is
    (subst (λ (s : List ℕ). Gathers old new (flat (by_role rules parent (takes place) s needs) roles)) hit_is h)))
