-- The lists of obligations that the loops build are those of the laws.
use Rattle.std.proofs.Common.{ℕ, ◌≡◌, ◌≤◌, ◌<◌, ◌+◌, ◌-◌, ◌∙◌, Bool, true, false, not, List, [], ◌∷◌, ◌++◌, length}
use Rattle.std.proofs.Common.{map, drop, Some, refl, zero, suc, ap, sym, append_assoc, arith, eqb}
use Rattle.std.specs.Prelude.{slice_get, filter, ◌↔◌}
use Rattle.std.proofs.lemmas.List.{append-nil, drop_more, drop_all}
use Rattle.list_words.proofs.GetLemmas.{get_within}
use Rattle.role_order.specs.Graph.{Graph}
use Rattle.role_order.specs.Reach.{count_up}
use Rattle.role_order.specs.Refusals.{IsOrder}
use Rattle.role_order.specs.Ranges.{IsInRange}
use Rattle.role_order.specs.declared.range.Range.{Range}
use Rattle.arbac_policy.specs.declared.rule.CanAssign.{CanAssign}
use Rattle.arbac_policy.specs.Rules.{Rules, policy_of}
use Rattle.arbac_laws.specs.Needs.{Need}
use Rattle.arbac_laws.specs.PreImages.{Pick as Picked, itself, other, fresh}
use Rattle.arbac_laws.specs.Obligations.{Obligation as Owed, flat, flat_places, if_wanted, is_in_range, roles_in, picks, obligations}
use Rattle.arbac_laws.proofs.ConjunctLemmas.{are_seniors}
use Rattle.arbac_laws.proofs.FlatLemmas.{in_range, range_in}
use Rattle.req_pre.specs.declared.owing.Origin.{Origin}
use Rattle.req_pre.specs.declared.owing.Origin.TheVariants.{Assign, Weak}
use Rattle.req_pre.specs.Preparing.{conjuncts_of}
use Rattle.req_pre.specs.Owing.{act_by, is_of_use, only_if, by_other, by_picks, by_target, by_targets, by_roles, by_assign, by_revoke}

-- steps of the loops: what is listed and what is left make the whole

pub count_next : (n i : ℕ) → i < n → count_up i (n - i) ≡ i ∷ count_up (i + 1) (n - (i + 1))
count_next n i h = let e : n - i ≡ suc (n - (i + 1)) = omega (arith, h) in rw e refl

pub count_step : {B : Type 0} (f : ℕ → List B) (whole now new : List B) (n i : ℕ) → i < n → new ≡ now ++ f i
    → now ++ flat f (count_up i (n - i)) ≡ whole → new ++ flat f (count_up (i + 1) (n - (i + 1))) ≡ whole
count_step f whole now new n i h grown before =
    ap (λ l. l ++ flat f (count_up (i + 1) (n - (i + 1)))) grown
    ∙ append_assoc now (f i) (flat f (count_up (i + 1) (n - (i + 1))))
    ∙ sym (ap (λ l. now ++ flat f l) (count_next n i h))
    ∙ before

pub count_end : {B : Type 0} (f : ℕ → List B) (whole now : List B) (n i : ℕ) → n ≤ i → now ++ flat f (count_up i (n - i)) ≡ whole
    → now ≡ whole
count_end f whole now n i h before =
    let e : n - i ≡ 0 = omega (arith, h) in
    let none : flat f (count_up i (n - i)) ≡ [] = rw e refl in
    sym (append-nil now) ∙ sym (ap (λ l. now ++ l) none) ∙ before

pub drop_next : {A : Type 0} (xs : List A) (i : ℕ) (x : A) → slice_get xs i ≡ Some x → drop i xs ≡ x ∷ drop (i + 1) xs
drop_next xs i x h =
    let at = get_within xs i x h in
    drop_more xs i x at.0 ∙ ap (λ y. y ∷ drop (i + 1) xs) (sym at.1)

pub places_step : {A B : Type 0} (f : ℕ → A → List B) (whole now new : List B) (xs : List A) (i : ℕ) (x : A) → slice_get xs i ≡ Some x
    → new ≡ now ++ f i x
    → now ++ flat_places f i (drop i xs) ≡ whole → new ++ flat_places f (i + 1) (drop (i + 1) xs) ≡ whole
places_step f whole now new xs i x at grown before =
    ap (λ l. l ++ flat_places f (i + 1) (drop (i + 1) xs)) grown
    ∙ append_assoc now (f i x) (flat_places f (i + 1) (drop (i + 1) xs))
    ∙ sym (ap (λ l. now ++ flat_places f i l) (drop_next xs i x at))
    ∙ before

pub item_at : {A : Type 0} (xs : List A) (i : ℕ) → i < length xs → (x : A) × (slice_get xs i ≡ Some x)
item_at [] i h = absurd (omega (arith, h))
item_at (x ∷ xs) zero h = (x, refl)
item_at (x ∷ xs) (suc i) h = item_at xs i (omega (arith, h))

-- the same, where the item is the one that stands there
pub places_more : {A B : Type 0} (f : ℕ → A → List B) (whole now new : List B) (xs : List A) (i : ℕ) → i < length xs
    → ((x : A) → slice_get xs i ≡ Some x → new ≡ now ++ f i x)
    → now ++ flat_places f i (drop i xs) ≡ whole → new ++ flat_places f (i + 1) (drop (i + 1) xs) ≡ whole
places_more f whole now new xs i h grown before =
    let item = item_at xs i h in
    places_step f whole now new xs i item.0 item.1 (grown item.0 item.1) before

pub places_end : {A B : Type 0} (f : ℕ → A → List B) (whole now : List B) (xs : List A) (i : ℕ) → length xs ≤ i
    → now ++ flat_places f i (drop i xs) ≡ whole → now ≡ whole
places_end f whole now xs i h before =
    sym (append-nil now) ∙ sym (ap (λ l. now ++ flat_places f i l) (drop_all i xs h)) ∙ before

-- lists of lists

pub flat_same : {A B : Type 0} (f g : A → List B) → ((x : A) → f x ≡ g x) → (xs : List A) → flat f xs ≡ flat g xs
flat_same f g same [] = refl
flat_same f g same (x ∷ xs) = ap (λ l. l ++ flat f xs) (same x) ∙ ap (λ l. g x ++ l) (flat_same f g same xs)

pub places_same : {A B : Type 0} (f g : ℕ → A → List B) → ((i : ℕ) (x : A) → f i x ≡ g i x) → (at : ℕ) (xs : List A)
    → flat_places f at xs ≡ flat_places g at xs
places_same f g same at [] = refl
places_same f g same at (x ∷ xs) = ap (λ l. l ++ flat_places f (at + 1) xs) (same at x) ∙ ap (λ l. g at x ++ l) (places_same f g same (at + 1) xs)

pub flat_append : {A B : Type 0} (f : A → List B) (xs ys : List A) → flat f (xs ++ ys) ≡ flat f xs ++ flat f ys
flat_append f [] ys = refl
flat_append f (x ∷ xs) ys = ap (λ l. f x ++ l) (flat_append f xs ys) ∙ sym (append_assoc (f x) (flat f xs) (flat f ys))

pub flat_of_places : {A B C : Type 0} (f : B → List C) (g : ℕ → A → List B) (at : ℕ) (xs : List A)
    → flat f (flat_places g at xs) ≡ flat_places (λ i x. flat f (g i x)) at xs
flat_of_places f g at [] = refl
flat_of_places f g at (x ∷ xs) = flat_append f (g at x) (flat_places g (at + 1) xs) ∙ ap (λ l. flat f (g at x) ++ l) (flat_of_places f g (at + 1) xs)

-- the items are of no matter, but only how many there are
pub places_count : {A B : Type 0} (f : ℕ → List B) (at : ℕ) (xs : List A) → flat_places (λ i x. f i) at xs ≡ flat f (count_up at (length xs))
places_count f at [] = refl
places_count f at (x ∷ xs) = ap (λ l. f at ++ l) (places_count f (at + 1) xs)

pub flat_wanted : (f : ℕ → List Owed) (test : Bool) (place : ℕ) → flat f (if_wanted test place) ≡ only_if test (f place)
flat_wanted f true place = append-nil (f place)
flat_wanted f false place = refl

pub flat_filter : (f : ℕ → List Owed) (test : ℕ → Bool) (xs : List ℕ) → flat f (filter test xs) ≡ flat (λ x. only_if (test x) (f x)) xs
flat_filter f test [] = refl
flat_filter f test (x ∷ xs) = by_test (test x) refl (flat_filter f test xs)
  where
    by_test : (t : Bool) → test x ≡ t → flat f (filter test xs) ≡ flat (λ x. only_if (test x) (f x)) xs
        → flat f (filter test (x ∷ xs)) ≡ only_if (test x) (f x) ++ flat (λ x. only_if (test x) (f x)) xs
    by_test true e rest = rw e (ap (λ l. f x ++ l) rest)
    by_test false e rest = rw e rest

-- the levels, as the laws list them

pub map_picks : {B : Type 0} (f : Picked → B) (xs ys : List Picked) → map f (xs ++ ys) ≡ map f xs ++ map f ys
map_picks f [] ys = refl
map_picks f (x ∷ xs) ys = ap (λ l. f x ∷ l) (map_picks f xs ys)

pub others : (origin : Origin) (role target : ℕ) (xs : List ℕ)
    → map (act_by origin role target) (map other (filter (λ place. not (eqb place target)) xs)) ≡ flat (by_other origin role target) xs
others origin role target [] = refl
others origin role target (x ∷ xs) = by_test (not (eqb x target)) refl (others origin role target xs)
  where
    by_test : (t : Bool) → not (eqb x target) ≡ t
        → map (act_by origin role target) (map other (filter (λ place. not (eqb place target)) xs)) ≡ flat (by_other origin role target) xs
        → map (act_by origin role target) (map other (filter (λ place. not (eqb place target)) (x ∷ xs)))
        ≡ by_other origin role target x ++ flat (by_other origin role target) xs
    by_test true e rest = rw e (ap (λ l. act_by origin role target (other x) ∷ l) rest)
    by_test false e rest = rw e rest

pub picks_are : (origin : Origin) (role target count : ℕ) → map (act_by origin role target) (picks target count) ≡ by_picks origin role target count
picks_are origin role target count =
    ap (λ l. act_by origin role target itself ∷ l)
    (map_picks (act_by origin role target) (map other (filter (λ place. not (eqb place target)) (count_up 0 count))) (fresh ∷ [])
    ∙ ap (λ l. l ++ act_by origin role target fresh ∷ []) (others origin role target (count_up 0 count)))

pub targets_are : (origin : Origin) (role : ℕ) (needs : List Need)
    → flat (λ target. map (act_by origin role target) (picks target (length needs)))
    (flat_places (λ place need. if_wanted (is_of_use origin role need) place) 0 needs)
    ≡ by_targets origin needs role
targets_are origin role needs =
    flat_of_places (λ target. map (act_by origin role target) (picks target (length needs)))
    (λ place need. if_wanted (is_of_use origin role need) place) 0 needs
    ∙ places_same (λ place need. flat (λ target. map (act_by origin role target) (picks target (length needs)))
    (if_wanted (is_of_use origin role need) place))
    (by_target origin role (length needs))
    (λ place need. flat_wanted (λ target. map (act_by origin role target) (picks target (length needs))) (is_of_use origin role need) place
    ∙ ap (only_if (is_of_use origin role need)) (picks_are origin role place (length needs)))
    0 needs

-- by role of the range and by target, as the laws list an origin's acts
abbrev pub of_origin : Origin → Graph → Range → List Need → List Owed
of_origin origin order range needs =
    flat (λ role. flat (λ target. map (act_by origin role target) (picks target (length needs)))
    (flat_places (λ place need. if_wanted (is_of_use origin role need) place) 0 needs))
    (roles_in order range)

pub roles_are : (origin : Origin) (order : Graph) (range : Range) (needs : List Need)
    → of_origin origin order range needs ≡ by_roles origin order range needs
roles_are origin order range needs =
    flat_same (λ role. flat (λ target. map (act_by origin role target) (picks target (length needs)))
    (flat_places (λ place need. if_wanted (is_of_use origin role need) place) 0 needs))
    (by_targets origin needs) (λ role. targets_are origin role needs) (roles_in order range)
    ∙ flat_filter (by_targets origin needs) (is_in_range order range) (count_up 0 (length order.names))

pub assign_are : (rules : Rules) (needs : List Need) (i : ℕ) (rule : CanAssign)
    → flat_places (λ j conjunct. of_origin (Assign i j) rules.order rule.range needs) 0 (conjuncts_of rules rule) ≡ by_assign rules needs i rule
assign_are rules needs i rule =
    places_count (λ j. of_origin (Assign i j) rules.order rule.range needs) 0 (conjuncts_of rules rule)
    ∙ flat_same (λ j. of_origin (Assign i j) rules.order rule.range needs) (λ j. by_roles (Assign i j) rules.order rule.range needs)
    (λ j. roles_are (Assign i j) rules.order rule.range needs) (count_up 0 (length (conjuncts_of rules rule)))

-- both tables
pub obligations_are : (rules : Rules) (needs : List Need)
    → flat_places (by_assign rules needs) 0 rules.assign ++ flat_places (by_revoke rules needs) 0 rules.revoke ≡ obligations rules needs
obligations_are rules needs =
    sym (ap (λ l. l ++ flat_places (λ i rule. of_origin (Weak i) rules.order rule.range needs) 0 rules.revoke)
    (places_same (λ i rule. flat_places (λ j conjunct. of_origin (Assign i j) rules.order rule.range needs) 0 (conjuncts_of rules rule))
    (by_assign rules needs)
    (λ i rule. assign_are rules needs i rule) 0 rules.assign)
    ∙ ap (λ l. flat_places (by_assign rules needs) 0 rules.assign ++ l)
    (places_same (λ i rule. of_origin (Weak i) rules.order rule.range needs) (by_revoke rules needs)
    (λ i rule. roles_are (Weak i) rules.order rule.range needs) 0 rules.revoke))

-- a test that says whether the role is of the range is the one that the laws compute
pub within_is : (order : Graph) → IsOrder order.names order.edges → (range : Range) (role : ℕ) → role < length order.names → (b : Bool)
    → (b ≡ true ↔ IsInRange order range role) → b ≡ is_in_range order range role
within_is order ok range role l true h = sym (in_range (policy_of order [] [] [] [] []) (are_seniors order ok.ends) range role (h.0 refl))
within_is order ok range role l false h = by_test (is_in_range order range role) refl
  where
    by_test : (t : Bool) → is_in_range order range role ≡ t → false ≡ is_in_range order range role
    by_test true e = let yes' : false ≡ true = h.1 (range_in (policy_of order [] [] [] [] []) (are_seniors order ok.ends) range role l e) in cc
    by_test false e = sym e
