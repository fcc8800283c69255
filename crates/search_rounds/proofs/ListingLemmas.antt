-- The candidates of a parent, level by level, are those of its obligations; and steps through the levels.
use Rattle.std.proofs.Common.{ℕ, ◌≡◌, ◌<◌, ◌≤◌, ◌+◌, ◌-◌, ◌∙◌, Bool, true, false, List, [], ◌∷◌, ◌++◌, length, map, take, drop, None, Some}
use Rattle.std.proofs.Common.{Option, Global, zero, suc, refl, sym, ap, subst, arith, append_assoc, get_or, min}
use Rattle.std.specs.Prelude.{slice_get, slice_set, ◌||◌, if◌then◌else◌}
use Rattle.std.specs.List.{list_any}
use Rattle.std.proofs.lemmas.Bool.{or_right}
use Rattle.std.proofs.lemmas.List.{append-nil, drop_all, length-map, length-drop, take_min}
use Rattle.std.specs.declared.sync.Arc.{Arc}
use Rattle.list_words.proofs.GetLemmas.{get_any, get_at, get_map, get_within, same_some}
use Rattle.shared_reqs.specs.Shared.{MarkedNeed, marked_of, needs_marked}
use Rattle.role_order.specs.Roles.{less_roles}
use Rattle.role_order.specs.Reach.{seniors_of}
use Rattle.role_order.specs.declared.range.Range.{Range}
use Rattle.arbac_policy.specs.Rules.{Rules}
use Rattle.arbac_policy.specs.Truth.{term_of}
use Rattle.arbac_laws.specs.Needs.{Need}
use Rattle.arbac_laws.specs.Conjuncts.{conjuncts}
use Rattle.arbac_laws.specs.PreImages.{Pick, itself, other, fresh, add_hit, change_at, with_admin, is_empty}
use Rattle.arbac_laws.specs.NormalForms.{bare_hits, is_impossible, normal_need, normal_form, pre_form, sort_by}
use Rattle.arbac_laws.specs.Orders.{need_before}
use Rattle.arbac_laws.specs.Obligations.{Obligation, and_then, flat, flat_places, if_wanted, picks, pre_image, roles_in}
use Rattle.arbac_laws.specs.Obligations.{assign_obligations, weak_obligations}
use Rattle.arbac_laws.specs.Recorded.{Entry, of_parent}
use Rattle.req_core.specs.Forms.{user_form}
use Rattle.req_pre.proofs.OwingLemmas.{flat_append, drop_next}
use Rattle.search_laws.specs.Candidates.{as_candidate, parent_candidates, batch}
use Rattle.search_rounds.specs.Keeping.{Gathered, Gathers}
use Rattle.search_rounds.specs.Making.{Way, gives, takes, ob_by, is_of_use, before_by, by_pick, by_picks, by_before, by_target, by_role}
use Rattle.search_rounds.specs.Making.{by_range, by_conjunct, by_assign, by_revoke, by_rules}
use Rattle.search_rounds.specs.Listing.{GoesOn}
use Rattle.search_rounds.proofs.KeepingLemmas.{gathers_none, gathers_more}

-- lists of lists

pub flat_none : {A B : Type 0} (f : A → List B) → ((x : A) → f x ≡ []) → (xs : List A) → flat f xs ≡ []
flat_none f none [] = refl
flat_none f none (x ∷ xs) = ap (λ l. l ++ flat f xs) (none x) ∙ flat_none f none xs

pub flat_map : {A B C : Type 0} (h : B → List C) (f : A → B) (g : A → List C) → ((x : A) → h (f x) ≡ g x) → (xs : List A)
    → flat h (map f xs) ≡ flat g xs
flat_map h f g same [] = refl
flat_map h f g same (x ∷ xs) = ap (λ l. l ++ flat h (map f xs)) (same x) ∙ ap (λ l. g x ++ l) (flat_map h f g same xs)

pub flat_flat : {A B C : Type 0} (h : B → List C) (f : A → List B) (g : A → List C) → ((x : A) → flat h (f x) ≡ g x) → (xs : List A)
    → flat h (flat f xs) ≡ flat g xs
flat_flat h f g same [] = refl
flat_flat h f g same (x ∷ xs) =
    flat_append h (f x) (flat f xs) ∙ ap (λ l. l ++ flat h (flat f xs)) (same x) ∙ ap (λ l. g x ++ l) (flat_flat h f g same xs)

pub flat_places_from : {A B C : Type 0} (h : B → List C) (f : ℕ → A → List B) (g : ℕ → A → List C) (at : ℕ) (xs : List A)
    → ((i : ℕ) (x : A) → slice_get xs i ≡ Some x → flat h (f (at + i) x) ≡ g (at + i) x)
    → flat h (flat_places f at xs) ≡ flat_places g at xs
flat_places_from h f g at [] same = refl
flat_places_from h f g at (x ∷ xs) same =
    let here : at + 0 ≡ at = omega arith in
    flat_append h (f at x) (flat_places f (at + 1) xs)
    ∙ ap (λ l. l ++ flat h (flat_places f (at + 1) xs)) (subst (λ k. flat h (f k x) ≡ g k x) here (same 0 x refl))
    ∙ ap (λ l. g at x ++ l) (flat_places_from h f g (at + 1) xs (λ i y e.
    let next : at + suc i ≡ (at + 1) + i = omega arith in subst (λ k. flat h (f k y) ≡ g k y) next (same (suc i) y e)))

-- from place 0 on
pub flat_each_place : {A B C : Type 0} (h : B → List C) (f : ℕ → A → List B) (g : ℕ → A → List C) (xs : List A)
    → ((i : ℕ) (x : A) → slice_get xs i ≡ Some x → flat h (f i x) ≡ g i x) → flat h (flat_places f 0 xs) ≡ flat_places g 0 xs
flat_each_place h f g xs same = flat_places_from h f g 0 xs (λ i x e.
    let here : i ≡ 0 + i = omega arith in subst (λ k. flat h (f k x) ≡ g k x) here (same i x e))

pub places_none : {A B : Type 0} (f : ℕ → A → List B) → ((i : ℕ) (x : A) → f i x ≡ []) → (at : ℕ) (xs : List A) → flat_places f at xs ≡ []
places_none f none at [] = refl
places_none f none at (x ∷ xs) = ap (λ l. l ++ flat_places f (at + 1) xs) (none at x) ∙ places_none f none (at + 1) xs

pub places_map : {A B C : Type 0} (f : ℕ → B → List C) (h : A → B) (at : ℕ) (xs : List A)
    → flat_places f at (map h xs) ≡ flat_places (λ i x. f i (h x)) at xs
places_map f h at [] = refl
places_map f h at (x ∷ xs) = ap (λ l. f at (h x) ++ l) (places_map f h (at + 1) xs)

-- the candidates of the obligations

-- of an act by each administrator
pub picks_listed : (rules : Rules) (parent : ℕ) (needs : List Need) (ob : Pick → Obligation) (hit : List ℕ) (target : ℕ) (before : Option Need)
    → ((pick : Pick) → pre_image rules needs (ob pick) ≡ and_then before (λ one. Some (with_admin pick target hit (slice_set needs target one))))
    → flat (λ o. as_candidate (of_parent parent o) (pre_form rules needs o)) (map ob (picks target (length needs)))
    ≡ by_before parent ob hit needs target before
picks_listed rules parent needs ob hit target None same =
    flat_map (λ o. as_candidate (of_parent parent o) (pre_form rules needs o)) ob (λ pick. [])
    (λ pick. ap (λ image. as_candidate (of_parent parent (ob pick)) (and_then image normal_form)) (same pick)) (picks target (length needs))
    ∙ flat_none (λ pick. []) (λ pick. refl) (picks target (length needs))
picks_listed rules parent needs ob hit target (Some before) same =
    flat_map (λ o. as_candidate (of_parent parent o) (pre_form rules needs o)) ob (by_pick parent ob hit needs target before)
    (λ pick. ap (λ image. as_candidate (of_parent parent (ob pick)) (and_then image normal_form)) (same pick)) (picks target (length needs))

-- of the acts of use to a user
pub target_listed : {B : Type 0} (h : Obligation → List B) (test : Bool) (place : ℕ) (obs : ℕ → List Obligation) (list : List B)
    → flat h (obs place) ≡ list → flat h (flat obs (if_wanted test place)) ≡ (if test then list else [])
target_listed h true place obs list same = ap (flat h) (append-nil (obs place)) ∙ same
target_listed h false place obs list same = refl

-- of the acts of one rule with one conjunct
pub range_listed : (rules : Rules) (parent : ℕ) (way : Way) (hit : List ℕ) (range : Range) (needs : List Need)
    → ((role target : ℕ) (pick : Pick) (need : Need) → slice_get needs target ≡ Some need → pre_image rules needs (ob_by way role target pick)
    ≡ and_then (before_by rules way role need) (λ one. Some (with_admin pick target hit (slice_set needs target one))))
    → flat (λ o. as_candidate (of_parent parent o) (pre_form rules needs o))
    (flat (λ role. flat (λ target. map (ob_by way role target) (picks target (length needs)))
    (flat_places (λ place need. if_wanted (is_of_use way role need) place) 0 needs)) (roles_in rules.order range))
    ≡ by_range rules parent way hit range needs
range_listed rules parent way hit range needs same =
    flat_flat as_entry (λ role. flat (acts role) (users role)) (by_role rules parent way hit needs)
    (λ role. ap (flat as_entry) (flat_each_place (acts role) (λ place need. if_wanted (is_of_use way role need) place)
    (λ place need. flat (acts role) (if_wanted (is_of_use way role need) place)) needs (λ i need at. refl))
    ∙ flat_each_place as_entry (λ place need. flat (acts role) (if_wanted (is_of_use way role need) place))
    (by_target rules parent way hit needs role) needs
    (λ target need at. target_listed as_entry (is_of_use way role need) target (acts role)
    (by_before parent (ob_by way role target) hit needs target (before_by rules way role need))
    (picks_listed rules parent needs (ob_by way role target) hit target (before_by rules way role need) (λ pick. same role target pick need at))))
    (roles_in rules.order range)
  where
    as_entry : Obligation → List Entry
    as_entry o = as_candidate (of_parent parent o) (pre_form rules needs o)

    acts : ℕ → ℕ → List Obligation
    acts role target = map (ob_by way role target) (picks target (length needs))

    users : ℕ → List ℕ
    users role = flat_places (λ place need. if_wanted (is_of_use way role need) place) 0 needs

pub assigns_listed : (rules : Rules) (parent : ℕ) (needs : List Need)
    → flat (λ o. as_candidate (of_parent parent o) (pre_form rules needs o)) (assign_obligations rules needs)
    ≡ flat_places (by_assign rules parent needs) 0 rules.assign
assigns_listed rules parent needs =
    flat_each_place (λ o. as_candidate (of_parent parent o) (pre_form rules needs o)) _ (by_assign rules parent needs) rules.assign (λ i rule at.
    flat_each_place (λ o. as_candidate (of_parent parent o) (pre_form rules needs o)) _ (by_conjunct rules parent needs i rule)
    (conjuncts rules.order (term_of rule.cond)) (λ j conjunct there.
    range_listed rules parent (gives i j conjunct) (seniors_of rules.order rule.admin) rule.range needs
    (λ role target pick need held. rw (at, there, held) refl)))

pub revokes_listed : (rules : Rules) (parent : ℕ) (needs : List Need)
    → flat (λ o. as_candidate (of_parent parent o) (pre_form rules needs o)) (weak_obligations rules needs)
    ≡ flat_places (by_revoke rules parent needs) 0 rules.revoke
revokes_listed rules parent needs =
    flat_each_place (λ o. as_candidate (of_parent parent o) (pre_form rules needs o)) _ (by_revoke rules parent needs) rules.revoke (λ i rule at.
    range_listed rules parent (takes i) (seniors_of rules.order rule.admin) rule.range needs
    (λ role target pick need held. rw (at, held) refl))

-- of all acts
pub parent_listed : (rules : Rules) (parent : ℕ) (entry : Entry) → by_rules rules parent entry.needs ≡ parent_candidates rules parent entry
parent_listed rules parent entry =
    sym (flat_append (λ o. as_candidate (of_parent parent o) (pre_form rules entry.needs o)) (assign_obligations rules entry.needs)
    (weak_obligations rules entry.needs)
    ∙ ap (λ l. l ++ flat (λ o. as_candidate (of_parent parent o) (pre_form rules entry.needs o)) (weak_obligations rules entry.needs))
    (assigns_listed rules parent entry.needs)
    ∙ ap (λ l. flat_places (by_assign rules parent entry.needs) 0 rules.assign ++ l) (revokes_listed rules parent entry.needs))

-- where the target's part has no normal form, no administrator makes it possible

pub or_keeps : (a b c : Bool) → (b ≡ true → c ≡ true) → (a || b) ≡ true → (a || c) ≡ true
or_keeps true b c h e = refl
or_keeps false b c h e = h e

pub or_more : (a b c : Bool) → (b || c) ≡ true → ((a || b) || c) ≡ true
or_more true b c h = refl
or_more false b c h = h

pub set_impossible : (needs : List Need) (target : ℕ) (raw : Need) → target < length needs → list_any is_empty (bare_hits raw) ≡ true
    → is_impossible (slice_set needs target raw) ≡ true
set_impossible [] target raw l e = absurd (omega (arith, l))
set_impossible (need ∷ needs) zero raw l e = ap (λ b. b || is_impossible needs) e
set_impossible (need ∷ needs) (suc target) raw l e =
    or_right (list_any is_empty (bare_hits need)) (is_impossible (slice_set needs target raw)) (set_impossible needs target raw (omega (arith, l)) e)

pub hit_impossible : (needs : List Need) (place : ℕ) (hit : List ℕ) → is_impossible needs ≡ true
    → is_impossible (change_at place (add_hit hit) needs) ≡ true
hit_impossible [] place hit e = e
hit_impossible (need ∷ needs) zero hit e =
    or_more (is_empty (less_roles hit need.lacks)) (list_any is_empty (bare_hits need)) (is_impossible needs) e
hit_impossible (need ∷ needs) (suc place) hit e =
    or_keeps (list_any is_empty (bare_hits need)) (is_impossible needs) (is_impossible (change_at place (add_hit hit) needs))
    (hit_impossible needs place hit) e

pub user_impossible : (needs : List Need) (one : Need) → is_impossible needs ≡ true → is_impossible (needs ++ one ∷ []) ≡ true
user_impossible [] one e = cc
user_impossible (need ∷ needs) one e =
    or_keeps (list_any is_empty (bare_hits need)) (is_impossible needs) (is_impossible (needs ++ one ∷ [])) (user_impossible needs one) e

pub admin_impossible : (pick : Pick) (target : ℕ) (hit : List ℕ) (needs : List Need) → is_impossible needs ≡ true
    → is_impossible (with_admin pick target hit needs) ≡ true
admin_impossible itself target hit needs e = hit_impossible needs target hit e
admin_impossible (other place) target hit needs e = hit_impossible needs place hit e
admin_impossible fresh target hit needs e = user_impossible needs (record { hits = hit ∷ []; lacks = [] }) e

pub none_where : {A : Type 0} (t : Bool) (x : A) → (if t then None else Some x) ≡ None → t ≡ true
none_where true x e = refl
none_where false x e = cc

pub impossible_form : (needs : List Need) → is_impossible needs ≡ true → normal_form needs ≡ None
impossible_form needs e = ap (λ (b : Bool). if b then None else Some (sort_by need_before (map normal_need needs))) e

pub no_picks : (parent : ℕ) (ob : Pick → Obligation) (hit : List ℕ) (needs : List Need) (target : ℕ) (before : Option Need) → target < length needs
    → and_then before user_form ≡ None → by_before parent ob hit needs target before ≡ []
no_picks parent ob hit needs target None l e = refl
no_picks parent ob hit needs target (Some raw) l e =
    let users = slice_set needs target raw in
    let none = set_impossible needs target raw l (none_where (list_any is_empty (bare_hits raw)) (normal_need raw) e) in
    flat_none (by_pick parent ob hit needs target raw)
    (λ pick. ap (as_candidate (of_parent parent (ob pick)))
    (impossible_form (with_admin pick target hit users) (admin_impossible pick target hit users none)))
    (picks target (length needs))

-- the item at a place of a list that is seen as another one
pub item_is : {A : Type 0} (xs ys : List A) (i : ℕ) (x : A) → ys ≡ xs → i < length ys → x ≡ get_or ys i x → slice_get xs i ≡ Some x
item_is xs ys i x same l is = ap (λ list. slice_get list i) (sym same) ∙ get_at ys i x l ∙ ap Some (sym is)

pub item_same : {A : Type 0} (xs ys : List A) (i : ℕ) (x y d : A) → ys ≡ xs → slice_get xs i ≡ Some x → y ≡ get_or ys i d → y ≡ x
item_same xs ys i x y d same at is =
    let there = get_within xs i x at in
    is ∙ ap (λ l. get_or l i d) same ∙ get_any xs i d x there.0 ∙ sym there.1

-- the acts on one user

pub user_is : (users : List (Arc MarkedNeed Global)) (req : List MarkedNeed) (target : ℕ) (one : Arc MarkedNeed Global) (marked : MarkedNeed)
    (user need : Need) → marked_of users ≡ req → target < length req → one ≡ get_or users target one → marked ≡ one.value → user ≡ marked.need
    → slice_get (needs_marked req) target ≡ Some need → user ≡ need
user_is users req target one marked user need same l is within its at =
    let below : target < length users = subst (λ n. target < n) (ap length (sym same) ∙ length-map users (λ (u : Arc MarkedNeed Global). u.value)) l in
    let there : slice_get users target ≡ Some one = item_is users users target one refl below is in
    its
    ∙ ap (λ (u : MarkedNeed). u.need) within
    ∙ same_some one.value.need need
    (sym (get_map (λ (u : MarkedNeed). u.need) (marked_of users) target one.value
    (get_map (λ (u : Arc MarkedNeed Global). u.value) users target one there))
    ∙ ap (λ list. slice_get (needs_marked list) target) same ∙ at)

pub user_count : (users : List (Arc MarkedNeed Global)) (req : List MarkedNeed) (count : ℕ) → marked_of users ≡ req → count ≡ length users
    → count ≡ length (needs_marked req)
user_count users req count same is =
    is ∙ sym (length-map users (λ (u : Arc MarkedNeed Global). u.value)) ∙ ap length same
    ∙ sym (length-map req (λ (u : MarkedNeed). u.need))

pub target_idle : (rules : Rules) (parent : ℕ) (way : Way) (hit : List ℕ) (needs : List Need) (role target : ℕ) (user need : Need) (used : Bool)
    → user ≡ need → used ≡ is_of_use way role user → used ≡ false → by_target rules parent way hit needs role target need ≡ []
target_idle rules parent way hit needs role target user need used same of_use idle =
    ap (λ b. if b then by_before parent (ob_by way role target) hit needs target (before_by rules way role need) else [])
    (ap (is_of_use way role) (sym same) ∙ sym of_use ∙ idle)

pub target_used : (rules : Rules) (parent : ℕ) (way : Way) (hit : List ℕ) (needs : List Need) (role target : ℕ) (user need : Need) (used : Bool)
    → user ≡ need → used ≡ is_of_use way role user → used ≡ true
    → by_target rules parent way hit needs role target need ≡ by_before parent (ob_by way role target) hit needs target (before_by rules way role user)
target_used rules parent way hit needs role target user need used same of_use yes' =
    ap (λ b. if b then by_before parent (ob_by way role target) hit needs target (before_by rules way role need) else [])
    (ap (is_of_use way role) (sym same) ∙ sym of_use ∙ yes')
    ∙ ap (λ u. by_before parent (ob_by way role target) hit needs target (before_by rules way role u)) (sym same)

-- by what the target must meet before
pub before_gathered : (old new : Gathered) (parent : ℕ) (ob : Pick → Obligation) (hit : List ℕ) (needs : List Need) (target : ℕ)
    (before : Option Need) (form : Need) → Some form ≡ and_then before user_form
    → ((raw : Need) → user_form raw ≡ Some form → Gathers old new (by_picks parent ob hit needs target raw))
    → Gathers old new (by_before parent ob hit needs target before)
before_gathered old new parent ob hit needs target None form e each = cc
before_gathered old new parent ob hit needs target (Some raw) form e each = each raw (sym e)

-- steps through a list

pub starts : (g : Gathered) (whole : List Entry) → GoesOn g g whole whole
starts g whole = record { done = []; gathers = gathers_none g; parts = refl }

pub goes_on : (old now next : Gathered) (rest part left whole : List Entry) → rest ≡ part ++ left → GoesOn old now rest whole → Gathers now next part
    → GoesOn old next left whole
goes_on old now next rest part left whole parts on more = record {
  done = on.done ++ part;
  gathers = gathers_more old now next on.done part on.gathers more;
  parts = append_assoc on.done part left ∙ ap (λ l. on.done ++ l) (sym parts) ∙ on.parts;
}

pub ends : (old now : Gathered) (left whole : List Entry) → left ≡ [] → GoesOn old now left whole → Gathers old now whole
ends old now left whole none on =
    let all : on.done ≡ whole = sym (append-nil on.done) ∙ sym (ap (λ l. on.done ++ l) none) ∙ on.parts in
    subst (Gathers old now) all on.gathers

-- what is left of nested lists

pub places_next : {A B : Type 0} (f : ℕ → A → List B) (xs : List A) (i : ℕ) (x : A) → slice_get xs i ≡ Some x
    → flat_places f i (drop i xs) ≡ f i x ++ flat_places f (i + 1) (drop (i + 1) xs)
places_next f xs i x h = ap (flat_places f i) (drop_next xs i x h)

pub places_end : {A B : Type 0} (f : ℕ → A → List B) (xs : List A) (i : ℕ) → length xs ≤ i → flat_places f i (drop i xs) ≡ []
places_end f xs i h = ap (flat_places f i) (drop_all i xs h)

-- steps through a list, by place

pub place_passed : {A : Type 0} (f : ℕ → A → List Entry) (xs : List A) (i : ℕ) (x : A) (old now next : Gathered) (whole : List Entry)
    → slice_get xs i ≡ Some x → GoesOn old now (flat_places f i (drop i xs)) whole → Gathers now next (f i x)
    → GoesOn old next (flat_places f (i + 1) (drop (i + 1) xs)) whole
place_passed f xs i x old now next whole at on more =
    goes_on old now next (flat_places f i (drop i xs)) (f i x) (flat_places f (i + 1) (drop (i + 1) xs)) whole (places_next f xs i x at) on more

pub places_passed : {A : Type 0} (f : ℕ → A → List Entry) (xs : List A) (i : ℕ) (old now : Gathered) (whole : List Entry)
    → length xs ≤ i → GoesOn old now (flat_places f i (drop i xs)) whole → Gathers old now whole
places_passed f xs i old now whole past on = ends old now (flat_places f i (drop i xs)) whole (places_end f xs i past) on

-- a part of a list

-- a round takes so many, or all that are left
pub batch_taken : {A : Type 0} (xs : List A) (taken end : ℕ) → end ≡ min (length xs) (taken + batch)
    → take (end - taken) (drop taken xs) ≡ take batch (drop taken xs)
batch_taken xs taken end e =
    let left = drop taken xs in
    let long = length-drop taken xs in
    let count : end - taken ≡ min batch (length left) = omega (arith, long, e) in
    ap (λ n. take n left) count ∙ take_min batch left

pub part_next : {A B : Type 0} (f : ℕ → A → List B) (xs : List A) (i n : ℕ) (x : A) → i < n → slice_get xs i ≡ Some x
    → flat_places f i (take (n - i) (drop i xs)) ≡ f i x ++ flat_places f (i + 1) (take (n - (i + 1)) (drop (i + 1) xs))
part_next f xs i n x l at =
    let more : n - i ≡ suc (n - (i + 1)) = omega (arith, l) in
    ap (λ k. flat_places f i (take k (drop i xs))) more
    ∙ ap (λ ys. flat_places f i (take (suc (n - (i + 1))) ys)) (drop_next xs i x at)

pub part_end : {A B : Type 0} (f : ℕ → A → List B) (xs : List A) (i n : ℕ) → n ≤ i → flat_places f i (take (n - i) (drop i xs)) ≡ []
part_end f xs i n l = let none : n - i ≡ 0 = omega (arith, l) in ap (λ k. flat_places f i (take k (drop i xs))) none
