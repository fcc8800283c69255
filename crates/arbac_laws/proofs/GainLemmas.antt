-- Which conditions may hold, without their conjuncts, and what the rules give by that.
use Rattle.std.proofs.Common.{ℕ, ◌≡◌, true, false, ◌||◌, List, [], ◌∷◌, eqb, subst, sym, refl, inl, inr}
use Rattle.std.specs.Prelude.{◌⊎◌, ◌↔◌}
use Rattle.std.proofs.lemmas.Bool.{eqb-true, eq-eqb}
use Rattle.list_words.specs.Lists.{IsOneOf, Some_of}
use Rattle.list_words.proofs.TestLemmas.{or_cases, or_right, and_both, both_true}
use Rattle.list_words.proofs.EachLemmas.{each_append, each_left, each_right, some_cases, some_item, some_left, some_one_at, some_right}
use Rattle.role_order.specs.Graph.{Graph}
use Rattle.role_order.specs.Ranges.{IsInRange}
use Rattle.role_order.specs.Reach.{seniors_of}
use Rattle.role_order.specs.Roles.{has_role, have_common, HaveCommon, IsIn}
use Rattle.arbac_policy.specs.Rules.{Rules}
use Rattle.arbac_policy.specs.Truth.{Term, term_of, any, has, lacks, both, either}
use Rattle.arbac_policy.specs.declared.profile.Profile.{Profile}
use Rattle.arbac_policy.specs.declared.rule.CanAssign.{CanAssign}
use Rattle.arbac_laws.specs.Barriers.{HasGains, HasGivenRoles, may_give, may_hold}
use Rattle.arbac_laws.specs.Conjuncts.{conjuncts, join_all, join_with}
use Rattle.arbac_laws.specs.Needs.{HasHits, Need}

-- the test for a common role finds one
pub common_is : (xs ys : List ℕ) → have_common xs ys ≡ true → HaveCommon xs ys
common_is [] ys e = cc
common_is (x ∷ xs) ys e = by_case (or_cases (has_role ys x) (have_common xs ys) e) (common_is xs ys)
  where
    by_case : IsIn ys x ⊎ (have_common xs ys ≡ true) → (have_common xs ys ≡ true → HaveCommon xs ys) → HaveCommon (x ∷ xs) ys
    by_case (inl k) rest = (x, rw (eq-eqb x x refl) refl, k)
    by_case (inr k) rest = let r = rest k in (r.0, or_right (eqb x r.0) (has_role xs r.0) r.1, r.2)

-- and a common role passes it
pub is_common : (xs ys : List ℕ) → HaveCommon xs ys → have_common xs ys ≡ true
is_common [] ys c = let no' : false ≡ true = c.1 in cc
is_common (x ∷ xs) ys c = by_case (or_cases (eqb x c.0) (has_role xs c.0) c.1) (λ i. is_common xs ys (c.0, i, c.2))
  where
    by_case : (eqb x c.0 ≡ true) ⊎ IsIn xs c.0 → (IsIn xs c.0 → have_common xs ys ≡ true) → have_common (x ∷ xs) ys ≡ true
    by_case (inl e) rest = let here : IsIn ys x = subst (λ r. IsIn ys r) (sym (eqb-true x c.0 e)) c.2 in rw here refl
    by_case (inr i) rest = or_right (has_role ys x) (have_common xs ys) (rest i)

-- the set has a role of each hit of one of these
abbrev pub SomeHit : List ℕ → List Need → Type 0
SomeHit set needs = Some_of (λ need. HasHits set need.hits) needs

with_hit : (set : List ℕ) (a : Need) (bs : List Need) → HasHits set a.hits → SomeHit set bs → SomeHit set (join_with a bs)
with_hit set a [] h k = k
with_hit set a (b ∷ bs) h (inl k) = inl (each_append (λ hit. HaveCommon hit set) a.hits b.hits h k)
with_hit set a (b ∷ bs) h (inr k) = inr (with_hit set a bs h k)

hit_parts : (set : List ℕ) (a : Need) (bs : List Need) → SomeHit set (join_with a bs) → HasHits set a.hits × SomeHit set bs
hit_parts set a [] h = absurd h
hit_parts set a (b ∷ bs) (inl h) = (each_left (λ hit. HaveCommon hit set) a.hits b.hits h, inl (each_right (λ hit. HaveCommon hit set) a.hits b.hits h))
hit_parts set a (b ∷ bs) (inr h) = let r = hit_parts set a bs h in (r.0, inr r.1)

all_hit : (set : List ℕ) (xs bs : List Need) → SomeHit set xs → SomeHit set bs → SomeHit set (join_all xs bs)
all_hit set [] bs h k = absurd h
all_hit set (a ∷ xs) bs (inl h) k = some_left (λ need. HasHits set need.hits) (join_with a bs) (join_all xs bs) (with_hit set a bs h k)
all_hit set (a ∷ xs) bs (inr h) k = some_right (λ need. HasHits set need.hits) (join_with a bs) (join_all xs bs) (all_hit set xs bs h k)

all_hit_parts : (set : List ℕ) (xs bs : List Need) → SomeHit set (join_all xs bs) → SomeHit set xs × SomeHit set bs
all_hit_parts set [] bs h = absurd h
all_hit_parts set (a ∷ xs) bs h = by_side (some_cases (λ need. HasHits set need.hits) (join_with a bs) (join_all xs bs) h) (all_hit_parts set xs bs)
  where
    by_side : SomeHit set (join_with a bs) ⊎ SomeHit set (join_all xs bs) → (SomeHit set (join_all xs bs) → SomeHit set xs × SomeHit set bs)
        → SomeHit set (a ∷ xs) × SomeHit set bs
    by_side (inl k) rest = let r = hit_parts set a bs k in (inl r.0, r.1)
    by_side (inr k) rest = let r = rest k in (inr r.0, r.1)

-- where a condition may hold, the hits of one of its conjuncts are there
pub held_hit : (order : Graph) (set : List ℕ) (cond : Term) → may_hold order set cond ≡ true → SomeHit set (conjuncts order cond)
held_hit order set any h = inl tt
held_hit order set (has role) h = inl (common_is (seniors_of order role) set h, tt)
held_hit order set (lacks role) h = inl tt
held_hit order set (both left right) h =
    let b = and_both (may_hold order set left) (may_hold order set right) h in
    all_hit set (conjuncts order left) (conjuncts order right) (held_hit order set left b.0) (held_hit order set right b.1)
held_hit order set (either left right) h =
    by_side (or_cases (may_hold order set left) (may_hold order set right) h) (held_hit order set left) (held_hit order set right)
  where
    by_side : (may_hold order set left ≡ true) ⊎ (may_hold order set right ≡ true)
        → (may_hold order set left ≡ true → SomeHit set (conjuncts order left))
        → (may_hold order set right ≡ true → SomeHit set (conjuncts order right)) → SomeHit set (conjuncts order (either left right))
    by_side (inl k) f g = some_left (λ need. HasHits set need.hits) (conjuncts order left) (conjuncts order right) (f k)
    by_side (inr k) f g = some_right (λ need. HasHits set need.hits) (conjuncts order left) (conjuncts order right) (g k)

-- and where they are there, it may hold
pub hit_held : (order : Graph) (set : List ℕ) (cond : Term) → SomeHit set (conjuncts order cond) → may_hold order set cond ≡ true
hit_held order set any h = refl
hit_held order set (has role) (inl h) = is_common (seniors_of order role) set h.0
hit_held order set (has role) (inr h) = absurd h
hit_held order set (lacks role) h = refl
hit_held order set (both left right) h =
    let r = all_hit_parts set (conjuncts order left) (conjuncts order right) h in
    both_true (may_hold order set left) (may_hold order set right) (hit_held order set left r.0) (hit_held order set right r.1)
hit_held order set (either left right) h =
    by_side (some_cases (λ need. HasHits set need.hits) (conjuncts order left) (conjuncts order right) h) (hit_held order set left) (hit_held order set right)
  where
    by_side : SomeHit set (conjuncts order left) ⊎ SomeHit set (conjuncts order right)
        → (SomeHit set (conjuncts order left) → may_hold order set left ≡ true)
        → (SomeHit set (conjuncts order right) → may_hold order set right ≡ true) → (may_hold order set left || may_hold order set right) ≡ true
    by_side (inl k) f g = rw (f k) refl
    by_side (inr k) f g = or_right (may_hold order set left) (may_hold order set right) (g k)

pub holds : (order : Graph) (set : List ℕ) (cond : Term) → (may_hold order set cond ≡ true) ↔ SomeHit set (conjuncts order cond)
holds order set cond = (held_hit order set cond, hit_held order set cond)

-- what the rules give by conjuncts is what they give by conditions that may hold
pub gains_given : (rules : Rules) (profiles : List Profile) (set : List ℕ) → HasGains rules profiles set → HasGivenRoles rules profiles set
gains_given rules profiles set gains = record { drawn = gains.drawn; given = given }
  where
    given : (rule : CanAssign) → IsOneOf rules.assign rule → may_give rules.order set rule ≡ true → (role : ℕ)
        → IsInRange rules.order rule.range role
        → IsIn set role
    given rule is gives role range =
        let b = and_both (have_common (seniors_of rules.order rule.admin) set) (may_hold rules.order set (term_of rule.cond)) gives in
        let one = some_item (λ need. HasHits set need.hits) (conjuncts rules.order (term_of rule.cond)) (held_hit rules.order set (term_of rule.cond) b.1) in
        gains.given rule is (common_is (seniors_of rules.order rule.admin) set b.0) one.0 one.1 one.2 role range

pub given_gains : (rules : Rules) (profiles : List Profile) (set : List ℕ) → HasGivenRoles rules profiles set → HasGains rules profiles set
given_gains rules profiles set all = record { drawn = all.drawn; given = given }
  where
    given : (rule : CanAssign) → IsOneOf rules.assign rule → HaveCommon (seniors_of rules.order rule.admin) set → (conjunct : Need)
        → IsOneOf (conjuncts rules.order (term_of rule.cond)) conjunct → HasHits set conjunct.hits → (role : ℕ)
        → IsInRange rules.order rule.range role
        → IsIn set role
    given rule is common conjunct at held role range = all.given rule is
        (both_true (have_common (seniors_of rules.order rule.admin) set) (may_hold rules.order set (term_of rule.cond))
        (is_common (seniors_of rules.order rule.admin) set common)
        (hit_held rules.order set (term_of rule.cond)
        (some_one_at (λ need. HasHits set need.hits) (conjuncts rules.order (term_of rule.cond)) conjunct at held)))
        role range

pub same_gains : (rules : Rules) (profiles : List Profile) (set : List ℕ) → HasGains rules profiles set ↔ HasGivenRoles rules profiles set
same_gains rules profiles set = (gains_given rules profiles set, given_gains rules profiles set)
