-- What the candidates of a round are, and that they are in normal form.
use Rattle.std.proofs.Common.{ℕ, ◌≡◌, ◌<◌, ◌≤◌, ◌+◌, ◌-◌, List, [], ◌∷◌, None, Some, Option, take, drop, refl, arith, zero}
use Rattle.std.proofs.Common.{suc, sym, ◌∙◌, ap, subst}
use Rattle.std.specs.Prelude.{slice_get}
use Rattle.list_words.specs.Lists.{Each, IsOneOf}
use Rattle.list_words.proofs.GetLemmas.{get_take, get_taken}
use Rattle.list_words.proofs.EachLemmas.{each_append, each_at, each_left, each_right}
use Rattle.arbac_policy.specs.Truth.{Term}
use Rattle.arbac_policy.specs.Rules.{Rules}
use Rattle.arbac_laws.specs.Goals.{goal_requirements}
use Rattle.arbac_laws.specs.Needs.{IsPossible, Need}
use Rattle.arbac_laws.specs.NormalForms.{AreSets, IsNormal, normal_form, pre_form}
use Rattle.arbac_laws.specs.Obligations.{Obligation, and_then, flat, flat_places, obligations, pre_image}
use Rattle.arbac_laws.specs.Recorded.{Entry, IsOrigin, Origin, of_goal, of_parent}
use Rattle.arbac_laws.proofs.ConjunctLemmas.{AreSeniors}
use Rattle.arbac_laws.proofs.NormalLemmas.{form_is_normal, none_impossible}
use Rattle.arbac_laws.proofs.ObligationLemmas.{and_then_some}
use Rattle.arbac_laws.proofs.RecordedLemmas.{normal_sets}
use Rattle.arbac_laws.proofs.SetsLemmas.{goal_sets, sets_kept}
use Rattle.search_laws.specs.Candidates.{as_candidate, batch, goal_candidates, next_candidates, parent_candidates}
use Rattle.search_laws.proofs.BeatLemmas.{AreNormal}

-- each item of the lists that functions make of items, one after another

-- of each item all that is made of it
pub each_flat : {A B : Type 0} (P : B → Type 0) (f : A → List B) (xs : List A) → ((i : ℕ) (x : A) → slice_get xs i ≡ Some x → Each P (f x))
    → Each P (flat f xs)
each_flat P f [] h = tt
each_flat P f (x ∷ xs) h = each_append P (f x) (flat f xs) (h 0 x refl) (each_flat P f xs (λ i y at. h (suc i) y at))

-- all that is made of each item
pub flat_each : {A B : Type 0} (P : B → Type 0) (f : A → List B) (xs : List A) → Each P (flat f xs) → (i : ℕ) (x : A) → slice_get xs i ≡ Some x
    → Each P (f x)
flat_each P f [] all i x at = cc
flat_each P f (y ∷ ys) all zero x at = let same : y ≡ x = cc in subst (λ v. Each P (f v)) same (each_left P (f y) (flat f ys) all)
flat_each P f (y ∷ ys) all (suc i) x at = flat_each P f ys (each_right P (f y) (flat f ys) all) i x at

-- the same, with places
pub each_places : {A B : Type 0} (P : B → Type 0) (f : ℕ → A → List B) (n : ℕ) (xs : List A)
    → ((i : ℕ) (x : A) → slice_get xs i ≡ Some x → Each P (f (n + i) x))
    → Each P (flat_places f n xs)
each_places P f n [] h = tt
each_places P f n (x ∷ xs) h =
    let here : n + 0 ≡ n = omega arith in
    each_append P (f n x) (flat_places f (n + 1) xs) (subst (λ k. Each P (f k x)) here (h 0 x refl))
    (each_places P f (n + 1) xs (λ i y at. let next : n + suc i ≡ (n + 1) + i = omega arith in subst (λ k. Each P (f k y)) next (h (suc i) y at)))

-- the same, with places
pub places_each : {A B : Type 0} (P : B → Type 0) (f : ℕ → A → List B) (n : ℕ) (xs : List A) → Each P (flat_places f n xs)
    → (i : ℕ) (x : A) → slice_get xs i ≡ Some x → Each P (f (n + i) x)
places_each P f n [] all i x at = cc
places_each P f n (y ∷ ys) all zero x at =
    let here : n ≡ n + 0 = omega arith in let same : y ≡ x = cc in
    subst (λ k. Each P (f k x)) here (subst (λ v. Each P (f n v)) same (each_left P (f n y) (flat_places f (n + 1) ys) all))
places_each P f n (y ∷ ys) all (suc i) x at =
    let next : (n + 1) + i ≡ n + suc i = omega arith in
    subst (λ k. Each P (f k x)) next (places_each P f (n + 1) ys (each_right P (f n y) (flat_places f (n + 1) ys) all) i x at)

-- the requirement with its origin
abbrev pub entry_of : Origin → List Need → Entry
entry_of origin needs = record { origin = origin; needs = needs }

-- of a candidate, where there is a form
pub each_candidate : (P : Entry → Type 0) (origin : Origin) (o : Option (List Need)) → ((form : List Need) → o ≡ Some form → P (entry_of origin form))
    → Each P (as_candidate origin o)
each_candidate P origin None h = tt
each_candidate P origin (Some form) h = (h form refl, tt)

-- where there is a form, it is a candidate
pub candidate_each : (P : Entry → Type 0) (origin : Origin) (o : Option (List Need)) (form : List Need) → o ≡ Some form → Each P (as_candidate origin o)
    → P (entry_of origin form)
candidate_each P origin None form e all = cc
candidate_each P origin (Some needs) form e all = let same : needs ≡ form = cc in subst (λ v. P (entry_of origin v)) same all.0

-- candidates of the first round

-- of each candidate of the goal, by number and form
pub each_goal : (P : Entry → Type 0) (rules : Rules) (goal : List Term)
    → ((number : ℕ) (needs form : List Need) → slice_get (goal_requirements rules.order goal) number ≡ Some needs → normal_form needs ≡ Some form
    → P (entry_of (of_goal number) form))
    → Each P (goal_candidates rules goal)
each_goal P rules goal h =
    each_places P (λ number needs. as_candidate (of_goal number) (normal_form needs)) 0 (goal_requirements rules.order goal)
    (λ i needs at. let here : i ≡ 0 + i = omega arith in
    subst (λ k. Each P (as_candidate (of_goal k) (normal_form needs))) here
    (each_candidate P (of_goal i) (normal_form needs) (λ form e. h i needs form at e)))

-- each possible goal requirement has its candidate
pub goal_each : (P : Entry → Type 0) (rules : Rules) (goal : List Term) → Each P (goal_candidates rules goal)
    → (number : ℕ) (needs form : List Need) → slice_get (goal_requirements rules.order goal) number ≡ Some needs → normal_form needs ≡ Some form
    → P (entry_of (of_goal number) form)
goal_each P rules goal all number needs form at e =
    let here : 0 + number ≡ number = omega arith in
    candidate_each P (of_goal number) (normal_form needs) form e (subst (λ k. Each P (as_candidate (of_goal k) (normal_form needs))) here
    (places_each P (λ number needs. as_candidate (of_goal number) (normal_form needs)) 0 (goal_requirements rules.order goal) all number needs at))

-- candidates of a parent

-- of each candidate of a parent, by obligation and form
pub each_child : (P : Entry → Type 0) (rules : Rules) (number : ℕ) (parent : Entry)
    → ((ob : Obligation) (before form : List Need) → IsOneOf (obligations rules parent.needs) ob → pre_image rules parent.needs ob ≡ Some before
    → normal_form before ≡ Some form → P (entry_of (of_parent number ob) form))
    → Each P (parent_candidates rules number parent)
each_child P rules number parent h =
    each_flat P (λ ob. as_candidate (of_parent number ob) (pre_form rules parent.needs ob)) (obligations rules parent.needs) (λ i ob at.
    each_candidate P (of_parent number ob) (pre_form rules parent.needs ob) (λ form e.
    let parts = and_then_some (pre_image rules parent.needs ob) normal_form form e in h ob parts.0 form (i, at) parts.1 parts.2))

-- each possible pre-image of a parent has its candidate
pub child_each : (P : Entry → Type 0) (rules : Rules) (number : ℕ) (parent : Entry) → Each P (parent_candidates rules number parent)
    → (ob : Obligation) (before form : List Need) → IsOneOf (obligations rules parent.needs) ob → pre_image rules parent.needs ob ≡ Some before
    → normal_form before ≡ Some form
    → P (entry_of (of_parent number ob) form)
child_each P rules number parent all ob before form is e f =
    candidate_each P (of_parent number ob) (pre_form rules parent.needs ob) form (ap (λ o. and_then o normal_form) e ∙ f)
    (flat_each P (λ ob. as_candidate (of_parent number ob) (pre_form rules parent.needs ob)) (obligations rules parent.needs) all is.0 ob is.1)

-- candidates of a later round

-- what stands behind the items that are dropped
pub get_drop : {A : Type 0} (xs : List A) (n k : ℕ) → slice_get (drop n xs) k ≡ slice_get xs (n + k)
get_drop xs zero k = let same : k ≡ 0 + k = omega arith in ap (slice_get xs) same
get_drop [] (suc n) k = refl
get_drop (x ∷ xs) (suc n) k = let next : suc n + k ≡ suc (n + k) = omega arith in get_drop xs n k ∙ ap (slice_get (x ∷ xs)) (sym next)

-- of each candidate of a later round, by parent
pub each_next : (P : Entry → Type 0) (rules : Rules) (recorded : List Entry) (taken : ℕ)
    → ((number : ℕ) (parent : Entry) → slice_get recorded number ≡ Some parent → Each P (parent_candidates rules number parent))
    → Each P (next_candidates rules recorded taken)
each_next P rules recorded taken h =
    each_places P (parent_candidates rules) taken (take batch (drop taken recorded)) (λ i parent at.
    h (taken + i) parent (sym (get_drop recorded taken i) ∙ (get_taken (drop taken recorded) batch i parent at).1))

-- each parent that the round takes has its candidates
pub next_each : (P : Entry → Type 0) (rules : Rules) (recorded : List Entry) (taken : ℕ) → Each P (next_candidates rules recorded taken)
    → (number : ℕ) (parent : Entry) → taken ≤ number → number < taken + batch → slice_get recorded number ≡ Some parent
    → Each P (parent_candidates rules number parent)
next_each P rules recorded taken all number parent low high at =
    let there : taken + (number - taken) ≡ number = omega (arith, low) in let few : number - taken < batch = omega (arith, low, high) in
    subst (λ k. Each P (parent_candidates rules k parent)) there
    (places_each P (parent_candidates rules) taken (take batch (drop taken recorded)) all (number - taken) parent
    (get_take (drop taken recorded) batch (number - taken) few ∙ get_drop recorded taken (number - taken) ∙ ap (slice_get recorded) there ∙ at))

-- the entry is the normal form of what its origin among these entries names
abbrev pub IsDerived : Rules → List Term → List Entry → Entry → Type 0
IsDerived rules goal earlier entry = (needs : List Need) × IsOrigin rules goal earlier entry.origin needs × (normal_form needs ≡ Some entry.needs)

-- candidates of the goal are derived, whatever was recorded
pub goal_derived : (rules : Rules) (goal : List Term) (earlier : List Entry) → Each (IsDerived rules goal earlier) (goal_candidates rules goal)
goal_derived rules goal earlier = each_goal (IsDerived rules goal earlier) rules goal (λ number needs form at e. (needs, at, e))

-- candidates of a later round are derived from what was recorded
pub next_derived : (rules : Rules) (goal : List Term) (recorded : List Entry) (taken : ℕ)
    → Each (IsDerived rules goal recorded) (next_candidates rules recorded taken)
next_derived rules goal recorded taken =
    each_next (IsDerived rules goal recorded) rules recorded taken (λ number parent at.
    each_child (IsDerived rules goal recorded) rules number parent (λ ob before form is e f. (before, (parent, at, is, e), f)))

-- candidates of the goal are in normal form
pub goals_normal : (rules : Rules) (goal : List Term) → AreNormal (goal_candidates rules goal)
goals_normal rules goal =
    each_goal (λ (entry : Entry). IsNormal entry.needs) rules goal (λ number needs form at e.
    form_is_normal needs form (each_at (Each AreSets) (goal_requirements rules.order goal) number needs (goal_sets rules.order goal) at) e)

-- candidates of a later round are in normal form, where their parents are
pub next_normal : (rules : Rules) → AreSeniors rules.order → (recorded : List Entry) (taken : ℕ) → AreNormal recorded
    → AreNormal (next_candidates rules recorded taken)
next_normal rules same recorded taken normal =
    each_next (λ (entry : Entry). IsNormal entry.needs) rules recorded taken (λ number parent at.
    each_child (λ (entry : Entry). IsNormal entry.needs) rules number parent (λ ob before form is e f.
    let sets = normal_sets parent.needs (each_at (λ (entry : Entry). IsNormal entry.needs) recorded number parent normal at).each in
    form_is_normal before form (sets_kept rules same parent.needs sets ob is before e) f))

-- what is possible has a normal form
pub has_form : (needs : List Need) → IsPossible needs → (form : List Need) × (normal_form needs ≡ Some form)
has_form needs possible = by_option (normal_form needs) refl
  where
    by_option : (o : Option (List Need)) → normal_form needs ≡ o → (form : List Need) × (normal_form needs ≡ Some form)
    by_option None e = absurd ((none_impossible needs).0 e possible)
    by_option (Some form) e = (form, e)
