-- Rules and their lists of conjuncts, place by place.
use Rattle.std.proofs.Common.{ℕ, zero, suc, ◌≡◌, ◌<◌, ◌≤◌, ◌+◌, ◌∙◌, true, List, [], ◌∷◌, ◌++◌, length, map, take}
use Rattle.std.proofs.Common.{get_or, Some, Vec, Global, sym, ap, arith}
use Rattle.std.specs.Prelude.{nat_lt, slice_get}
use Rattle.std.proofs.lemmas.Bool.Decides.{nat_tests}
use Rattle.list_words.proofs.GetLemmas.{get_at, take_one_more}
use Rattle.std.proofs.lemmas.List.{map_push}
use Rattle.role_order.proofs.ClosureLemmas.{get_mapped}
use Rattle.arbac_policy.specs.declared.rule.CanAssign.{CanAssign}
use Rattle.arbac_policy.specs.Rules.{Rules}
use Rattle.arbac_policy.specs.Truth.{term_of}
use Rattle.list_words.specs.Lists.{IsFirst}
use Rattle.arbac_laws.specs.Needs.{Need}
use Rattle.arbac_policy.specs.declared.conjunct.Conjunct.{Conjunct}
use Rattle.arbac_rules.specs.declared.TheConstants.{MOST_CONJUNCTS}
use Rattle.arbac_rules.specs.declared.listing.WideError.TheVariants.{TooWide}
use Rattle.arbac_laws.specs.Views.{needs_of}
use Rattle.arbac_rules.specs.Widths.{IsTooWide as IsTooWideList}
use Rattle.arbac_rules.specs.Widths.{width}
use Rattle.arbac_rules.proofs.WidthLemmas.{width_law}
use Rattle.req_pre.specs.Preparing.{conjuncts_of, IsWide}
use Rattle.req_pre.specs.Views.{lists_of}

pub at_mapped : {A B : Type 0} (f : A → B) (xs : List A) (k : ℕ) (x : A) → slice_get xs k ≡ Some x → slice_get (map f xs) k ≡ Some (f x)
at_mapped f [] k x e = cc
at_mapped f (y ∷ xs) zero x e = let same : y ≡ x = cc in ap (λ (z : _). Some (f z)) same
at_mapped f (y ∷ xs) (suc k) x e = at_mapped f xs k x e

-- the list at a place has the conjuncts of the rule there
pub list_there : (rules : Rules) (lists : List (Vec Conjunct Global)) (place : ℕ) (list : Vec Conjunct Global)
    → lists_of lists ≡ map (conjuncts_of rules) rules.assign → slice_get lists place ≡ Some list
    → (rule : CanAssign) × (slice_get rules.assign place ≡ Some rule) × (needs_of list.items ≡ conjuncts_of rules rule)
list_there rules lists place list kept at =
    let seen : slice_get (map (conjuncts_of rules) rules.assign) place ≡ Some (needs_of list.items) =
    ap (λ (ls : List (List Need)). slice_get ls place) (sym kept) ∙ at_mapped (λ (l : Vec Conjunct Global). needs_of l.items) lists place list at in
    get_mapped (conjuncts_of rules) rules.assign place (needs_of list.items) seen

-- what a slice's item at a place is, from its two tests
pub looked_up : {A : Type 0} (xs : List A) (k : ℕ) (x d : A) → true ≡ nat_lt k (length xs) → x ≡ get_or xs k d → slice_get xs k ≡ Some x
looked_up xs k x d test is =
    let within : k < length xs = grind (arith, nat_tests) in
    get_at xs k d within ∙ ap (λ (z : _). Some z) (sym is)

-- one item more of a list that is mapped as another one is
pub mapped_more : {A B C : Type 0} (view : A → C) (f : B → C) (xs new : List A) (ys : List B) (i : ℕ) (x : A) (y : B)
    → map view xs ≡ map f (take i ys) → slice_get ys i ≡ Some y → new ≡ xs ++ x ∷ [] → view x ≡ f y
    → map view new ≡ map f (take (i + 1) ys)
mapped_more view f xs new ys i x y before at grown same =
    ap (map view) grown
    ∙ map_push view xs x
    ∙ ap (λ (l : _). l ++ view x ∷ []) before
    ∙ ap (λ (v : _). map f (take i ys) ++ v ∷ []) same
    ∙ sym (ap (map f) (take_one_more ys i y at) ∙ map_push f (take i ys) y)

-- the rule at the place is the first one that is too wide
pub wide_first : (rules : Rules) (place count : ℕ) (rule : CanAssign) → slice_get rules.assign place ≡ Some rule
    → ((k : ℕ) (x : CanAssign) → k < place → slice_get rules.assign k ≡ Some x → ¬ IsWide x)
    → IsTooWideList (conjuncts_of rules rule) (TooWide count)
    → (first : IsFirst IsWide rules.assign place) × (count ≡ width (term_of first.item.cond))
wide_first rules place count rule at before told =
    let law = width_law rules.order (term_of rule.cond) in
    let holds : IsWide rule = omega (law, told.1, arith) in
    (record { item = rule; at = at; holds = holds; none_before = before }, told.0 ∙ law)

-- a rule whose conjuncts are few is not too wide
pub narrow_here : (rules : Rules) (rule : CanAssign) → length (conjuncts_of rules rule) ≤ MOST_CONJUNCTS → ¬ IsWide rule
narrow_here rules rule few wide =
    let law = width_law rules.order (term_of rule.cond) in
    absurd (omega (law, few, wide, arith))
