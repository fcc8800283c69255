-- Rules and their lists of conjuncts, and lists that loops build of what they see.
use Rattle.std.proofs.Common.{ℕ, ◌≡◌, ◌<◌, ◌+◌, ◌∙◌, true, List, [], ◌∷◌, ◌++◌, length, map, take, get_or, Some, Vec, Global, append_assoc, sym, ap, arith}
use Rattle.std.specs.Prelude.{nat_lt, slice_get}
use Rattle.std.proofs.lemmas.List.{append-nil, map_push}
use Rattle.std.proofs.lemmas.Bool.Decides.{nat_tests}
use Rattle.list_words.proofs.GetLemmas.{get_at, get_map, take_one_more}
use Rattle.role_order.proofs.ClosureLemmas.{get_mapped}
use Rattle.arbac_policy.specs.declared.rule.CanAssign.{CanAssign}
use Rattle.arbac_policy.specs.declared.conjunct.Conjunct.{Conjunct}
use Rattle.arbac_policy.specs.Rules.{Rules}
use Rattle.arbac_laws.specs.Needs.{Need}
use Rattle.arbac_laws.specs.Goals.{before_each}
use Rattle.arbac_laws.specs.Views.{needs_of}
use Rattle.cert_check.specs.Rulebooks.{conjuncts_of, lists_of}

-- the item at a place of a slice
pub item_there : {A : Type 0} (xs : List A) (i : ℕ) (x : A) → i < length xs → x ≡ get_or xs i x → slice_get xs i ≡ Some x
item_there xs i x within is = get_at xs i x within ∙ ap (λ (y : _). Some y) (sym is)

-- what a slice's item at a place is, from its two tests
pub looked_up : {A : Type 0} (xs : List A) (k : ℕ) (x d : A) → true ≡ nat_lt k (length xs) → x ≡ get_or xs k d → slice_get xs k ≡ Some x
looked_up xs k x d test is =
    let within : k < length xs = grind (arith, nat_tests) in
    get_at xs k d within ∙ ap (λ (z : _). Some z) (sym is)

-- one item more of a list that is seen as another one
pub seen_more : {A B : Type 0} (view : A → B) (old list : List B) (xs new : List A) (i : ℕ) (x : A) (y : B)
    → map view xs ≡ old ++ take i list → slice_get list i ≡ Some y → new ≡ xs ++ x ∷ [] → view x ≡ y
    → map view new ≡ old ++ take (i + 1) list
seen_more view old list xs new i x y before at grown same =
    ap (map view) grown
    ∙ map_push view xs x
    ∙ ap (λ (l : _). l ++ view x ∷ []) before
    ∙ ap (λ (v : _). (old ++ take i list) ++ v ∷ []) same
    ∙ append_assoc old (take i list) (y ∷ [])
    ∙ ap (λ (l : _). old ++ l) (sym (take_one_more list i y at))

-- the list at a place has the conjuncts of the rule there
pub list_there : (rules : Rules) (lists : List (Vec Conjunct Global)) (place : ℕ) (list : Vec Conjunct Global)
    → lists_of (λ (l : Vec Conjunct Global). l.items) lists ≡ map (conjuncts_of rules) rules.assign → slice_get lists place ≡ Some list
    → (rule : CanAssign) × (slice_get rules.assign place ≡ Some rule) × (needs_of list.items ≡ conjuncts_of rules rule)
list_there rules lists place list kept at =
    let seen : slice_get (map (conjuncts_of rules) rules.assign) place ≡ Some (needs_of list.items) =
    ap (λ (ls : List (List Need)). slice_get ls place) (sym kept) ∙ get_map (λ (l : Vec Conjunct Global). needs_of l.items) lists place list at in
    get_mapped (conjuncts_of rules) rules.assign place (needs_of list.items) seen

before_push : (xs : List Need) (a : Need) (tails : List (List Need))
    → before_each (xs ++ a ∷ []) tails ≡ before_each xs tails ++ map (λ tail. a ∷ tail) tails
before_push [] a tails = append-nil (map (λ tail. a ∷ tail) tails)
before_push (x ∷ xs) a tails =
    ap (λ l. map (λ tail. x ∷ tail) tails ++ l) (before_push xs a tails)
    ∙ sym (append_assoc (map (λ tail. x ∷ tail) tails) (before_each xs tails) (map (λ tail. a ∷ tail) tails))

-- one conjunct more stands before each of the others
pub before_more : (needs : List Need) (tails all new : List (List Need)) (i : ℕ) (a : Need) → slice_get needs i ≡ Some a
    → new ≡ all ++ map (λ tail. a ∷ tail) tails → all ≡ before_each (take i needs) tails → new ≡ before_each (take (i + 1) needs) tails
before_more needs tails all new i a at grown before =
    grown
    ∙ ap (λ l. l ++ map (λ tail. a ∷ tail) tails) before
    ∙ sym (ap (λ l. before_each l tails) (take_one_more needs i a at) ∙ before_push (take i needs) a tails)
