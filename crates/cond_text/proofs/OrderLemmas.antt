-- A role order is refused in one way at most, and no refusal stands beside an order.
use Rattle.std.proofs.Common.{ℕ, ◌≡◌, ◌<◌, ◌≤◌, ◌+◌, Bool, true, false, cond, ltb, List, [], ◌∷◌, length, refl, arith, sym}
use Rattle.std.proofs.Common.{◌∙◌, ap, subst, Some, None, zero, suc}
use Rattle.std.specs.Prelude.{slice_get, take, not, nat_lt}
use Rattle.std.specs.List.{position_or_len}
use Rattle.std.specs.Str.{bytes_eq}
use Rattle.std.proofs.lemmas.Bool.{false≢true}
use Rattle.std.proofs.lemmas.Bool.Decides.{nat_tests}
use Rattle.std.proofs.lemmas.Slice.Eq.{bytes_eq-Decides}
use Rattle.role_order.specs.declared.order.OrderError.{OrderError}
use Rattle.role_order.specs.declared.order.OrderError.TheVariants.{NoRoles, TooManyRoles, BadName, SameName, EdgeOutOfRange, Cycle, Memory}
use Rattle.role_order.specs.declared.TheConstants.{MOST_ROLES}
use Rattle.list_words.specs.Lists.{IsFirst, AreDifferent}
use Rattle.role_order.specs.Names.{place_of, is_role_name}
use Rattle.role_order.specs.Graph.{Leads, IsEdge, AreEdges, IsCycle}
use Rattle.role_order.specs.Refusals.{AreRoleNames, IsOrder, IsRepeated, IsRefused}
use Rattle.list_words.proofs.EachLemmas.{each_at}
use Rattle.list_words.proofs.GetLemmas.{get_take, get_taken, same_some}

prefix_at : (name : List ℕ) (names : List (List ℕ)) → position_or_len (λ other. bytes_eq other name) names < length names
    → slice_get names (position_or_len (λ other. bytes_eq other name) names) ≡ Some name
prefix_at name [] l = absurd (omega arith)
prefix_at name (n ∷ ns) l = by_test (bytes_eq n name) refl l (prefix_at name ns)
  where
    by_test : (t : Bool) → bytes_eq n name ≡ t → cond (not t) (1 + position_or_len (λ other. bytes_eq other name) ns) 0 < suc (length ns)
        → (position_or_len (λ other. bytes_eq other name) ns < length ns → slice_get ns (position_or_len (λ other. bytes_eq other name) ns) ≡ Some name)
        → slice_get (n ∷ ns) (cond (not t) (1 + position_or_len (λ other. bytes_eq other name) ns) 0) ≡ Some name
    by_test true t l later = ap Some ((bytes_eq-Decides n name).0 t)
    by_test false t l later =
        let up : 1 + position_or_len (λ other. bytes_eq other name) ns ≡ suc (position_or_len (λ other. bytes_eq other name) ns) = omega arith in
        rw up (later (omega arith))

-- the place of a name has the name
pub place_found : (name : List ℕ) (names : List (List ℕ)) (at : ℕ) → place_of names name ≡ Some at → slice_get names at ≡ Some name
place_found name names at e = by_test (nat_lt (position_or_len (λ other. bytes_eq other name) names) (length names)) refl e
  where
    by_test : (t : Bool) → nat_lt (position_or_len (λ other. bytes_eq other name) names) (length names) ≡ t
        → cond t (Some (position_or_len (λ other. bytes_eq other name) names)) None ≡ Some at → slice_get names at ≡ Some name
    by_test true t e =
        let less : position_or_len (λ other. bytes_eq other name) names < length names = grind (arith, nat_tests) in
        let same : position_or_len (λ other. bytes_eq other name) names ≡ at = cc in
        subst (λ (k : ℕ). slice_get names k ≡ Some name) same (prefix_at name names less)
    by_test false t e = absurd (cc)

none_counted : (names : List (List ℕ)) → names ≡ [] → 1 ≤ length names → ⊥
none_counted names e l = let z : length names ≡ 0 = ap length e in absurd (omega arith)

bad_named : (names : List (List ℕ)) (place : ℕ) → IsFirst (λ name. is_role_name name ≡ false) names place → AreRoleNames names → ⊥
bad_named names place f named = false≢true (sym f.holds ∙ each_at (λ name. is_role_name name ≡ true) names place f.item named f.at)

-- where the repeated name stands first
earlier : (names : List (List ℕ)) (first second : ℕ) → (r : IsRepeated names first second) → (first < second) × (slice_get names first ≡ Some r.name)
earlier names first second r = get_taken names second first r.name (place_found r.name (take second names) first r.before)

repeated_different : (names : List (List ℕ)) (first second : ℕ) → IsRepeated names first second → AreDifferent names → ⊥
repeated_different names first second r different =
    let at = earlier names first second r in
    let same = different first second r.name at.1 r.at in
    absurd (omega (arith, at.0, same))

outside_edges : (count : ℕ) (edges : List (ℕ × ℕ)) (place : ℕ) → IsFirst (λ edge. IsEdge count edge → ⊥) edges place → AreEdges count edges
    → ⊥
outside_edges count edges place f ends = f.holds (each_at (IsEdge count) edges place f.item ends f.at)

-- no refusal stands beside an order
pub order_clash : (names : List (List ℕ)) (edges : List (ℕ × ℕ)) (error : OrderError) → IsOrder names edges → IsRefused names edges error
    → (error ≡ Memory → ⊥) → ⊥
order_clash names edges NoRoles o r m = none_counted names r o.are_names.counted.0
order_clash names edges (TooManyRoles count) o r m = let l = o.are_names.counted.1 in let k = r.0 in absurd (omega arith)
order_clash names edges (BadName place) o r m = bad_named names place r.1 o.are_names.named
order_clash names edges (SameName first second) o r m = repeated_different names first second r.2 o.are_names.different
order_clash names edges (EdgeOutOfRange place) o r m = outside_edges (length names) edges place r.1 o.ends
order_clash names edges (Cycle place) o r m = o.acyclic place r.2.edge r.2.at r.2.back
order_clash names edges Memory o r m = m refl

-- of two numbers neither of which is less, both are one
by_order : (p q : ℕ) → (p < q → ⊥) → (q < p → ⊥) → p ≡ q
by_order p q a b = by_tests (ltb p q) refl (ltb q p) refl
  where
    by_tests : (s : Bool) → ltb p q ≡ s → (t : Bool) → ltb q p ≡ t → p ≡ q
    by_tests true e t f = absurd (a (grind (arith, nat_tests)))
    by_tests false e true f = absurd (b (grind (arith, nat_tests)))
    by_tests false e false f = grind (arith, nat_tests)

first_one : {A : Type 0} (P : A → Type 0) (xs : List A) (p q : ℕ) → IsFirst P xs p → IsFirst P xs q → p ≡ q
first_one P xs p q a b = by_order p q (λ l. b.none_before p a.item l a.at a.holds) (λ l. a.none_before q b.item l b.at b.holds)

take_taken : {A : Type 0} (xs : List A) (p q : ℕ) → p < q → take p (take q xs) ≡ take p xs
take_taken xs zero q l = refl
take_taken xs (suc p) zero l = absurd (omega arith)
take_taken [] (suc p) (suc q) l = refl
take_taken (x ∷ xs) (suc p) (suc q) l = ap (λ t. x ∷ t) (take_taken xs p q (omega arith))

cycle_earlier : (edges : List (ℕ × ℕ)) (p q : ℕ) → IsCycle edges p → IsCycle edges q → p < q → ⊥
cycle_earlier edges p q a b l =
    b.none_before p a.edge (get_take edges q p l ∙ a.at) (subst (λ (t : List (ℕ × ℕ)). Leads t a.edge.1 a.edge.0) (sym (take_taken edges p q l)) a.back)

cycle_one : (edges : List (ℕ × ℕ)) (p q : ℕ) → IsCycle edges p → IsCycle edges q → p ≡ q
cycle_one edges p q a b = by_order p q (cycle_earlier edges p q a b) (cycle_earlier edges q p b a)

repeated_earlier : (names : List (List ℕ)) (f g p q : ℕ) → IsRepeated names f p → IsRepeated names g q → p < q → ⊥
repeated_earlier names f g p q a b l =
    let at = earlier names f p a in
    let same = b.none_before f p a.name (get_take names q f (omega (arith, at.0)) ∙ at.1) (get_take names q p l ∙ a.at) in
    absurd (omega (arith, at.0, same))

repeated_first : (names : List (List ℕ)) (f g p q : ℕ) → p ≡ q → (a : IsRepeated names f p) → (b : IsRepeated names g q) → f ≡ g
repeated_first names f g p q e a b =
    let name : a.name ≡ b.name = same_some a.name b.name (sym a.at ∙ ap (slice_get names) e ∙ b.at) in
    same_some f g (sym a.before ∙ ap (λ (k : ℕ). place_of (take k names) a.name) e ∙ ap (λ (n : List ℕ). place_of (take q names) n) name ∙ b.before)

repeated_one : (names : List (List ℕ)) (f g p q : ℕ) → IsRepeated names f p → IsRepeated names g q → SameName f p ≡ SameName g q
repeated_one names f g p q a b =
    let second = by_order p q (repeated_earlier names f g p q a b) (repeated_earlier names g f q p b a) in
    ap (λ (k : ℕ). SameName k p) (repeated_first names f g p q second a b) ∙ ap (λ (k : ℕ). SameName g k) second

many_counted : (names : List (List ℕ)) → MOST_ROLES < length names → length names ≤ MOST_ROLES → ⊥
many_counted names l k = absurd (omega arith)

-- names and edges are refused in one way
pub refusal_one : (names : List (List ℕ)) (edges : List (ℕ × ℕ)) (a b : OrderError) → IsRefused names edges a → IsRefused names edges b
    → (a ≡ Memory → ⊥) → (b ≡ Memory → ⊥) → a ≡ b
refusal_one names edges Memory b r s m n = absurd (m refl)
refusal_one names edges NoRoles Memory r s m n = absurd (n refl)
refusal_one names edges NoRoles NoRoles r s m n = refl
refusal_one names edges NoRoles (TooManyRoles k) r s m n = let z : length names ≡ 0 = ap length r in let l = s.0 in absurd (omega arith)
refusal_one names edges NoRoles (BadName p) r s m n = absurd (none_counted names r s.0.0)
refusal_one names edges NoRoles (SameName f p) r s m n = absurd (none_counted names r s.0.0)
refusal_one names edges NoRoles (EdgeOutOfRange p) r s m n = absurd (none_counted names r s.0.counted.0)
refusal_one names edges NoRoles (Cycle p) r s m n = absurd (none_counted names r s.0.counted.0)
refusal_one names edges (TooManyRoles k) Memory r s m n = absurd (n refl)
refusal_one names edges (TooManyRoles k) NoRoles r s m n = let z : length names ≡ 0 = ap length s in let l = r.0 in absurd (omega arith)
refusal_one names edges (TooManyRoles k) (TooManyRoles l) r s m n = ap TooManyRoles (r.1 ∙ sym s.1)
refusal_one names edges (TooManyRoles k) (BadName p) r s m n = absurd (many_counted names r.0 s.0.1)
refusal_one names edges (TooManyRoles k) (SameName f p) r s m n = absurd (many_counted names r.0 s.0.1)
refusal_one names edges (TooManyRoles k) (EdgeOutOfRange p) r s m n = absurd (many_counted names r.0 s.0.counted.1)
refusal_one names edges (TooManyRoles k) (Cycle p) r s m n = absurd (many_counted names r.0 s.0.counted.1)
refusal_one names edges (BadName p) Memory r s m n = absurd (n refl)
refusal_one names edges (BadName p) NoRoles r s m n = absurd (none_counted names s r.0.0)
refusal_one names edges (BadName p) (TooManyRoles k) r s m n = absurd (many_counted names s.0 r.0.1)
refusal_one names edges (BadName p) (BadName q) r s m n = ap BadName (first_one _ names p q r.1 s.1)
refusal_one names edges (BadName p) (SameName f q) r s m n = absurd (bad_named names p r.1 s.1)
refusal_one names edges (BadName p) (EdgeOutOfRange q) r s m n = absurd (bad_named names p r.1 s.0.named)
refusal_one names edges (BadName p) (Cycle q) r s m n = absurd (bad_named names p r.1 s.0.named)
refusal_one names edges (SameName f p) Memory r s m n = absurd (n refl)
refusal_one names edges (SameName f p) NoRoles r s m n = absurd (none_counted names s r.0.0)
refusal_one names edges (SameName f p) (TooManyRoles k) r s m n = absurd (many_counted names s.0 r.0.1)
refusal_one names edges (SameName f p) (BadName q) r s m n = absurd (bad_named names q s.1 r.1)
refusal_one names edges (SameName f p) (SameName g q) r s m n = repeated_one names f g p q r.2 s.2
refusal_one names edges (SameName f p) (EdgeOutOfRange q) r s m n = absurd (repeated_different names f p r.2 s.0.different)
refusal_one names edges (SameName f p) (Cycle q) r s m n = absurd (repeated_different names f p r.2 s.0.different)
refusal_one names edges (EdgeOutOfRange p) Memory r s m n = absurd (n refl)
refusal_one names edges (EdgeOutOfRange p) NoRoles r s m n = absurd (none_counted names s r.0.counted.0)
refusal_one names edges (EdgeOutOfRange p) (TooManyRoles k) r s m n = absurd (many_counted names s.0 r.0.counted.1)
refusal_one names edges (EdgeOutOfRange p) (BadName q) r s m n = absurd (bad_named names q s.1 r.0.named)
refusal_one names edges (EdgeOutOfRange p) (SameName g q) r s m n = absurd (repeated_different names g q s.2 r.0.different)
refusal_one names edges (EdgeOutOfRange p) (EdgeOutOfRange q) r s m n = ap EdgeOutOfRange (first_one _ edges p q r.1 s.1)
refusal_one names edges (EdgeOutOfRange p) (Cycle q) r s m n = absurd (outside_edges (length names) edges p r.1 s.1)
refusal_one names edges (Cycle p) Memory r s m n = absurd (n refl)
refusal_one names edges (Cycle p) NoRoles r s m n = absurd (none_counted names s r.0.counted.0)
refusal_one names edges (Cycle p) (TooManyRoles k) r s m n = absurd (many_counted names s.0 r.0.counted.1)
refusal_one names edges (Cycle p) (BadName q) r s m n = absurd (bad_named names q s.1 r.0.named)
refusal_one names edges (Cycle p) (SameName g q) r s m n = absurd (repeated_different names g q s.2 r.0.different)
refusal_one names edges (Cycle p) (EdgeOutOfRange q) r s m n = absurd (outside_edges (length names) edges q s.1 r.1)
refusal_one names edges (Cycle p) (Cycle q) r s m n = ap Cycle (cycle_one edges p q r.2 s.2)
