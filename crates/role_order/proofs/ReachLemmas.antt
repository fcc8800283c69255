-- What leads where, with one more edge, by the computed seniors, and in the turned order.
use Rattle.std.proofs.Common.{ℕ, ◌≡◌, ◌<◌, List, [], ◌∷◌, ◌++◌, length, get_or, arith, zero, suc, sym, ◌∙◌, ap, eqb, Bool, true}
use Rattle.std.proofs.Common.{false, ◌||◌, ◌&&◌, subst, refl, inl, inr, map}
use Rattle.std.specs.Prelude.{◌⊎◌, ◌↔◌, filter, Contains}
use Rattle.std.proofs.lemmas.Bool.{eqb-true, eq-eqb}
use Rattle.std.proofs.lemmas.Bool.Decides.{nat_tests}
use Rattle.role_order.specs.Roles.{has_role, with_role, IsIn, Rises}
use Rattle.role_order.specs.Graph.{Graph, Leads, here, down, AreEdges, IsEdge, turned}
use Rattle.role_order.specs.Reach.{is_edge, leads_by, seniors_of, juniors_of, count_up}
use Rattle.list_words.proofs.GetLemmas.{at_contains}
use Rattle.list_words.proofs.EachLemmas.{each_at}
use Rattle.role_order.proofs.SetLemmas.{has_role-with_role, has_role-filter, has_role-count_up, rises-with_role, rises-filter, rises-count_up}
use Rattle.list_words.proofs.TestLemmas.{or_cases, or_right, and_both, both_true}

pub Leads-join : {edges : List (ℕ × ℕ)} {x y : ℕ} → Leads edges x y → (z : ℕ) → Leads edges y z → Leads edges x z
Leads-join here z r = r
Leads-join (down d l) z r = down d (Leads-join l z r)

pub contains_front : {A : Type 0} (xs ys : List A) (x : A) → Contains xs x → Contains (xs ++ ys) x
contains_front {A = A} xs ys x h = at_place xs h.0 h.1 h.2
  where
    at_place : (xs : List A) (k : ℕ) → k < length xs → get_or xs k x ≡ x → Contains (xs ++ ys) x
    at_place [] k l e = absurd (omega arith)
    at_place (z ∷ zs) zero l e = (0, omega arith, e)
    at_place (z ∷ zs) (suc k) l e = let r = at_place zs k (omega arith) e in (suc r.0, omega (arith, r.1), r.2)

pub contains_last : {A : Type 0} (xs : List A) (x : A) → Contains (xs ++ x ∷ []) x
contains_last [] x = (0, omega arith, refl)
contains_last (y ∷ ys) x = let r = contains_last ys x in (suc r.0, omega (arith, r.1), r.2)

pub contains_split : {A : Type 0} (xs : List A) (y x : A) → Contains (xs ++ y ∷ []) x → Contains xs x ⊎ (y ≡ x)
contains_split {A = A} xs y x h = at_place xs h.0 h.1 h.2
  where
    at_place : (xs : List A) (k : ℕ) → k < length (xs ++ y ∷ []) → get_or (xs ++ y ∷ []) k x ≡ x → Contains xs x ⊎ (y ≡ x)
    at_place [] zero l e = inr e
    at_place [] (suc k) l e = absurd (omega arith)
    at_place (z ∷ zs) zero l e = inl (0, omega arith, e)
    at_place (z ∷ zs) (suc k) l e = more (at_place zs k (omega arith) e)
      where
        more : Contains zs x ⊎ (y ≡ x) → Contains (z ∷ zs) x ⊎ (y ≡ x)
        more (inl r) = inl (suc r.0, omega (arith, r.1), r.2)
        more (inr e) = inr e

-- what led down still does with one more edge
pub leads_still : {edges : List (ℕ × ℕ)} {x y : ℕ} → Leads edges x y → (edge : ℕ × ℕ) → Leads (edges ++ edge ∷ []) x y
leads_still here edge = here
leads_still {edges} (down {x} {y} d l) edge = down (contains_front edges (edge ∷ []) (x, y) d) (leads_still l edge)

-- with one more edge, a way goes through it once or not at all
pub leads_split : (edges : List (ℕ × ℕ)) (senior junior : ℕ) {x y : ℕ} → Leads (edges ++ (senior, junior) ∷ []) x y
    → Leads edges x y ⊎ (Leads edges x senior × Leads edges junior y)
leads_split edges senior junior here = inl here
leads_split edges senior junior (down {x = x} {y = z} {z = y} d l) = by_edge (contains_split edges (senior, junior) (x, z) d)
    (leads_split edges senior junior l)
  where
    by_edge : Contains edges (x, z) ⊎ (◌≡◌ {A = ℕ × ℕ} (senior, junior) (x, z)) → Leads edges z y
        ⊎ (Leads edges z senior × Leads edges junior y)
        → Leads edges x y ⊎ (Leads edges x senior × Leads edges junior y)
    by_edge (inl d) (inl l) = inl (down d l)
    by_edge (inl d) (inr l) = inr (down d l.0, l.1)
    by_edge (inr e) rest =
        let first : senior ≡ x = ap (λ (p : ℕ × ℕ). p.0) e in
        let second : junior ≡ z = ap (λ (p : ℕ × ℕ). p.1) e in
        inr (subst (λ v. Leads edges v senior) first here, from_junior second rest)
      where
        from_junior : junior ≡ z → Leads edges z y ⊎ (Leads edges z senior × Leads edges junior y) → Leads edges junior y
        from_junior e (inl l) = subst (λ v. Leads edges v y) (sym e) l
        from_junior e (inr l) = l.1

pub leads_through : (edges : List (ℕ × ℕ)) (senior junior x y : ℕ) → Leads edges x senior → Leads edges junior y
    → Leads (edges ++ (senior, junior) ∷ []) x y
leads_through edges senior junior x y l r =
    Leads-join (leads_still l (senior, junior)) y (down (contains_last edges (senior, junior)) (leads_still r (senior, junior)))

pub leads_from_none : {x y : ℕ} → Leads [] x y → x ≡ y
leads_from_none here = refl
leads_from_none (down d l) = absurd (omega (arith, d.1))

pub edge_is : (edges : List (ℕ × ℕ)) (x y : ℕ) → is_edge edges x y ≡ true → Contains edges (x, y)
edge_is [] x y e = cc
edge_is (edge ∷ edges) x y e = by_case (or_cases (eqb edge.0 x && eqb edge.1 y) (is_edge edges x y) e) (edge_is edges x y)
  where
    by_case : ((eqb edge.0 x && eqb edge.1 y) ≡ true) ⊎ (is_edge edges x y ≡ true) → (is_edge edges x y ≡ true → Contains edges (x, y))
        → Contains (edge ∷ edges) (x, y)
    by_case (inl h) rest =
        let b = and_both (eqb edge.0 x) (eqb edge.1 y) h in
        let first : edge.0 ≡ x = eqb-true edge.0 x b.0 in
        let second : edge.1 ≡ y = eqb-true edge.1 y b.1 in
        (0, omega arith, ap (λ k. (k, edge.1)) first ∙ ap (λ k. (x, k)) second)
    by_case (inr h) rest = let r = rest h in (suc r.0, omega (arith, r.1), r.2)

pub is_edge_of : (edges : List (ℕ × ℕ)) (x y : ℕ) → Contains edges (x, y) → is_edge edges x y ≡ true
is_edge_of edges x y h = at_place edges x y h.0 h.1 h.2
  where
    at_place : (edges : List (ℕ × ℕ)) (x y i : ℕ) → i < length edges → get_or edges i (x, y) ≡ (x, y) → is_edge edges x y ≡ true
    at_place [] x y i l e = absurd (omega arith)
    at_place (edge ∷ edges) x y zero l e =
        let first : edge.0 ≡ x = ap (λ (p : ℕ × ℕ). p.0) e in
        let second : edge.1 ≡ y = ap (λ (p : ℕ × ℕ). p.1) e in
        rw (eq-eqb edge.0 x first, eq-eqb edge.1 y second) refl
    at_place (edge ∷ edges) x y (suc i) l e = or_right (eqb edge.0 x && eqb edge.1 y) (is_edge edges x y) (at_place edges x y i (omega arith) e)

-- the test is right
pub leads_by_leads : (edges : List (ℕ × ℕ)) (k x y : ℕ) → leads_by edges k x y ≡ true → Leads edges x y
leads_by_leads edges zero x y h = by_case (or_cases (eqb x y) (is_edge edges x y) h)
  where
    by_case : (eqb x y ≡ true) ⊎ (is_edge edges x y ≡ true) → Leads edges x y
    by_case (inl e) = subst (Leads edges x) (eqb-true x y e) here
    by_case (inr e) = down (edge_is edges x y e) here
leads_by_leads edges (suc k) x y h =
    by_case (or_cases (leads_by edges k x y) (leads_by edges k x k && leads_by edges k k y) h) (leads_by_leads edges k x y)
    (leads_by_leads edges k x k) (leads_by_leads edges k k y)
  where
    by_case : (leads_by edges k x y ≡ true) ⊎ ((leads_by edges k x k && leads_by edges k k y) ≡ true)
        → (leads_by edges k x y ≡ true → Leads edges x y)
        → (leads_by edges k x k ≡ true → Leads edges x k) → (leads_by edges k k y ≡ true → Leads edges k y) → Leads edges x y
    by_case (inl e) f g h = f e
    by_case (inr e) f g h = let b = and_both (leads_by edges k x k) (leads_by edges k k y) e in Leads-join (g b.0) y (h b.1)

pub leads_by_more : (edges : List (ℕ × ℕ)) (k x y : ℕ) → leads_by edges zero x y ≡ true → leads_by edges k x y ≡ true
leads_by_more edges zero x y h = h
leads_by_more edges (suc k) x y h = rw (leads_by_more edges k x y h) refl

-- two ways join at a role below the number
pub leads_by_join : (edges : List (ℕ × ℕ)) (k x y z : ℕ) → y < k → leads_by edges k x y ≡ true → leads_by edges k y z ≡ true
    → leads_by edges k x z ≡ true
leads_by_join edges zero x y z l h g = absurd (omega arith)
leads_by_join edges (suc k) x y z l h g =
    by_case (eqb y k) refl (or_cases (leads_by edges k x y) (leads_by edges k x k && leads_by edges k k y) h)
    (or_cases (leads_by edges k y z) (leads_by edges k y k && leads_by edges k k z) g)
    (λ x z l. leads_by_join edges k x y z l)
  where
    below : eqb y k ≡ false → y < k
    below t = let ne : y < k = grind (arith, nat_tests) in ne

    through : leads_by edges k x k ≡ true → leads_by edges k k z ≡ true → leads_by edges (suc k) x z ≡ true
    through a b = or_right (leads_by edges k x z) (leads_by edges k x k && leads_by edges k k z) (both_true (leads_by edges k x k) (leads_by edges k k z) a b)

    by_case : (t : Bool) → eqb y k ≡ t → (leads_by edges k x y ≡ true) ⊎ ((leads_by edges k x k && leads_by edges k k y) ≡ true)
        → (leads_by edges k y z ≡ true) ⊎ ((leads_by edges k y k && leads_by edges k k z) ≡ true)
        → ((x z : ℕ) → y < k → leads_by edges k x y ≡ true → leads_by edges k y z ≡ true → leads_by edges k x z ≡ true)
        → leads_by edges (suc k) x z ≡ true
    by_case true t (inl a) (inl b) join =
        let e : y ≡ k = eqb-true y k t in through (subst (λ v. leads_by edges k x v ≡ true) e a) (subst (λ v. leads_by edges k v z ≡ true) e b)
    by_case true t (inl a) (inr b) join =
        let e : y ≡ k = eqb-true y k t in through (subst (λ v. leads_by edges k x v ≡ true) e a)
        (and_both (leads_by edges k y k) (leads_by edges k k z) b).1
    by_case true t (inr a) (inl b) join =
        let e : y ≡ k = eqb-true y k t in through (and_both (leads_by edges k x k) (leads_by edges k k y) a).0
        (subst (λ v. leads_by edges k v z ≡ true) e b)
    by_case true t (inr a) (inr b) join =
        through (and_both (leads_by edges k x k) (leads_by edges k k y) a).0 (and_both (leads_by edges k y k) (leads_by edges k k z) b).1
    by_case false t (inl a) (inl b) join = rw (join x z (below t) a b) refl
    by_case false t (inl a) (inr b) join =
        let c = and_both (leads_by edges k y k) (leads_by edges k k z) b in through (join x k (below t) a c.0) c.1
    by_case false t (inr a) (inl b) join =
        let c = and_both (leads_by edges k x k) (leads_by edges k k y) a in through c.0 (join k z (below t) c.1 b)
    by_case false t (inr a) (inr b) join =
        through (and_both (leads_by edges k x k) (leads_by edges k k y) a).0 (and_both (leads_by edges k y k) (leads_by edges k k z) b).1

pub edge_below : (n : ℕ) (edges : List (ℕ × ℕ)) (x y : ℕ) → AreEdges n edges → Contains edges (x, y) → (x < n) × (y < n)
edge_below n edges x y all h = let a = at_contains edges (x, y) h in each_at (IsEdge n) edges a.0 (x, y) all a.1

pub leads_leads_by : {edges : List (ℕ × ℕ)} {x y : ℕ} → Leads edges x y → (n : ℕ) → AreEdges n edges → leads_by edges n x y ≡ true
leads_leads_by {edges} (here {x}) n all = leads_by_more edges n x x (rw (eq-eqb x x refl) refl)
leads_leads_by {edges} (down {x} {y} {z} d l) n all =
    leads_by_join edges n x y z (edge_below n edges x y all d).1
    (leads_by_more edges n x y (or_right (eqb x y) (is_edge edges x y) (is_edge_of edges x y d))) (leads_leads_by l n all)

-- a way begins at its end or at an edge
pub leads_from_below : {edges : List (ℕ × ℕ)} {x y : ℕ} → Leads edges x y → (n : ℕ) → AreEdges n edges → (x ≡ y) ⊎ (x < n)
leads_from_below here n all = inl refl
leads_from_below {edges} (down {x} {y} d l) n all = inr (edge_below n edges x y all d).0

-- and ends at its beginning or at an edge
pub leads_to_below : {edges : List (ℕ × ℕ)} {x y : ℕ} → Leads edges x y → (n : ℕ) → AreEdges n edges → (x ≡ y) ⊎ (y < n)
leads_to_below here n all = inl refl
leads_to_below {edges} (down {x = x} {y = z} {z = y} d l) n all = by_rest (leads_to_below l n all)
  where
    by_rest : (z ≡ y) ⊎ (y < n) → (x ≡ y) ⊎ (y < n)
    by_rest (inl e) = inr (subst (λ v. v < n) e (edge_below n edges x z all d).1)
    by_rest (inr l) = inr l

-- what leads to a role or away from it, computed and as the edges have it
pub in_led : (test : ℕ → Bool) (n role : ℕ) (P : ℕ → Type 0) → ((q : ℕ) → test q ≡ true → P q) → ((q : ℕ) → P q → (q < n) ⊎ (role ≡ q))
    → ((q : ℕ) → P q → test q ≡ true) → P role
    → (q : ℕ) → IsIn (with_role (filter test (count_up 0 n)) role) q ↔ P q
in_led test n role P sound below complete self q = (
  λ h. to (or_cases (eqb role q) (has_role (filter test (count_up 0 n)) q) (sym (has_role-with_role (filter test (count_up 0 n)) role q) ∙ h)),
  λ p. has_role-with_role (filter test (count_up 0 n)) role q ∙ from p (below q p),
)
  where
    to : (eqb role q ≡ true) ⊎ (has_role (filter test (count_up 0 n)) q ≡ true) → P q
    to (inl e) = subst P (eqb-true role q e) self
    to (inr h) = sound q (and_both (has_role (count_up 0 n) q) (test q) (sym (has_role-filter test (count_up 0 n) q) ∙ h)).1

    from : P q → (q < n) ⊎ (role ≡ q) → (eqb role q || has_role (filter test (count_up 0 n)) q) ≡ true
    from p (inr e) = rw (eq-eqb role q e) refl
    from p (inl l) = or_right (eqb role q) (has_role (filter test (count_up 0 n)) q)
        (has_role-filter test (count_up 0 n) q
        ∙ both_true (has_role (count_up 0 n) q) (test q) (has_role-count_up 0 n q (omega arith) (omega arith)) (complete q p))

pub in_seniors : (order : Graph) (role : ℕ) → AreEdges (length order.names) order.edges → (senior : ℕ)
    → IsIn (seniors_of order role) senior ↔ Leads order.edges senior role
unfolding seniors_of
in_seniors order role all =
    in_led (λ senior. leads_by order.edges (length order.names) senior role) (length order.names) role (λ senior. Leads order.edges senior role)
    (λ q h. leads_by_leads order.edges (length order.names) q role h) (λ q l. below q (leads_from_below l (length order.names) all))
    (λ q l. leads_leads_by l (length order.names) all) here
  where
    below : (q : ℕ) → (q ≡ role) ⊎ (q < length order.names) → (q < length order.names) ⊎ (role ≡ q)
    below q (inl e) = inr (sym e)
    below q (inr l) = inl l

pub in_juniors : (order : Graph) (role : ℕ) → AreEdges (length order.names) order.edges → (junior : ℕ)
    → IsIn (juniors_of order role) junior ↔ Leads order.edges role junior
unfolding juniors_of
in_juniors order role all =
    in_led (λ junior. leads_by order.edges (length order.names) role junior) (length order.names) role (λ junior. Leads order.edges role junior)
    (λ q h. leads_by_leads order.edges (length order.names) role q h) (λ q l. below q (leads_to_below l (length order.names) all))
    (λ q l. leads_leads_by l (length order.names) all) here
  where
    below : (q : ℕ) → (role ≡ q) ⊎ (q < length order.names) → (q < length order.names) ⊎ (role ≡ q)
    below q (inl e) = inr e
    below q (inr l) = inl l

pub rises_seniors : (order : Graph) (role : ℕ) → Rises (seniors_of order role)
unfolding seniors_of
rises_seniors order role = rises-with_role (filter (λ senior. leads_by order.edges (length order.names) senior role) (count_up 0 (length order.names))) role
    (rises-filter (λ senior. leads_by order.edges (length order.names) senior role) (count_up 0 (length order.names)) (rises-count_up 0 (length order.names)))

pub rises_juniors : (order : Graph) (role : ℕ) → Rises (juniors_of order role)
unfolding juniors_of
rises_juniors order role = rises-with_role (filter (λ junior. leads_by order.edges (length order.names) role junior) (count_up 0 (length order.names))) role
    (rises-filter (λ junior. leads_by order.edges (length order.names) role junior) (count_up 0 (length order.names)) (rises-count_up 0 (length order.names)))

pub turned_contains : (edges : List (ℕ × ℕ)) (x y : ℕ) → Contains edges (x, y) → Contains (map turned edges) (y, x)
turned_contains edges x y h = at_place edges h.0 h.1 h.2
  where
    at_place : (edges : List (ℕ × ℕ)) (k : ℕ) → k < length edges → get_or edges k (x, y) ≡ (x, y) → Contains (map turned edges) (y, x)
    at_place [] k l e = absurd (omega arith)
    at_place (edge ∷ edges) zero l e = (0, omega arith, ap turned e)
    at_place (edge ∷ edges) (suc k) l e = let r = at_place edges k (omega arith) e in (suc r.0, omega (arith, r.1), r.2)

-- each way is a way back in the turned order
pub leads_turned : {edges : List (ℕ × ℕ)} {x y : ℕ} → Leads edges x y → Leads (map turned edges) y x
leads_turned here = here
leads_turned {edges} (down {x = x} {y = z} {z = y} d l) = Leads-join (leads_turned l) x (down (turned_contains edges x z d) here)

pub turned_twice : (edges : List (ℕ × ℕ)) → map turned (map turned edges) ≡ edges
turned_twice [] = refl
turned_twice (edge ∷ edges) = ap (λ t. edge ∷ t) (turned_twice edges)

pub leads_back : (edges : List (ℕ × ℕ)) (x y : ℕ) → Leads (map turned edges) x y → Leads edges y x
leads_back edges x y l = subst (λ e. Leads e y x) (turned_twice edges) (leads_turned l)
