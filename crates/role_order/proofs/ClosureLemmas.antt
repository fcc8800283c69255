-- The table of the roles above each role, edge by edge.
use Rattle.std.proofs.Common.{ℕ, ◌≡◌, ◌<◌, ◌≤◌, ◌+◌, List, [], ◌∷◌, ◌++◌, length, get_or, take, drop, arith, zero, suc, sym}
use Rattle.std.proofs.Common.{◌∙◌, ap, eqb, Bool, true, false, ◌||◌, ◌&&◌, not, cond, subst, refl, inl, inr, map, Some, append-nil}
use Rattle.std.specs.Prelude.{◌⊎◌, ◌↔◌, slice_get, slice_set}
use Rattle.std.proofs.lemmas.Bool.{eqb-true, eq-eqb, false≢true}
use Rattle.std.proofs.lemmas.Bool.Decides.{nat_tests}
use Rattle.list_words.specs.Lists.{Each}
use Rattle.role_order.specs.declared.range.Range.{Range}
use Rattle.role_order.specs.Ranges.{IsInRange}
use Rattle.role_order.specs.Kept.{IsKept}
use Rattle.role_order.specs.Roles.{has_role, with_role, without_role, common_roles, join_roles, IsIn, Rises}
use Rattle.role_order.specs.Graph.{Graph, Leads, here, AreEdges, AreAcyclic, turned}
use Rattle.role_order.specs.Refusals.{IsOrder}
use Rattle.role_order.specs.Closures.{AreAbove, HasAt, AreTurned, raised, raised_set}
use Rattle.role_order.specs.Reach.{seniors_of, juniors_of}
use Rattle.list_words.proofs.GetLemmas.{same_some, get_within, get_below, get_at, length_more, get_taken, take_all, get_last_cases, take_one_more}
use Rattle.list_words.proofs.EachLemmas.{each_at, each_append}
use Rattle.role_order.proofs.SetLemmas.{has_role-with_role, has_role-filter, has_role-join_roles, rises-join_roles, same_set}
use Rattle.list_words.proofs.TestLemmas.{or_cases, or_right, and_both, both_true, not_true, not_false, same_test}
use Rattle.role_order.proofs.ReachLemmas.{Leads-join, leads_still, leads_split, leads_through, leads_from_none, leads_turned, leads_back, turned_twice}
use Rattle.role_order.proofs.ReachLemmas.{in_seniors, in_juniors, rises_seniors, rises_juniors, leads_from_below, leads_to_below}

-- a list that was mapped up to a place, with the item there mapped too
pub mapped_step : {A : Type 0} (f : A → A) (xs ys : List A) (i : ℕ) (d : A) → i < length xs → ys ≡ map f (take i xs) ++ drop i xs
    → slice_set ys i (f (get_or ys i d)) ≡ map f (take (i + 1) xs) ++ drop (i + 1) xs
mapped_step f [] ys i d l e = absurd (omega arith)
mapped_step f (x ∷ xs) ys zero d l e = rw e refl
mapped_step f (x ∷ xs) ys (suc i) d l e =
    let n : suc i + 1 ≡ suc (i + 1) = omega arith in
    rw (e, n) (ap (λ t. f x ∷ t) (mapped_step f xs (map f (take i xs) ++ drop i xs) i d (omega arith) refl))

pub mapped_all : {A : Type 0} (f : A → A) (xs : List A) (i : ℕ) → length xs ≤ i → map f (take i xs) ++ drop i xs ≡ map f xs
mapped_all f [] zero l = refl
mapped_all f [] (suc i) l = refl
mapped_all f (x ∷ xs) zero l = absurd (omega arith)
mapped_all f (x ∷ xs) (suc i) l = ap (λ t. f x ∷ t) (mapped_all f xs i (omega arith))

pub length_mapped : {A B : Type 0} (f : A → B) (xs : List A) → length (map f xs) ≡ length xs
length_mapped f [] = refl
length_mapped f (x ∷ xs) = ap suc (length_mapped f xs)

pub get_mapped : {A B : Type 0} (f : A → B) (xs : List A) (k : ℕ) (y : B) → slice_get (map f xs) k ≡ Some y → (x : A) × (slice_get xs k ≡ Some x)
    × (y ≡ f x)
get_mapped f [] k y e = cc
get_mapped f (x ∷ xs) zero y e = (x, refl, cc)
get_mapped f (x ∷ xs) (suc k) y e = get_mapped f xs k y e

pub length_taken : {A : Type 0} (xs : List A) (n : ℕ) → n ≤ length xs → length (take n xs) ≡ n
length_taken xs zero l = refl
length_taken [] (suc n) l = absurd (omega arith)
length_taken (x ∷ xs) (suc n) l = ap suc (length_taken xs n (omega arith))

pub take_taken : {A : Type 0} (xs : List A) (m n : ℕ) → m ≤ n → take m (take n xs) ≡ take m xs
take_taken xs zero n l = refl
take_taken xs (suc m) zero l = absurd (omega arith)
take_taken [] (suc m) (suc n) l = refl
take_taken (x ∷ xs) (suc m) (suc n) l = ap (λ t. x ∷ t) (take_taken xs m n (omega arith))

-- a whole slice of a list, written back into it
pub written_back : {A : Type 0} (n : ℕ) (xs items : List A) → n ≡ length items → length xs ≡ length items
    → take n (xs ++ drop (length xs) items) ≡ xs
written_back {A = A} n xs items e l =
    let short : drop (length xs) items ≡ [] = dropped items (length xs) (omega arith) in
    rw (short, append-nil xs) (take_all xs n (omega arith))
  where
    dropped : (items : List A) (n : ℕ) → length items ≤ n → drop n items ≡ []
    dropped [] zero l = refl
    dropped [] (suc n) l = refl
    dropped (x ∷ items) zero l = absurd (omega arith)
    dropped (x ∷ items) (suc n) l = dropped items n (omega arith)

-- the set of a role, with one more role alone
pub one_alone : (above : List (List ℕ)) (count : ℕ) → AreAbove count [] above → AreAbove (count + 1) [] (above ++ (count ∷ []) ∷ [])
one_alone above count table = record {
  long = longer above ∙ ap (λ n. n + 1) table.long;
  rise = rising above table.rise;
  each = λ role set e senior. by_place role set senior (get_last_cases above (count ∷ []) set role e);
}
  where
    longer : (xs : List (List ℕ)) → length (xs ++ (count ∷ []) ∷ []) ≡ length xs + 1
    longer [] = refl
    longer (x ∷ xs) = ap suc (longer xs) ∙ omega arith

    rising : (xs : List (List ℕ)) → Each Rises xs → Each Rises (xs ++ (count ∷ []) ∷ [])
    rising [] h = ((tt, tt), tt)
    rising (x ∷ xs) h = (h.0, rising xs h.1)

    by_place : (role : ℕ) (set : List ℕ) (senior : ℕ) → (slice_get above role ≡ Some set) ⊎ ((role ≡ length above) × ((count ∷ []) ≡ set))
        → IsIn set senior ↔ Leads [] senior role
    by_place role set senior (inl e) = table.each role set e senior
    by_place role set senior (inr e) =
        let at : role ≡ count = e.0 ∙ table.long in
        subst (λ s. IsIn s senior ↔ Leads [] senior role) e.1 (subst (λ r. IsIn (count ∷ []) senior ↔ Leads [] senior r) (sym at) (
          λ h. lone (or_cases (eqb count senior) false h),
          λ l. rw (leads_from_none l, same count) refl,
        ))
      where
        lone : (eqb count senior ≡ true) ⊎ (false ≡ true) → Leads [] senior count
        lone (inl t) = let s : count ≡ senior = eqb-true count senior t in subst (λ v. Leads [] v count) s here
        lone (inr t) = cc

        same : (n : ℕ) → eqb n n ≡ true
        same n = eq-eqb n n refl

-- the table with one more edge
pub raised_above : (count : ℕ) (edges : List (ℕ × ℕ)) (above : List (List ℕ)) (senior junior : ℕ) → AreAbove count edges above → senior < count
    → junior < count
    → AreAbove count (edges ++ (senior, junior) ∷ []) (raised above senior junior)
raised_above count edges above senior junior table s j = record {
  long = length_mapped (raised_set seniors senior junior) above ∙ table.long;
  rise = rising above table.rise;
  each = λ role set e q. by_item role set q (get_mapped (raised_set seniors senior junior) above role set e);
}
  where
    seniors : List ℕ
    seniors = get_or above senior []

    seniors_are : (q : ℕ) → IsIn seniors q ↔ Leads edges q senior
    seniors_are q = table.each senior seniors (get_at above senior [] (omega (arith, table.long))) q

    seniors_rise : Rises seniors
    seniors_rise = each_at Rises above senior seniors table.rise (get_at above senior [] (omega (arith, table.long)))

    rising : (xs : List (List ℕ)) → Each Rises xs → Each Rises (map (raised_set seniors senior junior) xs)
    rising [] h = tt
    rising (x ∷ xs) h = (
      elim (has_role x junior && not (has_role x senior)) as
          (λ t. Rises (cond t (join_roles x seniors) x)) [ true ↦ rises-join_roles x seniors seniors_rise | false ↦ h.0 ],
      rising xs h.1,
    )

    by_item : (role : ℕ) (set : List ℕ) (q : ℕ)
        → ((old : List ℕ) × (slice_get above role ≡ Some old) × (set ≡ raised_set seniors senior junior old))
        → IsIn set q ↔ Leads (edges ++ (senior, junior) ∷ []) q role
    by_item role set q (old, e, same) =
        subst (λ v. IsIn v q ↔ Leads (edges ++ (senior, junior) ∷ []) q role) (sym same) (by_tests (has_role old junior) refl (has_role old senior) refl)
      where
        old_are : (q : ℕ) → IsIn old q ↔ Leads edges q role
        old_are q = table.each role old e q

        by_tests : (t : Bool) → has_role old junior ≡ t → (u : Bool) → has_role old senior ≡ u
            → IsIn (cond (t && not u) (join_roles old seniors) old) q ↔ Leads (edges ++ (senior, junior) ∷ []) q role
        by_tests true t false u = (
          λ h. to (or_cases (has_role old q) (has_role seniors q) (sym (has_role-join_roles old seniors q) ∙ h)),
          λ l. has_role-join_roles old seniors q ∙ from (leads_split edges senior junior l),
        )
          where
            to : (has_role old q ≡ true) ⊎ (has_role seniors q ≡ true) → Leads (edges ++ (senior, junior) ∷ []) q role
            to (inl h) = leads_still ((old_are q).0 h) (senior, junior)
            to (inr h) = leads_through edges senior junior q role ((seniors_are q).0 h) ((old_are junior).0 t)

            from : Leads edges q role ⊎ (Leads edges q senior × Leads edges junior role) → (has_role old q || has_role seniors q) ≡ true
            from (inl l) = rw ((old_are q).1 l) refl
            from (inr l) = or_right (has_role old q) (has_role seniors q) ((seniors_are q).1 l.0)
        by_tests true t true u = (
          λ h. leads_still ((old_are q).0 h) (senior, junior),
          λ l. from (leads_split edges senior junior l),
        )
          where
            from : Leads edges q role ⊎ (Leads edges q senior × Leads edges junior role) → has_role old q ≡ true
            from (inl l) = (old_are q).1 l
            from (inr l) = (old_are q).1 (Leads-join l.0 role ((old_are senior).0 u))
        by_tests false t u v = (
          λ h. leads_still ((old_are q).0 h) (senior, junior),
          λ l. from (leads_split edges senior junior l),
        )
          where
            from : Leads edges q role ⊎ (Leads edges q senior × Leads edges junior role) → has_role old q ≡ true
            from (inl l) = (old_are q).1 l
            from (inr l) = absurd (false≢true (sym t ∙ (old_are junior).1 l.1))

-- the table is that with one more edge, along which the others lead already
pub known_above : (count : ℕ) (edges : List (ℕ × ℕ)) (above : List (List ℕ)) (senior junior : ℕ) → AreAbove count edges above
    → Leads edges senior junior
    → AreAbove count (edges ++ (senior, junior) ∷ []) above
known_above count edges above senior junior table known = record {
  long = table.long;
  rise = table.rise;
  each = λ role set e q. (
    λ h. leads_still ((table.each role set e q).0 h) (senior, junior),
    λ led. from role set e q (leads_split edges senior junior led),
  );
}
  where
    from : (role : ℕ) (set : List ℕ) → slice_get above role ≡ Some set → (q : ℕ) → Leads edges q role
        ⊎ (Leads edges q senior × Leads edges junior role) → IsIn set q
    from role set e q (inl led) = (table.each role set e q).1 led
    from role set e q (inr led) = (table.each role set e q).1 (Leads-join led.0 role (Leads-join known role led.1))

-- no cycle up to a place, and none by the edge there
pub acyclic_more : (edges : List (ℕ × ℕ)) (i : ℕ) (edge : ℕ × ℕ) → slice_get edges i ≡ Some edge → AreAcyclic (take i edges)
    → (Leads (take i edges) edge.1 edge.0 → ⊥)
    → AreAcyclic (take (i + 1) edges)
acyclic_more edges i edge e before none place other at =
    by_place (get_last_cases (take i edges) edge other place (subst (λ t. slice_get t place ≡ Some other) (take_one_more edges i edge e) at))
  where
    within : i < length edges
    within = (get_within edges i edge e).0

    long : length (take i edges) ≡ i
    long = length_taken edges i (omega (arith, within))

    same_front : place ≤ i → take place (take (i + 1) edges) ≡ take place edges
    same_front l = take_taken edges place (i + 1) (omega arith)

    by_place : (slice_get (take i edges) place ≡ Some other) ⊎ ((place ≡ length (take i edges)) × (edge ≡ other))
        → Leads (take place (take (i + 1) edges)) other.1 other.0 → ⊥
    by_place (inl h) l =
        let r = get_taken edges i place other h in
        before place other h (subst (λ t. Leads t other.1 other.0) (same_front (omega (arith, r.0)) ∙ sym (take_taken edges place i (omega (arith, r.0)))) l)
    by_place (inr h) l =
        let at_i : place ≡ i = h.0 ∙ long in
        none (subst (λ (d : ℕ × ℕ). Leads (take i edges) d.1 d.0) (sym h.1)
        (subst (λ p. Leads (take p edges) other.1 other.0) at_i (subst (λ t. Leads t other.1 other.0) (same_front (omega arith)) l)))

-- the seniors that the table has are those that are computed
pub above_seniors : (order : Graph) (role : ℕ) (set : List ℕ) → AreEdges (length order.names) order.edges → Rises set
    → ((senior : ℕ) → IsIn set senior ↔ Leads order.edges senior role)
    → set ≡ seniors_of order role
above_seniors order role set ends rises each =
    same_set set (seniors_of order role) rises (rises_seniors order role)
    (λ q. same_test (has_role set q) (has_role (seniors_of order role) q) (λ h. (in_seniors order role ends q).1 ((each q).0 h))
    (λ h. (each q).1 ((in_seniors order role ends q).0 h)))

pub below_juniors : (order : Graph) (role : ℕ) (set : List ℕ) → AreEdges (length order.names) order.edges → Rises set
    → ((junior : ℕ) → IsIn set junior ↔ Leads order.edges role junior)
    → set ≡ juniors_of order role
below_juniors order role set ends rises each =
    same_set set (juniors_of order role) rises (rises_juniors order role)
    (λ q. same_test (has_role set q) (has_role (juniors_of order role) q) (λ h. (in_juniors order role ends q).1 ((each q).0 h))
    (λ h. (each q).1 ((in_juniors order role ends q).0 h)))

-- what the turned order owes
pub turned_ends : (count : ℕ) (edges : List (ℕ × ℕ)) → AreEdges count edges → AreEdges count (map turned edges)
turned_ends count [] h = tt
turned_ends count (edge ∷ edges) h = ((h.0.1, h.0.0), turned_ends count edges h.1)

take-map : (edges : List (ℕ × ℕ)) (n : ℕ) → take n (map turned edges) ≡ map turned (take n edges)
take-map edges zero = refl
take-map [] (suc n) = refl
take-map (edge ∷ edges) (suc n) = ap (λ t. turned edge ∷ t) (take-map edges n)

pub turned_acyclic : (edges : List (ℕ × ℕ)) → AreAcyclic edges → AreAcyclic (map turned edges)
turned_acyclic edges h place edge at l =
    let old = get_mapped turned edges place edge at in
    let same : edge ≡ turned old.0 = old.2 in
    let back : Leads (map turned (take place edges)) edge.1 edge.0 = subst (λ t. Leads t edge.1 edge.0) (take-map edges place) l in
    let back' : Leads (map turned (take place edges)) old.0.0 old.0.1 = subst (λ (e : ℕ × ℕ). Leads (map turned (take place edges)) e.1 e.0) same back in
    h place old.0 old.1 (leads_back (take place edges) old.0.0 old.0.1 back')

-- ---- the roles below a number that a fact holds of

-- with the next number, of which it holds
pub one_more : (P : ℕ → Type 0) (at : ℕ) (set : List ℕ) → ((q : ℕ) → IsIn set q ↔ ((q < at) × P q)) → P at → (q : ℕ)
    → IsIn (with_role set at) q ↔ ((q < at + 1) × P q)
one_more P at set each holds q = (
  λ h. to (or_cases (eqb at q) (has_role set q) (sym (has_role-with_role set at q) ∙ h)),
  λ h. has_role-with_role set at q ∙ from (eqb at q) refl h,
)
  where
    to : (eqb at q ≡ true) ⊎ (has_role set q ≡ true) → (q < at + 1) × P q
    to (inl e) = let same : at ≡ q = eqb-true at q e in (omega arith, subst P same holds)
    to (inr h) = let r = (each q).0 h in (omega (arith, r.0), r.1)

    from : (t : Bool) → eqb at q ≡ t → (q < at + 1) × P q → (eqb at q || has_role set q) ≡ true
    from true e h = rw e refl
    from false e h = let less : q < at = grind (arith, nat_tests) in or_right (eqb at q) (has_role set q) ((each q).1 (less, h.1))

-- with the next number, of which it doesn't hold
pub no_more : (P : ℕ → Type 0) (at : ℕ) (set : List ℕ) → ((q : ℕ) → IsIn set q ↔ ((q < at) × P q)) → (P at → ⊥) → (q : ℕ)
    → IsIn set q ↔ ((q < at + 1) × P q)
no_more P at set each apart q = (λ h. let r = (each q).0 h in (omega (arith, r.0), r.1), λ h. from (eqb at q) refl h)
  where
    from : (t : Bool) → eqb at q ≡ t → (q < at + 1) × P q → has_role set q ≡ true
    from true e h = let same : at ≡ q = eqb-true at q e in absurd (apart (subst P (sym same) h.1))
    from false e h = let less : q < at = grind (arith, nat_tests) in (each q).1 (less, h.1)

-- where it holds of lesser numbers alone
pub all_of_them : (P : ℕ → Type 0) (at : ℕ) (set : List ℕ) → ((q : ℕ) → P q → q < at) → ((q : ℕ) → IsIn set q ↔ ((q < at) × P q)) → (q : ℕ)
    → IsIn set q ↔ P q
all_of_them P at set below each q = (λ h. ((each q).0 h).1, λ h. (each q).1 (below q h, h))

-- ---- the table of the roles below each role

-- a set that stands at a place has the role where the place has
pub has_at_place : (sets : List (List ℕ)) (place role : ℕ) (set : List ℕ) → slice_get sets place ≡ Some set → HasAt sets place role
    → IsIn set role
has_at_place sets place role set at has = let same : has.set ≡ set = same_some has.set set (sym has.at ∙ at) in subst (λ s. IsIn s role) same has.there

-- the sets of one role more
pub turned_more : (sets : List (List ℕ)) (count : ℕ) (turned : List (List ℕ)) (set : List ℕ) → AreTurned sets count turned → Rises set
    → ((place : ℕ) → IsIn set place ↔ HasAt sets place count) → AreTurned sets (count + 1) (turned ++ set ∷ [])
turned_more sets count turned set all rises each = record {
  long = length_more turned set ∙ ap (λ n. n + 1) all.long;
  rise = each_append Rises turned (set ∷ []) all.rise (rises, tt);
  each = λ role other e place. by_place role other place (get_last_cases turned set other role e);
}
  where
    by_place : (role : ℕ) (other : List ℕ) (place : ℕ) → (slice_get turned role ≡ Some other) ⊎ ((role ≡ length turned) × (set ≡ other))
        → IsIn other place ↔ HasAt sets place role
    by_place role other place (inl e) = all.each role other e place
    by_place role other place (inr e) =
        let at : role ≡ count = e.0 ∙ all.long in
        subst (λ s. IsIn s place ↔ HasAt sets place role) e.1 (subst (λ r. IsIn set place ↔ HasAt sets place r) (sym at) (each place))

-- what is above each role in the turned order is what is below it
pub turned_table : (count : ℕ) (edges : List (ℕ × ℕ)) (above below : List (List ℕ)) → AreEdges count edges → AreAbove count edges above
    → AreTurned above count below
    → AreAbove count (map turned edges) below
turned_table count edges above below ends table turns = record {
  long = turns.long;
  rise = turns.rise;
  each = λ role set e place. (
    λ h. let has = (turns.each role set e place).0 h in leads_turned ((table.each place has.set has.at role).0 has.there),
    λ led. (turns.each role set e place).1 (has role set e place (leads_back edges place role led)),
  );
}
  where
    has : (role : ℕ) (set : List ℕ) → slice_get below role ≡ Some set → (place : ℕ) → Leads edges role place → HasAt above place role
    has role set e place led = from (leads_to_below led count ends)
      where
        from : (role ≡ place) ⊎ (place < count) → HasAt above place role
        from away =
            let within : place < length above = omega (arith, table.long, turns.long, get_below below role set e, below_count away) in
            let there = get_at above place [] within in
            record { set = get_or above place []; at = there; there = (table.each place (get_or above place []) there role).1 led }
          where
            below_count : (role ≡ place) ⊎ (place < count) → place < count
            below_count (inl s) = omega (arith, s, turns.long, get_below below role set e)
            below_count (inr l) = l

-- the table of an order is that of the order turned twice
pub table_turned_twice : (count : ℕ) (edges : List (ℕ × ℕ)) (above : List (List ℕ)) → AreAbove count edges above
    → AreAbove count (map turned (map turned edges)) above
table_turned_twice count edges above table = subst (λ e. AreAbove count e above) (sym (turned_twice edges)) table

-- the turned order is an order
pub turned_order : (names : List (List ℕ)) (edges : List (ℕ × ℕ)) → IsOrder names edges → IsOrder names (map turned edges)
turned_order names edges order = record {
  are_names = order.are_names;
  ends = turned_ends (length names) edges order.ends;
  acyclic = turned_acyclic edges order.acyclic;
}

-- what the turned order keeps
pub kept_turned : (names : List (List ℕ)) (edges : List (ℕ × ℕ)) (above below : List (List ℕ)) (by_name : List ℕ)
    → IsKept names edges above below by_name
    → IsKept names (map turned edges) below above by_name
kept_turned names edges above below by_name kept = record {
  order = turned_order names edges kept.order;
  seniors = kept.juniors;
  juniors = table_turned_twice (length names) edges above kept.seniors;
  table = kept.table;
}

-- what is above a role in the turned order is what is below it
pub below_role : (edges : List (ℕ × ℕ)) (count role : ℕ) (below : List (List ℕ)) (set : List ℕ) → AreAbove count (map turned edges) below
    → slice_get below role ≡ Some set
    → (junior : ℕ) → IsIn set junior ↔ Leads edges role junior
below_role edges count role below set table at junior = (
  λ h. leads_back edges junior role ((table.each role set at junior).0 h),
  λ led. (table.each role set at junior).1 (leads_turned led),
)

-- ---- the roles of a range

-- those between the ends, without each open end
pub in_range_of : (order : Graph) (range : Range) (above below between from_low roles : List ℕ) → AreEdges (length order.names) order.edges
    → range.low < length order.names
    → ((q : ℕ) → IsIn above q ↔ Leads order.edges q range.low) → ((q : ℕ) → IsIn below q ↔ Leads order.edges range.high q)
    → between ≡ common_roles above below
    → ((q : ℕ) → IsIn from_low q ↔ (IsIn between q × (range.low_open ≡ true → ¬ (q ≡ range.low))))
    → ((q : ℕ) → IsIn roles q ↔ (IsIn from_low q × (range.high_open ≡ true → ¬ (q ≡ range.high))))
    → (q : ℕ) → IsIn roles q ↔ IsInRange order range q
in_range_of order range above below between from_low roles ends low up down is_common low_cut high_cut q = (
  λ h.
      let high_part = (high_cut q).0 h in
      let low_part = (low_cut q).0 high_part.0 in
      let both = and_both (has_role above q) (has_role below q) (sym (in_common q) ∙ low_part.0) in
      record {
        is_role = below_count (leads_from_below ((up q).0 both.0) (length order.names) ends);
        above_low = (up q).0 both.0;
        below_high = (down q).0 both.1;
        low = low_part.1;
        high = high_part.1;
      },
  λ within.
      (high_cut q).1 (
        (low_cut q).1 (
          in_common q ∙ both_true (has_role above q) (has_role below q) ((up q).1 within.above_low)
              ((down q).1 within.below_high),
          within.low,
        ),
        within.high,
      ),
)
  where
    in_common : (q : ℕ) → has_role between q ≡ (has_role above q && has_role below q)
    in_common q = rw is_common (has_role-filter (has_role below) above q)

    below_count : (q ≡ range.low) ⊎ (q < length order.names) → q < length order.names
    below_count (inl e) = omega (arith, e, low)
    below_count (inr l) = l

-- a role is in the set but for an open end
pub cut_open : (set : List ℕ) (end role : ℕ) → IsIn (without_role set end) role ↔ (IsIn set role × (true ≡ true → ¬ (role ≡ end)))
cut_open set end role = (
  λ h.
      let both = and_both (has_role set role) (not (eqb role end)) (sym (has_role-filter (λ x. not (eqb x end)) set role) ∙ h) in
      (both.0, λ is_open e. not_true (eqb role end) both.1 (eq-eqb role end e)),
  λ h.
      let other : eqb role end ≡ false = not_false (eqb role end) (λ e. h.1 refl (eqb-true role end e)) in
      has_role-filter (λ x. not (eqb x end)) set role ∙ both_true (has_role set role) (not (eqb role end)) h.0 (rw other refl),
)
