-- What is aimed at: roles within whose seniors hits lie.
use Rattle.std.proofs.Common.{ℕ, ◌≡◌, ◌<◌, ◌≤◌, ◌+◌, ◌∙◌, ◌||◌, ◌&&◌, true, false, eqb, List}
use Rattle.std.proofs.Common.{[], ◌∷◌, ◌++◌, length, take, refl, sym, subst, arith, Some, None, inl, inr}
use Rattle.std.specs.Prelude.{◌⊎◌, ◌↔◌, slice_get}
use Rattle.std.proofs.lemmas.Bool.{eq-eqb, eqb-true}
use Rattle.list_words.specs.Lists.{Some_of}
use Rattle.list_words.proofs.TestLemmas.{or_cases, or_right, and_both, both_true}
use Rattle.list_words.proofs.GetLemmas.{take_one_more}
use Rattle.list_words.proofs.EachLemmas.{some_left, some_right, some_cases, some_weaker}
use Rattle.role_order.specs.Roles.{has_role, with_role, join_roles, common_roles, less_roles, IsIn, IsWithin, AreBelow}
use Rattle.role_order.specs.Graph.{Graph, AreEdges}
use Rattle.role_order.specs.Reach.{seniors_of, juniors_of}
use Rattle.role_order.proofs.SetLemmas.{has_role-join_roles, has_role-filter}
use Rattle.role_order.proofs.ReachLemmas.{in_seniors, in_juniors, leads_from_below, leads_to_below}
use Rattle.role_order.proofs.ClosureLemmas.{one_more}
use Rattle.arbac_laws.specs.Needs.{Need}
use Rattle.arbac_laws.specs.PreImages.{add_hit}
use Rattle.need_marks.specs.declared.marks.UserMark.{UserMark}
use Rattle.need_marks.specs.Marks.{AimsAt, IsUserMark}

-- all roles below one number more
pub one_role_more : (at : ℕ) (set : List ℕ) → ((q : ℕ) → IsIn set q ↔ (q < at)) → (q : ℕ) → IsIn (with_role set at) q ↔ (q < at + 1)
one_role_more at set each q =
    let more = one_more (λ _. Unit {0}) at set (λ r. (λ i. ((each r).0 i, tt), λ both. (each r).1 both.0)) tt q in
    (λ i. (more.0 i).0, λ less. more.1 (less, tt))

-- a set joined with what one item more gives
pub joined_more : {A : Type 0} (P : A → ℕ → Type 0) (xs : List A) (i : ℕ) (x : A) (old more : List ℕ) → slice_get xs i ≡ Some x
    → ((role : ℕ) → IsIn old role ↔ Some_of (λ y. P y role) (take i xs)) → ((role : ℕ) → IsIn more role ↔ P x role)
    → (role : ℕ) → IsIn (join_roles old more) role ↔ Some_of (λ y. P y role) (take (i + 1) xs)
joined_more {A} P xs i x old more at each own role = (to, from)
  where
    is : has_role (join_roles old more) role ≡ (has_role old role || has_role more role)
    is = has_role-join_roles old more role

    longer : take (i + 1) xs ≡ take i xs ++ x ∷ []
    longer = take_one_more xs i x at

    by_side : (IsIn old role) ⊎ (IsIn more role) → Some_of (λ y. P y role) (take i xs ++ x ∷ [])
    by_side (inl there) = some_left (λ y. P y role) (take i xs) (x ∷ []) ((each role).0 there)
    by_side (inr there) = some_right (λ y. P y role) (take i xs) (x ∷ []) (inl ((own role).0 there))

    to : IsIn (join_roles old more) role → Some_of (λ y. P y role) (take (i + 1) xs)
    to there = subst (λ (ys : List A). Some_of (λ y. P y role) ys) (sym longer) (by_side (or_cases (has_role old role) (has_role more role) (sym is ∙ there)))

    back : Some_of (λ y. P y role) (take i xs) ⊎ Some_of (λ y. P y role) (x ∷ []) → (has_role old role || has_role more role) ≡ true
    back (inl some) = rw ((each role).1 some) refl
    back (inr (inl p)) = or_right (has_role old role) (has_role more role) ((own role).1 p)
    back (inr (inr none)) = absurd none

    from : Some_of (λ y. P y role) (take (i + 1) xs) → IsIn (join_roles old more) role
    from some = is ∙ back (some_cases (λ y. P y role) (take i xs) (x ∷ []) (subst (λ (ys : List A). Some_of (λ y. P y role) ys) longer some))

-- a role is below another just where that one is above it
junior_senior : (order : Graph) → AreEdges (length order.names) order.edges → (s r : ℕ) → IsIn (juniors_of order s) r ↔ IsIn (seniors_of order r) s
junior_senior order ends s r = (
  λ i. (in_seniors order r ends s).1 ((in_juniors order s ends r).0 i),
  λ i. (in_juniors order s ends r).1 ((in_seniors order r ends s).0 i),
)

-- no number past the roles is above a role
too_great : (order : Graph) → AreEdges (length order.names) order.edges → (s r : ℕ) → length order.names ≤ s → r < length order.names
    → IsIn (seniors_of order r) s → ⊥
too_great order ends s r past few i = by_side (leads_from_below ((in_seniors order r ends s).0 i) (length order.names) ends)
  where
    by_side : (s ≡ r) ⊎ (s < length order.names) → ⊥
    by_side (inl e) = omega (arith, e, past, few)
    by_side (inr l) = omega (arith, l, past)

-- the roles below a role are roles
pub juniors_below : (order : Graph) → AreEdges (length order.names) order.edges → (s : ℕ) → s < length order.names
    → AreBelow (length order.names) (juniors_of order s)
juniors_below order ends s few r i = by_side (leads_to_below ((in_juniors order s ends r).0 i) (length order.names) ends)
  where
    by_side : (s ≡ r) ⊎ (r < length order.names) → r < length order.names
    by_side (inl e) = omega (arith, e, few)
    by_side (inr l) = l

-- one role more is within
within_more : (x : ℕ) (xs ys : List ℕ) → IsWithin (x ∷ xs) ys ↔ (IsIn ys x × IsWithin xs ys)
within_more x xs ys = (λ w. (w x (rw (eq-eqb x x refl) refl), λ r i. w r (or_right (eqb x r) (has_role xs r) i)), back)
  where
    back : IsIn ys x × IsWithin xs ys → IsWithin (x ∷ xs) ys
    back both r i = by_side (or_cases (eqb x r) (has_role xs r) i)
      where
        by_side : (eqb x r ≡ true) ⊎ (has_role xs r ≡ true) → IsIn ys r
        by_side (inl e) = subst (λ q. IsIn ys q) (eqb-true x r e) both.0
        by_side (inr k) = both.1 r k

-- the roles in common, where one role more is asked for
pub common_more : (order : Graph) → AreEdges (length order.names) order.edges → (common left : List ℕ) (role : ℕ) (q : ℕ)
    → (IsIn (common_roles common (juniors_of order role)) q × IsWithin left (seniors_of order q))
    ↔ (IsIn common q × IsWithin (role ∷ left) (seniors_of order q))
common_more order ends common left role q = (to, from)
  where
    is : has_role (common_roles common (juniors_of order role)) q ≡ (has_role common q && has_role (juniors_of order role) q)
    is = has_role-filter (has_role (juniors_of order role)) common q

    to : IsIn (common_roles common (juniors_of order role)) q × IsWithin left (seniors_of order q)
        → IsIn common q × IsWithin (role ∷ left) (seniors_of order q)
    to h =
        let both = and_both (has_role common q) (has_role (juniors_of order role) q) (sym is ∙ h.0) in
        (both.0, (within_more role left (seniors_of order q)).1 ((junior_senior order ends role q).0 both.1, h.1))

    from : IsIn common q × IsWithin (role ∷ left) (seniors_of order q)
        → IsIn (common_roles common (juniors_of order role)) q × IsWithin left (seniors_of order q)
    from h =
        let both = (within_more role left (seniors_of order q)).0 h.1 in (
          is ∙ both_true (has_role common q) (has_role (juniors_of order role) q) h.0 ((junior_senior order ends role q).1 both.0),
          both.1,
        )

-- where one of the roles that are left is none of the order, none is in common
pub none_common : (order : Graph) → AreEdges (length order.names) order.edges → (common left : List ℕ) (role : ℕ) → length order.names ≤ role
    → AreBelow (length order.names) common → (q : ℕ) → IsIn common q × IsWithin (role ∷ left) (seniors_of order q) → ⊥
none_common order ends common left role past below q h =
    too_great order ends role q past (below q h.0) ((within_more role left (seniors_of order q)).0 h.1).0

-- where no role is left, those in common are what was sought
pub none_left : (common ys : List ℕ) (q : ℕ) → IsIn common q ↔ (IsIn common q × IsWithin [] ys)
none_left common ys q = (λ i. (i, λ r k. absurd (let never : false ≡ true = k in cc)), λ h. h.0)

-- a set without a first role has none
pub no_first : (xs : List ℕ) → slice_get xs 0 ≡ None → xs ≡ []
no_first [] e = refl
no_first (x ∷ xs) e = cc

-- what the roles below the first one of a hit are, of which each other one is asked
pub first_aims : (order : Graph) → AreEdges (length order.names) order.edges → (hit : List ℕ) (first : ℕ) → IsIn hit first → first < length order.names
    → (q : ℕ) → (IsIn (juniors_of order first) q × IsWithin hit (seniors_of order q)) ↔ ((q < length order.names) × IsWithin hit (seniors_of order q))
first_aims order ends hit first there few q = (
  λ h. (juniors_below order ends first few q h.0, h.1),
  λ h. ((junior_senior order ends first q).1 (h.1 first there), h.1),
)

-- a hit with a role that is none of the order is within no role's seniors
pub no_aims : (order : Graph) → AreEdges (length order.names) order.edges → (hit : List ℕ) (first : ℕ) → IsIn hit first → length order.names ≤ first
    → (q : ℕ) → (q < length order.names) × IsWithin hit (seniors_of order q) → ⊥
no_aims order ends hit first there past q h = too_great order ends first q past h.0 (h.1 first there)

-- a role is aimed at by some hit
pub aims_some : (order : Graph) (need : Need) (q : ℕ)
    → Some_of (λ hit. (q < length order.names) × IsWithin (less_roles hit need.lacks) (seniors_of order q)) need.hits ↔ AimsAt order need q
aims_some order need q = (
  to need.hits,
  λ aim. some_weaker (λ hit. IsWithin (less_roles hit need.lacks) (seniors_of order q))
      (λ hit. (q < length order.names) × IsWithin (less_roles hit need.lacks) (seniors_of order q)) (λ hit w. (aim.0, w)) need.hits aim.1,
)
  where
    to : (hits : List (List ℕ)) → Some_of (λ hit. (q < length order.names) × IsWithin (less_roles hit need.lacks) (seniors_of order q)) hits
        → (q < length order.names) × Some_of (λ hit. IsWithin (less_roles hit need.lacks) (seniors_of order q)) hits
    to [] some = absurd some
    to (hit ∷ hits) (inl both) = (both.0, inl both.1)
    to (hit ∷ hits) (inr some) = let rest = to hits some in (rest.0, inr rest.1)

-- the mark of a user requirement with one more hit
pub mark_more : (order : Graph) (need : Need) (mark : UserMark) (hit more : List ℕ) → IsUserMark order need mark
    → ((q : ℕ) → IsIn more q ↔ ((q < length order.names) × IsWithin (less_roles hit mark.lacks) (seniors_of order q)))
    → IsUserMark order (add_hit hit need) (record { aims = join_roles mark.aims more; lacks = mark.lacks })
mark_more order need mark hit more is own = record { aims = aims; lacks = is.lacks }
  where
    by_side : (q : ℕ) → (has_role mark.aims q ≡ true) ⊎ (has_role more q ≡ true) → AimsAt order (add_hit hit need) q
    by_side q (inl i) = let aim = (is.aims q).0 i in (aim.0, inr aim.1)
    by_side q (inr i) = let aim = (own q).0 i in (aim.0, inl (subst (λ lacks. IsWithin (less_roles hit lacks) (seniors_of order q)) is.lacks aim.1))

    back : (q : ℕ) → AimsAt order (add_hit hit need) q → (has_role mark.aims q || has_role more q) ≡ true
    back q (few, inl w) = or_right (has_role mark.aims q) (has_role more q)
        ((own q).1 (few, subst (λ lacks. IsWithin (less_roles hit lacks) (seniors_of order q)) (sym is.lacks) w))
    back q (few, inr some) = rw ((is.aims q).1 (few, some)) refl

    aims : (q : ℕ) → IsIn (join_roles mark.aims more) q ↔ AimsAt order (add_hit hit need) q
    aims q = (
      λ i. by_side q (or_cases (has_role mark.aims q) (has_role more q) (sym (has_role-join_roles mark.aims more q) ∙ i)),
      λ aim. has_role-join_roles mark.aims more q ∙ back q aim,
    )

-- no roles lie within any set
pub in_nothing : (ys : List ℕ) → IsWithin [] ys
in_nothing ys role i = absurd (let never : false ≡ true = i in cc)
