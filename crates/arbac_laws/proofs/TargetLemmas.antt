-- What one user's set meets before and after it is given a role or loses one.
use Rattle.std.proofs.Common.{ℕ, ◌≡◌, List, [], ◌∷◌, ◌++◌, map, Some, sym, ◌∙◌, ap, Bool, true, false, not, ◌||◌, ◌&&◌, cond}
use Rattle.std.proofs.Common.{subst, refl, inl, inr}
use Rattle.std.specs.Prelude.{◌⊎◌, filter}
use Rattle.role_order.specs.Graph.{Graph, Leads}
use Rattle.list_words.specs.Lists.{Some_of}
use Rattle.role_order.specs.Reach.{seniors_of}
use Rattle.role_order.specs.Roles.{AreApart, HaveCommon, IsIn, IsOut, has_role, join_roles, with_role, without_role}
use Rattle.arbac_policy.specs.Rules.{Rules}
use Rattle.arbac_policy.specs.Steps.{Blocks}
use Rattle.arbac_policy.specs.Truth.{IsMember}
use Rattle.arbac_laws.specs.Needs.{HasHits, MeetsNeed, Need}
use Rattle.arbac_laws.specs.PreImages.{barred, before_assign, before_weak, has_alone, is_barred, is_empty}
use Rattle.list_words.proofs.TestLemmas.{or_none}
use Rattle.list_words.proofs.GetLemmas.{some_cond}
use Rattle.list_words.proofs.EachLemmas.{each_append, each_left, each_right}
use Rattle.arbac_laws.proofs.RoleLemmas.{apart_join, cases_in, in_join_left, in_join_right, in_with, in_with_same, in_without, with_cases, without_in}
use Rattle.arbac_laws.proofs.ConjunctLemmas.{AreSeniors}

-- pairs

pub free_of_pairs : (order : Graph) → AreSeniors order → (set : List ℕ) (role : ℕ) (pairs : List (ℕ × ℕ))
    → is_barred order role pairs ≡ false → AreApart (barred order role pairs) set → Some_of (Blocks order.edges set role) pairs → ⊥
free_of_pairs order same set role [] e apart h = h
free_of_pairs order same set role (pair ∷ pairs) e apart (inr h) =
    free_of_pairs order same set role pairs (or_none (has_role (seniors_of order pair.0) role && has_role (seniors_of order pair.1) role)
    (is_barred order role pairs) e).1
    (λ q k held. apart q (in_join_right (cond (has_role (seniors_of order pair.0) role) (seniors_of order pair.1) [])
    (join_roles (cond (has_role (seniors_of order pair.1) role) (seniors_of order pair.0) []) (barred order role pairs)) q
    (in_join_right (cond (has_role (seniors_of order pair.1) role) (seniors_of order pair.0) []) (barred order role pairs) q k)) held) h
free_of_pairs order same set role (pair ∷ pairs) e apart (inl h) =
    by_tests (has_role (seniors_of order pair.0) role) (has_role (seniors_of order pair.1) role) refl refl
    (or_none (has_role (seniors_of order pair.0) role && has_role (seniors_of order pair.1) role) (is_barred order role pairs) e).0
    (λ q k held. apart q (in_join_left (cond (has_role (seniors_of order pair.0) role) (seniors_of order pair.1) [])
    (join_roles (cond (has_role (seniors_of order pair.1) role) (seniors_of order pair.0) []) (barred order role pairs)) q k) held)
    (λ q k held. apart q (in_join_right (cond (has_role (seniors_of order pair.0) role) (seniors_of order pair.1) [])
    (join_roles (cond (has_role (seniors_of order pair.1) role) (seniors_of order pair.0) []) (barred order role pairs)) q
    (in_join_left (cond (has_role (seniors_of order pair.1) role) (seniors_of order pair.0) []) (barred order role pairs) q k)) held)
    h.above
  where
    -- a member of the other role once he has the role, which isn't above it, was one before
    was : (x : ℕ) → has_role (seniors_of order x) role ≡ false → IsMember order.edges (with_role set role) x → HaveCommon (seniors_of order x) set
    was x none m = by_case (with_cases set role m.0 m.1)
      where
        by_case : (role ≡ m.0) ⊎ IsIn set m.0 → HaveCommon (seniors_of order x) set
        by_case (inr held) = (m.0, (same x m.0).1 m.2, held)
        by_case (inl e) = let top : IsIn (seniors_of order x) m.0 = (same x m.0).1 m.2 in
            let top' : IsIn (seniors_of order x) role = ap (has_role (seniors_of order x)) e ∙ top in cc

    by_tests : (a b : Bool) → has_role (seniors_of order pair.0) role ≡ a → has_role (seniors_of order pair.1) role ≡ b → (a && b) ≡ false
        → AreApart (cond a (seniors_of order pair.1) []) set → AreApart (cond b (seniors_of order pair.0) []) set → Leads order.edges role pair.0
        ⊎ Leads order.edges role pair.1 → ⊥
    by_tests true true a b e f g l = cc
    by_tests true false a b e f g l = let c = was pair.1 b h.second in f c.0 c.1 c.2
    by_tests false true a b e f g l = let c = was pair.0 a h.first in g c.0 c.1 c.2
    by_tests false false a b e f g (inl l) = let top = (same pair.0 role).1 l in cc
    by_tests false false a b e f g (inr l) = let top = (same pair.1 role).1 l in cc

pub free_pairs : (order : Graph) → AreSeniors order → (set : List ℕ) (role : ℕ) (pairs : List (ℕ × ℕ))
    → (Some_of (Blocks order.edges set role) pairs → ⊥)
    → (is_barred order role pairs ≡ false) × AreApart (barred order role pairs) set
free_pairs order same set role [] free = (refl, λ q k held. cc)
free_pairs order same set role (pair ∷ pairs) free =
    let rest = free_pairs order same set role pairs (λ h. free (inr h)) in
    by_tests (has_role (seniors_of order pair.0) role) (has_role (seniors_of order pair.1) role) refl refl rest.0 rest.1
  where
    first : Bool → List ℕ
    first a = cond a (seniors_of order pair.1) []

    itself : (x : ℕ) → IsIn (seniors_of order x) role → IsMember order.edges (with_role set role) x
    itself x top = (role, in_with_same set role, (same x role).0 top)

    held_too : (x q : ℕ) → IsIn (seniors_of order x) q → IsIn set q → IsMember order.edges (with_role set role) x
    held_too x q top held = (q, in_with set role q held, (same x q).0 top)

    by_tests : (a b : Bool) → has_role (seniors_of order pair.0) role ≡ a → has_role (seniors_of order pair.1) role ≡ b
        → is_barred order role pairs ≡ false → AreApart (barred order role pairs) set
        → (((a && b) || is_barred order role pairs) ≡ false)
        × AreApart (join_roles (cond a (seniors_of order pair.1) []) (join_roles (cond b (seniors_of order pair.0) []) (barred order role pairs))) set
    by_tests true true a b none apart =
        absurd (free (inl (record { above = inl ((same pair.0 role).0 a); first = itself pair.0 a; second = itself pair.1 b })))
    by_tests true false a b none apart = (
      none,
      apart_join (seniors_of order pair.1) (barred order role pairs) set
          (λ q k held. free (inl (record { above = inl ((same pair.0 role).0 a); first = itself pair.0 a; second = held_too pair.1 q k held }))) apart,
    )
    by_tests false true a b none apart = (
      none,
      apart_join (seniors_of order pair.0) (barred order role pairs) set
          (λ q k held. free (inl (record { above = inr ((same pair.1 role).0 b); first = held_too pair.0 q k held; second = itself pair.1 b }))) apart,
    )
    by_tests false false a b none apart = (none, apart)

-- giving

pub hits_given : (set : List ℕ) (role : ℕ) (hits : List (List ℕ)) → HasHits set (filter (λ hit. not (has_role hit role)) hits)
    → HasHits (with_role set role) hits
hits_given set role [] h = tt
hits_given set role (hit ∷ hits) h = by_test (has_role hit role) refl h (hits_given set role hits)
  where
    by_test : (t : Bool) → has_role hit role ≡ t
        → HasHits set (cond (not t) (hit ∷ filter (λ hit. not (has_role hit role)) hits) (filter (λ hit. not (has_role hit role)) hits))
        → (HasHits set (filter (λ hit. not (has_role hit role)) hits) → HasHits (with_role set role) hits) → HaveCommon hit (with_role set role)
        × HasHits (with_role set role) hits
    by_test true e h rest = ((role, e, in_with_same set role), rest h)
    by_test false e h rest = ((h.0.0, h.0.1, in_with set role h.0.0 h.0.2), rest h.1)

pub hits_ungiven : (set : List ℕ) (role : ℕ) (hits : List (List ℕ)) → HasHits (with_role set role) hits
    → HasHits set (filter (λ hit. not (has_role hit role)) hits)
hits_ungiven set role [] h = tt
hits_ungiven set role (hit ∷ hits) h = by_test (has_role hit role) refl (hits_ungiven set role hits h.1)
  where
    by_test : (t : Bool) → has_role hit role ≡ t → HasHits set (filter (λ hit. not (has_role hit role)) hits)
        → HasHits set (cond (not t) (hit ∷ filter (λ hit. not (has_role hit role)) hits) (filter (λ hit. not (has_role hit role)) hits))
    by_test true e rest = rest
    by_test false e rest = (by_case (with_cases set role h.0.0 h.0.2), rest)
      where
        by_case : (role ≡ h.0.0) ⊎ IsIn set h.0.0 → HaveCommon hit set
        by_case (inr held) = (h.0.0, h.0.1, held)
        by_case (inl same) = let there : has_role hit role ≡ true = ap (has_role hit) same ∙ h.0.1 in cc

pub given : (rules : Rules) → AreSeniors rules.order → (conjunct need before : Need) (role : ℕ) (set : List ℕ)
    → before_assign rules conjunct role need ≡ Some before → MeetsNeed before set
    → MeetsNeed need (with_role set role) × MeetsNeed conjunct set × (Some_of (Blocks rules.order.edges set role) rules.exclusive → ⊥)
given rules same conjunct need before role set e m0 = (
  record {
    hits = hits_given set role need.hits (each_left (λ hit. HaveCommon hit set) (filter (λ hit. not (has_role hit role)) need.hits) conjunct.hits m.hits);
    lacks = λ q k held. by_case q k (with_cases set role q held);
  },
  record {
    hits = each_right (λ hit. HaveCommon hit set) (filter (λ hit. not (has_role hit role)) need.hits) conjunct.hits m.hits;
    lacks = λ q k held. m.lacks q (in_join_right need.lacks more q (in_join_left conjunct.lacks (barred rules.order role rules.exclusive) q k)) held;
  },
  free_of_pairs rules.order same set role rules.exclusive tests.1
      (λ q k held. m.lacks q (in_join_right need.lacks more q (in_join_right conjunct.lacks (barred rules.order role rules.exclusive) q k)) held),
)
  where
    more : List ℕ
    more = join_roles conjunct.lacks (barred rules.order role rules.exclusive)

    made : Need
    made = record { hits = filter (λ hit. not (has_role hit role)) need.hits ++ conjunct.hits; lacks = join_roles need.lacks more }

    parts : ((has_role need.lacks role || is_barred rules.order role rules.exclusive) ≡ false) × (made ≡ before)
    parts = some_cond (has_role need.lacks role || is_barred rules.order role rules.exclusive) made before e

    m : MeetsNeed made set
    m = subst (λ n. MeetsNeed n set) (sym parts.1) m0

    tests : (has_role need.lacks role ≡ false) × (is_barred rules.order role rules.exclusive ≡ false)
    tests = or_none (has_role need.lacks role) (is_barred rules.order role rules.exclusive) parts.0

    by_case : (q : ℕ) → IsIn need.lacks q → (role ≡ q) ⊎ IsIn set q → ⊥
    by_case q k (inr held) = m.lacks q (in_join_left need.lacks more q k) held
    by_case q k (inl e) = let there : has_role need.lacks role ≡ true = ap (has_role need.lacks) e ∙ k in let none = tests.0 in cc

pub before_given : (rules : Rules) → AreSeniors rules.order → (conjunct need : Need) (role : ℕ) (set : List ℕ)
    → MeetsNeed need (with_role set role) → MeetsNeed conjunct set
    → (Some_of (Blocks rules.order.edges set role) rules.exclusive → ⊥) → (before : Need) × (before_assign rules conjunct role need ≡ Some before)
    × MeetsNeed before set
before_given rules same conjunct need role set m c free = (
  made,
  rw (not_lacked, pairs.0) refl,
  record {
    hits = each_append (λ hit. HaveCommon hit set) (filter (λ hit. not (has_role hit role)) need.hits) conjunct.hits
        (hits_ungiven set role need.hits m.hits) c.hits;
    lacks = apart_join need.lacks more set (λ q k held. m.lacks q k (in_with set role q held))
        (apart_join conjunct.lacks (barred rules.order role rules.exclusive) set c.lacks pairs.1);
  },
)
  where
    more : List ℕ
    more = join_roles conjunct.lacks (barred rules.order role rules.exclusive)

    made : Need
    made = record { hits = filter (λ hit. not (has_role hit role)) need.hits ++ conjunct.hits; lacks = join_roles need.lacks more }

    pairs : (is_barred rules.order role rules.exclusive ≡ false) × AreApart (barred rules.order role rules.exclusive) set
    pairs = free_pairs rules.order same set role rules.exclusive free

    not_lacked : has_role need.lacks role ≡ false
    not_lacked = by_case (cases_in need.lacks role)
      where
        by_case : IsIn need.lacks role ⊎ IsOut need.lacks role → has_role need.lacks role ≡ false
        by_case (inl k) = absurd (m.lacks role k (in_with_same set role))
        by_case (inr n) = n

-- a role that was held, or that no hit has, makes no difference

pub hits_kept : (set : List ℕ) (role : ℕ) (hits : List (List ℕ)) → IsIn set role ⊎ (Some_of (λ hit. IsIn hit role) hits → ⊥)
    → HasHits (with_role set role) hits → HasHits set hits
hits_kept set role [] why h = tt
hits_kept set role (hit ∷ hits) why h = (by_case (with_cases set role h.0.0 h.0.2) why, hits_kept set role hits (rest why) h.1)
  where
    rest : IsIn set role ⊎ (Some_of (λ hit. IsIn hit role) (hit ∷ hits) → ⊥) → IsIn set role ⊎ (Some_of (λ hit. IsIn hit role) hits → ⊥)
    rest (inl held) = inl held
    rest (inr none) = inr (λ k. none (inr k))

    by_case : (role ≡ h.0.0) ⊎ IsIn set h.0.0 → IsIn set role ⊎ (Some_of (λ hit. IsIn hit role) (hit ∷ hits) → ⊥) → HaveCommon hit set
    by_case (inr held) why = (h.0.0, h.0.1, held)
    by_case (inl same) (inl held) = (role, ap (has_role hit) same ∙ h.0.1, held)
    by_case (inl same) (inr none) = absurd (none (inl (ap (has_role hit) same ∙ h.0.1)))

pub given_kept : (need : Need) (role : ℕ) (set : List ℕ) → IsIn set role ⊎ (Some_of (λ hit. IsIn hit role) need.hits → ⊥)
    → MeetsNeed need (with_role set role) → MeetsNeed need set
given_kept need role set why m = record { hits = hits_kept set role need.hits why m.hits; lacks = λ q k held. m.lacks q k (in_with set role q held) }

-- taking

pub hits_taken : (set : List ℕ) (role : ℕ) (hits : List (List ℕ)) → HasHits set (map (λ hit. without_role hit role) hits)
    → HasHits (without_role set role) hits
hits_taken set role [] h = tt
hits_taken set role (hit ∷ hits) h =
    let r = without_in hit role h.0.0 h.0.1 in
    ((h.0.0, r.0, in_without set role h.0.0 h.0.2 r.1), hits_taken set role hits h.1)

pub hits_untaken : (set : List ℕ) (role : ℕ) (hits : List (List ℕ)) → HasHits (without_role set role) hits
    → HasHits set (map (λ hit. without_role hit role) hits) × (has_alone role hits ≡ false)
hits_untaken set role [] h = (tt, refl)
hits_untaken set role (hit ∷ hits) h =
    let r = without_in set role h.0.0 h.0.2 in
    let there : IsIn (without_role hit role) h.0.0 = in_without hit role h.0.0 h.0.1 r.1 in
    let rest = hits_untaken set role hits h.1 in
    (((h.0.0, there, r.0), rest.0), rw (filled (without_role hit role) h.0.0 there) rest.1)
  where
    filled : (xs : List ℕ) (q : ℕ) → IsIn xs q → is_empty xs ≡ false
    filled [] q k = cc
    filled (x ∷ xs) q k = refl

pub taken : (need before : Need) (role : ℕ) (set : List ℕ) → before_weak role need ≡ Some before → MeetsNeed before set
    → MeetsNeed need (without_role set role)
taken need before role set e m0 = record {
  hits = hits_taken set role need.hits m.hits;
  lacks = λ q k held. let r = without_in set role q held in m.lacks q (in_without need.lacks role q k r.1) r.0;
}
  where
    made : Need
    made = record { hits = map (λ hit. without_role hit role) need.hits; lacks = without_role need.lacks role }

    m : MeetsNeed made set
    m = subst (λ n. MeetsNeed n set) (sym (some_cond (has_alone role need.hits) made before e).1) m0

pub before_taken : (need : Need) (role : ℕ) (set : List ℕ) → MeetsNeed need (without_role set role) → (before : Need)
    × (before_weak role need ≡ Some before) × MeetsNeed before set
before_taken need role set m =
    let r = hits_untaken set role need.hits m.hits in (
      record { hits = map (λ hit. without_role hit role) need.hits; lacks = without_role need.lacks role },
      rw r.1 refl,
      record { hits = r.0; lacks = λ q k held. let w = without_in need.lacks role q k in m.lacks q w.0 (in_without set role q held w.1) },
    )

pub taken_kept : (need : Need) (role : ℕ) (set : List ℕ) → IsOut need.lacks role → MeetsNeed need (without_role set role) → MeetsNeed need set
taken_kept need role set out m =
    record { hits = hits_more need.hits m.hits; lacks = λ q k held. m.lacks q k (in_without set role q held (λ e. differ q k e)) }
  where
    differ : (q : ℕ) → IsIn need.lacks q → q ≡ role → ⊥
    differ q k e = let there : has_role need.lacks role ≡ true = ap (has_role need.lacks) (sym e) ∙ k in cc

    hits_more : (hits : List (List ℕ)) → HasHits (without_role set role) hits → HasHits set hits
    hits_more [] h = tt
    hits_more (hit ∷ hits) h = ((h.0.0, h.0.1, (without_in set role h.0.0 h.0.2).0), hits_more hits h.1)
