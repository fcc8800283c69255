-- The rules that can matter are those that have a relevant role in their range.
use Rattle.std.proofs.Common.{ℕ, ◌≡◌, ◌<◌, ◌≤◌, ◌+◌, ◌∙◌, Bool, true, false, ◌||◌, eqb, List, [], ◌∷◌, ◌++◌, length, Some}
use Rattle.std.proofs.Common.{refl, sym, subst, arith, inl, inr}
use Rattle.std.specs.Prelude.{◌⊎◌, ◌↔◌, slice_get}
use Rattle.std.proofs.lemmas.Bool.{eqb-true, eq-eqb, false≢true}
use Rattle.list_words.specs.Lists.{Each, IsOneOf}
use Rattle.list_words.proofs.EachLemmas.{each_append, each_at, each_left, each_of, each_right}
use Rattle.list_words.proofs.GetLemmas.{get_below}
use Rattle.list_words.proofs.NumberLemmas.{compare}
use Rattle.list_words.proofs.TestLemmas.{or_cases, or_right}
use Rattle.role_order.specs.Graph.{AreEdges, Graph}
use Rattle.role_order.specs.Reach.{seniors_of}
use Rattle.role_order.specs.Roles.{IsIn, IsWithin, Rises, has_role}
use Rattle.arbac_policy.specs.Rules.{Rules}
use Rattle.arbac_policy.specs.Truth.{Term, term_of, any, has, lacks, both, either}
use Rattle.arbac_policy.specs.declared.rule.CanAssign.{CanAssign}
use Rattle.arbac_policy.specs.declared.rule.CanRevoke.{CanRevoke}
use Rattle.arbac_laws.specs.Conjuncts.{conjuncts, join_all, join_needs, join_with}
use Rattle.arbac_laws.specs.Needs.{Need}
use Rattle.arbac_laws.specs.Obligations.{Obligation, assigns, obligations, revokes}
use Rattle.arbac_laws.specs.Relevance.{HasNeed, IsClosedSlice, IsDerived, IsPart, IsRelevant, Slice as RoleSlice}
use Rattle.arbac_laws.proofs.ConjunctLemmas.{are_seniors}
use Rattle.arbac_laws.proofs.RelevanceLemmas.{derived_relevant}
use Rattle.arbac_laws.proofs.RoleLemmas.{in_join_left, in_join_right}
use Rattle.rule_prune.specs.Relevant.{AreAmong, AreLeast, AsksToAssign, AsksToRevoke, HaveAsked, RangeMeets, asked, bars, wants}
use Rattle.rule_prune.specs.Slicing.{ArePlacesWhere, IsSliceOf, NamesRule, with_roles}
use Rattle.rule_prune.specs.declared.answers.Slice.{Slice}
use Rattle.rule_prune.specs.declared.relevance.Relevance.{Relevance}
use Rattle.rule_prune.proofs.GainLemmas.{join_within}

-- a condition's conjuncts want and bar what the condition does

join_has : (slice : RoleSlice) (a b : Need) → HasNeed slice a → HasNeed slice b → HasNeed slice (join_needs a b)
join_has slice a b h k = record {
  hits = each_append (λ hit. IsWithin hit slice.wanted) a.hits b.hits h.hits k.hits;
  lacks = join_within a.lacks b.lacks slice.barred h.lacks k.lacks;
}

with_has : (slice : RoleSlice) (a : Need) (bs : List Need) → HasNeed slice a → Each (HasNeed slice) bs → Each (HasNeed slice) (join_with a bs)
with_has slice a [] h k = tt
with_has slice a (b ∷ bs) h k = (join_has slice a b h k.0, with_has slice a bs h k.1)

all_has : (slice : RoleSlice) (xs bs : List Need) → Each (HasNeed slice) xs → Each (HasNeed slice) bs → Each (HasNeed slice) (join_all xs bs)
all_has slice [] bs h k = tt
all_has slice (a ∷ xs) bs h k =
    each_append (HasNeed slice) (join_with a bs) (join_all xs bs) (with_has slice a bs h.0 k) (all_has slice xs bs h.1 k)

pub cond_needs : (order : Graph) (slice : RoleSlice) (cond : Term) → IsWithin (wants order cond) slice.wanted → IsWithin (bars order cond) slice.barred
    → Each (HasNeed slice) (conjuncts order cond)
cond_needs order slice any v w = (record { hits = tt; lacks = w }, tt)
cond_needs order slice (has role) v w = (record { hits = (v, tt); lacks = w }, tt)
cond_needs order slice (lacks role) v w = (record { hits = tt; lacks = w }, tt)
cond_needs order slice (both left right) v w =
    all_has slice (conjuncts order left) (conjuncts order right)
    (cond_needs order slice left (λ role h. v role (in_join_left (wants order left) (wants order right) role h))
    (λ role h. w role (in_join_left (bars order left) (bars order right) role h)))
    (cond_needs order slice right (λ role h. v role (in_join_right (wants order left) (wants order right) role h))
    (λ role h. w role (in_join_right (bars order left) (bars order right) role h)))
cond_needs order slice (either left right) v w =
    each_append (HasNeed slice) (conjuncts order left) (conjuncts order right)
    (cond_needs order slice left (λ role h. v role (in_join_left (wants order left) (wants order right) role h))
    (λ role h. w role (in_join_left (bars order left) (bars order right) role h)))
    (cond_needs order slice right (λ role h. v role (in_join_right (wants order left) (wants order right) role h))
    (λ role h. w role (in_join_right (bars order left) (bars order right) role h)))

-- each condition has a conjunct
a_conjunct : (order : Graph) (cond : Term) → (x : Need) × (xs : List Need) × (conjuncts order cond ≡ x ∷ xs)
a_conjunct order any = (record { hits = []; lacks = [] }, [], refl)
a_conjunct order (has role) = (record { hits = seniors_of order role ∷ []; lacks = [] }, [], refl)
a_conjunct order (lacks role) = (record { hits = []; lacks = seniors_of order role }, [], refl)
a_conjunct order (both left right) =
    let l = a_conjunct order left in
    let r = a_conjunct order right in
    (join_needs l.0 r.0, join_with l.0 r.1 ++ join_all l.1 (r.0 ∷ r.1), rw (l.2, r.2) refl)
a_conjunct order (either left right) =
    let l = a_conjunct order left in
    (l.0, l.1 ++ conjuncts order right, rw l.2 refl)

first_has : (slice : RoleSlice) (a b : Need) → HasNeed slice (join_needs a b) → HasNeed slice a
first_has slice a b h = record {
  hits = each_left (λ hit. IsWithin hit slice.wanted) a.hits b.hits h.hits;
  lacks = λ role i. h.lacks role (in_join_left a.lacks b.lacks role i);
}

second_has : (slice : RoleSlice) (a b : Need) → HasNeed slice (join_needs a b) → HasNeed slice b
second_has slice a b h = record {
  hits = each_right (λ hit. IsWithin hit slice.wanted) a.hits b.hits h.hits;
  lacks = λ role i. h.lacks role (in_join_right a.lacks b.lacks role i);
}

seconds_have : (slice : RoleSlice) (a : Need) (bs : List Need) → Each (HasNeed slice) (join_with a bs) → Each (HasNeed slice) bs
seconds_have slice a [] h = tt
seconds_have slice a (b ∷ bs) h = (second_has slice a b h.0, seconds_have slice a bs h.1)

lefts_have : (slice : RoleSlice) (xs : List Need) (b : Need) (bs : List Need) → Each (HasNeed slice) (join_all xs (b ∷ bs)) → Each (HasNeed slice) xs
lefts_have slice [] b bs h = tt
lefts_have slice (a ∷ xs) b bs h =
    (first_has slice a b h.0, lefts_have slice xs b bs (each_right (HasNeed slice) (join_with a (b ∷ bs)) (join_all xs (b ∷ bs)) h))

rights_have : (slice : RoleSlice) (a : Need) (xs bs : List Need) → Each (HasNeed slice) (join_all (a ∷ xs) bs) → Each (HasNeed slice) bs
rights_have slice a xs bs h = seconds_have slice a bs (each_left (HasNeed slice) (join_with a bs) (join_all xs bs) h)

-- and the condition wants and bars no more than its conjuncts do
pub needs_cond : (order : Graph) (slice : RoleSlice) (cond : Term) → Each (HasNeed slice) (conjuncts order cond)
    → IsWithin (wants order cond) slice.wanted × IsWithin (bars order cond) slice.barred
needs_cond order slice any h = (λ role i. absurd (false≢true i), h.0.lacks)
needs_cond order slice (has role) h = (h.0.hits.0, h.0.lacks)
needs_cond order slice (lacks role) h = (λ role i. absurd (false≢true i), h.0.lacks)
needs_cond order slice (both left right) h =
    let l = a_conjunct order left in
    let r = a_conjunct order right in
    let lefts = lefts_have slice (conjuncts order left) r.0 r.1
    (subst (λ bs. Each (HasNeed slice) (join_all (conjuncts order left) bs)) r.2 h) in
    let rights = rights_have slice l.0 l.1 (conjuncts order right) (subst (λ xs. Each (HasNeed slice) (join_all xs (conjuncts order right))) l.2 h) in
    let v = needs_cond order slice left lefts in
    let w = needs_cond order slice right rights in
    (join_within (wants order left) (wants order right) slice.wanted v.0 w.0, join_within (bars order left) (bars order right) slice.barred v.1 w.1)
needs_cond order slice (either left right) h =
    let v = needs_cond order slice left (each_left (HasNeed slice) (conjuncts order left) (conjuncts order right) h) in
    let w = needs_cond order slice right (each_right (HasNeed slice) (conjuncts order left) (conjuncts order right) h) in
    (join_within (wants order left) (wants order right) slice.wanted v.0 w.0, join_within (bars order left) (bars order right) slice.barred v.1 w.1)

-- places that are listed

-- of the places so far those at which P holds are listed
pub record AreListed {A : Type 0} (P : A → Type 0) (xs : List A) (n : ℕ) (places : List ℕ) : Type 0 where
  pub rises : Rises places
  pub each : (place : ℕ) → IsIn places place ↔ ((place < n) × ((x : A) × (slice_get xs place ≡ Some x) × P x))

has_last : (xs : List ℕ) (y role : ℕ) → has_role (xs ++ y ∷ []) role ≡ (has_role xs role || eqb y role)
has_last [] y role = or_false (eqb y role)
  where
    or_false : (b : Bool) → (b || false) ≡ b
    or_false true = refl
    or_false false = refl
has_last (x ∷ xs) y role = by_test (eqb x role) (has_last xs y role)
  where
    by_test : (t : Bool) → has_role (xs ++ y ∷ []) role ≡ (has_role xs role || eqb y role)
        → (t || has_role (xs ++ y ∷ []) role) ≡ ((t || has_role xs role) || eqb y role)
    by_test true e = refl
    by_test false e = e

rises_last : (xs : List ℕ) (y : ℕ) → Rises xs → ((role : ℕ) → IsIn xs role → role < y) → Rises (xs ++ y ∷ [])
rises_last [] y rises below = (tt, tt)
rises_last (x ∷ xs) y rises below = (
  each_append (λ z. x < z) xs (y ∷ []) rises.0 (below x (rw (eq-eqb x x refl) refl), tt),
  rises_last xs y rises.1 (λ role h. below role (or_right (eqb x role) (has_role xs role) h)),
)

pub one_listed : {A : Type 0} (P : A → Type 0) (xs : List A) (n : ℕ) (x : A) (places : List ℕ) → slice_get xs n ≡ Some x → P x
    → AreListed P xs n places → AreListed P xs (n + 1) (places ++ n ∷ [])
one_listed {A} P xs n x places here holds before = record {
  rises = rises_last places n before.rises (λ role h. ((before.each role).0 h).0);
  each = λ place. (
    λ h. there place (or_cases (has_role places place) (eqb n place) (sym (has_last places n place) ∙ h)),
    λ h. has_last places n place ∙ back place h.1 (compare place n) h.0,
  );
}
  where
    There : ℕ → Type 0
    There place = (x : A) × (slice_get xs place ≡ Some x) × P x

    there : (place : ℕ) → IsIn places place ⊎ (eqb n place ≡ true) → (place < n + 1) × There place
    there place (inl i) = let b = (before.each place).0 i in let l = b.0 in (omega arith, b.1)
    there place (inr e) = let same = eqb-true n place e in subst (λ p. (p < n + 1) × There p) same (omega arith, (x, here, holds))

    back : (place : ℕ) → There place → (place < n) ⊎ ((place ≡ n) ⊎ (n < place)) → place < n + 1 → (has_role places place || eqb n place) ≡ true
    back place t (inl l) m = let i : has_role places place ≡ true = (before.each place).1 (l, t) in rw i refl
    back place t (inr (inl e)) m = or_right (has_role places place) (eqb n place) (eq-eqb n place (sym e))
    back place t (inr (inr l)) m = absurd (omega arith)

pub none_more_listed : {A : Type 0} (P : A → Type 0) (xs : List A) (n : ℕ) (x : A) (places : List ℕ) → slice_get xs n ≡ Some x → (P x → ⊥)
    → AreListed P xs n places → AreListed P xs (n + 1) places
none_more_listed {A} P xs n x places here none before = record {
  rises = before.rises;
  each = λ place. (
    λ h. let b = (before.each place).0 h in let l = b.0 in (omega arith, b.1),
    λ h. back place h.1 (compare place n) h.0,
  );
}
  where
    There : ℕ → Type 0
    There place = (x : A) × (slice_get xs place ≡ Some x) × P x

    back : (place : ℕ) → There place → (place < n) ⊎ ((place ≡ n) ⊎ (n < place)) → place < n + 1 → IsIn places place
    back place t (inl l) m = (before.each place).1 (l, t)
    back place t (inr (inl e)) m =
        let at : slice_get xs n ≡ Some t.0 = subst (λ p. slice_get xs p ≡ Some t.0) e t.1 in
        let item : t.0 ≡ x = cc in absurd (none (subst P item t.2))
    back place t (inr (inr l)) m = absurd (omega arith)

pub all_listed : {A : Type 0} (P : A → Type 0) (xs : List A) (n : ℕ) (places : List ℕ) → length xs ≤ n → AreListed P xs n places
    → ArePlacesWhere P xs places
all_listed P xs n places all before = record {
  rises = before.rises;
  each = λ place. (
    λ h. ((before.each place).0 h).1,
    λ h. let l = get_below xs place h.0 h.1 in (before.each place).1 (omega (arith, l, all), h),
  );
}

-- the least roles, with the rules that have one of them in their range, are the least slice
pub least_slice : (rules : Rules) (goal : List Term) (roles : Relevance) (slice : Slice) → AreLeast rules goal roles
    → ArePlacesWhere (λ (rule : CanAssign). RangeMeets rules.order rule.range roles.wanted) rules.assign slice.assign.items
    → ArePlacesWhere (λ (rule : CanRevoke). RangeMeets rules.order rule.range roles.barred) rules.revoke slice.revoke.items
    → IsSliceOf rules goal slice
least_slice rules goal roles slice least givers takers = record {
  wanted = roles.wanted;
  barred = roles.barred;
  least = record { closed = closed; least = part };
  assign = givers.rises;
  revoke = takers.rises;
}
  where
    whole : RoleSlice
    whole = with_roles slice roles.wanted roles.barred

    each_needs : (goal : List Term) → Each (λ cond. AreAmong (asked rules.order cond) roles) goal
        → Each (λ cond. Each (HasNeed whole) (conjuncts rules.order cond)) goal
    each_needs [] h = tt
    each_needs (cond ∷ goal) h = (cond_needs rules.order whole cond h.0.wanted h.0.barred, each_needs goal h.1)

    closed : IsClosedSlice rules goal whole
    closed = record {
      goals = each_needs goal least.goals;
      assigns = λ place role rule at range wanted.
          let got = each_at (AsksToAssign rules.order roles) rules.assign place rule least.asks.assigns at (role, range, wanted) in
          record {
            listed = (givers.each place).1 (rule, at, (role, range, wanted));
            admin = got.1;
            conjuncts = cond_needs rules.order whole (term_of rule.cond) got.0.wanted got.0.barred;
            pairs = least.asks.pairs role (rule, (place, at), range) wanted;
          };
      revokes = λ place role rule at range barred. record {
        listed = (takers.each place).1 (rule, at, (role, range, barred));
        admin = each_at (AsksToRevoke rules.order roles) rules.revoke place rule least.asks.revokes at (role, range, barred);
      };
    }

    roles_of : RoleSlice → Relevance
    roles_of other = record { wanted = other.wanted; barred = other.barred }

    each_cond : (other : RoleSlice) (goal : List Term) → Each (λ cond. Each (HasNeed other) (conjuncts rules.order cond)) goal
        → Each (λ cond. AreAmong (asked rules.order cond) (roles_of other)) goal
    each_cond other [] h = tt
    each_cond other (cond ∷ goal) h =
        let n = needs_cond rules.order other cond h.0 in (record { wanted = n.0; barred = n.1 }, each_cond other goal h.1)

    asks : (other : RoleSlice) → IsClosedSlice rules goal other → HaveAsked rules (roles_of other)
    asks other kept = record {
      assigns = each_of (AsksToAssign rules.order (roles_of other)) rules.assign (λ place rule at meets.
          let one = kept.assigns place meets.0 rule at meets.1 meets.2 in
          let n = needs_cond rules.order other (term_of rule.cond) one.conjuncts in
          (record { wanted = n.0; barred = n.1 }, one.admin));
      pairs = λ role givable wanted. (kept.assigns givable.1.0 role givable.0 givable.1.1 givable.2 wanted).pairs;
      revokes = each_of (AsksToRevoke rules.order (roles_of other)) rules.revoke
          (λ place rule at meets. (kept.revokes place meets.0 rule at meets.1 meets.2).admin);
    }

    part : (other : RoleSlice) → IsClosedSlice rules goal other → IsPart whole other
    part other kept =
        let among = least.least (roles_of other) (each_cond other goal kept.goals) (asks other kept) in
        record {
          wanted = among.wanted;
          barred = among.barred;
          assign = λ place h.
              let one = (givers.each place).0 h in
              let meets = one.2 in (kept.assigns place meets.0 one.0 one.1 meets.1 (among.wanted meets.0 meets.2)).listed;
          revoke = λ place h.
              let one = (takers.each place).0 h in
              let meets = one.2 in (kept.revokes place meets.0 one.0 one.1 meets.1 (among.barred meets.0 meets.2)).listed;
        }

-- whatever is derived from the goal has obligations by rules of the slice alone
pub slice_relevant : (rules : Rules) → AreEdges (length rules.order.names) rules.order.edges → (goal : List Term) (slice : Slice)
    → IsSliceOf rules goal slice → (needs : List Need) → IsDerived rules goal needs → (ob : Obligation) → IsOneOf (obligations rules needs) ob
    → NamesRule slice ob
slice_relevant rules ends goal slice least needs derived ob is =
    by_kind ob (derived_relevant rules (are_seniors rules.order ends) goal (with_roles slice least.wanted least.barred)
    least.least.closed needs derived ob is)
  where
    by_kind : (ob : Obligation) → IsRelevant (with_roles slice least.wanted least.barred) ob → NamesRule slice ob
    by_kind (assigns rule conjunct role target pick) h = h
    by_kind (revokes rule role target pick) h = h
