-- Members of an index, their marks, and which of them cover.
use Rattle.std.proofs.Common.{ℕ, ◌≡◌, ◌<◌, ◌≤◌, ◌+◌, ◌∙◌, Bool, true, false, List, [], ◌∷◌, ◌++◌, length, map, Option, Some, None, Global, sym, subst, arith, eqb, refl, ap, inl, inr}
use Rattle.std.specs.Prelude.{◌⊎◌, ◌↔◌, IsTrue, IfSome, IfNone, is_some, slice_get}
use Rattle.std.specs.declared.sync.Arc.{Arc}
use Rattle.std.proofs.lemmas.List.{length-map}
use Rattle.std.proofs.lemmas.Bool.{eqb-true}
use Rattle.std.proofs.lemmas.Bool.Decides.{nat_tests}
use Rattle.list_words.proofs.GetLemmas.{same_some, get_below, get_map, get_last_cases, length_more}
use Rattle.list_words.proofs.EachLemmas.{some_at, some_item}
use Rattle.role_order.specs.Graph.{Graph}
use Rattle.arbac_laws.specs.Needs.{Need, Covers, IsCovered}
use Rattle.mask_match.specs.declared.TheConstants.{MOST_PLACES}
use Rattle.need_marks.specs.declared.marks.NeedMark.{NeedMark}
use Rattle.need_marks.specs.Marks.{IsNeedMark}
use Rattle.shared_reqs.specs.Shared.{MarkedNeed, marked_of, needs_marked, needs_shared}
use Rattle.shared_reqs.specs.Indexes.{AreMarked, CoversAt, IsCoveredBy}
use Rattle.shared_reqs.proofs.RowLemmas.{needs_long}

-- what shared requirements want
abbrev pub members_of : List (Arc (List MarkedNeed) Global) → List (List Need)
members_of members = map (λ (req : Arc (List MarkedNeed) Global). needs_marked req.value) members

-- as many as there are requirements
pub members_long : (members : List (Arc (List MarkedNeed) Global)) → length (members_of members) ≡ length members
members_long members = length-map members (λ (req : Arc (List MarkedNeed) Global). needs_marked req.value)

-- as many as there are users
pub marked_long : (users : List MarkedNeed) → length (needs_marked users) ≡ length users
marked_long users = length-map users (λ (user : MarkedNeed). user.need)

-- what the requirement at a place wants
pub member_read : (members : List (Arc (List MarkedNeed) Global)) (k : ℕ) (member : Arc (List MarkedNeed) Global) (req : List MarkedNeed)
    → slice_get members k ≡ Some member → req ≡ member.value → slice_get (members_of members) k ≡ Some (needs_marked req)
member_read members k member req at is =
    get_map (λ (one : Arc (List MarkedNeed) Global). needs_marked one.value) members k member at
    ∙ ap (λ (one : List MarkedNeed). Some (needs_marked one)) (sym is)

-- one member more with its mark
pub marked_more : (order : Graph) (members : List (List Need)) (marks : List NeedMark) (needs : List Need) (mark : NeedMark)
    → AreMarked order members marks → IsNeedMark order needs mark → AreMarked order (members ++ needs ∷ []) (marks ++ mark ∷ [])
marked_more order members marks needs mark are is = record {
  long = length_more marks mark ∙ ap (λ n. n + 1) are.long ∙ sym (length_more members needs);
  each = λ place other own at own_at. by_side place other own (get_last_cases members needs other place at) (get_last_cases marks mark own place own_at);
}
  where
    by_side : (place : ℕ) (other : List Need) (own : NeedMark)
        → (slice_get members place ≡ Some other) ⊎ ((place ≡ length members) × (needs ≡ other))
        → (slice_get marks place ≡ Some own) ⊎ ((place ≡ length marks) × (mark ≡ own)) → IsNeedMark order other own
    by_side place other own (inl at) (inl own_at) = are.each place other own at own_at
    by_side place other own (inl at) (inr last) = let less = get_below members place other at in absurd (omega (arith, less, last.0, are.long))
    by_side place other own (inr last) (inl own_at) = let less = get_below marks place own own_at in absurd (omega (arith, less, last.0, are.long))
    by_side place other own (inr last) (inr own_last) =
        subst (λ (all : List Need). IsNeedMark order all own) last.1 (subst (λ (m : NeedMark). IsNeedMark order needs m) own_last.1 is)

-- what the tests of few users say of shared requirements
pub few_read : (users others : List (Arc MarkedNeed Global)) (one other : List MarkedNeed) (t : Bool) → marked_of users ≡ one → marked_of others ≡ other
    → IsTrue t ↔ ((length others ≤ MOST_PLACES) × Covers (needs_shared users) (needs_shared others))
    → IsTrue t ↔ ((length (needs_marked other) ≤ MOST_PLACES) × Covers (needs_marked one) (needs_marked other))
few_read users others one other t is there same = rw (sym is, sym there) (
  λ passes. let both = same.0 passes in (let long = needs_long others in let few = both.0 in omega (arith, long, few), both.1),
  λ both. same.1 (let long = needs_long others in let few = both.0 in omega (arith, long, few), both.1),
)

-- what stands at a place where a member covers
pub covers_here : (members : List (List Need)) (raw : List Need) (end place : ℕ) (needs : List Need) → slice_get members place ≡ Some needs
    → CoversAt members raw end place → Covers needs raw × (¬ (needs ≡ raw) ⊎ (place < end))
covers_here members raw end place needs there at =
    let same : at.needs ≡ needs = same_some at.needs needs (sym at.at ∙ there) in (
      subst (λ (one : List Need). Covers one raw) same at.covers,
      subst (λ (one : List Need). ¬ (one ≡ raw) ⊎ (place < end)) same at.apart,
    )

-- the member covers a requirement on few users, and the second test decides
pub accepts_covering : (members : List (List Need)) (raw : List Need) (end place : ℕ) (needs : List Need) (t : Bool) → slice_get members place ≡ Some needs
    → (length raw ≤ MOST_PLACES) × Covers needs raw → IsTrue t ↔ (¬ (needs ≡ raw) ⊎ (place < end))
    → IsTrue t ↔ ((length raw ≤ MOST_PLACES) × CoversAt members raw end place)
accepts_covering members raw end place needs t there covers counts = (
  λ passes. (covers.0, record { needs = needs; at = there; covers = covers.1; apart = counts.0 passes }),
  λ both. counts.1 (covers_here members raw end place needs there both.1).1,
)

-- the member doesn't cover
pub accepts_other : (members : List (List Need)) (raw : List Need) (end place : ℕ) (needs : List Need) (t : Bool) → slice_get members place ≡ Some needs
    → t ≡ false → IsTrue t ↔ ((length raw ≤ MOST_PLACES) × Covers needs raw)
    → IsTrue t ↔ ((length raw ≤ MOST_PLACES) × CoversAt members raw end place)
accepts_other members raw end place needs t there fails covers = (
  λ passes. absurd (let never : false ≡ true = sym fails ∙ passes in cc),
  λ both. covers.1 (both.0, (covers_here members raw end place needs there both.1).0),
)

-- no member stands at the place
pub accepts_nowhere : (members : List (List Need)) (raw : List Need) (end place : ℕ) → length members ≤ place
    → IsTrue false ↔ ((length raw ≤ MOST_PLACES) × CoversAt members raw end place)
accepts_nowhere members raw end place past = (
  λ passes. absurd (let never : false ≡ true = passes in cc),
  λ both. absurd (let less = get_below members place both.1.needs both.1.at in omega (arith, less, past)),
)

-- what holds of no place so far, and not of the next
pub none_more : (P : ℕ → Type 0) (at : ℕ) → ((k : ℕ) → k < at → ¬ P k) → ¬ P at → (k : ℕ) → k < at + 1 → ¬ P k
none_more P at before here k less p = by_place (eqb k at) refl
  where
    by_place : (t : Bool) → eqb k at ≡ t → ⊥
    by_place true e = here (subst (λ n. P n) (eqb-true k at e) p)
    by_place false e = let short : k < at = grind (arith, nat_tests) in before k short p

-- one member that is found tells whether there is one, where each of few users has a bit
pub found_tells : (members : List (List Need)) (raw : List Need) (end count : ℕ) (found : Option ℕ) (t : Bool) → t ≡ is_some found
    → length raw ≤ MOST_PLACES → count ≡ length members
    → IfSome found (λ item. (item < count) × ((length raw ≤ MOST_PLACES) × CoversAt members raw end item))
    → IfNone found ((item : ℕ) → item < count → ¬ ((length raw ≤ MOST_PLACES) × CoversAt members raw end item))
    → IsTrue t ↔ IsCoveredBy members raw end
found_tells members raw end count None t is few long some none = (
  λ passes. absurd (let never : false ≡ true = sym is ∙ passes in cc),
  λ covered. absurd (none covered.0 (let less = get_below members covered.0 covered.1.needs covered.1.at in omega (arith, less, long)) (few, covered.1)),
)
found_tells members raw end count (Some item) t is few long some none = (λ _. (item, some.1.1), λ _. is)

-- all members stand before the end of the list
pub covered_of_all : (members : List (List Need)) (raw : List Need) (end : ℕ) → end ≡ length members → IsCoveredBy members raw end ↔ IsCovered members raw
covered_of_all members raw end all = (
  λ covered. some_at (λ one. Covers one raw) members covered.0 covered.1.needs covered.1.at covered.1.covers,
  λ some. from (some_item (λ one. Covers one raw) members some),
)
  where
    from : (one : List Need) × ((place : ℕ) × (slice_get members place ≡ Some one)) × Covers one raw → IsCoveredBy members raw end
    from one = (
      one.1.0,
      record {
        needs = one.0;
        at = one.1.1;
        covers = one.2;
        apart = inr (let less = get_below members one.1.0 one.0 one.1.1 in omega (arith, less, all));
      },
    )
