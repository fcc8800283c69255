-- Members of an index, their marks, and which of them cover.
use Rattle.std.proofs.Common.{ℕ, ◌≡◌, ◌<◌, ◌≤◌, ◌+◌, ◌∙◌, Bool, true, false, List, [], ◌∷◌}
use Rattle.std.proofs.Common.{◌++◌, length, take, Option, Some, None, sym, subst, arith, ap, inl, inr}
use Rattle.std.specs.Prelude.{◌⊎◌, ◌↔◌, IsTrue, IfSome, IfNone, is_some, slice_get}
use Rattle.list_words.specs.Lists.{IsFirst}
use Rattle.list_words.proofs.GetLemmas.{same_some, get_below, get_last_cases, length_more, take_one_more}
use Rattle.list_words.proofs.EachLemmas.{some_at, some_none}
use Rattle.role_order.specs.Graph.{Graph}
use Rattle.arbac_laws.specs.Needs.{Need, Covers, IsCovered}
use Rattle.mask_match.specs.declared.TheConstants.{MOST_PLACES}
use Rattle.need_marks.specs.declared.marks.UserMark.{UserMark}
use Rattle.need_marks.specs.declared.marks.NeedMark.{NeedMark}
use Rattle.need_marks.specs.Marks.{IsUserMark, AreUserMarks, IsNeedMark}
use Rattle.cert_check.specs.Indexes.{AreMarked, CoversAt}

marks_push : (order : Graph) (needs : List Need) (need : Need) (marks : List UserMark) (mark : UserMark) → AreUserMarks order needs marks
    → IsUserMark order need mark → AreUserMarks order (needs ++ need ∷ []) (marks ++ mark ∷ [])
marks_push order [] need [] mark are is = (is, tt)
marks_push order [] need (m ∷ marks) mark are is = absurd are
marks_push order (n ∷ needs) need [] mark are is = absurd are
marks_push order (n ∷ needs) need (m ∷ marks) mark are is = (are.0, marks_push order needs need marks mark are.1 is)

-- the mark of one user more
pub marks_more : (order : Graph) (needs : List Need) (i : ℕ) (need : Need) (marks : List UserMark) (mark : UserMark) → slice_get needs i ≡ Some need
    → AreUserMarks order (take i needs) marks → IsUserMark order need mark → AreUserMarks order (take (i + 1) needs) (marks ++ mark ∷ [])
marks_more order needs i need marks mark at are is =
    subst (λ (all : List Need). AreUserMarks order all (marks ++ mark ∷ [])) (sym (take_one_more needs i need at))
    (marks_push order (take i needs) need marks mark are is)

-- one member more with its mark
pub marked_more : (order : Graph) (members : List (List Need)) (marks : List NeedMark) (needs : List Need) (mark : NeedMark)
    → AreMarked order members marks → IsNeedMark order needs mark → AreMarked order (members ++ needs ∷ []) (marks ++ mark ∷ [])
marked_more order members marks needs mark are is = record {
  long = length_more marks mark ∙ ap (λ n. n + 1) are.long ∙ sym (length_more members needs);
  each = λ place other own at own_at. by_side place other own (get_last_cases members needs other place at) (get_last_cases marks mark own place own_at);
}
  where
    by_side : (place : ℕ) (other : List Need) (own : NeedMark)
        → (slice_get members place ≡ Some other) ⊎ ((place ≡ length members) × (needs ≡ other))
        → (slice_get marks place ≡ Some own) ⊎ ((place ≡ length marks) × (mark ≡ own)) → IsNeedMark order other own
    by_side place other own (inl at) (inl own_at) = are.each place other own at own_at
    by_side place other own (inl at) (inr last) = let less = get_below members place other at in absurd (omega (arith, less, last.0, are.long))
    by_side place other own (inr last) (inl own_at) = let less = get_below marks place own own_at in absurd (omega (arith, less, last.0, are.long))
    by_side place other own (inr last) (inr own_last) =
        subst (λ (all : List Need). IsNeedMark order all own) last.1 (subst (λ (m : NeedMark). IsNeedMark order needs m) own_last.1 is)

-- the first one that covers tells whether one does
pub first_tells : (members : List (List Need)) (raw : List Need) (found : Option ℕ) (t : Bool) → t ≡ is_some found
    → IfSome found (IsFirst (λ one. Covers one raw) members) → IfNone found (¬ IsCovered members raw) → IsTrue t ↔ IsCovered members raw
first_tells members raw None t is first none = (λ passes. absurd (let never : false ≡ true = sym is ∙ passes in cc), λ covered. absurd (none covered))
first_tells members raw (Some place) t is first none =
    (λ _. some_at (λ one. Covers one raw) members place first.item first.at first.holds, λ _. is)

-- one that is found tells so too, where each of few users has a bit
pub found_tells : (members : List (List Need)) (raw : List Need) (count : ℕ) (found : Option ℕ) (t : Bool) → t ≡ is_some found → length raw ≤ MOST_PLACES
    → count ≡ length members → IfSome found (λ item. (item < count) × CoversAt members raw item)
    → IfNone found ((item : ℕ) → item < count → ¬ CoversAt members raw item) → IsTrue t ↔ IsCovered members raw
found_tells members raw count None t is few long some none = (
  λ passes. absurd (let never : false ≡ true = sym is ∙ passes in cc),
  λ covered. absurd (some_none (λ one. Covers one raw) members (λ k needs at covers. none k
      (let less = get_below members k needs at in omega (arith, less, long))
      record { needs = needs; at = at; few = few; covers = covers }) covered),
)
found_tells members raw count (Some item) t is few long some none =
    (λ _. some_at (λ one. Covers one raw) members item some.1.needs some.1.at some.1.covers, λ _. is)

-- where none of all members covers, the requirement isn't covered
pub none_of_all : (members : List (List Need)) (raw : List Need) (count : ℕ) → length members ≤ count
    → ((k : ℕ) (needs : List Need) → k < count → slice_get members k ≡ Some needs → ¬ Covers needs raw) → ¬ IsCovered members raw
none_of_all members raw count all none = some_none (λ one. Covers one raw) members
    (λ k needs at covers. none k needs (let less = get_below members k needs at in omega (arith, less, all)) at covers)

-- the test of the member at the place
pub accepts_there : (members : List (List Need)) (raw : List Need) (place count : ℕ) (needs : List Need) (t : Bool) → slice_get members place ≡ Some needs
    → length raw ≡ count → IsTrue t ↔ ((count ≤ MOST_PLACES) × Covers needs raw) → IsTrue t ↔ CoversAt members raw place
accepts_there members raw place count needs t there long is = (
  λ passes. let both = is.0 passes in record { needs = needs; at = there; few = omega (arith, both.0, long); covers = both.1 },
  λ (at : CoversAt members raw place).
      let same : at.needs ≡ needs = same_some at.needs needs (sym at.at ∙ there) in
      is.1 (let few = at.few in omega (arith, few, long), subst (λ (one : List Need). Covers one raw) same at.covers),
)

-- and where no member stands
pub accepts_nowhere : (members : List (List Need)) (raw : List Need) (place : ℕ) → length members ≤ place → IsTrue false ↔ CoversAt members raw place
accepts_nowhere members raw place past = (
  λ passes. absurd (let never : false ≡ true = passes in cc),
  λ (at : CoversAt members raw place). absurd (let less = get_below members place at.needs at.at in omega (arith, less, past)),
)
