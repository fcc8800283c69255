-- Parts of marks, and what of them a requirement has in common with one that it covers.
use Rattle.std.proofs.Common.{ℕ, ◌≡◌, ◌⊎◌, ◌↔◌, arith, List, [], ◌∷◌, length, slice_get, Some, inl, inr, refl}
use Rattle.std.specs.Prelude.{zero, suc}
use Rattle.list_words.specs.Lists.{Some_of, IsOneOf}
use Rattle.list_words.proofs.EachLemmas.{some_at}
use Rattle.list_words.proofs.GetLemmas.{same_some}
use Rattle.role_order.specs.Roles.{IsIn}
use Rattle.role_order.specs.Graph.{Graph}
use Rattle.role_order.specs.Reach.{seniors_of}
use Rattle.arbac_laws.specs.Needs.{Need, Covers}
use Rattle.search_laws.proofs.MarkLemmas.{hit_covered, some_covered, fewer_covering}
use Rattle.need_marks.specs.declared.marks.UserMark.{UserMark}
use Rattle.need_marks.specs.declared.marks.NeedMark.{NeedMark}
use Rattle.need_marks.specs.declared.marks.NeedQuery.{NeedQuery}
use Rattle.need_marks.specs.MarkParts.{part_itself}
use Rattle.need_marks.specs.Marks.{AimsAt, IsUserMark, AreUserMarks, IsPart, HasNothing, IsNeedMark, IsNeedQuery, MayCover}

-- there are as many marks as users
pub marks_long : (order : Graph) (needs : List Need) (marks : List UserMark) → AreUserMarks order needs marks → length marks ≡ length needs
marks_long order [] [] are = refl
marks_long order [] (mark ∷ marks) are = absurd are
marks_long order (need ∷ needs) [] are = absurd are
marks_long order (need ∷ needs) (mark ∷ marks) are = let rest = marks_long order needs marks are.1 in omega (arith, rest)

-- the mark of the user at the place stands there
pub mark_at : (order : Graph) (needs : List Need) (marks : List UserMark) (k : ℕ) (need : Need) → AreUserMarks order needs marks
    → slice_get needs k ≡ Some need → (mark : UserMark) × (slice_get marks k ≡ Some mark) × IsUserMark order need mark
mark_at order [] [] k need are at = absurd cc
mark_at order [] (mark ∷ marks) k need are at = absurd are
mark_at order (one ∷ needs) [] k need are at = absurd are
mark_at order (one ∷ needs) (mark ∷ marks) zero need are at =
    let same : one ≡ need = same_some one need at in (mark, refl, rw same at are.0)
mark_at order (one ∷ needs) (mark ∷ marks) (suc k) need are at = mark_at order needs marks k need are.1 at

-- where a requirement covers another, its mark fits the other's query
pub covering_fits : (order : Graph) (a b : List Need) (mark : NeedMark) (query : NeedQuery) → Covers a b → IsNeedMark order a mark
    → IsNeedQuery order b query → MayCover query mark
covering_fits order a b mark query f is asks = record {
  all = record {
    aims = λ role i. asks.aims role (some_covered (λ need. AimsAt order need role) (λ x y c h. (h.0, hit_covered (seniors_of order role) x y c h.1)) a b f
        (is.aims role i));
    lacks = λ role i. asks.lacks role (some_covered (λ (need : Need). IsIn need.lacks role) (λ x y c. c.lacks role) a b f (is.lacks role i));
  };
  heaviest = by_case is.heaviest;
  users = let longer = fewer_covering a b f in let same = marks_long order b query.each.now asks.each in omega (arith, is.users, longer, same);
}
  where
    by_case : HasNothing mark.heaviest ⊎ ((need : Need) × (own : UserMark) × IsOneOf a need × IsUserMark order need own × IsPart mark.heaviest own)
        → HasNothing mark.heaviest ⊎ Some_of (IsPart mark.heaviest) query.each.now
    by_case (inl n) = inl n
    by_case (inr (need, own, one, own_is, part)) =
        let there = f.each one.0 need one.1 in
        let mark_there = mark_at order b query.each.now (f.to one.0) there.0 asks.each there.1 in
        let under : IsPart mark.heaviest mark_there.0 = record {
          aims = λ role i. let aim = (own_is.aims role).0 (part.aims role i) in
              (mark_there.2.aims role).1 (aim.0, hit_covered (seniors_of order role) need there.0 there.2 aim.1);
          lacks = λ role i. rw mark_there.2.lacks (there.2.lacks role (rw own_is.lacks at (part.lacks role i)));
        } in inr (some_at (IsPart mark.heaviest) query.each.now (f.to one.0) mark_there.0 mark_there.1 under)

-- what some mark has, some user has, and the other way round
pub some_user : (P : UserMark → Type 0) (Q : Need → Type 0) (order : Graph) → ((need : Need) (mark : UserMark) → IsUserMark order need mark → P mark → Q need)
    → (needs : List Need) (marks : List UserMark) → AreUserMarks order needs marks → Some_of P marks → Some_of Q needs
some_user P Q order h [] [] are some = absurd some
some_user P Q order h [] (mark ∷ marks) are some = absurd are
some_user P Q order h (need ∷ needs) [] are some = absurd are
some_user P Q order h (need ∷ needs) (mark ∷ marks) are (inl p) = inl (h need mark are.0 p)
some_user P Q order h (need ∷ needs) (mark ∷ marks) are (inr some) = inr (some_user P Q order h needs marks are.1 some)

pub some_mark : (P : UserMark → Type 0) (Q : Need → Type 0) (order : Graph) → ((need : Need) (mark : UserMark) → IsUserMark order need mark → Q need → P mark)
    → (needs : List Need) (marks : List UserMark) → AreUserMarks order needs marks → Some_of Q needs → Some_of P marks
some_mark P Q order h [] [] are some = absurd some
some_mark P Q order h [] (mark ∷ marks) are some = absurd are
some_mark P Q order h (need ∷ needs) [] are some = absurd are
some_mark P Q order h (need ∷ needs) (mark ∷ marks) are (inl q) = inl (h need mark are.0 q)
some_mark P Q order h (need ∷ needs) (mark ∷ marks) are (inr some) = inr (some_mark P Q order h needs marks are.1 some)

-- the user of the mark at the place stands there
user_at : (order : Graph) (needs : List Need) (marks : List UserMark) (k : ℕ) (mark : UserMark) → AreUserMarks order needs marks
    → slice_get marks k ≡ Some mark → (need : Need) × (slice_get needs k ≡ Some need) × IsUserMark order need mark
user_at order [] [] k mark are at = absurd cc
user_at order [] (one ∷ marks) k mark are at = absurd are
user_at order (need ∷ needs) [] k mark are at = absurd are
user_at order (need ∷ needs) (one ∷ marks) zero mark are at =
    let same : one ≡ mark = same_some one mark at in (need, refl, rw same at are.0)
user_at order (need ∷ needs) (one ∷ marks) (suc k) mark are at = user_at order needs marks k mark are.1 at

-- what some mark has, as one set of aims and one of lacks
pub record AreJoined (marks : List UserMark) (all : UserMark) : Type 0 where
  pub aims : (role : ℕ) → IsIn all.aims role ↔ Some_of (λ (mark : UserMark). IsIn mark.aims role) marks
  pub lacks : (role : ℕ) → IsIn all.lacks role ↔ Some_of (λ (mark : UserMark). IsIn mark.lacks role) marks

-- what has what some mark has, the part of one, and their number, is the requirement's mark
pub need_marked : (order : Graph) (needs : List Need) (marks : List UserMark) (mark : NeedMark) → AreUserMarks order needs marks
    → AreJoined marks mark.all → HasNothing mark.heaviest ⊎ IsOneOf marks mark.heaviest → mark.users ≡ length marks → IsNeedMark order needs mark
need_marked order needs marks mark are all one count = record {
  aims = λ role i. some_user (λ (own : UserMark). IsIn own.aims role) (λ need. AimsAt order need role) order (λ need own is k. (is.aims role).0 k)
      needs marks are
      ((all.aims role).0 i);
  lacks = λ role i. some_user (λ (own : UserMark). IsIn own.lacks role) (λ (need : Need). IsIn need.lacks role) order (λ need own is k. rw is.lacks at k)
      needs marks are ((all.lacks role).0 i);
  heaviest = by_side one;
  users = let long = marks_long order needs marks are in omega (arith, count, long);
}
  where
    by_side : HasNothing mark.heaviest ⊎ IsOneOf marks mark.heaviest
        → HasNothing mark.heaviest ⊎ ((need : Need) × (own : UserMark) × IsOneOf needs need × IsUserMark order need own × IsPart mark.heaviest own)
    by_side (inl n) = inl n
    by_side (inr here) =
        let user = user_at order needs marks here.0 mark.heaviest are here.1 in
        inr (user.0, mark.heaviest, (here.0, user.1), user.2, part_itself mark.heaviest)

-- and what has what some mark has, beside the marks, is its query
pub need_asked : (order : Graph) (needs : List Need) (query : NeedQuery) → AreUserMarks order needs query.each.now
    → AreJoined query.each.now query.all → IsNeedQuery order needs query
need_asked order needs query are all = record {
  aims = λ role some. (all.aims role).1 (some_mark (λ (own : UserMark). IsIn own.aims role) (λ need. AimsAt order need role) order
      (λ need own is aim. (is.aims role).1 aim) needs query.each.now are some);
  lacks = λ role some. (all.lacks role).1 (some_mark (λ (own : UserMark). IsIn own.lacks role) (λ (need : Need). IsIn need.lacks role) order
      (λ need own is i. rw is.lacks i) needs query.each.now are some);
  each = are;
}
