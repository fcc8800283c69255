-- Marks lie within themselves and along a way, and what a query fits falls under what lies within.
use Rattle.std.proofs.Common.{◌⊎◌, arith, inl, inr}
use Rattle.list_words.specs.Lists.{Some_of}
use Rattle.list_words.proofs.EachLemmas.{some_weaker}
use Rattle.list_words.proofs.TestLemmas.{not_false}
use Rattle.role_order.specs.Roles.{has_role}
use Rattle.need_marks.specs.declared.marks.UserMark.{UserMark}
use Rattle.need_marks.specs.declared.marks.NeedMark.{NeedMark}
use Rattle.need_marks.specs.declared.marks.NeedQuery.{NeedQuery}
use Rattle.need_marks.specs.Marks.{IsPart, HasNothing, IsUnder, MayCover}

pub part_itself : (mark : UserMark) → IsPart mark mark
part_itself mark = record { aims = λ role i. i; lacks = λ role i. i }

pub part_through : (a b c : UserMark) → IsPart a b → IsPart b c → IsPart a c
part_through a b c f g = record { aims = λ role i. g.aims role (f.aims role i); lacks = λ role i. g.lacks role (f.lacks role i) }

-- a part of nothing is nothing
pub nothing_part : (a b : UserMark) → IsPart a b → HasNothing b → HasNothing a
nothing_part a b f n = record {
  aims = λ role. not_false (has_role a.aims role) (λ i. let j = f.aims role i in let k = n.aims role in cc);
  lacks = λ role. not_false (has_role a.lacks role) (λ i. let j = f.lacks role i in let k = n.lacks role in cc);
}

pub under_itself : (mark : NeedMark) → IsUnder mark mark
under_itself mark = record { all = part_itself mark.all; heaviest = part_itself mark.heaviest; users = omega arith }

pub under_through : (a b c : NeedMark) → IsUnder a b → IsUnder b c → IsUnder a c
under_through a b c f g = record {
  all = part_through a.all b.all c.all f.all g.all;
  heaviest = part_through a.heaviest b.heaviest c.heaviest f.heaviest g.heaviest;
  users = omega (arith, f.users, g.users);
}

-- what a query fits falls under what lies within its mark
pub fits_under : (query : NeedQuery) (a b : NeedMark) → IsUnder a b → MayCover query b → MayCover query a
fits_under query a b u m = record {
  all = part_through a.all b.all query.all u.all m.all;
  heaviest = by_case m.heaviest;
  users = omega (arith, u.users, m.users);
}
  where
    by_case : HasNothing b.heaviest ⊎ Some_of (IsPart b.heaviest) query.each.now → HasNothing a.heaviest ⊎ Some_of (IsPart a.heaviest) query.each.now
    by_case (inl n) = inl (nothing_part a.heaviest b.heaviest u.heaviest n)
    by_case (inr some) = inr (some_weaker (IsPart b.heaviest) (IsPart a.heaviest) (λ own part. part_through a.heaviest b.heaviest own u.heaviest part)
        query.each.now some)
