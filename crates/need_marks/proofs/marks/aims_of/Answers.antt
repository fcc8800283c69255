use Rattle.std.proofs.Common.{◌≡◌, ◌<◌, ◌≤◌, true, false, [], length, sym}
use Rattle.role_order.specs.Reach.{seniors_of}
use Rattle.need_marks.proofs.AimLemmas.{no_first, no_aims, first_aims, juniors_below, in_nothing}
use Rattle.need_marks.proofs.marks.aims_of.Goals as goal

-- the first role is none of the order, so it is above none
pub returns-then-first-count : goal.returns-then-first-count
returns-then-first-count c = rw c.empty.ensures (λ q. (
  λ i. absurd (let never : false ≡ true = i in cc),
  λ h.
      let order = c.args.order.now in
      let past : length order.names ≤ c.in-Some.first = rw c.count.ensures.count at c.if-first-count.true in
      absurd (no_aims order c.count.ensures.order.ends c.args.hit.now c.in-Some.first c.in-Some.ensures.found.there past q h),
))

pub common_juniors-requires : goal.common_juniors-requires
common_juniors-requires c =
    let order = c.args.order.now in
    let few : c.in-Some.first < length order.names = rw c.count.ensures.count at c.if-first-count.false in
    rw c.juniors.ensures.juniors (juniors_below order c.count.ensures.order.ends c.in-Some.first few)

-- a hit without roles lies within all
pub returns-in-None : goal.returns-in-None
returns-in-None c =
    let order = c.args.order.now in
    let none : c.args.hit.now ≡ [] = no_first c.args.hit.now (sym c.in-None.ensures.value) in
    λ q. (
      λ i. ((c.all_roles.ensures q).0 i, rw none (in_nothing (seniors_of order q))),
      λ h. (c.all_roles.ensures q).1 h.0,
    )

-- what lies below the first role, and is a role of the order, is the same
pub returns-else-first-count : goal.returns-else-first-count
returns-else-first-count c =
    let order = c.args.order.now in
    let hit = c.args.hit.now in
    let first = c.in-Some.first in
    let few : first < length order.names = rw c.count.ensures.count at c.if-first-count.false in
    λ q.
    let same = first_aims order c.count.ensures.order.ends hit first c.in-Some.ensures.found.there few q in
    let are = rw c.juniors.ensures.juniors at (c.common_juniors.ensures q) in
    (λ i. same.0 (are.0 i), λ h. are.1 (same.1 h))
