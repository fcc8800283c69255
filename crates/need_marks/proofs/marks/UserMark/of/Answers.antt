use Rattle.std.proofs.Common.{ℕ, ◌≡◌, ◌<◌, ◌∙◌, List, length, ap, sym, Some, refl}
use Rattle.std.specs.Prelude.{slice_get}
use Rattle.list_words.proofs.GetLemmas.{get_at, take_all}
use Rattle.role_order.specs.Roles.{IsWithin, less_roles}
use Rattle.role_order.specs.Reach.{seniors_of}
use Rattle.arbac_laws.specs.Needs.{Need}
use Rattle.need_marks.proofs.AimLemmas.{joined_more, aims_some}
use Rattle.need_marks.proofs.marks.UserMark.of.Goals as goal

-- what one hit more aims at is joined
pub loop-hit-preserved : goal.loop-hit-preserved
loop-hit-preserved c =
    let order = c.args.order.now in
    let hits = c.args.hits.now in
    let lacks = c.args.lacks.now in
    let i = c.loop-hit.hit-index in
    let hit = c.hit-item.result in
    let at : slice_get hits i ≡ Some hit = get_at hits i _ c.loop-hit-test.true ∙ ap Some (sym c.hit-item.is) in
    rw c.join-aims.ensures (joined_more (λ (one : List ℕ) role. (role < length order.names) × IsWithin (less_roles one lacks) (seniors_of order role))
    hits i hit c.loop-hit.aims c.aims_of.result at c.loop-hit.invariant (rw c.less.ensures at c.aims_of.ensures))

pub returns : goal.returns
returns c =
    let need : Need = record { hits = c.args.hits.now; lacks = c.args.lacks.now } in
    let all = rw (take_all c.args.hits.now c.loop-hit.hit-index c.loop-hit-test.false) at c.loop-hit.invariant in
    record {
      aims = λ role. let same = aims_some c.args.order.now need role in (λ i. same.0 ((all role).0 i), λ aim. (all role).1 (same.1 aim));
      lacks = refl;
    }
