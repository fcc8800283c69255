use Rattle.std.proofs.Common.{◌≡◌, ◌+◌, ◌∙◌, drop, List, Option, Some, arith, sym, ap}
use Rattle.std.specs.Prelude.{slice_get}
use Rattle.list_words.proofs.GetLemmas.{get_at, get_map}
use Rattle.arbac_laws.specs.Needs.{Need}
use Rattle.arbac_laws.specs.Obligations.{flat}
use Rattle.arbac_laws.specs.Views.{need_of, needs_of}
use Rattle.cert_check.specs.Passing.{IsMissed, by_range}
use Rattle.cert_check.proofs.PassingLemmas.{goes_on, goes_stop, goes_end, flat_next, flat_end}
use Rattle.cert_check.proofs.PickLemmas.{length_mapped}
use Rattle.cert_check.proofs.open.pass_conjuncts.Goals as goal

-- an act by this conjunct is open
pub returns-then-branch : goal.returns-then-branch
returns-then-branch c =
    let list = c.args.conjuncts.now in
    let at = c.loop-conjunct.conjunct-index in
    let one = c.conjunct-item.result in
    let f : Need → List (Option (List Need)) = λ conjunct.
    by_range c.args.member.now.book.now (Some conjunct) c.args.hit.now c.args.range.now (needs_of c.args.member.now.users.now) in
    let here : slice_get list at ≡ Some one = get_at list at one c.loop-conjunct-test.true ∙ ap Some (sym c.conjunct-item.is) in
    goes_stop (IsMissed c.args.member.now.index.now.members) (flat f (needs_of list)) (flat f (drop at (needs_of list))) (f (need_of one))
    (flat f (drop (at + 1) (needs_of list))) c.args.place.now c.loop-conjunct.place c.pass_range.new.place c.in_ok-pass_range.field-0
    (flat_next f (needs_of list) at (need_of one) (get_map need_of list at one here)) c.loop-conjunct.invariant
    c.in_ok-pass_range.ensures c.if-branch.true

-- those by this conjunct are passed
pub loop-conjunct-preserved : goal.loop-conjunct-preserved
loop-conjunct-preserved c =
    let list = c.args.conjuncts.now in
    let at = c.loop-conjunct.conjunct-index in
    let one = c.conjunct-item.result in
    let f : Need → List (Option (List Need)) = λ conjunct.
    by_range c.args.member.now.book.now (Some conjunct) c.args.hit.now c.args.range.now (needs_of c.args.member.now.users.now) in
    let here : slice_get list at ≡ Some one = get_at list at one c.loop-conjunct-test.true ∙ ap Some (sym c.conjunct-item.is) in
    goes_on (IsMissed c.args.member.now.index.now.members) (flat f (needs_of list)) (flat f (drop at (needs_of list))) (f (need_of one))
    (flat f (drop (at + 1) (needs_of list))) c.args.place.now c.loop-conjunct.place c.pass_range.new.place c.in_ok-pass_range.field-0
    (flat_next f (needs_of list) at (need_of one) (get_map need_of list at one here)) c.loop-conjunct.invariant
    c.in_ok-pass_range.ensures c.if-branch.false

-- all are passed
pub returns : goal.returns
returns c =
    let list = c.args.conjuncts.now in
    let at = c.loop-conjunct.conjunct-index in
    let f : Need → List (Option (List Need)) = λ conjunct.
    by_range c.args.member.now.book.now (Some conjunct) c.args.hit.now c.args.range.now (needs_of c.args.member.now.users.now) in
    let long = length_mapped need_of list in
    goes_end (IsMissed c.args.member.now.index.now.members) (flat f (needs_of list)) (flat f (drop at (needs_of list))) c.args.place.now c.loop-conjunct.place
    (flat_end f (needs_of list) at (let past = c.loop-conjunct-test.false in omega (arith, long, past))) c.loop-conjunct.invariant
