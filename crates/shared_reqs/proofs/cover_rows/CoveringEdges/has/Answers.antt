use Rattle.std.proofs.Common.{◌≡◌, ◌∙◌, sym, ap, arith, Some, inl, inr}
use Rattle.std.specs.Prelude.{slice_get}
use Rattle.list_words.proofs.GetLemmas.{get_at}
use Rattle.shared_reqs.specs.Shared.{needs_shared}
use Rattle.shared_reqs.proofs.RowLemmas.{need_read, needs_long, joins_there, joins_nowhere}
use Rattle.shared_reqs.proofs.cover_rows.CoveringEdges.has.Goals as goal

-- both are there, and the test decides
pub returns-in-Some-Some : goal.returns-in-Some-Some
returns-in-Some-Some c =
    let users = c.args.self.now.users.now in
    let others = c.args.self.now.others.now in
    let user = c.in-Some-Some.user.now in
    let other = c.in-Some-Some.other.now in
    let first = c.in-Some-Some.ensures.lookup in
    let second = c.in-Some-Some.ensures'.lookup in
    let here : slice_get users c.args.item ≡ Some user = get_at users c.args.item user first.3.0 ∙ ap Some (sym first.1) in
    let there : slice_get others c.args.place ≡ Some other = get_at others c.args.place other second.3.0 ∙ ap Some (sym second.1) in
    joins_there (needs_shared users) (needs_shared others) c.args.item c.args.place c.user.result.now c.user-in-Some-Some.result.now c.covers_user.result
    (need_read users c.args.item user c.deref.result.now c.user.result.now here c.deref.ensures c.user.ensures.need)
    (need_read others c.args.place other c.deref-in-Some-Some.result.now c.user-in-Some-Some.result.now there c.deref-in-Some-Some.ensures
    c.user-in-Some-Some.ensures.need) c.covers_user.ensures

-- there are fewer of the second
pub returns-in_default : goal.returns-in_default
returns-in_default c =
    let users = c.args.self.now.users.now in
    let others = c.args.self.now.others.now in
    joins_nowhere (needs_shared users) (needs_shared others) c.args.item c.args.place
    (inr (let long = needs_long others in let past = c.in_default.ensures'.lookup.3 in omega (arith, long, past)))

-- there are fewer of the first
pub returns-in_default-2 : goal.returns-in_default-2
returns-in_default-2 c =
    let users = c.args.self.now.users.now in
    let others = c.args.self.now.others.now in
    joins_nowhere (needs_shared users) (needs_shared others) c.args.item c.args.place
    (inl (let long = needs_long users in let past = c.in_default.ensures.lookup.3 in omega (arith, long, past)))
