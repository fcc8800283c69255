use Rattle.std.proofs.Common.{◌≡◌, ◌∷◌, map, Vec, Global}
use Rattle.list_words.proofs.GetLemmas.{get_map}
use Rattle.arbac_policy.specs.declared.conjunct.Conjunct.{Conjunct}
use Rattle.arbac_laws.specs.Views.{need_of, needs_of}
use Rattle.cert_check.specs.Rulebooks.{lists_of}
use Rattle.cert_check.proofs.BookLemmas.{item_there, seen_more}
use Rattle.cert_check.proofs.goals.add_before.Goals as goal

-- the conjunct stands before one more of the others
pub loop-tail-preserved : goal.loop-tail-preserved
loop-tail-preserved c =
    let tails = c.args.tails.now in
    let tail = c.tail-item.result in
    let a = need_of c.args.first.now in
    let i = c.loop-tail.tail-index in
    let users_of = λ (users : Vec Conjunct Global). users.items in
    let at = item_there tails i tail c.loop-tail-test.true c.tail-item.is in
    let made : needs_of c.in_ok-with_first.field-0.items ≡ a ∷ needs_of tail.items = rw (c.deref.ensures.value) at c.in_ok-with_first.ensures in
    let there = get_map (λ needs. a ∷ needs) (lists_of users_of tails) i (needs_of tail.items)
    (get_map (λ (users : Vec Conjunct Global). needs_of users.items) tails i tail at) in
    seen_more (λ (users : Vec Conjunct Global). needs_of users.items) (lists_of users_of c.args.all.now.items)
    (map (λ needs. a ∷ needs) (lists_of users_of tails)) c.loop-tail.all.items c.push.new.self.items i
    c.in_ok-with_first.field-0 (a ∷ needs_of tail.items) c.loop-tail.invariant there c.in_ok-push.ensures.items made
