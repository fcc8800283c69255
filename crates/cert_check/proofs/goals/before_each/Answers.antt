use Rattle.std.proofs.Common.{Vec, Global}
use Rattle.list_words.proofs.GetLemmas.{get_map}
use Rattle.arbac_policy.specs.declared.conjunct.Conjunct.{Conjunct}
use Rattle.arbac_laws.specs.Views.{need_of, needs_of}
use Rattle.cert_check.specs.Rulebooks.{lists_of}
use Rattle.cert_check.proofs.BookLemmas.{item_there, before_more}
use Rattle.cert_check.proofs.goals.before_each.Goals as goal

-- one conjunct more stands before each of the others
pub loop-first-preserved : goal.loop-first-preserved
loop-first-preserved c =
    let firsts = c.args.firsts.now in
    let first = c.first-item.result in
    let i = c.loop-first.first-index in
    let users_of = λ (users : Vec Conjunct Global). users.items in
    let at = item_there firsts i first c.loop-first-test.true c.first-item.is in
    before_more (needs_of firsts) (lists_of users_of c.args.tails.now) (lists_of users_of c.loop-first.all.items)
    (lists_of users_of c.add_before.new.all.items) i (need_of first) (get_map need_of firsts i first at) c.in_ok-add_before.ensures c.loop-first.invariant
