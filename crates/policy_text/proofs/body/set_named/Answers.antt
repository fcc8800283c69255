use Rattle.std.proofs.Common.{arith, sym, map}
use Rattle.policy_text.proofs.UserLemmas.{set_more, set_all, unknown_at, map_at}
use Rattle.policy_text.proofs.body.set_named.Goals as goal
use Rattle.std.proofs.lemmas.List.{length-map}

pub returns-in_default-clause-none : goal.returns-in_default-clause-none
returns-in_default-clause-none c =
    unknown_at c.args.order.now.names (map (λ name. name.now) c.args.names.now) c.loop-name.name-index _
    (map_at (λ name. name.now) c.args.names.now c.loop-name.name-index _ c.loop-name-test.true)
    (sym c.in_default.ensures.place)

pub loop-name-preserved : goal.loop-name-preserved
loop-name-preserved c =
    set_more c.args.order.now.names (map (λ name. name.now) c.args.names.now) c.loop-name.name-index _ c.in-Some.role c.loop-name.set c.with-set.result
    (map_at (λ name. name.now) c.args.names.now c.loop-name.name-index _ c.loop-name-test.true) c.loop-name.invariant
    (sym c.in-Some.ensures.place) c.with-set.ensures

pub returns-clause-some : goal.returns-clause-some
returns-clause-some c =
    let long = length-map c.args.names.now (λ name. name.now) in
    set_all c.args.order.now.names (map (λ name. name.now) c.args.names.now) c.loop-name.name-index c.loop-name.set
    (omega (arith, long)) c.loop-name.invariant
