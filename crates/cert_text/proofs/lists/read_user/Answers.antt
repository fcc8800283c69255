use Rattle.std.proofs.Common.{◌∙◌, sym, arith}
use Rattle.cond_text.proofs.CutLemmas.{cut_shorter}
use Rattle.cert_text.proofs.UserReadLemmas.{user_more, user_stop, user_other, user_odd, user_last}
use Rattle.cert_text.proofs.lists.read_user.Goals as goal

-- the last pair ends the line
pub returns-in_default-cut : goal.returns-in_default-cut
returns-in_default-cut c =
    let last = user_last c.loop-key.rest.now c.in-Some.key.now c.in-Some.behind.now c.in-Some.ensures c.in_default-cut.ensures in
    let whole = rw last at c.loop-key.invariant in
    rw (← whole) c.end_user.ensures

-- words behind a pair that is no hit
pub returns-then-not-is : goal.returns-then-not-is
returns-then-not-is c =
    rw (user_other c.loop-key.rest.now c.in-Some.key.now c.in-Some.behind.now c.in-Some-cut.list.now c.in-Some-cut.after.now c.in-Some.ensures
    c.in-Some-cut.ensures (sym c.is.ensures ∙ c.if-not-is.true)) at c.loop-key.invariant

-- a faulty list
pub returns-in_default-read_list : goal.returns-in_default-read_list
returns-in_default-read_list c =
    rw (user_stop c.args.order.now.names c.loop-key.rest.now c.in-Some.key.now c.in-Some.behind.now c.in-Some-cut.list.now c.in-Some-cut.after.now
    c.in-Some.ensures c.in-Some-cut.ensures (sym c.is.ensures ∙ c.if-not-is.false) c.in_default-read_list.ensures) at c.loop-key.invariant

pub loop-key-smaller : goal.loop-key-smaller
loop-key-smaller c =
    let first = cut_shorter 32 c.loop-key.rest.now c.in-Some.key.now c.in-Some.behind.now (sym c.in-Some.ensures) in
    let second = cut_shorter 32 c.in-Some.behind.now c.in-Some-cut.list.now c.in-Some-cut.after.now (sym c.in-Some-cut.ensures) in
    omega arith

-- one hit more
pub loop-key-preserved : goal.loop-key-preserved
loop-key-preserved c =
    rw c.in_ok-hits.ensures
    (user_more c.args.order.now.names _ c.in-Some-read_list.set c.loop-key.rest.now c.in-Some.key.now c.in-Some.behind.now c.in-Some-cut.list.now
    c.in-Some-cut.after.now c.in-Some.ensures c.in-Some-cut.ensures (sym c.is.ensures ∙ c.if-not-is.false) c.in-Some-read_list.ensures
    ∙ c.loop-key.invariant)

-- a word without another behind it
pub returns : goal.returns
returns c = rw (user_odd c.loop-key.rest.now c.in_default.ensures) at c.loop-key.invariant
