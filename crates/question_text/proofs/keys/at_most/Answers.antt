use Rattle.std.proofs.Common.{arith}
use Rattle.question_text.specs.Keys.{list_of}
use Rattle.toml.specs.View.{items_view}
use Rattle.question_text.proofs.KeyLemmas.{listed_long, few_enough, too_long}
use Rattle.question_text.proofs.keys.at_most.Goals as goal

pub returns-then-len-most : goal.returns-then-len-most
returns-then-len-most c =
    let list = c.args.list.now in
    let long = listed_long list.items in
    few_enough c.args.most c.args.path.now (list_of (items_view list.items)) c.len.result (omega (arith, long, list.ok.0)) c.if-len-most.true

pub returns-in_ok-from_str-in-Ok : goal.returns-in_ok-from_str-in-Ok
returns-in_ok-from_str-in-Ok c =
    let list = c.args.list.now in
    let long = listed_long list.items in
    rw c.in_ok-from_str-in-Ok.ensures.ok
    (too_long c.args.most c.args.path.now (list_of (items_view list.items)) c.in-Ok.count (omega (arith, long, list.ok.0, c.in-Ok.ensures))
    (omega (arith, c.in-Ok.ensures)))
