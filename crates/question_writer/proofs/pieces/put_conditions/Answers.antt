use Rattle.std.proofs.Common.{◌∙◌, sym, ap, map, length, arith, Some}
use Rattle.role_order.proofs.ClosureLemmas.{length_mapped}
use Rattle.list_words.proofs.GetLemmas.{get_at, get_map}
use Rattle.list_words.proofs.EachLemmas.{each_at}
use Rattle.arbac_policy.specs.Truth.{term_of, IsKnown}
use Rattle.question_writer.specs.Texts.{condition_text}
use Rattle.question_writer.proofs.PieceLemmas.{joined_step, joined_end}
use Rattle.question_writer.proofs.pieces.put_conditions.Goals as goal

pub put_condition-requires : goal.put_condition-requires
put_condition-requires c =
    each_at (IsKnown (length c.args.order.now.names)) (map term_of c.args.conds.now) c.loop-place.place (term_of c.index-conds-place.result) c.requires
    (get_map term_of c.args.conds.now c.loop-place.place c.index-conds-place.result
    (get_at c.args.conds.now c.loop-place.place c.index-conds-place.result c.loop-place-test.true ∙ ap Some (sym c.index-conds-place.is)))

pub loop-place-preserved : goal.loop-place-preserved
loop-place-preserved c =
    joined_step (condition_text c.args.order.now.names) (map term_of c.args.conds.now) c.loop-place.place (term_of c.index-conds-place.result)
    c.loop-place.text.items c.put_comma.new.text.items c.put_condition.new.text.items _
    (get_map term_of c.args.conds.now c.loop-place.place c.index-conds-place.result
    (get_at c.args.conds.now c.loop-place.place c.index-conds-place.result c.loop-place-test.true ∙ ap Some (sym c.index-conds-place.is)))
    c.loop-place.invariant c.in_ok-put_comma.ensures c.in_ok-put_condition.ensures

pub returns : goal.returns
returns c = joined_end (condition_text c.args.order.now.names)
    (map term_of c.args.conds.now) c.loop-place.place c.args.text.now.items c.put.new.text.items c.loop-place.text.items c.put-2.new.text.items
    (let same = length_mapped term_of c.args.conds.now in omega arith) c.in_ok-put.ensures c.loop-place.invariant c.in_ok-put-2.ensures
