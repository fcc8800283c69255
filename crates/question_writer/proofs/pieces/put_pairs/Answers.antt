use Rattle.list_words.proofs.GetLemmas.{get_at}
use Rattle.question_writer.specs.Texts.{pair_text}
use Rattle.question_writer.proofs.PieceLemmas.{joined_step, joined_end}
use Rattle.question_writer.proofs.pieces.put_pairs.Goals as goal

pub loop-place-preserved : goal.loop-place-preserved
loop-place-preserved c =
    joined_step (pair_text c.args.order.now.names) c.args.pairs.now c.loop-place.place _ c.loop-place.text.items c.put_comma.new.text.items
    c.put_pair.new.text.items _
    (get_at c.args.pairs.now c.loop-place.place (0, 0) c.loop-place-test.true) c.loop-place.invariant c.in_ok-put_comma.ensures c.in_ok-put_pair.ensures

pub returns : goal.returns
returns c = joined_end
    (pair_text c.args.order.now.names) c.args.pairs.now c.loop-place.place c.args.text.now.items c.put.new.text.items c.loop-place.text.items
    c.put-2.new.text.items
    c.loop-place-test.false c.in_ok-put.ensures c.loop-place.invariant c.in_ok-put-2.ensures
