use Rattle.std.proofs.Common.{◌∙◌, ap, map}
use Rattle.role_order.specs.Graph.{Graph}
use Rattle.arbac_policy.specs.Truth.{term_of}
use Rattle.question_text.specs.Values.{plain_of}
use Rattle.question_writer.proofs.PieceLemmas.{keys_done}
use Rattle.question_writer.proofs.writing.put_keys.Goals as goal

pub returns : goal.returns
returns c = keys_done (plain_of c.args.question.now) c.order-order.result.now.names c.edges.result.now c.exclusive-exclusive.result.now
    (map term_of c.deref.result.now) c.version_word.result.now c.truth_word.result.now
    c.args.text.now.items _ _ _ _ _ _ c.put_goal.new.text.items
    (ap (λ (o : Graph). o.names) c.order-order.ensures.order)
    (c.edges.ensures ∙ ap (λ (o : Graph). o.edges) c.order-order.ensures.order) c.exclusive-exclusive.ensures (ap (map term_of) c.deref.ensures.value)
    c.version_word.ensures c.truth_word.ensures
    c.in_ok-put_word_line.ensures c.in_ok-put_word_line-2.ensures c.in_ok-put_names_line.ensures c.in_ok-put_set_line.ensures
    c.in_ok-put_pairs_line.ensures c.in_ok-put_exclusive.ensures c.in_ok-put_goal.ensures
