use Rattle.std.proofs.Common.{◌+◌, ◌++◌, ◌∙◌, ap, sym, drop, drop_of_length-le}
use Rattle.cond_text.specs.Words.{word_at, placed, words_from}
use Rattle.cond_text.proofs.WordLemmas.{from_place, word_kept, words_end}
use Rattle.cond_text.proofs.words.placed_words.Goals as goal

pub loop-at-preserved : goal.loop-at-preserved
loop-at-preserved c =
    ap (λ b. c.add_word.new.list.items ++ words_from c.args.order.now.names (c.loop-at.at + 1) b
    (drop (c.loop-at.at + 1) c.args.text.now)) c.is_name_byte-behind_name.ensures
    ∙ word_kept c.args.order.now.names c.args.text.now c.loop-at.at c.loop-at.behind_name c.loop-at.list.items c.add_word.new.list.items c.loop-at-test.true
    (c.in_ok-add_word.ensures ∙ ap (λ o. c.loop-at.list.items ++ placed c.loop-at.at o) c.word_at.ensures
    ∙ ap (λ t. c.loop-at.list.items ++ placed c.loop-at.at (word_at c.args.order.now.names c.loop-at.behind_name t))
    (from_place c.args.text.now c.loop-at.at))
    ∙ c.loop-at.invariant

pub returns : goal.returns
returns c =
    sym (words_end c.args.order.now.names c.loop-at.at c.loop-at.behind_name (drop c.loop-at.at c.args.text.now) c.loop-at.list.items
    (drop_of_length-le c.args.text.now c.loop-at-test.false))
    ∙ c.loop-at.invariant
