use Rattle.std.proofs.Common.{◌≡◌, ◌++◌, drop}
use Rattle.cond_text.specs.Words.{words_from, placed_words}
use Rattle.cond_text.proofs.words.placed_words.Given as goal

abbrev pub invariant-loop-at : goal.invariant-loop-at
invariant-loop-at l = l.list.items ++ words_from l.order.names l.at l.behind_name (drop l.at l.text) ≡ placed_words l.order.names l.text
