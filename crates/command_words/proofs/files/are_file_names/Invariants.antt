use Rattle.std.proofs.Common.{take, map}
use Rattle.list_words.specs.Lists.{Each}
use Rattle.command_words.specs.Words.{IsFileName}
use Rattle.command_words.proofs.files.are_file_names.Given as goal

abbrev pub invariant-loop-word : goal.invariant-loop-word
invariant-loop-word l = Each IsFileName (map (λ word. word.now) (take l.word-index l.words))
