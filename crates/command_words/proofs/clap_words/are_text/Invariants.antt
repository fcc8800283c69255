use Rattle.std.proofs.Common.{take}
use Rattle.role_order.specs.Names.{texts}
use Rattle.command_words.specs.Reading.{AreText}
use Rattle.command_words.proofs.clap_words.are_text.Given as goal

abbrev pub invariant-loop-word : goal.invariant-loop-word
invariant-loop-word l = AreText (texts (take l.word-index l.words))
