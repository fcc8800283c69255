use Rattle.std.specs.Prelude.{◌⊎◌}
use Rattle.list_words.specs.Lists.{IsOneOf}
use Rattle.need_marks.specs.Marks.{HasNothing}
use Rattle.need_marks.proofs.marks.heaviest.Given as goal

abbrev pub invariant-loop-mark : goal.invariant-loop-mark
invariant-loop-mark l = HasNothing l.most ⊎ IsOneOf l.marks l.most
