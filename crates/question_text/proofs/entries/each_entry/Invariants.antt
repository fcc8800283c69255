use Rattle.std.proofs.Common.{take, Ok}
use Rattle.toml.specs.View.{array_view}
use Rattle.question_text.specs.Keys.{entries, list_of}
use Rattle.question_text.proofs.entries.each_entry.Given as goal

abbrev pub invariant-loop-place : goal.invariant-loop-place
invariant-loop-place g l = entries (g.R.ReadEntry.reads l.reader) l.path (take l.place (list_of (array_view l.list))) (Ok l.values.items)
