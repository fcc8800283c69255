use Rattle.std.proofs.Common.{◌≡◌, ◌++◌, drop}
use Rattle.text_pieces.specs.Pieces.{pieces_from}
use Rattle.desk_texts.specs.Lines.{held_name, held_names}
use Rattle.desk_texts.proofs.lines.put_held_names.Given as goal

-- what is written, and the names from the role on, are the whole
abbrev pub invariant-loop-role : goal.invariant-loop-role
invariant-loop-role l =
    l.text.items ++ pieces_from (held_name l.set) l.role (drop l.role l.order.names) ≡ l.initial.text.items ++ held_names l.order.names l.set
