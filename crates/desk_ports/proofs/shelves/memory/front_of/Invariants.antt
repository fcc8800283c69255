use Rattle.std.proofs.Common.{◌≡◌, drop}
use Rattle.desk_ports.specs.Shelves.{texts_of, text_named}
use Rattle.desk_ports.proofs.shelves.memory.front_of.Given as goal

-- the text is that of the files that are left
abbrev pub invariant-loop-file : goal.invariant-loop-file
invariant-loop-file l = text_named (texts_of (drop l.file-index l.files)) l.name ≡ text_named (texts_of l.files) l.name
