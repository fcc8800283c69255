use Rattle.std.proofs.Common.{◌≡◌, ◌++◌, map, drop, take}
use Rattle.list_words.specs.Lists.{Each}
use Rattle.arbac_laws.specs.Obligations.{flat}
use Rattle.cert_text.specs.Certificates.{users_of}
use Rattle.cert_text.specs.Texts.{need_lines, line_text}
use Rattle.cert_text.specs.Sizes.{HasSets}
use Rattle.cert_text.proofs.writing.put_needs.Given as goal

-- what is written, and the lines that are left, are the whole; the sets so far rise
abbrev pub invariant-loop-need : goal.invariant-loop-need
invariant-loop-need l =
    (l.text.items ++ flat line_text (flat (need_lines l.order.names) (drop l.need-index (map users_of l.needs)))
    ≡ l.initial.text.items ++ flat line_text (flat (need_lines l.order.names) (map users_of l.needs)))
    × Each (Each HasSets) (take l.need-index (map users_of l.needs))
