use Rattle.std.proofs.Common.{◌≡◌, ◌++◌, map, drop, take}
use Rattle.list_words.specs.Lists.{Each}
use Rattle.arbac_laws.specs.Obligations.{flat}
use Rattle.cert_text.specs.Certificates.{entry_of}
use Rattle.cert_text.specs.Texts.{step_lines, line_text}
use Rattle.cert_text.specs.Sizes.{IsSizedEntry}
use Rattle.cert_text.proofs.writing.put_steps.Given as goal

-- what is written, and the lines that are left, are the whole; the steps so far have numbers of 32 bits, and sets that rise
abbrev pub invariant-loop-step : goal.invariant-loop-step
invariant-loop-step l =
    (l.text.items ++ flat line_text (flat (step_lines l.order.names) (drop l.step-index (map entry_of l.steps)))
    ≡ l.initial.text.items ++ flat line_text (flat (step_lines l.order.names) (map entry_of l.steps)))
    × Each IsSizedEntry (take l.step-index (map entry_of l.steps))
