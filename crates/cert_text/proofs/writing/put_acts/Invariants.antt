use Rattle.std.proofs.Common.{◌≡◌, ◌++◌, map, drop, take}
use Rattle.list_words.specs.Lists.{Each}
use Rattle.arbac_laws.specs.Obligations.{flat}
use Rattle.cert_text.specs.LineForms.{an_act}
use Rattle.cert_text.specs.Texts.{written_act, line_text}
use Rattle.cert_text.specs.Sizes.{IsSizedAct}
use Rattle.cert_text.proofs.writing.put_acts.Given as goal

-- what is written, and the lines that are left, are the whole; the numbers so far have 32 bits
abbrev pub invariant-loop-act : goal.invariant-loop-act
invariant-loop-act l =
    (l.text.items ++ flat line_text (map (λ act. an_act (written_act l.order.names act)) (drop l.act-index l.acts))
    ≡ l.initial.text.items ++ flat line_text (map (λ act. an_act (written_act l.order.names act)) l.acts))
    × Each IsSizedAct (take l.act-index l.acts)
