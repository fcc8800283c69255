use Rattle.std.proofs.Common.{◌≡◌, ◌<◌, ◌++◌, length}
use Rattle.list_words.specs.Lists.{Each}
use Rattle.cert_text.specs.LineForms.{behind_commas}
use Rattle.cert_text.specs.Texts.{set_names}
use Rattle.cert_text.proofs.pieces.put_more_names.Given as goal

-- what is written, and the names of the roles that are left, are the whole
abbrev pub invariant-loop-role : goal.invariant-loop-role
invariant-loop-role l =
    (l.text.items ++ behind_commas (set_names l.order.names l.role-iterator)
    ≡ l.initial.text.items ++ behind_commas (set_names l.order.names l.fn.roles))
    × Each (λ role. role < length l.order.names) l.role-iterator
