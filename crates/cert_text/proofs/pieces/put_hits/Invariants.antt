use Rattle.std.proofs.Common.{◌≡◌, ◌++◌, map, drop, take}
use Rattle.list_words.specs.Lists.{Each}
use Rattle.role_order.specs.Roles.{Rises}
use Rattle.cert_text.specs.LineForms.{spell_hits}
use Rattle.cert_text.specs.Texts.{set_names}
use Rattle.cert_text.proofs.pieces.put_hits.Given as goal

-- what is written, and the hits that are left, are the whole; those so far rise
abbrev pub invariant-loop-hit : goal.invariant-loop-hit
invariant-loop-hit l =
    (l.text.items ++ spell_hits (map (set_names l.order.names) (drop l.hit-index l.hits))
    ≡ l.initial.text.items ++ spell_hits (map (set_names l.order.names) l.hits))
    × Each Rises (take l.hit-index l.hits)
