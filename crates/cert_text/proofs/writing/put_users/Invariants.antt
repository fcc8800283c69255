use Rattle.std.proofs.Common.{◌≡◌, ◌++◌, map, drop, take}
use Rattle.list_words.specs.Lists.{Each}
use Rattle.arbac_laws.specs.Views.{needs_of}
use Rattle.arbac_laws.specs.Obligations.{flat}
use Rattle.cert_text.specs.Texts.{user_form, line_text}
use Rattle.cert_text.specs.Sizes.{HasSets}
use Rattle.cert_text.proofs.writing.put_users.Given as goal

-- what is written, and the lines that are left, are the whole; the sets so far rise
abbrev pub invariant-loop-user : goal.invariant-loop-user
invariant-loop-user l =
    (l.text.items ++ flat line_text (map (user_form l.order.names) (drop l.user-index (needs_of l.users)))
    ≡ l.initial.text.items ++ flat line_text (map (user_form l.order.names) (needs_of l.users)))
    × Each HasSets (take l.user-index (needs_of l.users))
