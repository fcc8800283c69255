use Rattle.std.proofs.Common.{◌≡◌, length, option_map}
use Rattle.cert_text.specs.Spelling.{user_in}
use Rattle.cert_text.specs.Told.{user_behind, user_named}
use Rattle.cert_text.proofs.lists.read_user.Given as goal

abbrev pub invariant-loop-key : goal.invariant-loop-key
invariant-loop-key l =
    option_map (user_behind l.order.names (option_map (λ v. v.items) l.hits)) (user_in l.rest)
    ≡ option_map (user_named l.order.names) (user_in l.text)

abbrev pub decreases-loop-key : goal.decreases-loop-key
decreases-loop-key l = length l.rest
