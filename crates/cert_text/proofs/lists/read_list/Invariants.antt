use Rattle.std.proofs.Common.{◌≡◌, length, option_map}
use Rattle.cert_text.specs.Spelling.{list_in}
use Rattle.cert_text.specs.Told.{set_behind, set_named}
use Rattle.cert_text.proofs.lists.read_list.Given as goal

abbrev pub invariant-loop-word : goal.invariant-loop-word
invariant-loop-word l =
    option_map (set_behind l.order.names l.set) (list_in l.rest) ≡ option_map (set_named l.order.names) (list_in l.text)

abbrev pub decreases-loop-word : goal.decreases-loop-word
decreases-loop-word l = length l.rest
