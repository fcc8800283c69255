use Rattle.std.proofs.Common.{◌≡◌, [], map, length}
use Rattle.policy_text.specs.Spelling.{names_behind, words}
use Rattle.policy_text.proofs.line.names_of.Given as goal

abbrev pub invariant-loop-word : goal.invariant-loop-word
invariant-loop-word l = names_behind (map (λ name. name.now) l.names.items) (words l.rest) ≡ names_behind [] (words l.text)

abbrev pub decreases-loop-word : goal.decreases-loop-word
decreases-loop-word l = length l.rest
