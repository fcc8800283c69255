use Rattle.std.proofs.Common.{◌≡◌, map}
use Rattle.toml.specs.View.{members_view}
use Rattle.question_text.specs.Keys.{first_unknown}
use Rattle.question_text.proofs.keys.unknown_key.Given as goal

abbrev pub invariant-loop-key : goal.invariant-loop-key
invariant-loop-key l =
    (goal.iterator-loop-key).can_next l.key-iterator × (goal.iterator-loop-key).is_finite l.key-iterator
    × (first_unknown (map (λ key. key.now) l.known) (members_view l.key-iterator) ≡ first_unknown (map (λ key. key.now) l.known)
    (members_view l.table.entries))
