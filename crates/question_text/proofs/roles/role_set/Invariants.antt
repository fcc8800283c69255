use Rattle.std.proofs.Common.{ℕ, List, ◌≡◌, take, Ok}
use Rattle.toml.specs.View.{array_view}
use Rattle.cond_text.specs.Named.{set_of}
use Rattle.question_text.specs.Keys.{entries, list_of}
use Rattle.question_text.specs.Roles.{a_role}
use Rattle.question_text.proofs.roles.role_set.Given as goal

abbrev pub invariant-loop-place : goal.invariant-loop-place
invariant-loop-place l =
    (roles : List ℕ) × entries (a_role l.order.names) l.path (take l.place (list_of (array_view l.list))) (Ok roles) × (l.set ≡ set_of roles)
