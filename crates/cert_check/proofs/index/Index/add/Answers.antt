use Rattle.std.proofs.Common.{◌≡◌, ◌∙◌, ◌++◌, ◌∷◌, [], ap, map, List, Bor}
use Rattle.std.proofs.lemmas.List.{map_push}
use Rattle.arbac_policy.specs.declared.conjunct.Conjunct.{Conjunct}
use Rattle.arbac_laws.specs.Views.{needs_of}
use Rattle.cert_check.proofs.IndexLemmas.{marked_more}
use Rattle.cert_check.proofs.index.Index.add.Goals as goal

-- the new member has its mark
pub invariant_of-self-2 : goal.invariant_of-self-2
invariant_of-self-2 c =
    let view = λ (users : Bor (List Conjunct)). needs_of users.now in
    let members = c.self.inside.members.items in
    let grown : c.push_reserved.new.self.items ≡ members ++ c.args.users ∷ [] =
    c.push_reserved.ensures.items ∙ ap (λ (items : List (Bor (List Conjunct))). items ++ c.args.users ∷ []) c.in_ok-reserve.ensures.items in
    rw (grown, map_push view members c.args.users, c.in_ok-insert.ensures.added)
    (marked_more c.self.inside.order.now (map view members) c.self.inside.marks (needs_of c.args.users.now) c.in_ok-mark.mark
    c.self.invariant c.in_ok-mark.ensures)
