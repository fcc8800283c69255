use Rattle.std.proofs.Common.{ℕ, ◌≡◌, ◌∙◌, ap, sym, subst, List, ◌∷◌, map}
use Rattle.arbac_laws.specs.Needs.{Need}
use Rattle.arbac_laws.specs.Orders.{need_before}
use Rattle.arbac_laws.specs.NormalForms.{insert_by}
use Rattle.req_core.specs.Forms.{IsPlaced, IsSpot, moved}
use Rattle.req_core.proofs.HitLemmas.{insert_at}
use Rattle.req_core.proofs.FormLemmas.{one_placed}
use Rattle.req_core.proofs.forms.add_user.Goals as goal

-- the user is put in at its place
pub returns-clause-users : goal.returns-clause-users
returns-clause-users c =
    let users = c.args.users.now.items in
    let spot : IsSpot need_before c.args.user users c.place_of-at.result = rw c.deref.ensures.value at c.place_of-at.ensures in
    c.in_ok-insert-2.ensures.items ∙ insert_at need_before c.args.user users c.place_of-at.result spot

-- the places from there on move
pub returns-clause-placed : goal.returns-clause-placed
returns-clause-placed c needs need same placed =
    let users = c.args.users.now.items in
    let places = c.args.places.now.items in
    let at = c.place_of-at.result in
    let spot : IsSpot need_before c.args.user users at = rw c.deref.ensures.value at c.place_of-at.ensures in
    let inserted : c.insert-2.new.self.items ≡ insert_by need_before c.args.user users =
    c.in_ok-insert-2.ensures.items ∙ insert_at need_before c.args.user users at spot in
    let told : c.insert.new.self.items ≡ at ∷ map (moved at) places = c.in_ok-insert.ensures.items
    ∙ ap (λ (t : List ℕ). at ∷ t) c.make_room.ensures in
    let now = one_placed needs users places need c.args.user at same spot placed in
    subst (λ (form : List Need). IsPlaced (need ∷ needs) form c.insert.new.self.items) (sym inserted)
    (subst (λ (list : List ℕ). IsPlaced (need ∷ needs) (insert_by need_before c.args.user users) list) (sym told) now)
