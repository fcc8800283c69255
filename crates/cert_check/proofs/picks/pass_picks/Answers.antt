use Rattle.std.proofs.Common.{◌≡◌, ◌∙◌, ◌++◌, ◌∷◌, [], length, take, drop, List, sym, ap, subst}
use Rattle.std.specs.Prelude.{IsTrue, ◌↔◌}
use Rattle.cert_needs.specs.declared.wanted.Wanted.{Wanted}
use Rattle.cert_needs.specs.Wanted.{needs_wanted}
use Rattle.cert_check.specs.Asked.{IsUncovered}
use Rattle.cert_check.proofs.PickLemmas.{counts_some, user_open, picks_count, kept}
use Rattle.cert_check.proofs.picks.pass_picks.Goals as goal

-- the act of a user is open
pub returns-then-branch : goal.returns-then-branch
returns-then-branch c =
    user_open c.args.index.now.members c.args.hit.now (needs_wanted c.args.users.now.items) c.args.target c.args.place.now c.pass_users.new.place
    c.in_ok-pass_users.field-0 (rw c.deref_mut.ensures.value at c.in_ok-pass_users.ensures.counts) c.if-branch.true

-- those of the users are passed, and then a new user's
pub returns : goal.returns
returns c =
    let members = c.args.index.now.members in
    let users = needs_wanted c.args.users.now.items in
    let items = c.args.users.now.items in
    let new = c.pass_users.new.users in
    let same : take c.args.users.now.len (new ++ drop (length new) items) ≡ items =
    kept items new c.args.users.now.len (sym c.deref_mut.ensures.len ∙ ap length c.deref_mut.ensures.value)
    (c.in_ok-pass_users.ensures.users ∙ c.deref_mut.ensures.value) in
    picks_count members c.args.hit.now users c.args.target c.args.place.now c.pass_users.new.place c.pass_closed.new.place
    c.in_ok-pass_users.field-0 c.in_ok-found.found (rw c.deref_mut.ensures.value at c.in_ok-pass_users.ensures.counts) c.if-branch.false
    (counts_some members _ c.in_ok-is_open.is_open c.in_ok-found.found c.pass_users.new.place c.pass_closed.new.place
    (subst (λ (l : List Wanted). IsTrue c.in_ok-is_open.is_open ↔ IsUncovered members (needs_wanted l
    ++ record { hits = c.args.hit.now ∷ []; lacks = [] } ∷ [])) same c.in_ok-is_open.ensures)
    c.in_ok-found.ensures.same c.in_ok-found.ensures.open c.in_ok-found.ensures.passed)
