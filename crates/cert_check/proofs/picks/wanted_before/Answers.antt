use Rattle.std.proofs.Common.{◌≡◌, ◌∙◌, ◌++◌, length, take, drop, sym, ap, subst}
use Rattle.std.specs.Prelude.{slice_set}
use Rattle.arbac_laws.specs.Views.{need_of}
use Rattle.cert_needs.specs.Wanted.{needs_wanted, AreFree}
use Rattle.cert_check.proofs.PickLemmas.{written}
use Rattle.cert_check.proofs.picks.wanted_before.Goals as goal

-- the target's requirement is exchanged
pub returns-clause-needs : goal.returns-clause-needs
returns-clause-needs c =
    let items = c.in_ok-list.list.items in
    let new = c.exchange.new.users in
    let one = need_of c.args.before.now in
    let back : take c.in_ok-list.list.len (new ++ drop (length new) items) ≡ new =
    written items new c.in_ok-list.list.len (sym c.deref_mut.ensures.len ∙ ap length c.deref_mut.ensures.value)
    (c.exchange.auto.users ∙ ap length c.deref_mut.ensures.value) in
    ap needs_wanted back ∙ c.exchange.ensures.needs
    ∙ ap (λ l. slice_set (needs_wanted l) c.args.target one) c.deref_mut.ensures.value
    ∙ ap (λ l. slice_set l c.args.target one) c.in_ok-list.ensures.needs

-- none administers
pub returns-clause-free : goal.returns-clause-free
returns-clause-free c =
    let items = c.in_ok-list.list.items in
    let new = c.exchange.new.users in
    let back : take c.in_ok-list.list.len (new ++ drop (length new) items) ≡ new =
    written items new c.in_ok-list.list.len (sym c.deref_mut.ensures.len ∙ ap length c.deref_mut.ensures.value)
    (c.exchange.auto.users ∙ ap length c.deref_mut.ensures.value) in
    subst AreFree (sym back) (c.exchange.ensures.free (subst AreFree (sym c.deref_mut.ensures.value) c.in_ok-list.ensures.free))
