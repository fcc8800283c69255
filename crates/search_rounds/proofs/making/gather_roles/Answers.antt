use Rattle.std.proofs.Common.{ℕ, ◌∙◌, List, sym, ap, subst}
use Rattle.arbac_laws.specs.Obligations.{flat}
use Rattle.arbac_laws.specs.Recorded.{Entry}
use Rattle.search_rounds.specs.Listing.{of_acts, GoesOn}
use Rattle.search_rounds.proofs.ListingLemmas.{starts, goes_on, ends}
use Rattle.search_rounds.proofs.making.gather_roles.Goals as goal

-- nothing is gathered yet
pub loop-role-init : goal.loop-role-init
loop-role-init c =
    let f : ℕ → List Entry = of_acts c.args.work.now c.args.acts.now in
    subst (λ (l : List ℕ). GoesOn c.args.gathering.now c.args.gathering.now (flat f l) (flat f c.args.roles.now))
    (sym (c.into_iter-role-iterator.ensures.into_iter_gives ∙ c.roles-role-items.ensures))
    (starts c.args.gathering.now (flat f c.args.roles.now))

-- those with one role more
pub loop-role-preserved : goal.loop-role-preserved
loop-role-preserved c =
    let f : ℕ → List Entry = of_acts c.args.work.now c.args.acts.now in
    goes_on c.args.gathering.now c.loop-role.gathering c.gather_role.new.gathering (flat f c.loop-role.role-iterator) (f c.in-Some.role)
    (flat f c.next.new.self) (flat f c.args.roles.now) (ap (flat f) c.in-Some.ensures.steps) c.loop-role.invariant c.in_ok-gather_role.ensures

-- those with all roles
pub returns : goal.returns
returns c =
    let f : ℕ → List Entry = of_acts c.args.work.now c.args.acts.now in
    ends c.args.gathering.now c.loop-role.gathering (flat f c.loop-role.role-iterator) (flat f c.args.roles.now)
    (ap (flat f) c.in-None.ensures.steps.0) c.loop-role.invariant
