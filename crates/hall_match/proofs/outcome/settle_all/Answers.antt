use Rattle.std.proofs.Common.{ℕ, ◌≡◌, ◌-◌, List, Option, Vec, Bool, arith, ◌∙◌, subst}
use Rattle.std.specs.declared.alloc.Global.{Global}
use Rattle.std.proofs.lemmas.Option.{MatchOption-at_some, MatchOption-at_none}
use Rattle.hall_match.specs.Search.{Instance, instance, IsClosedRow}
use Rattle.hall_match.specs.Settling.{Settles}
use Rattle.hall_match.specs.Blocking.{AreBlocked}
use Rattle.hall_match.proofs.DeficiencyLemmas.{blocked_deficient}
use Rattle.hall_match.proofs.SettlingLemmas.{given_down}
use Rattle.hall_match.proofs.outcome.settle_all.Goals as goal

pub returns-in-Some-clause-deficient : goal.returns-in-Some-clause-deficient
returns-in-Some-clause-deficient c = λ edges rows.
    let old = c.loop-item in
    let item : ℕ = old.item - 1 in
    let given = old.held.given.items in
    let s : Instance = instance c.args.capacities.now c.args.rows.now given item in
    let seen = c.in-Some.seen in
    let closed = MatchOption-at_some (Settles s c.settle.new.held.given.items)
    (λ (v : Vec Bool Global). IsClosedRow s v.items) seen c.in-Some.is
    c.in_ok-seen.ensures.outcome in
    let same = MatchOption-at_some (Unit {0}) (λ (v : Vec Bool Global).
    c.settle.new.held.given.items ≡ given) seen c.in-Some.is c.in_ok-seen.ensures.unchanged in
    let read : c.deref.result.now ≡ given = c.deref.ensures.value ∙ same in
    let marks = c.deref-in-Some.ensures.value in
    let blocked : AreBlocked given seen.items item c.in_ok-blocked_items.field-0.items = subst
    (λ (g : List (Option ℕ)). AreBlocked g seen.items item c.in_ok-blocked_items.field-0.items)
    read
    (subst (λ (m : List Bool). AreBlocked c.deref.result.now m item
    c.in_ok-blocked_items.field-0.items) marks c.in_ok-blocked_items.ensures) in
    blocked_deficient s c.args.left edges seen.items c.in_ok-blocked_items.field-0.items rows
    old.invariant.whole (omega (arith, old.invariant.whole))
    (λ k l. old.invariant.none k (omega (arith, l))) closed blocked

pub loop-item-preserved : goal.loop-item-preserved
loop-item-preserved c =
    let old = c.loop-item in
    let item : ℕ = old.item - 1 in
    let s : Instance = instance c.args.capacities.now c.args.rows.now old.held.given.items item in
    let new = c.settle.new.held.given.items in
    let settled = MatchOption-at_none (Settles s new) (λ (v : Vec Bool Global). IsClosedRow s
    v.items) c.in_default.is c.in_ok-seen.ensures.outcome in
    record {
      whole = settled.whole ∙ old.invariant.whole;
      places = c.in_ok-seen.ensures.places ∙ old.invariant.places;
      held = settled.held;
      given = λ k l m. given_down s new settled k l (λ later. old.invariant.given k
          (omega (arith, later)) m);
      none = λ k l. settled.before k l ∙ old.invariant.none k (omega (arith, l));
    }
