use Rattle.std.proofs.Common.{ℕ, ◌≡◌, length, Option, None, Vec, Bool, arith, ◌∙◌, ap}
use Rattle.std.specs.declared.alloc.Global.{Global}
use Rattle.std.proofs.lemmas.List.{length-set}
use Rattle.std.proofs.lemmas.Option.{MatchOption-at_none}
use Rattle.hall_match.specs.Holding.{given_at}
use Rattle.hall_match.specs.Rows.{lists}
use Rattle.hall_match.specs.Search.{Instance, instance, IsClosedRow}
use Rattle.hall_match.specs.Settling.{Settles}
use Rattle.hall_match.proofs.LeastLemmas.{up_to_next}
use Rattle.hall_match.proofs.SettlingLemmas.{given_all, release_free, release_other, held_release, row_open, not_some, is_nothing}
use Rattle.hall_match.proofs.outcome.settle_least.Goals as goal

pub settle-requires-clause-held : goal.settle-requires-clause-held
settle-requires-clause-held c = rw c.release.ensures.given (held_release c.args.capacities.now
    (lists c.args.rows.now) c.loop-item.held.given.items c.loop-item.item
    c.loop-item.invariant.held)

pub prove-unreachable-requires : goal.prove-unreachable-requires
prove-unreachable-requires c =
    let old = c.loop-item in
    let given = old.held.given.items in
    let s : Instance = instance c.args.capacities.now c.args.rows.now c.release.new.self.given.items
    old.item in
    let had = old.invariant.given old.item c.loop-item-test.true in
    not_some c.in_ok-closed.closed (Settles s c.settle.new.held.given.items)
    (λ (v : Vec Bool Global). IsClosedRow s v.items) c.in_ok-closed.ensures.outcome
    (λ (v : Vec Bool Global) (closed : IsClosedRow s v.items). row_open s given v.items had.0
    c.release.ensures.given old.invariant.held had.1 closed) (c.if-prove.ensures)

pub loop-item-preserved : goal.loop-item-preserved
loop-item-preserved c =
    let old = c.loop-item in
    let given = old.held.given.items in
    let now = c.release.new.self.given.items in
    let new = c.settle.new.held.given.items in
    let caps = c.args.capacities.now in
    let s : Instance = instance caps c.args.rows.now now old.item in
    let none' = is_nothing c.in_ok-closed.closed (c.if-prove.ensures) in
    let settled = MatchOption-at_none (Settles s new) (λ (v : Vec Bool Global). IsClosedRow s
    v.items) none' c.in_ok-closed.ensures.outcome in
    let long : length now ≡ c.args.left = ap length c.release.ensures.given ∙ length-set
    {A = Option ℕ} given old.item None ∙ old.invariant.whole in
    let free : given_at now old.item ≡ None = rw c.release.ensures.given
    (release_free caps s.rows given old.item old.invariant.held) in
    let stood = λ (k : ℕ) (n : k ≡ old.item → ⊥). ap (λ g. given_at g k) c.release.ensures.given ∙
    release_other caps s.rows given old.item old.invariant.held k n in
    record {
      whole = settled.whole ∙ long;
      places = c.in_ok-closed.ensures.places ∙ c.release.ensures.places ∙ old.invariant.places;
      held = settled.held;
      given = λ k l. given_all s given new settled k stood (old.invariant.given k l);
      least = λ edges other have m.
          up_to_next s c.args.left edges given new other have long c.loop-item-test.true free
          (λ k l. stood k (λ e. omega (arith, e, l))) settled m
          (old.invariant.least edges other have m);
    }

pub returns-clause-least : goal.returns-clause-least
returns-clause-least c =
    let all : c.loop-item.item ≡ c.args.left = omega arith in
    λ edges other have m. let r = c.loop-item.invariant.least edges other have m in rw all at r
