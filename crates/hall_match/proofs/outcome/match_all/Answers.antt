use Rattle.std.proofs.Common.{ℕ, ◌≡◌, length, List, Vec, arith, sym, ◌∙◌, ap}
use Rattle.std.specs.declared.alloc.Global.{Global}
use Rattle.std.proofs.lemmas.Option.{MatchOption-at_some}
use Rattle.hall_match.specs.Matchings.{IsDeficient}
use Rattle.hall_match.specs.Holding.{given_at}
use Rattle.hall_match.specs.Rows.{lists, HaveEdges}
use Rattle.hall_match.proofs.LawLemmas.{deficient}
use Rattle.hall_match.proofs.LeastLemmas.{least_from}
use Rattle.hall_match.proofs.SettlingLemmas.{rows_inside}
use Rattle.hall_match.proofs.outcome.match_all.Goals as goal

pub settle_all-requires-clause-inside : goal.settle_all-requires-clause-inside
settle_all-requires-clause-inside c = rw c.deref.ensures.value
    (rows_inside c.args.left c.args.capacities.now c.args.edges.now (lists c.in_ok-rows.rows.items)
    c.requires c.in_ok-rows.ensures.edges)

pub settle_least-requires-clause-inside : goal.settle_least-requires-clause-inside
settle_least-requires-clause-inside c = rw c.deref-2.ensures.value
    (rows_inside c.args.left c.args.capacities.now c.args.edges.now (lists c.in_ok-rows.rows.items)
    c.requires c.in_ok-rows.ensures.edges)

pub returns-in-Some-clause-deficient : goal.returns-in-Some-clause-deficient
returns-in-Some-clause-deficient c =
    let says = MatchOption-at_some (Unit {0}) (λ (items : Vec ℕ Global). (edges : List (ℕ × ℕ)) →
    HaveEdges (lists c.deref.result.now) edges → IsDeficient c.args.left c.args.capacities.now
    edges items.items) c.in-Some.items c.in-Some.is
    c.in_ok-items.ensures.deficient in
    says c.args.edges.now (rw c.deref.ensures.value c.in_ok-rows.ensures.edges)

pub returns-in-Some-clause-unmatched : goal.returns-in-Some-clause-unmatched
returns-in-Some-clause-unmatched c =
    let says = MatchOption-at_some (Unit {0}) (λ (items : Vec ℕ Global). (edges : List (ℕ × ℕ)) →
    HaveEdges (lists c.deref.result.now) edges → IsDeficient c.args.left c.args.capacities.now
    edges items.items) c.in-Some.items c.in-Some.is
    c.in_ok-items.ensures.deficient in
    λ list m. deficient c.args.left c.args.capacities.now c.args.edges.now c.in-Some.items.items
    list (says c.args.edges.now (rw c.deref.ensures.value c.in_ok-rows.ensures.edges)) m

pub places_of-requires : goal.places_of-requires
places_of-requires c = λ item l.
    let whole = c.in_ok-settle_least.ensures.whole in
    let read = ap length c.deref-3.ensures.value in
    rw c.deref-3.ensures.value (c.in_ok-settle_least.ensures.given item
    (omega (arith, l, whole, read)))

pub returns-clause-matched : goal.returns-clause-matched
returns-clause-matched c =
    let given = c.settle_least.new.held.given.items in
    let list = c.in_ok-places_of.field-0.items in
    let whole = c.in_ok-settle_least.ensures.whole in
    let read = c.deref-3.ensures.value in
    let have : HaveEdges (lists c.deref-2.result.now) c.args.edges.now = rw c.deref-2.ensures.value
    c.in_ok-rows.ensures.edges in
    let long : length list ≡ length given = c.in_ok-places_of.ensures.whole ∙ ap length read in
    least_from c.args.left c.args.capacities.now (lists c.deref-2.result.now) c.args.edges.now given
    list have whole long c.in_ok-settle_least.ensures.held
    (λ k l. sym (ap (λ g. given_at g k) read) ∙ c.in_ok-places_of.ensures.places k
    (let e = ap length read in omega (arith, e, l)))
    (λ other m. c.in_ok-settle_least.ensures.least c.args.edges.now other have m)
