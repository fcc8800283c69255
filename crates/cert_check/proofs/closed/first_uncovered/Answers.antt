use Rattle.std.proofs.Common.{◌≡◌, ◌∙◌, List, ap, sym, subst, Some, Vec}
use Rattle.std.specs.Prelude.{slice_get}
use Rattle.std.specs.declared.alloc.Global.{Global}
use Rattle.list_words.proofs.GetLemmas.{get_at}
use Rattle.arbac_policy.specs.declared.conjunct.Conjunct.{Conjunct}
use Rattle.arbac_laws.specs.Views.{needs_of}
use Rattle.cert_check.specs.Asked.{IsUncovered}
use Rattle.cert_check.proofs.ClosedLemmas.{first_here, none_all, none_more}
use Rattle.cert_check.proofs.closed.first_uncovered.Goals as goal

-- this goal requirement is left uncovered, and none before it
pub returns-then-branch-clause-first : goal.returns-then-branch-clause-first
returns-then-branch-clause-first c =
    let goals = c.args.goals.now in
    let place = c.loop-place.place in
    let users = c.index-goals-place.result in
    let here : slice_get goals place ≡ Some users = get_at goals place users c.loop-place-test.true ∙ ap Some (sym c.index-goals-place.is) in
    rw c.in_ok-number_of.ensures
    (first_here (λ (one : Vec Conjunct Global). needs_of one.items) (IsUncovered c.args.index.now.members) goals place users c.loop-place.invariant here
    (subst (λ (items : List Conjunct). IsUncovered c.args.index.now.members (needs_of items)) c.deref.ensures.value
    (c.in_ok-is_uncovered.ensures.0 c.if-branch.true)))

-- this one isn't
pub loop-place-preserved : goal.loop-place-preserved
loop-place-preserved c =
    let goals = c.args.goals.now in
    let place = c.loop-place.place in
    let users = c.index-goals-place.result in
    let here : slice_get goals place ≡ Some users = get_at goals place users c.loop-place-test.true ∙ ap Some (sym c.index-goals-place.is) in
    none_more (λ (one : Vec Conjunct Global). needs_of one.items) (IsUncovered c.args.index.now.members) goals place users c.loop-place.invariant here
    (λ un. let is = c.in_ok-is_uncovered.ensures.1
    (subst (λ (items : List Conjunct). IsUncovered c.args.index.now.members (needs_of items)) (sym c.deref.ensures.value) un) in
    let other = c.if-branch.false in cc)

pub returns-clause-none : goal.returns-clause-none
returns-clause-none c =
    none_all (λ (one : Vec Conjunct Global). needs_of one.items) (IsUncovered c.args.index.now.members) c.args.goals.now c.loop-place.place
    c.loop-place.invariant c.loop-place-test.false
