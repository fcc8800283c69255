use Rattle.std.proofs.Common.{ℕ, ◌≡◌, ◌≤◌, ◌∙◌, List, Option, length, map, refl, sym, ap, subst, arith}
use Rattle.std.proofs.lemmas.List.{length-map}
use Rattle.list_words.proofs.GetLemmas.{get_map}
use Rattle.arbac_policy.specs.Rules.{Rules}
use Rattle.arbac_policy.specs.Truth.{term_of}
use Rattle.arbac_laws.specs.Needs.{Need}
use Rattle.arbac_laws.specs.Goals.{goal_requirements}
use Rattle.arbac_laws.specs.NormalForms.{normal_form}
use Rattle.arbac_laws.specs.Obligations.{flat_places}
use Rattle.arbac_laws.specs.Recorded.{Entry, of_goal}
use Rattle.req_core.specs.Answers.{form_in}
use Rattle.req_core.specs.declared.answers.Normal.{Normal}
use Rattle.search_laws.specs.Candidates.{as_candidate, goal_candidates}
use Rattle.search_rounds.specs.Keeping.{Gathers}
use Rattle.search_rounds.specs.Listing.{GoesOn}
use Rattle.search_rounds.proofs.ListingLemmas.{starts, item_is, place_passed, places_passed, places_map}
use Rattle.search_rounds.proofs.goals.gather_goals.Goals as goal

-- nothing is gathered yet; each candidate comes from a form
pub loop-number-init : goal.loop-number-init
loop-number-init c =
    let rules = c.args.prepared.now in
    let terms = map term_of c.args.goal.now in
    let list : List (Option Normal) = c.deref-form-items.result.now in
    let f : ℕ → Option (List Need) → List Entry = λ number form. as_candidate (of_goal number) form in
    let same : flat_places f 0 (map form_in list) ≡ goal_candidates rules terms =
    ap (λ (l : List (Option Normal)). flat_places f 0 (map form_in l)) c.deref-form-items.ensures.value
    ∙ ap (flat_places f 0) c.in_ok-forms.ensures
    ∙ places_map f normal_form 0 (goal_requirements rules.order terms) in
    subst (λ (l : List Entry). GoesOn c.args.gathering.now c.args.gathering.now l (goal_candidates rules terms)) (sym same)
    (starts c.args.gathering.now (goal_candidates rules terms))

-- the order stays the same
pub gather_form-requires : goal.gather_form-requires
gather_form-requires c =
    c.loop-number.invariant.gathers.order
    ∙ c.requires.order
    ∙ sym (c.order-order.ensures.order ∙ ap (λ (r : Rules). r.order) c.policy.ensures)

-- that of one form more
pub loop-number-preserved : goal.loop-number-preserved
loop-number-preserved c =
    let list : List (Option Normal) = c.deref-form-items.result.now in
    let at = c.loop-number.number in
    let one = c.form-item.result in
    let f : ℕ → Option (List Need) → List Entry = λ number form. as_candidate (of_goal number) form in
    place_passed f (map form_in list) at (form_in one) c.args.gathering.now c.loop-number.gathering c.gather_form.new.gathering
    (goal_candidates c.args.prepared.now (map term_of c.args.goal.now))
    (get_map form_in list at one (item_is list list at one refl c.loop-number-test.true c.form-item.is)) c.loop-number.invariant
    (subst (λ (n : ℕ). Gathers c.loop-number.gathering c.gather_form.new.gathering (f n (form_in one))) c.in_ok-small.ensures
    c.in_ok-gather_form.ensures)

-- those of all forms
pub returns : goal.returns
returns c =
    let list : List (Option Normal) = c.deref-form-items.result.now in
    let at = c.loop-number.number in
    let f : ℕ → Option (List Need) → List Entry = λ number form. as_candidate (of_goal number) form in
    let same = length-map list form_in in
    let past : length (map form_in list) ≤ at = (let l = c.loop-number-test.false in omega (arith, l, same)) in
    places_passed f (map form_in list) at c.args.gathering.now c.loop-number.gathering
    (goal_candidates c.args.prepared.now (map term_of c.args.goal.now)) past c.loop-number.invariant
