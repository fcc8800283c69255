use Rattle.std.proofs.Common.{◌≡◌, ◌∙◌, ◌++◌, [], ◌∷◌, List, map, take, Some, subst}
use Rattle.std.specs.Prelude.{slice_get}
use Rattle.list_words.proofs.GetLemmas.{take_all}
use Rattle.arbac_policy.specs.Truth.{term_of}
use Rattle.arbac_laws.specs.Recorded.{IsEntry, IsRecordedList}
use Rattle.cert_text.specs.declared.cert.Step.{Step}
use Rattle.cert_text.specs.Certificates.{entry_of, users_of}
use Rattle.cert_check.specs.Judgements.{asked_by}
use Rattle.cert_check.specs.Steps.{IsStepFault}
use Rattle.cert_check.proofs.OriginLemmas.{found_at}
use Rattle.cert_check.proofs.StepLemmas.{all_right, members_more, next_fails, one_step_more, step_fails}
use Rattle.cert_check.proofs.recorded.judge_each.Goals as goal

-- a recorded step is the first that isn't right
pub returns-in-Some-clause-refused : goal.returns-in-Some-clause-refused
returns-in-Some-clause-refused c =
    let asked = asked_by c.args.question.now in
    let steps = c.args.recorded.now in
    let place = c.loop-at.at in
    let step = c.index-recorded-at.result in
    let at : slice_get steps place ≡ Some step = found_at steps place step c.loop-at-test.true c.index-recorded-at.is in
    let fault : IsStepFault asked (map entry_of (take place steps)) (entry_of step) c.in-Some.why = rw c.in-Some.is at c.in_ok-why.ensures.some in
    step_fails asked steps (entry_of c.args.next.now) place step at c.loop-at.invariant.right c.in-Some.why fault

-- one step more is right, and the index has it
pub loop-at-preserved : goal.loop-at-preserved
loop-at-preserved c =
    let question = c.args.question.now in
    let asked = asked_by question in
    let steps = c.args.recorded.now in
    let place = c.loop-at.at in
    let step = c.index-recorded-at.result in
    let at : slice_get steps place ≡ Some step = found_at steps place step c.loop-at-test.true c.index-recorded-at.is in
    let one : IsEntry question.policy question.profiles.items (map term_of question.goal.items) (map entry_of (take place steps)) (entry_of step) =
    rw c.in_default.is at c.in_ok-why.ensures.none in
    let added : c.add.new.self.members ≡ c.loop-at.index.members ++ users_of step.need ∷ [] = rw c.deref.ensures.value at c.in_ok-add.ensures.added in
    record {
      order = c.in_ok-add.ensures.order ∙ c.loop-at.invariant.order;
      members = members_more steps place step at c.loop-at.index.members c.add.new.self.members c.loop-at.invariant.members added;
      right = one_step_more asked steps place step at c.loop-at.invariant.right one;
    }

-- the step after the recorded ones isn't right
pub returns-in-Some-2-clause-refused : goal.returns-in-Some-2-clause-refused
returns-in-Some-2-clause-refused c =
    let asked = asked_by c.args.question.now in
    let steps = c.args.recorded.now in
    let all = take_all steps c.loop-at.at c.loop-at-test.false in
    let right = subst (λ (list : List Step). IsRecordedList asked.rules asked.profiles asked.goal (map entry_of list)) all c.loop-at.invariant.right in
    let fault : IsStepFault asked (map entry_of steps) (entry_of c.args.next.now) c.in-Some-2.why = rw c.in-Some-2.is at c.in_ok-why-2.ensures.some in
    next_fails asked steps (entry_of c.args.next.now) right c.in-Some-2.why fault

-- all steps are right
pub returns-clause-accepted : goal.returns-clause-accepted
returns-clause-accepted c =
    let question = c.args.question.now in
    let asked = asked_by question in
    let steps = c.args.recorded.now in
    let next = entry_of c.args.next.now in
    let all = take_all steps c.loop-at.at c.loop-at-test.false in
    let right = subst (λ (list : List Step). IsRecordedList asked.rules asked.profiles asked.goal (map entry_of list)) all c.loop-at.invariant.right in
    let one : IsEntry question.policy question.profiles.items (map term_of question.goal.items) (map entry_of steps) next =
    rw c.in-None.is at c.in_ok-why-2.ensures.none in
    all_right asked steps next right one
