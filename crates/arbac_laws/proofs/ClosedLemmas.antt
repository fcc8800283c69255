-- A closed list excludes each run to the goal.
use Rattle.std.proofs.Common.{ℕ, List, [], ◌∷◌, subst, inl, inr}
use Rattle.std.specs.Prelude.{◌⊎◌}
use Rattle.list_words.specs.Lists.{IsOneOf, Some_of}
use Rattle.arbac_policy.specs.Goals.{IsReachable}
use Rattle.arbac_policy.specs.Holders.{falling}
use Rattle.arbac_policy.specs.Rules.{Rules}
use Rattle.arbac_policy.specs.Steps.{AssignStep, KindStep, Run, WeakStep, WeakSteps}
use Rattle.arbac_policy.specs.Truth.{Term, user}
use Rattle.arbac_policy.specs.declared.act.Act.{Act}
use Rattle.arbac_policy.specs.declared.act.ActKind.TheVariants.{Assign, Weak, Strong}
use Rattle.arbac_policy.specs.declared.profile.Profile.{Profile}
use Rattle.arbac_laws.specs.Closed.{IsClosed}
use Rattle.arbac_laws.specs.Goals.{goal_requirements}
use Rattle.arbac_laws.specs.Needs.{Meets, Need}
use Rattle.arbac_laws.specs.PreImages.{AssignObligation, WeakObligation, assign_pre_image, weak_pre_image}
use Rattle.arbac_laws.proofs.CoverLemmas.{cover_met, met_possible}
use Rattle.arbac_laws.proofs.GoalLemmas.{goal_met_needs}
use Rattle.list_words.proofs.EachLemmas.{some_one_at, some_item}
use Rattle.arbac_laws.proofs.StepLemmas.{before_assign_step, before_weak_step}
use Rattle.arbac_laws.proofs.ConjunctLemmas.{AreSeniors}
use Rattle.arbac_policy.specs.declared.act.ActKind.{ActKind}

-- goals

-- the induction

abbrev pub MeetsOne : List (List ℕ) → List (List Need) → Type 0
MeetsOne users list = Some_of (λ one. Meets users one) list

pub weak_back : (rules : Rules) → AreSeniors rules.order → (profiles : List Profile) (goal : List Term) (list : List (List Need))
    → IsClosed rules profiles goal list
    → (old new : List (List ℕ)) (admin target role : ℕ) → WeakStep user rules old old admin target role new → MeetsOne new list → MeetsOne old list
weak_back rules same profiles goal list closed old new admin target role step met =
    let one = some_item (λ needs. Meets new needs) list met in by_case one.0 one.1 (before_weak_step rules same old new admin target role one.0 step one.2)
  where
    by_case : (needs : List Need) → IsOneOf list needs → Meets old needs ⊎ ((ob : WeakObligation rules needs) × Meets old (weak_pre_image ob))
        → MeetsOne old list
    by_case needs is (inl m) = some_one_at (λ n. Meets old n) list needs is m
    by_case needs is (inr d) = cover_met old list (weak_pre_image d.0) (closed.revokes needs is d.0 (met_possible old (weak_pre_image d.0) d.1)) d.1

pub assign_back : (rules : Rules) → AreSeniors rules.order → (profiles : List Profile) (goal : List Term) (list : List (List Need))
    → IsClosed rules profiles goal list
    → (old new : List (List ℕ)) (admin target role : ℕ) → AssignStep user rules old old admin target role new → MeetsOne new list
    → MeetsOne old list
assign_back rules same profiles goal list closed old new admin target role step met =
    let one = some_item (λ needs. Meets new needs) list met in by_case one.0 one.1 (before_assign_step rules same old new admin target role one.0 step one.2)
  where
    by_case : (needs : List Need) → IsOneOf list needs → Meets old needs ⊎ ((ob : AssignObligation rules needs) × Meets old (assign_pre_image ob))
        → MeetsOne old list
    by_case needs is (inl m) = some_one_at (λ n. Meets old n) list needs is m
    by_case needs is (inr d) = cover_met old list (assign_pre_image d.0) (closed.assigns needs is d.0 (met_possible old (assign_pre_image d.0) d.1)) d.1

pub weaks_back : (rules : Rules) → AreSeniors rules.order → (profiles : List Profile) (goal : List Term) (list : List (List Need))
    → IsClosed rules profiles goal list
    → (old new : List (List ℕ)) (admin target : ℕ) (roles : List ℕ) → WeakSteps user rules old old admin target roles new → MeetsOne new list
    → MeetsOne old list
weaks_back rules same profiles goal list closed old new admin target [] steps met = subst (λ n. MeetsOne n list) steps met
weaks_back rules same profiles goal list closed old new admin target (role ∷ roles) steps met =
    weak_back rules same profiles goal list closed old steps.0 admin target role steps.1
    (weaks_back rules same profiles goal list closed steps.0 new admin target roles steps.2 met)

pub step_back : (rules : Rules) → AreSeniors rules.order → (profiles : List Profile) (goal : List Term) (list : List (List Need))
    → IsClosed rules profiles goal list
    → (old new : List (List ℕ)) (kind : ActKind) (admin target role : ℕ) → KindStep kind user rules old old admin target role new
    → MeetsOne new list → MeetsOne old list
step_back rules same profiles goal list closed old new Assign admin target role step met =
    assign_back rules same profiles goal list closed old new admin target role step met
step_back rules same profiles goal list closed old new Weak admin target role step met =
    weak_back rules same profiles goal list closed old new admin target role step met
step_back rules same profiles goal list closed old new Strong admin target role step met =
    weaks_back rules same profiles goal list closed old new admin target (falling user rules.order step.set role) step.steps met

pub run_back : (rules : Rules) → AreSeniors rules.order → (profiles : List Profile) (goal : List Term) (list : List (List Need))
    → IsClosed rules profiles goal list
    → (old new : List (List ℕ)) (acts : List Act) → Run rules old acts new → MeetsOne new list → MeetsOne old list
run_back rules same profiles goal list closed old new [] run met = subst (λ n. MeetsOne n list) run met
run_back rules same profiles goal list closed old new (act ∷ acts) run met =
    step_back rules same profiles goal list closed old run.0 act.kind act.admin act.target act.role run.1
    (run_back rules same profiles goal list closed run.0 new acts run.2 met)

pub not_reachable : (rules : Rules) → AreSeniors rules.order → (profiles : List Profile) (goal : List Term) (list : List (List Need))
    → IsClosed rules profiles goal list
    → IsReachable rules profiles goal → ⊥
not_reachable rules same profiles goal list closed r =
    let goals = some_item (λ needs. Meets r.end needs) (goal_requirements rules.order goal) (goal_met_needs rules.order same r.end goal r.met) in
    let last = cover_met r.end list goals.0 (closed.goals goals.0 goals.1 (met_possible r.end goals.0 goals.2)) goals.2 in
    let first = some_item (λ one. Meets r.start one) list (run_back rules same profiles goal list closed r.start r.end r.acts r.run last) in
    closed.unmet first.0 first.1 r.start r.drawn first.2
