-- Runs, act by act.
use Rattle.std.proofs.Common.{ℕ, ◌≡◌, ◌+◌, ◌∙◌, List, [], ◌∷◌, ◌++◌, take, length, refl, sym, subst, ap, zero, suc, Some}
use Rattle.std.specs.Prelude.{slice_get, slice_set}
use Rattle.role_order.specs.Roles.{with_role}
use Rattle.list_words.proofs.GetLemmas.{take_one_more}
use Rattle.arbac_policy.specs.declared.act.Act.{Act}
use Rattle.arbac_policy.specs.declared.act.ActKind.{ActKind}
use Rattle.arbac_policy.specs.declared.act.ActKind.TheVariants.{Assign, Weak, Strong}
use Rattle.arbac_policy.specs.Truth.{Holder, user}
use Rattle.arbac_policy.specs.Rules.{Rules}
use Rattle.arbac_policy.specs.Holders.{admins_of, falling}
use Rattle.arbac_policy.specs.Steps.{WeakSteps, KindStep, Step, Run}
use Rattle.ura_core.proofs.DenialLemmas.{weak_step_one}

weak_steps_one : (holder : Holder) (rules : Rules) (users old : List (List ℕ)) (admin target : ℕ) (roles : List ℕ) (new other : List (List ℕ))
    → WeakSteps holder rules users old admin target roles new → WeakSteps holder rules users old admin target roles other → new ≡ other
weak_steps_one holder rules users old admin target [] new other a b = a ∙ sym b
weak_steps_one holder rules users old admin target (role ∷ roles) new other a b =
    let same = weak_step_one holder rules (admins_of holder users old) old admin target role a.0 b.0 a.1 b.1 in
    weak_steps_one holder rules users b.0 admin target roles new other (subst (λ m. WeakSteps holder rules users m admin target roles new) same a.2) b.2

-- an act has one end
kind_step_one : (kind : ActKind) (holder : Holder) (rules : Rules) (users old : List (List ℕ)) (admin target role : ℕ) (new other : List (List ℕ))
    → KindStep kind holder rules users old admin target role new → KindStep kind holder rules users old admin target role other → new ≡ other
kind_step_one Assign holder rules users old admin target role new other a b =
    let same : a.set ≡ b.set = cc (a.set_is, b.set_is) in a.gives ∙ ap (λ s. slice_set old target (with_role s role)) same ∙ sym b.gives
kind_step_one Weak holder rules users old admin target role new other a b = weak_step_one holder rules users old admin target role new other a b
kind_step_one Strong holder rules users old admin target role new other a b =
    let same : a.set ≡ b.set = cc (a.set_is, b.set_is) in
    weak_steps_one holder rules users old admin target (falling holder rules.order b.set role) new other
    (subst (λ s. WeakSteps holder rules users old admin target (falling holder rules.order s role) new) same a.steps) b.steps

pub step_one : (rules : Rules) (old : List (List ℕ)) (act : Act) (new other : List (List ℕ)) → Step rules old act new → Step rules old act other
    → new ≡ other
step_one rules old act new other a b = kind_step_one act.kind user rules old old act.admin act.target act.role new other a b

run_more : (rules : Rules) (old mid new : List (List ℕ)) (acts : List Act) (act : Act) → Run rules old acts mid → Step rules mid act new
    → Run rules old (acts ++ act ∷ []) new
run_more rules old mid new [] act run step = let P : List (List ℕ) → Type 0 = λ p. Step rules p act new in (new, subst P run step, refl)
run_more rules old mid new (first ∷ acts) act run step = (run.0, run.1, run_more rules run.0 mid new acts act run.2 step)

-- a run of the acts before a place, and the act there
pub run_taken : (rules : Rules) (old mid new : List (List ℕ)) (acts : List Act) (place : ℕ) (act : Act) → slice_get acts place ≡ Some act
    → Run rules old (take place acts) mid → Step rules mid act new → Run rules old (take (place + 1) acts) new
run_taken rules old mid new acts place act at run step =
    subst (λ t. Run rules old t new) (sym (take_one_more acts place act at)) (run_more rules old mid new (take place acts) act run step)

-- where an act after a run has no step, the acts are no run
pub no_run : (rules : Rules) (old mid : List (List ℕ)) (acts : List Act) (place : ℕ) (act : Act) → slice_get acts place ≡ Some act
    → Run rules old (take place acts) mid
    → ((new : List (List ℕ)) → Step rules mid act new → ⊥) → (end : List (List ℕ)) → Run rules old acts end → ⊥
no_run rules old mid [] place act at run none end whole = cc
no_run rules old mid (first ∷ acts) zero act at run none end whole =
    let same : first ≡ act = cc in
    let here : mid ≡ old = run in
    none whole.0 (subst (λ m. Step rules m act whole.0) (sym here) (subst (λ a. Step rules old a whole.0) same whole.1))
no_run rules old mid (first ∷ acts) (suc place) act at run none end whole =
    let same = step_one rules old first whole.0 run.0 whole.1 run.1 in
    no_run rules run.0 mid acts place act at run.2 none end (subst (λ m. Run rules m acts end) same whole.2)

pub length-slice_set : {A : Type 0} (xs : List A) (i : ℕ) (x : A) → length (slice_set xs i x) ≡ length xs
length-slice_set [] i x = refl
length-slice_set (y ∷ ys) zero x = refl
length-slice_set (y ∷ ys) (suc i) x = ap suc (length-slice_set ys i x)
