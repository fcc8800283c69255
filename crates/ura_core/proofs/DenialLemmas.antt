-- An act that is denied has no step.
use Rattle.std.proofs.Common.{ℕ, ◌≡◌, ◌<◌, ◌≤◌, ◌∙◌, true, List, [], ◌∷◌, length, refl, arith, sym, subst, ap, inl, inr, Some}
use Rattle.std.proofs.Common.{None, eqb}
use Rattle.std.specs.Prelude.{◌⊎◌, slice_get, slice_set}
use Rattle.std.proofs.lemmas.Bool.{eqb-true, eq-eqb}
use Rattle.list_words.specs.Lists.{Some_of}
use Rattle.role_order.specs.Ranges.{IsInRange}
use Rattle.role_order.specs.Roles.{has_role, without_role, IsIn}
use Rattle.list_words.proofs.EachLemmas.{some_at, some_item, some_weaker}
use Rattle.role_order.proofs.SetLemmas.{has_role-with_role}
use Rattle.list_words.proofs.TestLemmas.{or_cases}
use Rattle.arbac_policy.specs.declared.act.ActKind.{ActKind}
use Rattle.arbac_policy.specs.declared.act.ActKind.TheVariants.{Assign, Weak, Strong}
use Rattle.arbac_policy.specs.declared.verdict.Part.{Part}
use Rattle.arbac_policy.specs.declared.verdict.Part.TheVariants.{NoUser, NoRole, NoRange, NoAdmin, NoCondition, Exclusive}
use Rattle.arbac_policy.specs.declared.verdict.Side.TheVariants.{Admin, Target}
use Rattle.arbac_policy.specs.Truth.{Holder}
use Rattle.arbac_policy.specs.Rules.{Rules}
use Rattle.arbac_policy.specs.Holders.{assign_rules, revoke_rules, pairs_of, admins_of, falling}
use Rattle.arbac_policy.specs.Steps.{Blocks, LetsAssign, LetsRevoke, AssignStep, WeakStep, WeakSteps, StrongStep, KindStep}
use Rattle.arbac_policy.specs.Verdicts.{PlaceFails, FitsRule, AssignFails, RevokeFails, AssignDenied, WeakDenied, WeaksDenied, StrongDenied, KindDenied}

pub places_no : (users old : List (List ℕ)) (admin target : ℕ) (part : Part) (by set : List ℕ) → PlaceFails users old admin target part
    → slice_get users admin ≡ Some by → slice_get old target ≡ Some set → ⊥
places_no users old admin target (NoUser Admin place) by set h a t = let none : slice_get users admin ≡ None = h.1 in cc
places_no users old admin target (NoUser Target place) by set h a t = let none : slice_get old target ≡ None = h.2 in cc
places_no users old admin target (NoRole role) by set h a t = h
places_no users old admin target (NoRange role) by set h a t = h
places_no users old admin target (NoAdmin role rule) by set h a t = h
places_no users old admin target (NoCondition role rule) by set h a t = h
places_no users old admin target (Exclusive role pair) by set h a t = h

pub assign_no : (holder : Holder) (rules : Rules) (by set : List ℕ) (role : ℕ) (part : Part) → AssignFails holder rules by set role part
    → Some_of (LetsAssign holder rules by set role) (assign_rules holder rules)
    → IsIn set role ⊎ (Some_of (Blocks rules.order.edges set role) (pairs_of holder rules) → ⊥) → ⊥
assign_no holder rules by set role (NoUser side place) h lets free = h
assign_no holder rules by set role (NoRole r) h lets free =
    let one = some_item (LetsAssign holder rules by set role) (assign_rules holder rules) lets in
    let few : role < length rules.order.names = one.2.in_range.is_role in
    absurd (omega (arith, h.1))
assign_no holder rules by set role (NoRange r) h lets free =
    h.2 (some_weaker (LetsAssign holder rules by set role) (λ rule. IsInRange rules.order rule.range role) (λ rule l. l.in_range)
    (assign_rules holder rules) lets)
assign_no holder rules by set role (NoAdmin r place) h lets free =
    h.2 (some_weaker (LetsAssign holder rules by set role) (λ rule. FitsRule rules by role rule.range rule.admin) (λ rule l. (l.in_range, l.by_admin))
    (assign_rules holder rules) lets)
assign_no holder rules by set role (NoCondition r place) h lets free = h.2 lets
assign_no holder rules by set role (Exclusive r place) h lets (inl held) = h.2 held
assign_no holder rules by set role (Exclusive r place) h lets (inr none) =
    none (some_at (Blocks rules.order.edges set role) (pairs_of holder rules) place h.3.item h.3.at h.3.holds)

pub revoke_no : (holder : Holder) (rules : Rules) (by : List ℕ) (role : ℕ) (part : Part) → RevokeFails holder rules by role part
    → Some_of (LetsRevoke rules by role) (revoke_rules holder rules) → ⊥
revoke_no holder rules by role (NoUser side place) h lets = h
revoke_no holder rules by role (NoRole r) h lets =
    let one = some_item (LetsRevoke rules by role) (revoke_rules holder rules) lets in
    let few : role < length rules.order.names = one.2.in_range.is_role in
    absurd (omega (arith, h.1))
revoke_no holder rules by role (NoRange r) h lets =
    h.2 (some_weaker (LetsRevoke rules by role) (λ rule. IsInRange rules.order rule.range role) (λ rule l. l.in_range) (revoke_rules holder rules) lets)
revoke_no holder rules by role (NoAdmin r place) h lets = h.2 lets
revoke_no holder rules by role (NoCondition r place) h lets = h
revoke_no holder rules by role (Exclusive r place) h lets = h

pub assign_denied_no : (holder : Holder) (rules : Rules) (users old : List (List ℕ)) (admin target role : ℕ) (part : Part) (new : List (List ℕ))
    → AssignDenied holder rules users old admin target role part → AssignStep holder rules users old admin target role new → ⊥
assign_denied_no holder rules users old admin target role part new (inl h) step =
    places_no users old admin target part step.by step.set h step.by_is step.set_is
assign_denied_no holder rules users old admin target role part new (inr h) step =
    let same_by : step.by ≡ h.0 = cc (step.by_is, h.2) in
    let same_set : step.set ≡ h.1 = cc (step.set_is, h.3) in
    assign_no holder rules h.0 h.1 role part h.4
    (subst (λ s. Some_of (LetsAssign holder rules h.0 s role) (assign_rules holder rules)) same_set
    (subst (λ b. Some_of (LetsAssign holder rules b step.set role) (assign_rules holder rules)) same_by step.lets))
    (subst (λ s. IsIn s role ⊎ (Some_of (Blocks rules.order.edges s role) (pairs_of holder rules) → ⊥)) same_set step.free)

pub weak_denied_no : (holder : Holder) (rules : Rules) (users old : List (List ℕ)) (admin target role : ℕ) (part : Part) (new : List (List ℕ))
    → WeakDenied holder rules users old admin target role part → WeakStep holder rules users old admin target role new → ⊥
weak_denied_no holder rules users old admin target role part new (inl h) step =
    places_no users old admin target part step.by step.set h step.by_is step.set_is
weak_denied_no holder rules users old admin target role part new (inr h) step =
    let same_by : step.by ≡ h.0 = cc (step.by_is, h.2) in
    revoke_no holder rules h.0 role part h.4 (subst (λ b. Some_of (LetsRevoke rules b role) (revoke_rules holder rules)) same_by step.lets)

-- a weak step has one end
pub weak_step_one : (holder : Holder) (rules : Rules) (users old : List (List ℕ)) (admin target role : ℕ) (new other : List (List ℕ))
    → WeakStep holder rules users old admin target role new → WeakStep holder rules users old admin target role other → new ≡ other
weak_step_one holder rules users old admin target role new other a b =
    let same : a.set ≡ b.set = cc (a.set_is, b.set_is) in
    a.gives ∙ ap (λ s. slice_set old target (without_role s role)) same ∙ sym b.gives

pub weaks_denied_no : (holder : Holder) (rules : Rules) (users old : List (List ℕ)) (admin target : ℕ) (roles : List ℕ) (part : Part)
    (new : List (List ℕ))
    → WeaksDenied holder rules users old admin target roles part → WeakSteps holder rules users old admin target roles new → ⊥
weaks_denied_no holder rules users old admin target [] part new h steps = h
weaks_denied_no holder rules users old admin target (role ∷ roles) part new (inl h) steps =
    weak_denied_no holder rules (admins_of holder users old) old admin target role part steps.0 h steps.1
weaks_denied_no holder rules users old admin target (role ∷ roles) part new (inr h) steps =
    let same = weak_step_one holder rules (admins_of holder users old) old admin target role h.0 steps.0 h.1 steps.1 in
    weaks_denied_no holder rules users steps.0 admin target roles part new
    (subst (λ m. WeaksDenied holder rules users m admin target roles part) same h.2) steps.2

-- each role of weak steps is one of the order's
pub weak_steps_role : (holder : Holder) (rules : Rules) (users old : List (List ℕ)) (admin target : ℕ) (roles : List ℕ) (new : List (List ℕ))
    (role : ℕ)
    → WeakSteps holder rules users old admin target roles new → has_role roles role ≡ true → role < length rules.order.names
weak_steps_role holder rules users old admin target [] new role steps h = cc
weak_steps_role holder rules users old admin target (first ∷ roles) new role steps h =
    by_case (or_cases (eqb first role) (has_role roles role) h) (λ k. weak_steps_role holder rules users steps.0 admin target roles new role steps.2 k)
  where
    by_case : (eqb first role ≡ true) ⊎ (has_role roles role ≡ true) → (has_role roles role ≡ true → role < length rules.order.names)
        → role < length rules.order.names
    by_case (inl e) rest =
        let one = some_item (LetsRevoke rules steps.1.by first) (revoke_rules holder rules) steps.1.lets in
        subst (λ r. r < length rules.order.names) (eqb-true first role e) one.2.in_range.is_role
    by_case (inr k) rest = rest k

pub strong_denied_no : (holder : Holder) (rules : Rules) (users old : List (List ℕ)) (admin target role : ℕ) (part : Part) (new : List (List ℕ))
    (by : List ℕ)
    → StrongDenied holder rules users old admin target role part → slice_get users admin ≡ Some by
    → StrongStep holder rules users old admin target role new → ⊥
strong_denied_no holder rules users old admin target role part new by (inl h) at step = places_no users old admin target part by step.set h at step.set_is
strong_denied_no holder rules users old admin target role part new by (inr h) at step = by_case h.4
  where
    same : step.set ≡ h.1
    same = cc (step.set_is, h.3)

    steps : WeakSteps holder rules users old admin target (falling holder rules.order h.1 role) new
    steps = subst (λ s. WeakSteps holder rules users old admin target (falling holder rules.order s role) new) same step.steps

    there : has_role (falling holder rules.order h.1 role) role ≡ true
    there = has_role-with_role _ role role ∙ rw (eq-eqb role role refl) refl

    by_case : ((part ≡ NoRole role) × (length rules.order.names ≤ role))
        ⊎ ((role < length rules.order.names) × WeaksDenied holder rules users old admin target (falling holder rules.order h.1 role) part) → ⊥
    by_case (inl k) = let few = weak_steps_role holder rules users old admin target (falling holder rules.order h.1 role) new role steps there in
        absurd (omega (arith, few, k.1))
    by_case (inr k) = weaks_denied_no holder rules users old admin target (falling holder rules.order h.1 role) part new k.1 steps

-- who takes roles away is there
pub weak_steps_admin : (holder : Holder) (rules : Rules) (users old : List (List ℕ)) (admin target : ℕ) (roles : List ℕ) (new : List (List ℕ))
    (role : ℕ)
    → WeakSteps holder rules users old admin target roles new → has_role roles role ≡ true
    → (by : List ℕ) × (slice_get (admins_of holder users old) admin ≡ Some by)
weak_steps_admin holder rules users old admin target [] new role steps h = cc
weak_steps_admin holder rules users old admin target (first ∷ roles) new role steps h = (steps.1.by, steps.1.by_is)

pub kind_denied_no : (kind : ActKind) (holder : Holder) (rules : Rules) (users old : List (List ℕ)) (admin target role : ℕ) (part : Part)
    (new : List (List ℕ))
    → admins_of holder users old ≡ users → KindDenied kind holder rules users old admin target role part
    → KindStep kind holder rules users old admin target role new → ⊥
kind_denied_no Assign holder rules users old admin target role part new same denied step =
    assign_denied_no holder rules users old admin target role part new denied step
kind_denied_no Weak holder rules users old admin target role part new same denied step =
    weak_denied_no holder rules users old admin target role part new denied step
kind_denied_no Strong holder rules users old admin target role part new same denied step =
    let there : has_role (falling holder rules.order step.set role) role ≡ true = has_role-with_role _ role role ∙ rw (eq-eqb role role refl) refl in
    let by = weak_steps_admin holder rules users old admin target (falling holder rules.order step.set role) new role step.steps there in
    strong_denied_no holder rules users old admin target role part new by.0 denied (subst (λ sets. slice_get sets admin ≡ Some by.0) same by.1) step
