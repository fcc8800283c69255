-- What a strong revocation leaves.
use Rattle.std.proofs.Common.{ℕ, ◌≡◌, ◌∙◌, Bool, true, false, not, List, [], ◌∷◌, length, refl, sym, subst, ap, inl, inr, eqb, cond, Some}
use Rattle.std.specs.Prelude.{◌⊎◌, ◌↔◌, filter, slice_get, slice_set}
use Rattle.std.proofs.lemmas.Bool.{eqb-true, eq-eqb}
use Rattle.role_order.specs.Roles.{has_role, without_role, less_roles, IsIn}
use Rattle.role_order.specs.Graph.{Leads, AreEdges, here}
use Rattle.role_order.specs.Reach.{seniors_of}
use Rattle.role_order.proofs.SetLemmas.{has_role-with_role, has_role-filter}
use Rattle.list_words.proofs.TestLemmas.{or_cases, or_right, and_both, both_true, same_test}
use Rattle.role_order.proofs.ReachLemmas.{in_seniors}
use Rattle.arbac_policy.specs.Truth.{Holder, user}
use Rattle.arbac_policy.specs.Rules.{Rules}
use Rattle.arbac_policy.specs.Holders.{falling}
use Rattle.arbac_policy.specs.Steps.{WeakSteps}
use Rattle.list_words.proofs.GetLemmas.{get_set, set_twice, set_itself}

eqb-sym : (a b : ℕ) → eqb a b ≡ eqb b a
eqb-sym a b = same_test (eqb a b) (eqb b a) (λ e. eq-eqb b a (sym (eqb-true a b e))) (λ e. eq-eqb a b (sym (eqb-true b a e)))

less-first : (set roles : List ℕ) (role : ℕ) → less_roles (without_role set role) roles ≡ less_roles set (role ∷ roles)
less-first [] roles role = refl
less-first (x ∷ xs) roles role = by_test (eqb x role) refl (less-first xs roles role)
  where
    by_test : (t : Bool) → eqb x role ≡ t → less_roles (without_role xs role) roles ≡ less_roles xs (role ∷ roles)
        → less_roles (without_role (x ∷ xs) role) roles ≡ less_roles (x ∷ xs) (role ∷ roles)
    by_test true e rest = rw (e, eqb-sym role x, e) rest
    by_test false e rest = rw (e, eqb-sym role x, e) (again (has_role roles x) rest)
      where
        again : (s : Bool) → less_roles (without_role xs role) roles ≡ less_roles xs (role ∷ roles)
            → cond (not s) (x ∷ less_roles (without_role xs role) roles) (less_roles (without_role xs role) roles) ≡ cond (not s)
            (x ∷ less_roles xs (role ∷ roles)) (less_roles xs (role ∷ roles))
        again true rest = rest
        again false rest = ap (λ t. x ∷ t) rest

less-none : (set : List ℕ) → less_roles set [] ≡ set
less-none [] = refl
less-none (x ∷ xs) = ap (λ t. x ∷ t) (less-none xs)

-- weak steps of these roles take them all away
pub weak_steps_leave : (holder : Holder) (rules : Rules) (users old : List (List ℕ)) (admin target : ℕ) (roles set : List ℕ) (new : List (List ℕ))
    → slice_get old target ≡ Some set → WeakSteps holder rules users old admin target roles new → new ≡ slice_set old target (less_roles set roles)
weak_steps_leave holder rules users old admin target [] set new at steps =
    steps ∙ sym (ap (slice_set old target) (less-none set) ∙ set_itself old target set at)
weak_steps_leave holder rules users old admin target (role ∷ roles) set new at steps =
    let same : steps.1.set ≡ set = cc (steps.1.set_is, at) in
    let mid : steps.0 ≡ slice_set old target (without_role set role) = steps.1.gives ∙ ap (λ s. slice_set old target (without_role s role)) same in
    let at_mid : slice_get steps.0 target ≡ Some (without_role set role) =
    ap (λ m. slice_get m target) mid ∙ get_set old target set (without_role set role) at in
    weak_steps_leave holder rules users steps.0 admin target roles (without_role set role) new at_mid steps.2
    ∙ ap (λ m. slice_set m target (less_roles (without_role set role) roles)) mid
    ∙ set_twice old target (without_role set role) (less_roles (without_role set role) roles)
    ∙ ap (slice_set old target) (less-first set roles role)

pub strong_leaves : (rules : Rules) (set : List ℕ) (role : ℕ) → AreEdges (length rules.order.names) rules.order.edges
    → (held : ℕ) → IsIn (less_roles set (falling user rules.order set role)) held ↔ (IsIn set held × (Leads rules.order.edges held role → ⊥))
strong_leaves rules set role ends held = (
  λ h.
      let b = and_both (has_role set held) (not (has_role fallen held)) (sym (has_role-filter (λ x. not (has_role fallen x)) set held) ∙ h) in
      (b.0, λ led. kept (has_role fallen held) b.1 (fallen_of b.0 led)),
  λ h. has_role-filter (λ x. not (has_role fallen x)) set held
      ∙ both_true (has_role set held) (not (has_role fallen held)) h.0 (spared (has_role fallen held) refl h.1),
)
  where
    fallen : List ℕ
    fallen = falling user rules.order set role

    kept : (t : Bool) → not t ≡ true → t ≡ true → ⊥
    kept true n e = cc
    kept false n e = cc

    fallen_of : IsIn set held → Leads rules.order.edges held role → has_role fallen held ≡ true
    fallen_of there led =
        has_role-with_role (filter (has_role (seniors_of rules.order role)) set) role held
        ∙ or_right (eqb role held) (has_role (filter (has_role (seniors_of rules.order role)) set) held)
        (has_role-filter (has_role (seniors_of rules.order role)) set held
        ∙ both_true (has_role set held) (has_role (seniors_of rules.order role) held) there ((in_seniors rules.order role ends held).1 led))

    led_of : (eqb role held ≡ true) ⊎ (has_role (filter (has_role (seniors_of rules.order role)) set) held ≡ true) → Leads rules.order.edges held role
    led_of (inl e) = subst (λ r. Leads rules.order.edges r role) (eqb-true role held e) here
    led_of (inr h) = (in_seniors rules.order role ends held).0
        (and_both (has_role set held) (has_role (seniors_of rules.order role) held)
        (sym (has_role-filter (has_role (seniors_of rules.order role)) set held) ∙ h)).1

    spared : (t : Bool) → has_role fallen held ≡ t → (Leads rules.order.edges held role → ⊥) → not t ≡ true
    spared false e none = refl
    spared true e none =
        absurd (none (led_of (or_cases (eqb role held) (has_role (filter (has_role (seniors_of rules.order role)) set) held)
        (sym (has_role-with_role (filter (has_role (seniors_of rules.order role)) set) role held) ∙ e))))
