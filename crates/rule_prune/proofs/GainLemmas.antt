-- Sets that grow by what profiles bring and rules give, and where that ends.
use Rattle.std.proofs.Common.{ℕ, ◌≡◌, true, false, ◌||◌, List, [], Some, refl, sym, ◌∙◌, inl, inr}
use Rattle.std.specs.Prelude.{◌⊎◌, ◌↔◌}
use Rattle.std.proofs.lemmas.Bool.{false≢true}
use Rattle.list_words.proofs.TestLemmas.{and_both, both_true, or_cases, or_right}
use Rattle.role_order.specs.Graph.{Graph}
use Rattle.role_order.specs.Ranges.{IsInRange}
use Rattle.role_order.specs.Reach.{seniors_of}
use Rattle.role_order.specs.Roles.{IsIn, IsWithin, have_common, join_roles}
use Rattle.arbac_policy.specs.Rules.{Rules}
use Rattle.arbac_policy.specs.Truth.{Term, term_of, any, has, lacks, both, either}
use Rattle.arbac_policy.specs.declared.profile.Profile.{Profile}
use Rattle.arbac_policy.specs.declared.rule.CanAssign.{CanAssign}
use Rattle.arbac_laws.specs.Barriers.{IsCeiling, may_give, may_hold}
use Rattle.arbac_laws.proofs.GainLemmas.{common_is, gains_given, given_gains, is_common}
use Rattle.arbac_laws.proofs.RoleLemmas.{in_join_left, in_join_right, join_cases}
use Rattle.rule_prune.specs.Gains.{Brings, GiveAll, Gives}
use Rattle.rule_prune.specs.Steps.{ByEach, IsClosure, IsStep}
use Rattle.rule_prune.proofs.StepLemmas.{IsPreorder, Stays, else_step, if_step}

pub within_order : IsPreorder IsWithin
within_order = record { same = λ a role h. h; through = λ a b c v w role h. w role (v role h) }

pub join_within : (xs ys zs : List ℕ) → IsWithin xs zs → IsWithin ys zs → IsWithin (join_roles xs ys) zs
join_within xs ys zs v w role h = by_side (join_cases xs ys role h)
  where
    by_side : IsIn xs role ⊎ IsIn ys role → IsIn zs role
    by_side (inl k) = v role k
    by_side (inr k) = w role k

-- a join is the step to a set with the roles
pub join_step : (set roles : List ℕ) → IsStep IsWithin (λ old new. IsWithin roles new) set (join_roles set roles)
join_step set roles = record {
  kept = λ role h. in_join_left set roles role h;
  has = λ role h. in_join_right set roles role h;
  least = λ other among closed. join_within set roles other among closed;
}

pub common_more : (xs set wider : List ℕ) → IsWithin set wider → have_common xs set ≡ true → have_common xs wider ≡ true
common_more xs set wider w e = let c = common_is xs set e in is_common xs wider (c.0, c.1, w c.0 c.2)

-- a condition that may hold over a set may hold over a wider one
pub hold_more : (order : Graph) (set wider : List ℕ) → IsWithin set wider → (cond : Term) → may_hold order set cond ≡ true
    → may_hold order wider cond ≡ true
hold_more order set wider w any h = h
hold_more order set wider w (has role) h = common_more (seniors_of order role) set wider w h
hold_more order set wider w (lacks role) h = h
hold_more order set wider w (both left right) h =
    let b = and_both (may_hold order set left) (may_hold order set right) h in
    both_true (may_hold order wider left) (may_hold order wider right) (hold_more order set wider w left b.0) (hold_more order set wider w right b.1)
hold_more order set wider w (either left right) h =
    by_side (or_cases (may_hold order set left) (may_hold order set right) h) (hold_more order set wider w left) (hold_more order set wider w right)
  where
    by_side : (may_hold order set left ≡ true) ⊎ (may_hold order set right ≡ true)
        → (may_hold order set left ≡ true → may_hold order wider left ≡ true) → (may_hold order set right ≡ true → may_hold order wider right ≡ true)
        → (may_hold order wider left || may_hold order wider right) ≡ true
    by_side (inl k) f g = rw (f k) refl
    by_side (inr k) f g = or_right (may_hold order wider left) (may_hold order wider right) (g k)

pub give_more : (order : Graph) (rule : CanAssign) (set wider : List ℕ) → IsWithin set wider → may_give order set rule ≡ true
    → may_give order wider rule ≡ true
give_more order rule set wider w h =
    let b = and_both (have_common (seniors_of order rule.admin) set) (may_hold order set (term_of rule.cond)) h in
    both_true (have_common (seniors_of order rule.admin) wider) (may_hold order wider (term_of rule.cond))
    (common_more (seniors_of order rule.admin) set wider w b.0) (hold_more order set wider w (term_of rule.cond) b.1)

pub brings_stays : (profile : Profile) → Stays IsWithin (Brings profile)
brings_stays profile less old new more v w brings drawn role h = w role (brings drawn role h)

pub gives_stays : (order : Graph) (rule : CanAssign) → Stays IsWithin (Gives order rule)
gives_stays order rule less old new more v w gives may role h = w role (gives (give_more order rule less old v may) role h)

pub all_stays : (rules : Rules) → Stays IsWithin (GiveAll rules)
all_stays rules less old new more v w gives rule is = gives_stays rules.order rule less old new more v w (gives rule is)

-- a profile that users can start with
pub drawn_step : (profile : Profile) (set : List ℕ) → ¬ (profile.most ≡ Some 0) → IsStep IsWithin (Brings profile) set (join_roles set profile.set)
drawn_step profile set drawn =
    if_step IsWithin (λ old new. IsWithin profile.set new) (λ set. ¬ (profile.most ≡ Some 0)) (λ a b among h. h) set (join_roles set profile.set) drawn
    (join_step set profile.set)

-- and one that they can't
pub undrawn_step : (profile : Profile) (set : List ℕ) → (¬ (profile.most ≡ Some 0) → ⊥) → IsStep IsWithin (Brings profile) set set
undrawn_step profile set none = else_step IsWithin (λ old new. IsWithin profile.set new) within_order (λ set. ¬ (profile.most ≡ Some 0)) set none

-- a rule that may give
pub given_step : (order : Graph) (rule : CanAssign) (set roles : List ℕ) → ((role : ℕ) → IsIn roles role ↔ IsInRange order rule.range role)
    → may_give order set rule ≡ true → IsStep IsWithin (Gives order rule) set (join_roles set roles)
given_step order rule set roles same may =
    if_step IsWithin (λ old new. (role : ℕ) → IsInRange order rule.range role → IsIn new role) (λ set. may_give order set rule ≡ true)
    (λ a b among h. give_more order rule a b among h) set (join_roles set roles) may (record {
      kept = λ role h. in_join_left set roles role h;
      has = λ role h. in_join_right set roles role ((same role).1 h);
      least = λ other among closed. join_within set roles other among (λ role h. closed role ((same role).0 h));
    })

-- and one that may not
pub ungiven_step : (order : Graph) (rule : CanAssign) (set : List ℕ) → may_give order set rule ≡ false → IsStep IsWithin (Gives order rule) set set
ungiven_step order rule set none =
    else_step IsWithin (λ old new. (role : ℕ) → IsInRange order rule.range role → IsIn new role) within_order (λ set. may_give order set rule ≡ true)
    set (λ may. false≢true (sym none ∙ may))

-- the closure of what is drawn is the ceiling
pub closure_ceiling : (rules : Rules) (profiles : List Profile) (start set : List ℕ) → IsStep IsWithin (ByEach Brings profiles) [] start
    → IsClosure IsWithin (GiveAll rules) start set → IsCeiling rules profiles set
closure_ceiling rules profiles start set drawn closure = record {
  gains = given_gains rules profiles set (record {
    drawn = λ profile is counts role h. closure.kept role (drawn.has profile is counts role h);
    given = closure.has;
  });
  least = λ other gains. let all = gains_given rules profiles other gains in
      closure.least other (drawn.least other (λ role h. absurd (false≢true h)) all.drawn) all.given;
}
