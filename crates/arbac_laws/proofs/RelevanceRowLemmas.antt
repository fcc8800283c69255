-- What matters in the small policy.
use Rattle.std.proofs.Common.{ℕ, ◌≡◌, ◌<◌, [], ◌∷◌, Some, arith, zero, suc, ap, subst, sym, refl}
use Rattle.std.specs.Prelude.{slice_get}
use Rattle.role_order.specs.Graph.{Leads, here, down}
use Rattle.role_order.specs.Ranges.{IsInRange}
use Rattle.role_order.specs.Reach.{seniors_of}
use Rattle.role_order.specs.Roles.{IsIn}
use Rattle.arbac_policy.specs.Truth.{has}
use Rattle.arbac_policy.specs.declared.rule.CanAssign.{CanAssign}
use Rattle.arbac_policy.specs.declared.rule.CanRevoke.{CanRevoke}
use Rattle.list_words.proofs.GetLemmas.{same_some}
use Rattle.arbac_laws.specs.Obligations.{assigns}
use Rattle.arbac_laws.specs.PreImages.{fresh}
use Rattle.arbac_laws.specs.Relevance.{HasAssign, HasNeed, HasRevoke, IsClosedSlice, IsDerived, IsPart, IsRelevance, IsRelevant, Slice, before_act, of_goal}
use Rattle.arbac_laws.specs.Rows.{mix, mix_apart, mix_rule, mix_revoke, mix_slice, adm_slice, adm, c, d, only, hits, without}
use Rattle.arbac_laws.proofs.BarrierRowLemmas.{adm_within, within_both}
use Rattle.arbac_laws.proofs.ConjunctLemmas.{are_seniors}
use Rattle.arbac_laws.proofs.RelevanceLemmas.{derived_has}
use Rattle.arbac_laws.proofs.RowLemmas.{first_before, first_obligations, goal_is, lacks_adm}
use Rattle.arbac_laws.proofs.SameLemmas.{within_is}

-- without edges a range of one role has no other
only_role : (x role : ℕ) → IsInRange mix.order (only x) role → role ≡ x
only_role x role range = same range.above_low
  where
    same : {y z : ℕ} → Leads [] y z → y ≡ z
    same here = refl
    same (down edge rest) = let none = edge.1 in absurd (omega (arith, none))

in_only : (x : ℕ) → x < 2 → IsInRange mix.order (only x) x
in_only x l = record { is_role = l; above_low = here; below_high = here; low = λ e. cc; high = λ e. cc }

-- wants and bars

pub c_needed : HasNeed mix_slice (hits c)
c_needed = record { hits = (within_is (c ∷ []) (adm ∷ c ∷ []) refl, tt); lacks = λ role h. cc }

pub lack_not_needed : HasNeed mix_slice (without c) → ⊥
lack_not_needed n = let none : IsIn (adm ∷ []) c = n.lacks c refl in cc

pub c_assigned : HasAssign mix mix_slice 0 mix_rule c
unfolding seniors_of
c_assigned = record {
  listed = refl;
  admin = within_is (adm ∷ []) (adm ∷ c ∷ []) refl;
  conjuncts = rw lacks_adm (record { hits = tt; lacks = λ role h. h }, tt);
  pairs = λ role h. cc;
}

pub adm_assigns_none : HasAssign mix adm_slice 0 mix_rule c → ⊥
adm_assigns_none a = let none : IsIn [] 0 = a.listed in cc

-- d is no barred role
pub d_not_barred : HasAssign (mix_apart ((c, d) ∷ [])) mix_slice 0 mix_rule c → ⊥
unfolding seniors_of
d_not_barred a = let none : IsIn (adm ∷ []) d = a.pairs d refl in cc

pub adm_revoked : HasRevoke mix mix_slice 0 mix_revoke
unfolding seniors_of
adm_revoked = record { listed = refl; admin = within_is (adm ∷ []) (adm ∷ c ∷ []) refl }

pub adm_revokes_none : HasRevoke mix adm_slice 0 mix_revoke → ⊥
adm_revokes_none r = let none : IsIn [] 0 = r.listed in cc

-- slices

pub mix_closed : IsClosedSlice mix (has c ∷ []) mix_slice
unfolding seniors_of
mix_closed = record { goals = ((c_needed, tt), tt); assigns = assigned; revokes = revoked }
  where
    assigned : (place role : ℕ) (rule : CanAssign) → slice_get mix.assign place ≡ Some rule → IsInRange mix.order rule.range role
        → IsIn mix_slice.wanted role
        → HasAssign mix mix_slice place rule role
    assigned zero role rule e range wanted =
        let same : mix_rule ≡ rule = same_some mix_rule rule e in
        let e' : role ≡ c = only_role c role (subst (λ (r : CanAssign). IsInRange mix.order r.range role) (sym same) range) in
        subst (λ r. HasAssign mix mix_slice 0 r role) same (subst (HasAssign mix mix_slice 0 mix_rule) (sym e') c_assigned)
    assigned (suc place) role rule e range wanted = cc

    revoked : (place role : ℕ) (rule : CanRevoke) → slice_get mix.revoke place ≡ Some rule → IsInRange mix.order rule.range role
        → IsIn mix_slice.barred role
        → HasRevoke mix mix_slice place rule
    revoked zero role rule e range wanted = subst (HasRevoke mix mix_slice 0) (same_some mix_revoke rule e) adm_revoked
    revoked (suc place) role rule e range wanted = cc

-- c is wanted, so that its rule is missing
pub adm_not_closed : IsClosedSlice mix (has c ∷ []) adm_slice → ⊥
unfolding seniors_of
adm_not_closed closed = let none : IsIn (adm ∷ []) c = closed.goals.0.0.hits.0 c refl in cc

pub adm_part : IsPart adm_slice mix_slice
adm_part = record { wanted = within_is (adm ∷ []) (adm ∷ c ∷ []) refl; barred = λ role h. cc; assign = λ role h. cc; revoke = λ role h. cc }

pub mix_no_part : IsPart mix_slice adm_slice → ⊥
mix_no_part part = let none : IsIn [] 0 = part.assign 0 refl in cc

-- adm is wanted of who gives c, and barred from who gets it; so each closed slice has both rules
pub mix_least : IsRelevance mix (has c ∷ []) mix_slice
unfolding seniors_of
mix_least = record { closed = mix_closed; least = least }
  where
    least : (other : Slice) → IsClosedSlice mix (has c ∷ []) other → IsPart mix_slice other
    least other closed =
        let c_wanted : IsIn other.wanted c = closed.goals.0.0.hits.0 c refl in
        let given : HasAssign mix other 0 mix_rule c = closed.assigns 0 c mix_rule refl (in_only c (omega arith)) c_wanted in
        let adm_barred : IsIn other.barred adm = (rw lacks_adm at given.conjuncts).0.lacks adm refl in
        let taken : HasRevoke mix other 0 mix_revoke = closed.revokes 0 adm mix_revoke refl (in_only adm (omega arith)) adm_barred in
        record {
          wanted = within_both other.wanted (given.admin adm refl) c_wanted;
          barred = adm_within other.barred adm_barred;
          assign = adm_within other.assign given.listed;
          revoke = adm_within other.revoke taken.listed;
        }

pub adm_least : IsRelevance mix (has adm ∷ []) adm_slice
unfolding seniors_of
adm_least = record {
  closed = record {
    goals = ((record { hits = (within_is (adm ∷ []) (adm ∷ []) refl, tt); lacks = λ role h. cc }, tt), tt);
    assigns = assigned;
    revokes = λ place role rule e range barred. cc;
  };
  least = λ other closed. record {
    wanted = adm_within other.wanted (closed.goals.0.0.hits.0 adm refl);
    barred = λ role h. cc;
    assign = λ role h. cc;
    revoke = λ role h. cc;
  };
}
  where
    -- no rule gives adm
    assigned : (place role : ℕ) (rule : CanAssign) → slice_get mix.assign place ≡ Some rule → IsInRange mix.order rule.range role
        → IsIn adm_slice.wanted role
        → HasAssign mix adm_slice place rule role
    assigned zero role rule e range wanted =
        let same : mix_rule ≡ rule = same_some mix_rule rule e in
        let e' : role ≡ c = only_role c role (subst (λ (r : CanAssign). IsInRange mix.order r.range role) (sym same) range) in
        let none : IsIn (adm ∷ []) c = subst (IsIn (adm ∷ [])) e' wanted in
        cc
    assigned (suc place) role rule e range wanted = cc

pub mix_not_least : IsRelevance mix (has adm ∷ []) mix_slice → ⊥
mix_not_least r = mix_no_part (r.least adm_slice adm_least.closed)

pub none_relevant : IsRelevant adm_slice (assigns 0 0 c 0 fresh) → ⊥
none_relevant is = let none : IsIn [] 0 = is in cc

-- what is derived

pub second_derived : IsDerived mix (has c ∷ []) (without adm ∷ hits adm ∷ [])
second_derived = before_act (of_goal (0, ap (λ list. slice_get list 0) goal_is)) (1, ap (λ list. slice_get list 1) first_obligations) first_before

pub c_not_derived : IsDerived mix (has adm ∷ []) (hits c ∷ []) → ⊥
c_not_derived derived =
    let has = derived_has mix (are_seniors mix.order tt) (has adm ∷ []) adm_slice adm_least.closed (hits c ∷ []) derived in
    let none : IsIn (adm ∷ []) c = has.0.hits.0 c refl in
    cc
