-- What anyone may get in the small policy.
use Rattle.std.proofs.Common.{ℕ, ◌≡◌, ◌<◌, List, [], ◌∷◌, Some, arith, zero, suc, eqb, true, false, ◌||◌, subst, sym, refl, inl, inr}
use Rattle.std.specs.Prelude.{◌⊎◌, length, filter, slice_get}
use Rattle.std.proofs.lemmas.Bool.{eqb-true}
use Rattle.role_order.specs.Graph.{Leads, here, down}
use Rattle.role_order.specs.Ranges.{IsInRange}
use Rattle.role_order.specs.Reach.{count_up, leads_by, seniors_of}
use Rattle.role_order.specs.Roles.{IsIn, IsWithin}
use Rattle.list_words.specs.Lists.{IsOneOf}
use Rattle.list_words.proofs.TestLemmas.{or_cases}
use Rattle.arbac_policy.specs.declared.rule.CanAssign.{CanAssign}
use Rattle.arbac_policy.specs.Rules.{Rules}
use Rattle.arbac_policy.specs.Truth.{term_of}
use Rattle.arbac_policy.specs.declared.cond.Cond.TheVariants.{Lacks}
use Rattle.arbac_laws.specs.Barriers.{HasGains, IsCeiling, barriers}
use Rattle.arbac_laws.specs.Conjuncts.{conjuncts}
use Rattle.arbac_laws.specs.Rows.{mix, mix_apart, adm, c, d, one_admin, only, hits, hits_either}
use Rattle.list_words.proofs.GetLemmas.{same_some}
use Rattle.arbac_laws.proofs.RoleLemmas.{in_with_same}
use Rattle.arbac_laws.proofs.RowLemmas.{lacks_adm, one_profile}

pub within_both : (set : List ℕ) → IsIn set adm → IsIn set c → IsWithin (adm ∷ c ∷ []) set
within_both set first second role held = by_role (or_cases (eqb adm role) (eqb c role || false) held)
  where
    by_second : (eqb c role ≡ true) ⊎ (false ≡ true) → IsIn set role
    by_second (inl e) = subst (IsIn set) (eqb-true c role e) second
    by_second (inr e) = cc

    by_role : (eqb adm role ≡ true) ⊎ ((eqb c role || false) ≡ true) → IsIn set role
    by_role (inl e) = subst (IsIn set) (eqb-true adm role e) first
    by_role (inr e) = by_second (or_cases (eqb c role) false e)

pub adm_within : (set : List ℕ) → IsIn set adm → IsWithin (adm ∷ []) set
adm_within set first role held = by_role (or_cases (eqb adm role) false held)
  where
    by_role : (eqb adm role ≡ true) ⊎ (false ≡ true) → IsIn set role
    by_role (inl e) = subst (IsIn set) (eqb-true adm role e) first
    by_role (inr e) = cc

-- the small policy, whatever its other roles are

abbrev pub mix_of : List (List ℕ) → Rules
mix_of names = record {
  order = record { names = names; edges = [] };
  assign = record { admin = adm; cond = Lacks adm; range = only c } ∷ [];
  revoke = record { admin = adm; range = only adm } ∷ [];
  assignp = [];
  revokep = [];
  exclusive = [];
}

pub adm_is_senior : (names : List (List ℕ)) → IsIn (seniors_of (mix_of names).order adm) adm
unfolding seniors_of
adm_is_senior names = in_with_same (filter (λ senior. leads_by [] (length names) senior adm) (count_up 0 (length names))) adm

-- without edges a range of one role has no other
pub is_c : (names : List (List ℕ)) (role : ℕ) → IsInRange (mix_of names).order (only c) role → role ≡ c
is_c names role range = same range.above_low
  where
    same : {x y : ℕ} → Leads [] x y → x ≡ y
    same here = refl
    same (down edge rest) = let none = edge.1 in absurd (omega (arith, none))

-- with a user of adm anyone may get adm and c, and nothing else

pub both_ceiling : (names : List (List ℕ)) → 1 < length names → IsCeiling (mix_of names) one_admin (adm ∷ c ∷ [])
both_ceiling names known = record {
  gains = record {
    drawn = λ profile is n. subst (λ s. IsWithin s (adm ∷ c ∷ [])) (sym (one_profile is.0 profile is.1).1) (adm_within (adm ∷ c ∷ []) refl);
    given = λ rule is common conjunct of' held role range. given is.0 rule role is.1 range;
  };
  least = λ other gains. within_both other (has_adm other gains) (has_c other gains);
}
  where
    the_rule : CanAssign
    the_rule = record { admin = adm; cond = Lacks adm; range = only c }

    given : (place : ℕ) (rule : CanAssign) (role : ℕ) → slice_get (the_rule ∷ []) place ≡ Some rule
        → IsInRange (mix_of names).order rule.range role → IsIn (adm ∷ c ∷ []) role
    given zero rule role at range =
        let same : the_rule ≡ rule = same_some the_rule rule at in
        let e : role ≡ c = is_c names role (subst (λ (r : CanAssign). IsInRange (mix_of names).order r.range role) (sym same) range) in
        subst (IsIn (adm ∷ c ∷ [])) (sym e) refl
    given (suc place) rule role at range = cc

    has_adm : (other : List ℕ) → HasGains (mix_of names) one_admin other → IsIn other adm
    has_adm other gains =
        gains.drawn (record { set = adm ∷ []; most = Some 1 }) (0, refl) (λ e. let none : 1 ≡ 0 = same_some 1 0 e in omega (arith, none)) adm refl

    nothing : IsOneOf (conjuncts (mix_of names).order (term_of (Lacks adm))) (record { hits = []; lacks = seniors_of (mix_of names).order adm })
    nothing = (0, rw lacks_adm refl)

    c_alone : IsInRange (mix_of names).order (only c) c
    c_alone = record { is_role = known; above_low = here; below_high = here; low = λ e. cc; high = λ e. cc }

    has_c : (other : List ℕ) → HasGains (mix_of names) one_admin other → IsIn other c
    has_c other gains = gains.given the_rule (0, refl) (adm, adm_is_senior names, has_adm other gains)
        (record { hits = []; lacks = seniors_of (mix_of names).order adm }) nothing tt c c_alone

pub mix_ceiling : IsCeiling mix one_admin (adm ∷ c ∷ [])
mix_ceiling = both_ceiling mix.order.names (omega arith)

pub apart_ceiling : IsCeiling (mix_apart []) one_admin (adm ∷ c ∷ [])
apart_ceiling = both_ceiling (mix_apart []).order.names (omega arith)

pub no_barrier : barriers (length mix.order.names) (adm ∷ c ∷ []) ≡ []
no_barrier = refl

pub third_barrier : barriers (length (mix_apart []).order.names) (adm ∷ c ∷ []) ≡ (hits d ∷ []) ∷ []
third_barrier = refl

-- with nobody

pub no_ceiling : IsCeiling mix [] []
no_ceiling = record {
  gains = record { drawn = λ profile is n. let none = is.1 in cc; given = λ rule is common conjunct of' held role range. let none = common.2 in cc };
  least = λ other gains role held. cc;
}

pub one_barrier : barriers (length mix.order.names) [] ≡ (hits_either adm c ∷ []) ∷ []
one_barrier = refl
