-- Who may give what in the small policy.
use Rattle.std.proofs.Common.{◌≡◌, [], ◌∷◌, arith, true, false, refl}
use Rattle.role_order.specs.Graph.{here}
use Rattle.role_order.specs.Reach.{seniors_of}
use Rattle.role_order.specs.Roles.{IsIn}
use Rattle.arbac_policy.specs.Truth.{has, lacks, both, either}
use Rattle.arbac_laws.specs.Barriers.{HasGivenRoles, may_give, may_hold}
use Rattle.arbac_laws.specs.Rows.{mix, mix_rule, adm, c, one_admin}
use Rattle.arbac_laws.proofs.BarrierRowLemmas.{mix_ceiling}
use Rattle.arbac_laws.proofs.GainLemmas.{gains_given}
use Rattle.arbac_laws.proofs.RowLemmas.{lacks_adm}

pub adm_held : may_hold mix.order (adm ∷ []) (both (has adm) (lacks c)) ≡ true
unfolding seniors_of
adm_held = refl

pub adm_not_held : may_hold mix.order (c ∷ []) (either (has adm) (both (lacks c) (has adm))) ≡ false
unfolding seniors_of
adm_not_held = refl

pub adm_gives : may_give mix.order (adm ∷ []) mix_rule ≡ true
unfolding seniors_of
adm_gives = rw lacks_adm refl

pub c_gives_none : may_give mix.order (c ∷ []) mix_rule ≡ false
unfolding seniors_of
c_gives_none = refl

pub all_given : HasGivenRoles mix one_admin (adm ∷ c ∷ [])
all_given = gains_given mix one_admin (adm ∷ c ∷ []) mix_ceiling.gains

-- c is missing
pub not_all_given : HasGivenRoles mix one_admin (adm ∷ []) → ⊥
not_all_given all =
    let none : IsIn (adm ∷ []) c = all.given mix_rule (0, refl) adm_gives c
    (record { is_role = omega arith; above_low = here; below_high = here; low = λ e. cc; high = λ e. cc }) in
    cc
