use Rattle.std.proofs.Common.{◌≡◌, ◌∙◌, [], ap, sym, Some}
use Rattle.std.specs.Prelude.{slice_get}
use Rattle.list_words.proofs.GetLemmas.{get_at}
use Rattle.role_order.specs.Roles.{IsWithin}
use Rattle.arbac_policy.specs.declared.profile.Profile.{Profile}
use Rattle.rule_prune.specs.Gains.{Brings}
use Rattle.rule_prune.proofs.GainLemmas.{brings_stays, within_order}
use Rattle.rule_prune.proofs.StepLemmas.{all_steps, no_step, one_step}
use Rattle.rule_prune.proofs.gains.drawn_roles.Goals as goal

pub loop-profile-init : goal.loop-profile-init
loop-profile-init c = rw c.empty-set.ensures (no_step IsWithin within_order Brings c.args.profiles.now [])

-- one profile more
pub loop-profile-preserved : goal.loop-profile-preserved
loop-profile-preserved c =
    let profiles = c.args.profiles.now in
    let profile = c.profile-item.result in
    let here : slice_get profiles c.loop-profile.profile-index ≡ Some profile =
    get_at profiles c.loop-profile.profile-index profile c.loop-profile-test.true ∙ ap (λ (p : Profile). Some p) (sym c.profile-item.is) in
    one_step IsWithin within_order Brings brings_stays profiles c.loop-profile.profile-index profile here [] c.loop-profile.set c.with_drawn-set.result
    c.loop-profile.invariant c.with_drawn-set.ensures

pub returns : goal.returns
returns c =
    all_steps IsWithin Brings c.args.profiles.now c.loop-profile.profile-index c.loop-profile-test.false [] c.loop-profile.set c.loop-profile.invariant
