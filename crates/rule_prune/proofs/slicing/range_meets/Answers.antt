use Rattle.std.proofs.Common.{◌∙◌, sym}
use Rattle.arbac_laws.proofs.GainLemmas.{common_is, is_common}
use Rattle.rule_prune.proofs.slicing.range_meets.Goals as goal

-- a role that the range and the set have in common
pub returns : goal.returns
returns c = (
  λ h. let common = common_is c.roles_of.result c.args.roles.now (sym c.meets.ensures ∙ h) in
      (common.0, (c.roles_of.ensures.roles common.0).0 common.1, common.2),
  λ meets. c.meets.ensures ∙ is_common c.roles_of.result c.args.roles.now (meets.0, (c.roles_of.ensures.roles meets.0).1 meets.1, meets.2),
)
