use Rattle.std.proofs.Common.{◌∙◌, sym}
use Rattle.arbac_policy.proofs.MemberLemmas.{common_role, common_of}
use Rattle.arbac_policy.proofs.truth.is_member.Goals as goal

pub returns : goal.returns
returns c = (
  λ h. let r = common_role c.args.set.now c.seniors.result (sym c.meets.ensures ∙ h) in (r.0, r.1, (c.seniors.ensures.each r.0).0 r.2),
  λ member. c.meets.ensures ∙ common_of c.args.set.now c.seniors.result member.0 member.1 ((c.seniors.ensures.each member.0).1 member.2),
)
