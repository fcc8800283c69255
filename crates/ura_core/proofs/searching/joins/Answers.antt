use Rattle.std.proofs.Common.{◌∙◌, sym}
use Rattle.std.proofs.lemmas.Bool.{false≢true}
use Rattle.ura_core.proofs.MemberLemmas.{member_more, member_by, member_split}
use Rattle.ura_core.proofs.searching.joins.Goals as goal

-- the role itself reaches the other one
pub returns-then-geq : goal.returns-then-geq
returns-then-geq c = (λ h. member_by c.args.order.now.edges c.args.set.now c.args.role c.args.other (c.geq.ensures.0 c.if-geq.true), λ h. c.if-geq.true)

-- who reaches the other role with this one, which does not, reaches it without
pub returns-else-geq : goal.returns-else-geq
returns-else-geq c = (
  λ h. member_more c.args.order.now.edges c.args.set.now c.args.role c.args.other (c.is_member.ensures.0 h),
  λ h. c.is_member.ensures.1 (member_split c.args.order.now.edges c.args.set.now c.args.role c.args.other
      (λ led. false≢true (sym c.if-geq.false ∙ c.geq.ensures.1 led)) h),
)
