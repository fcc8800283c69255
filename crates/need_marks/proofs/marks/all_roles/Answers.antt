use Rattle.need_marks.proofs.AimLemmas.{one_role_more}
use Rattle.need_marks.proofs.marks.all_roles.Goals as goal

pub loop-role-preserved : goal.loop-role-preserved
loop-role-preserved c = rw c.with-all.ensures (one_role_more c.loop-role.role c.loop-role.all c.loop-role.invariant)
