use Rattle.std.proofs.Common.{ℕ, ◌∙◌, sym}
use Rattle.arbac_laws.specs.PreImages.{is_barred}
use Rattle.cert_needs.proofs.ExclusionLemmas.{passed_more, passed_same}
use Rattle.cert_needs.proofs.exclusions.closed_roles.Goals.{then-is_barred, else-is_barred}
use Rattle.cert_needs.proofs.exclusions.closed_roles.Goals as goal

-- one role more
pub loop-role-preserved : goal.loop-role-preserved
loop-role-preserved c =
    let test = λ (role : ℕ). is_barred c.args.order.now role c.args.pairs.now in
    elim c.if-is_barred.branch [
      | then-is_barred w ↦ rw (w.closed-is, w.with-closed.ensures)
          (passed_more test c.loop-role.role c.loop-role.closed c.loop-role.invariant (sym c.is_barred.ensures ∙ w.if-is_barred.true))
      | else-is_barred w ↦ rw w.closed-is
          (passed_same test c.loop-role.role c.loop-role.closed c.loop-role.invariant (sym c.is_barred.ensures ∙ w.if-is_barred.false))
    ]
