use Rattle.std.proofs.Common.{◌<◌, ◌∙◌, ◌++◌, sym, ap, length, arith, ◌∷◌, []}
use Rattle.std.specs.Prelude.{if◌then◌else◌}
use Rattle.role_order.specs.Roles.{has_role}
use Rattle.list_words.proofs.EachLemmas.{each_weaker}
use Rattle.question_writer.proofs.NamedLemmas.{each_below}
use Rattle.question_writer.proofs.PieceLemmas.{none_below, below_step, below_all}
use Rattle.question_writer.proofs.pieces.roles_of.Goals as goal

pub loop-role-init : goal.loop-role-init
loop-role-init c = c.new-roles.ensures.items ∙ none_below c.args.set.now

pub loop-role-preserved : goal.loop-role-preserved
loop-role-preserved c =
    c.in_ok-push_if_held.ensures ∙ ap (λ l. l ++ (if has_role c.args.set.now c.loop-role.role then c.loop-role.role ∷ [] else [])) c.loop-role.invariant
    ∙ sym (below_step c.args.set.now c.loop-role.role c.requires.rises)

pub returns : goal.returns
returns c = c.loop-role.invariant
    ∙ below_all c.args.set.now c.loop-role.role
    (each_weaker (λ x. x < length c.args.order.now.names) (λ x. x < c.loop-role.role) (λ x h. let count = c.count-role-end.ensures.count in omega arith)
    c.args.set.now (each_below (length c.args.order.now.names) c.args.set.now c.requires.below))
