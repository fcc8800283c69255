use Rattle.std.proofs.Common.{◌∙◌, ap}
use Rattle.role_order.specs.Roles.{common_roles}
use Rattle.rule_prune.proofs.RelevantLemmas.{apart_linked}
use Rattle.rule_prune.proofs.links.apart_link.Goals as goal

pub returns : goal.returns
returns c =
    apart_linked c.args.order.now c.args.givable.now c.args.first c.args.second (record {
      from = record { wanted = c.common.result; barred = c.empty.result };
      to = record { wanted = c.empty-2.result; barred = c.seniors-2.result };
    })
    (c.common.ensures.common ∙ ap (λ above. common_roles above c.args.givable.now) c.seniors.ensures.seniors) c.empty.ensures c.empty-2.ensures
    c.seniors-2.ensures.seniors
