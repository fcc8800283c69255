use Rattle.std.proofs.Common.{◌≡◌, ◌∙◌, ap}
use Rattle.role_order.specs.Reach.{seniors_of}
use Rattle.role_order.specs.Roles.{join_roles}
use Rattle.arbac_policy.specs.Truth.{term_of}
use Rattle.rule_prune.specs.Relevant.{bars, wants}
use Rattle.rule_prune.specs.declared.relevance.Relevance.{Relevance}
use Rattle.rule_prune.proofs.RelevantLemmas.{assign_linked}
use Rattle.rule_prune.proofs.links.assign_link.Goals as goal

pub returns : goal.returns
returns c =
    let order = c.args.order.now in
    let rule = c.args.rule.now in
    let wanted : c.join.result ≡ join_roles (wants order (term_of rule.cond)) (seniors_of order rule.admin) =
    c.join.ensures ∙ ap (λ (r : Relevance). join_roles r.wanted c.seniors.result) c.asked-cond.ensures
    ∙ ap (join_roles (wants order (term_of rule.cond))) c.seniors.ensures.seniors in
    let barred : c.asked-cond.result.barred ≡ bars order (term_of rule.cond) = ap (λ (r : Relevance). r.barred) c.asked-cond.ensures in
    assign_linked order rule (record {
      from = record { wanted = c.roles_of.result; barred = c.empty.result };
      to = record { wanted = c.join.result; barred = c.asked-cond.result.barred };
    }) c.roles_of.ensures.roles c.empty.ensures wanted barred
