use Rattle.std.proofs.Common.{◌≤◌, length, arith}
use Rattle.std.proofs.lemmas.Bool.Decides.{nat_tests}
use Rattle.role_order.specs.declared.TheConstants.{MOST_ROLES}
use Rattle.rule_prune.proofs.GrowthLemmas.{as_many, few_below, no_more}
use Rattle.rule_prune.proofs.growth.has_grown.Goals as goal

-- a set within another that has no more is that other
pub returns-clause-same : goal.returns-clause-same
returns-clause-same c = λ none.
    let all : length c.args.wider.now ≤ length c.args.set.now = grind (arith, nat_tests) in
    as_many c.args.set.now c.args.wider.now c.is_role_set.ensures.rises c.is_role_set-2.ensures.rises c.requires all

pub returns-clause-kept : goal.returns-clause-kept
returns-clause-kept c = no_more c.args.set.now c.args.wider.now c.is_role_set.ensures.rises c.is_role_set-2.ensures.rises c.requires

pub returns-clause-few : goal.returns-clause-few
returns-clause-few c = few_below MOST_ROLES c.args.wider.now c.is_role_set-2.ensures.rises c.is_role_set-2.ensures.below
