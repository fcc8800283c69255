-- What a kept policy is seen as.
use Rattle.arbac_policy.specs.declared.policy.Policy.TheInside.{Inside}
use Rattle.arbac_policy.specs.Rules.{Rules}

-- what a kept policy is seen as
abbrev pub rules_of : Inside → Rules
rules_of p = record {
  order = p.order;
  assign = p.assign.items;
  revoke = p.revoke.items;
  assignp = p.assignp.items;
  revokep = p.revokep.items;
  exclusive = p.exclusive.items;
}
