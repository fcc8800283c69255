use Rattle.std.proofs.Common.{List, ap, arith, sym, rules}
use Rattle.arbac_policy.specs.PlainRules.{AssignRule, plain_rule}
use Rattle.policy_text.specs.Steps.{run_view}
use Rattle.policy_text.proofs.WordLemmas.{map-pushed}
use Rattle.policy_text.proofs.body.Body.add_assign.Goals as goal
use Rattle.std.proofs.lemmas.List.{length-map}

pub returns-clause-added : goal.returns-clause-added
returns-clause-added c = record {
  place = search rules;
  room = omega (arith, length-map c.args.self.now.assign.items plain_rule, c.args.self.now.assign.ok.0, c.len.ensures);
  extends = (
    plain_rule (record { admin = c.in-Some.admin; cond = c.in_ok-cond.cond; range = c.in-Some-range_of.range }),
    sym c.in-Some.ensures.place,
    c.in-Some-range_of.ensures.some,
    c.in_ok-cond.ensures.says,
    ap (λ (t : List AssignRule). record (run_view c.args.order.now c.args.self.now) { assign = t }) (map-pushed plain_rule _ _ _ c.in_ok-push.ensures.items),
  );
}
