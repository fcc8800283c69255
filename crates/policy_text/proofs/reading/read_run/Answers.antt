use Rattle.std.proofs.Common.{arith}
use Rattle.std.proofs.lemmas.Result.{IfOk-weaker}
use Rattle.arbac_policy.specs.Truth.{term_of}
use Rattle.policy_text.specs.Runs.{plain_of}
use Rattle.policy_text.proofs.RunLemmas.{few_of}
use Rattle.policy_text.proofs.SoleLemmas.{known_of}
use Rattle.policy_text.proofs.ClashLemmas.{one_run}
use Rattle.policy_text.proofs.ReadLemmas.{only_of, told_of}
use Rattle.policy_text.proofs.reading.read_run.Goals as goal
use Rattle.std.proofs.lemmas.List.{length-map}

pub returns-clause-few : goal.returns-clause-few
returns-clause-few c = IfOk-weaker c.read.result _ _ (λ run h. few_of c.args.bytes.now (plain_of run) h) c.read.ensures.found

pub returns-clause-goal : goal.returns-clause-goal
returns-clause-goal c =
    IfOk-weaker c.read.result _ _ (λ run h. let long = length-map run.goal.items term_of in let some = h.goal in
    omega (arith, long, some)) c.read.ensures.found

pub returns-clause-known : goal.returns-clause-known
returns-clause-known c = IfOk-weaker c.read.result _ _ (λ run h. known_of c.args.bytes.now (plain_of run) h) c.read.ensures.found

pub returns-clause-only : goal.returns-clause-only
returns-clause-only c = only_of c.args.bytes.now c.read.result c.read.ensures.found c.read.ensures.first

pub returns-clause-told : goal.returns-clause-told
returns-clause-told c = told_of c.args.bytes.now c.read.result c.read.ensures.found c.read.ensures.first

pub returns-clause-one : goal.returns-clause-one
returns-clause-one c = one_run c.args.bytes.now
