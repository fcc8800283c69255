use Rattle.std.proofs.Common.{rules}
use Rattle.cert_text.proofs.sections.plan.PlanSection.add.Goals as goal
use Rattle.cert_text.proofs.sections.plan.PlanSection.add.Goals.{in-Start, in-Act, in-Reachable}

pub returns : goal.returns
returns c = λ names. elim c.match-line.branch [
  | in-Start w ↦ rw (w.result-is, w.self-is, w.in-Start.is) (w.add_start.ensures names)
  | in-Act w ↦ rw (w.result-is, w.self-is, w.in-Act.is) (w.add_act.ensures names)
  | in-Reachable w ↦ search rules
]
