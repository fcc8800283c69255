use Rattle.rule_prune.specs.Relevant.{AreAmong, LeadsOn}
use Rattle.rule_prune.specs.Steps.{IsStep}
use Rattle.rule_prune.proofs.StepLemmas.{ByFirst}
use Rattle.rule_prune.proofs.closing.with_links.Given as goal

-- what the links so far lead to
abbrev pub invariant-loop-link : goal.invariant-loop-link
invariant-loop-link l = IsStep AreAmong (ByFirst LeadsOn l.links l.link-index) l.roles l.more
