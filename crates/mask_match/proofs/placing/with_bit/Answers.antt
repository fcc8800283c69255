use Rattle.mask_match.proofs.BitLemmas.{more_with, set_with}
use Rattle.mask_match.proofs.placing.with_bit.Goals as goal

pub returns-clause-more : goal.returns-clause-more
returns-clause-more c = rw c.bit.ensures (more_with c.args.mask c.args.place c.requires.unset)

pub returns-clause-set : goal.returns-clause-set
returns-clause-set c = λ k. rw c.bit.ensures (set_with c.args.mask c.args.place k)
