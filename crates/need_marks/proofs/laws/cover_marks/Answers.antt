use Rattle.need_marks.proofs.MarkLemmas.{covering_fits}
use Rattle.need_marks.proofs.laws.cover_marks.Goals as goal

pub returns : goal.returns
returns c = covering_fits
