use Rattle.cert_text.proofs.sections.needs.NeedsSection.add.Goals as goal

pub returns-in-Need : goal.returns-in-Need
returns-in-Need c = rw c.in-Need.is c.add_need.ensures
