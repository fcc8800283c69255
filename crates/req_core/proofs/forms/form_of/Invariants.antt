use Rattle.std.proofs.Common.{drop}
use Rattle.arbac_laws.specs.Views.{needs_of}
use Rattle.req_core.proofs.FormLemmas.{IsForm}
use Rattle.req_core.proofs.forms.form_of.Given as goal

abbrev pub invariant-loop-at : goal.invariant-loop-at
invariant-loop-at l = IsForm (needs_of (drop l.at l.raw)) l.users.items l.places.items
