use Rattle.std.proofs.Common.{◌∙◌, refl, sym}
use Rattle.std.proofs.lemmas.Bool.{false≢true}
use Rattle.ura_core.proofs.judging.rule_against.Goals as goal

-- some range has the role, and no rule fits
pub returns-in_default-assign_fitting-clause-some : goal.returns-in_default-assign_fitting-clause-some
returns-in_default-assign_fitting-clause-some c = (
  refl,
  rw c.new-placed.ensures.role at c.in-Some.ensures.found,
  rw c.new-placed.ensures.role at c.in_default-assign_fitting.ensures.none,
)

-- some rule fits, and none lets the administrator
pub returns-clause-some : goal.returns-clause-some
returns-clause-some c =
    let told = rw c.new-placed.ensures.role at c.some_assign.ensures in
    (refl, rw c.new-placed.ensures.role at c.in-Some-assign_fitting.ensures.found, λ some. false≢true (sym c.if-some_assign.false ∙ told.1 some))
