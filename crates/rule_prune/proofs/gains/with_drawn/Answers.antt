use Rattle.std.proofs.Common.{◌∙◌, sym}
use Rattle.std.proofs.lemmas.Bool.{false≢true}
use Rattle.rule_prune.proofs.GainLemmas.{drawn_step, undrawn_step}
use Rattle.rule_prune.proofs.gains.with_drawn.Goals as goal

-- the profile brings its roles
pub returns-then-is_drawn : goal.returns-then-is_drawn
returns-then-is_drawn c =
    rw c.join.ensures (drawn_step c.args.profile.now c.args.set.now (c.is_drawn.ensures.0 c.if-is_drawn.true))

-- nobody starts with it
pub returns-else-is_drawn : goal.returns-else-is_drawn
returns-else-is_drawn c =
    undrawn_step c.args.profile.now c.args.set.now (λ n. false≢true (sym c.if-is_drawn.false ∙ c.is_drawn.ensures.1 n))
