use Rattle.std.proofs.Common.{◌≡◌, ◌∙◌, true, sym, inl, inr}
use Rattle.std.proofs.lemmas.Bool.{false≢true}
use Rattle.arbac_laws.proofs.GainLemmas.{common_is, is_common}
use Rattle.rule_prune.specs.Relevant.{Meet}
use Rattle.rule_prune.proofs.relevance.have_met.Goals as goal

-- a role is wanted in both
pub returns-then-meets : goal.returns-then-meets
returns-then-meets c = (
  λ h. inl (common_is c.args.roles.now.wanted c.args.other.now.wanted (sym c.meets.ensures ∙ c.if-meets.true)),
  λ met. c.if-meets.true,
)

-- none is, and what is barred decides
pub returns-else-meets : goal.returns-else-meets
returns-else-meets c = (
  λ h. inr (common_is c.args.roles.now.barred c.args.other.now.barred (sym c.meets-else-meets.ensures ∙ h)),
  λ met. by_part met,
)
  where
    by_part : Meet c.args.roles.now c.args.other.now → c.meets-else-meets.result ≡ true
    by_part (inl common) =
        absurd (false≢true (sym c.if-meets.false ∙ c.meets.ensures ∙ is_common c.args.roles.now.wanted c.args.other.now.wanted common))
    by_part (inr common) = c.meets-else-meets.ensures ∙ is_common c.args.roles.now.barred c.args.other.now.barred common
