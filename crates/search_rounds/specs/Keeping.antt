-- What is kept of the candidates of a round.
use Rattle.std.specs.Prelude.{◌≡◌, ◌⊎◌, List, ◌++◌}
use Rattle.list_words.specs.Lists.{Each}
use Rattle.role_order.specs.Graph.{Graph}
use Rattle.arbac_laws.specs.Needs.{Need, IsCovered}
use Rattle.arbac_laws.specs.Recorded.{Entry}
use Rattle.search_laws.specs.Candidates.{needs_in}
use Rattle.search_laws.specs.Beats.{ArePart, MayLeaveOut}

-- some of the candidates, in their order; each left out is covered by what was known, or beaten
pub record Keeps (known : List (List Need)) (candidates kept : List Entry) : Type 0 where
  pub part : ArePart kept candidates
  pub left_out : MayLeaveOut known candidates kept part

-- what was known before a round, what was made so far, now and in earlier rounds, and what is kept of this round
pub record Gathered : Type 0 where
  pub order : Graph
  pub known : List (List Need)
  pub seen : List (List Need)
  pub kept : List Entry

-- what is kept is new, and whatever was made is covered by what was known or by something kept
pub record IsGathered (g : Gathered) : Type 0 where
  pub new : Each (λ (entry : Entry). ¬ IsCovered g.known entry.needs) g.kept
  pub seen : Each (λ needs. IsCovered g.known needs ⊎ IsCovered (needs_in g.kept) needs) g.seen

-- these candidates were made too: if all was well before, of them and all before only such are left out as may be
pub record Gathers (old new : Gathered) (made : List Entry) : Type 0 where
  pub order : new.order ≡ old.order
  pub known : new.known ≡ old.known
  pub still : IsGathered old → IsGathered new
  pub kept : IsGathered old → (all : List Entry) → Keeps old.known all old.kept → Keeps old.known (all ++ made) new.kept
