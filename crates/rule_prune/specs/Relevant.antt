-- What can matter for a goal, as two sets of roles: what conditions, rules and pairs ask for, and links that say it.
use Rattle.std.specs.Prelude.{ℕ, ◌+◌, ◌⊎◌, List, [], length}
use Rattle.list_words.specs.Lists.{Each, IsOneOf}
use Rattle.role_order.specs.Roles.{join_roles, HaveCommon, IsIn, IsWithin}
use Rattle.role_order.specs.Graph.{Graph}
use Rattle.role_order.specs.Reach.{seniors_of}
use Rattle.role_order.specs.Ranges.{IsInRange}
use Rattle.role_order.specs.declared.range.Range.{Range}
use Rattle.arbac_policy.specs.declared.rule.CanAssign.{CanAssign}
use Rattle.arbac_policy.specs.declared.rule.CanRevoke.{CanRevoke}
use Rattle.arbac_policy.specs.Truth.{Term, term_of, any, has, lacks, both, either}
use Rattle.arbac_policy.specs.Rules.{Rules}
use Rattle.arbac_laws.specs.PreImages.{barred}
use Rattle.rule_prune.specs.declared.links.Link.{Link}
use Rattle.rule_prune.specs.declared.relevance.Relevance.{Relevance}

-- the roles of the hits of the condition's conjuncts: the seniors of x where it says `x`
abbrev pub wants : Graph → Term → List ℕ
wants order any = []
wants order (has role) = seniors_of order role
wants order (lacks role) = []
wants order (both left right) = join_roles (wants order left) (wants order right)
wants order (either left right) = join_roles (wants order left) (wants order right)

-- the roles of their lacks: the seniors of x where it says `not x`
abbrev pub bars : Graph → Term → List ℕ
bars order any = []
bars order (has role) = []
bars order (lacks role) = seniors_of order role
bars order (both left right) = join_roles (bars order left) (bars order right)
bars order (either left right) = join_roles (bars order left) (bars order right)

-- what the condition wants and bars
abbrev pub asked : Graph → Term → Relevance
asked order cond = record { wanted = wants order cond; barred = bars order cond }

-- the roles of the first are among those of the second
pub record AreAmong (roles other : Relevance) : Type 0 where
  pub wanted : IsWithin roles.wanted other.wanted
  pub barred : IsWithin roles.barred other.barred

-- a role of the range is one of these
abbrev pub RangeMeets : Graph → Range → List ℕ → Type 0
RangeMeets order range roles = (role : ℕ) × IsInRange order range role × IsIn roles role

-- a rule to assign that has a wanted role in its range asks for its condition and its administrators
abbrev pub AsksToAssign : Graph → Relevance → CanAssign → Type 0
AsksToAssign order roles rule =
    RangeMeets order rule.range roles.wanted
    → AreAmong (asked order (term_of rule.cond)) roles × IsWithin (seniors_of order rule.admin) roles.wanted

-- a rule to revoke that has a barred role in its range asks for its administrators
abbrev pub AsksToRevoke : Graph → Relevance → CanRevoke → Type 0
AsksToRevoke order roles rule = RangeMeets order rule.range roles.barred → IsWithin (seniors_of order rule.admin) roles.wanted

-- some rule to assign has the role in its range
abbrev pub IsGivable : Rules → ℕ → Type 0
IsGivable rules role = (rule : CanAssign) × IsOneOf rules.assign rule × IsInRange rules.order rule.range role

-- where one of these roles is above the first and wanted, all that is above the second is barred
abbrev pub Excludes : Graph → List ℕ → Relevance → ℕ → ℕ → Type 0
Excludes order givable roles first second =
    (role : ℕ) → IsIn givable role → IsIn (seniors_of order first) role → IsIn roles.wanted role → IsWithin (seniors_of order second) roles.barred

-- either role of the pair excludes the other
abbrev pub AsksApart : Graph → List ℕ → Relevance → ℕ × ℕ → Type 0
AsksApart order givable roles pair = Excludes order givable roles pair.0 pair.1 × Excludes order givable roles pair.1 pair.0

-- the roles have all that rules and pairs ask for by them; what the pairs bar from whoever is given a wanted role is barred
pub record HaveAsked (rules : Rules) (roles : Relevance) : Type 0 where
  pub assigns : Each (AsksToAssign rules.order roles) rules.assign
  pub pairs : (role : ℕ) → IsGivable rules role → IsIn roles.wanted role → IsWithin (barred rules.order role rules.exclusive) roles.barred
  pub revokes : Each (AsksToRevoke rules.order roles) rules.revoke

-- the least roles that have what the goal's conditions want and bar, and all that is asked for by them
pub record AreLeast (rules : Rules) (goal : List Term) (roles : Relevance) : Type 0 where
  pub goals : Each (λ cond. AreAmong (asked rules.order cond) roles) goal
  pub asks : HaveAsked rules roles
  pub least : (other : Relevance) → Each (λ cond. AreAmong (asked rules.order cond) other) goal → HaveAsked rules other → AreAmong roles other

-- a role is wanted in both, or barred in both
abbrev pub Meet : Relevance → Relevance → Type 0
Meet roles other = HaveCommon roles.wanted other.wanted ⊎ HaveCommon roles.barred other.barred

-- where the old roles meet those that the link starts from, the new ones have all that it leads to
abbrev pub LeadsOn : Link → Relevance → Relevance → Type 0
LeadsOn link old new = Meet link.from old → AreAmong link.to new

-- the roles have all that the links lead to from them
abbrev pub HaveLinked : List Link → Relevance → Type 0
HaveLinked links roles = Each (λ link. LeadsOn link roles roles) links

-- how many roles are wanted and barred
abbrev pub count_of : Relevance → ℕ
count_of roles = length roles.wanted + length roles.barred
