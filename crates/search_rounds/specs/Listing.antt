-- Going through the acts on a parent's users.
use Rattle.std.specs.Prelude.{ℕ, ◌≡◌, ◌<◌, Bool, List, ◌++◌, length}
use Rattle.std.specs.List.{list_any}
use Rattle.role_order.specs.Graph.{Graph}
use Rattle.role_order.specs.Roles.{has_role}
use Rattle.role_order.specs.Reach.{seniors_of}
use Rattle.arbac_laws.specs.Needs.{Need}
use Rattle.arbac_laws.specs.Recorded.{Entry}
use Rattle.shared_reqs.specs.Shared.{AreOwnMarks, needs_marked}
use Rattle.search_rounds.specs.declared.picks.Deed.{Deed}
use Rattle.search_rounds.specs.declared.useful.Useful.{Useful}
use Rattle.search_rounds.specs.declared.making.Work.{Work}
use Rattle.search_rounds.specs.declared.making.Acts.{Acts}
use Rattle.search_rounds.specs.Keeping.{Gathered, Gathers}
use Rattle.search_rounds.specs.Making.{way_of, by_target, by_role}

-- the role is in one of the hits of the user
abbrev pub is_in_hits : Need → ℕ → Bool
is_in_hits need role = list_any (λ hit. has_role hit role) need.hits

-- the sets have the roles of all hits, and of all lacks
pub record AreUseful (needs : List Need) (useful : Useful) : Type 0 where
  pub given : (role : ℕ) → has_role useful.given role ≡ list_any (λ need. is_in_hits need role) needs
  pub taken : (role : ℕ) → has_role useful.taken role ≡ list_any (λ (need : Need). has_role need.lacks role) needs

-- what the parent wants of its users
abbrev pub parent_needs : Work → List Need
parent_needs work = needs_marked work.parent.req.now

-- the parent's users carry their own marks, and the sets are those of its users
pub record IsWork (work : Work) : Type 0 where
  pub marks : AreOwnMarks work.prepared.now.order work.parent.req.now
  pub useful : AreUseful (parent_needs work) work.useful

-- the administrative role is one of the order's, and the hit its seniors
pub record AreBy (order : Graph) (acts : Acts) : Type 0 where
  pub admin : acts.admin < length order.names
  pub hit : acts.hit ≡ seniors_of order acts.admin

-- the candidates of the act, where so much is wanted of its target
abbrev pub of_deed : Work → Deed → Need → List Entry
of_deed work deed need =
    by_target work.prepared.now work.parent.number (way_of deed.change) deed.hit (parent_needs work) deed.role deed.target need

-- of the acts with the role
abbrev pub of_acts : Work → Acts → ℕ → List Entry
of_acts work acts role = by_role work.prepared.now work.parent.number (way_of acts.change) acts.hit (parent_needs work) role

-- something was gathered so far, and with what is left it makes the whole
pub record GoesOn (old now : Gathered) (left whole : List Entry) : Type 0 where
  pub done : List Entry
  pub gathers : Gathers old now done
  pub parts : done ++ left ≡ whole
