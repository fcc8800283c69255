-- Candidates as the laws see them.
use Rattle.std.specs.Prelude.{List, map}
use Rattle.list_words.specs.Lists.{Each}
use Rattle.role_order.specs.Graph.{Graph}
use Rattle.arbac_laws.specs.Recorded.{Origin as From, Entry, of_goal, of_parent}
use Rattle.req_pre.specs.Views.{owed_of}
use Rattle.shared_reqs.specs.Shared.{AreOwnMarks, needs_marked}
use Rattle.search_rounds.specs.declared.candidate.Candidate.{Candidate}
use Rattle.search_rounds.specs.declared.candidate.Origin.{Origin}
use Rattle.search_rounds.specs.declared.candidate.Origin.TheVariants.{Goal, Pre}

-- an origin
abbrev pub origin_of : Origin → From
origin_of (Goal number) = of_goal number
origin_of (Pre parent ob) = of_parent parent (owed_of ob)

-- a candidate: its requirement with its origin
abbrev pub entry_of : Candidate → Entry
entry_of one = record { origin = origin_of one.origin; needs = needs_marked one.req.value }

-- each of a list
abbrev pub entries_of : List Candidate → List Entry
entries_of list = map entry_of list

-- the users of each carry their own marks
abbrev pub HaveOwnMarks : Graph → List Candidate → Type 0
HaveOwnMarks order list = Each (λ (one : Candidate). AreOwnMarks order one.req.value) list
