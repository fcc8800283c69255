-- The orders of lists of hits, of user requirements and of requirements.
use Rattle.std.specs.Prelude.{Bool, ◌||◌, ◌&&◌, not, nat_lt, List, length, ℕ}
use Rattle.role_order.specs.Orders.{set_before}
use Rattle.list_words.specs.Orders.{list_before}
use Rattle.arbac_laws.specs.Needs.{Need}

-- lists of hits as lists of sets
abbrev pub hits_before : List (List ℕ) → List (List ℕ) → Bool
hits_before = list_before set_before

-- by the hits, and then by the lacks
abbrev pub need_before : Need → Need → Bool
need_before a b = hits_before a.hits b.hits || (not (hits_before b.hits a.hits) && set_before a.lacks b.lacks)

-- fewer users first, and as lists where there are as many
abbrev pub requirement_before : List Need → List Need → Bool
requirement_before a b = nat_lt (length a) (length b) || (not (nat_lt (length b) (length a)) && list_before need_before a b)
