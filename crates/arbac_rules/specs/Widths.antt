-- How many conjuncts a condition has, and how many combinations of them a goal has.
use Rattle.std.specs.Prelude.{ℕ, ◌≡◌, ◌<◌, ◌+◌, ◌*◌, nat_lt, if◌then◌else◌, List, [], ◌∷◌, length, Option, Some, None}
use Rattle.arbac_policy.specs.Truth.{Term, any, has, lacks, both, either}
use Rattle.arbac_laws.specs.Needs.{Need}
use Rattle.arbac_rules.specs.declared.listing.WideError.{WideError}
use Rattle.arbac_rules.specs.declared.listing.WideError.TheVariants.{TooWide, Memory}
use Rattle.arbac_rules.specs.declared.TheConstants.{MOST_CONJUNCTS}

-- the number of conjuncts: `and` multiplies both sides' numbers, `or` adds them
abbrev pub width : Term → ℕ
width any = 1
width (has role) = 1
width (lacks role) = 1
width (both left right) = width left * width right
width (either left right) = width left + width right

-- how many combinations of one conjunct of each condition there are
abbrev pub goal_width : List Term → ℕ
goal_width [] = 1
goal_width (cond ∷ conds) = width cond * goal_width conds

-- counted on from so many combinations: how many there are with the first condition at which they are
-- too many; none where they never are
abbrev pub too_many_from : ℕ → List Term → Option ℕ
too_many_from combinations [] = None
too_many_from combinations (cond ∷ conds) =
    if nat_lt MOST_CONJUNCTS (combinations * width cond) then Some (combinations * width cond)
    else too_many_from (combinations * width cond) conds

-- the product of the numbers of conjuncts up to the first condition at which it is above the limit
abbrev pub too_many : List Term → Option ℕ
too_many goal = too_many_from 1 goal

-- the error tells the length of a list that is too long; want of memory tells nothing
abbrev pub IsTooWide : List Need → WideError → Type 0
IsTooWide list (TooWide count) = (count ≡ length list) × (MOST_CONJUNCTS < length list)
IsTooWide list Memory = Unit {0}
