-- Goals that have too many combinations of one conjunct of each condition.
use Rattle.std.specs.Prelude.{◌≡◌, List, Some}
use Rattle.arbac_policy.specs.Truth.{Term}
use Rattle.arbac_rules.specs.Widths.{too_many}
use Rattle.arbac_rules.specs.declared.listing.WideError.{WideError}
use Rattle.arbac_rules.specs.declared.listing.WideError.TheVariants.{TooWide, Memory}

-- the error tells how many combinations there are with the first condition at which they are too many
abbrev pub IsTooMany : List Term → WideError → Type 0
IsTooMany goal (TooWide count) = too_many goal ≡ Some count
IsTooMany goal Memory = Unit {0}
