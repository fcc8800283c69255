-- What the answer of a matching says.
use Rattle.std.specs.Prelude.{ℕ, List}
use Rattle.hall_match.specs.declared.outcome.Matching.{Matching}
use Rattle.hall_match.specs.declared.outcome.Matching.TheVariants.{Matched, Deficient}

-- what holds of the list, where all items are matched
abbrev pub IfMatched : Matching → (List ℕ → Type 0) → Type 0
IfMatched (Matched list) P = P list.items
IfMatched (Deficient items) P = Unit {0}

-- what holds of the items, where they are a deficient set
abbrev pub IfDeficient : Matching → (List ℕ → Type 0) → Type 0
IfDeficient (Matched list) P = Unit {0}
IfDeficient (Deficient items) P = P items.items
