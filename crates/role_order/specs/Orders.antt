-- The order of lists that an order of their items gives, and that of sets.
use Rattle.std.specs.Prelude.{ℕ, Bool, nat_lt, List}
use Rattle.list_words.specs.Orders.{list_before}

-- sets as rising lists of numbers
abbrev pub set_before : List ℕ → List ℕ → Bool
set_before = list_before nat_lt
