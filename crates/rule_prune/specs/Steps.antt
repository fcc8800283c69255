-- Steps towards the least thing that has all that follows from itself.
use Rattle.std.specs.Prelude.{List}
use Rattle.list_words.specs.Lists.{IsOneOf}

-- the new one has all of the old and all that follows from it, and lies within whatever has all of the old and all that
-- follows from itself
pub record IsStep {A : Type 0} (Among Follows : A → A → Type 0) (old new : A) : Type 0 where
  pub kept : Among old new
  pub has : Follows old new
  pub least : (other : A) → Among old other → Follows other other → Among new other

-- what follows by each item of the list
abbrev pub ByEach : {A B : Type 0} → (B → A → A → Type 0) → List B → A → A → Type 0
ByEach {A} {B} Follows xs old new = (x : B) → IsOneOf xs x → Follows x old new

-- the least that has all of the old and all that follows from itself
abbrev pub IsClosure : {A : Type 0} → (A → A → Type 0) → (A → A → Type 0) → A → A → Type 0
IsClosure Among Follows old new = IsStep Among (λ before after. Follows after after) old new
