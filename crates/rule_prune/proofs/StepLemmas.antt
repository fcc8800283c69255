-- Steps one after another.
use Rattle.std.proofs.Common.{ℕ, ◌≡◌, ◌<◌, ◌≤◌, ◌+◌, List, length, Some, arith}
use Rattle.std.specs.Prelude.{slice_get}
use Rattle.list_words.proofs.GetLemmas.{below_more, get_below}
use Rattle.rule_prune.specs.Steps.{ByEach, IsClosure, IsStep}

-- everything is among itself, and what is among something is among what that is among
pub record IsPreorder {A : Type 0} (Among : A → A → Type 0) : Type 0 where
  pub same : (a : A) → Among a a
  pub through : (a b c : A) → Among a b → Among b c → Among a c

-- what follows from something follows from less, and more has it too
abbrev pub Stays : {A : Type 0} → (A → A → Type 0) → (A → A → Type 0) → Type 0
Stays {A} Among Follows = (less old new more : A) → Among less old → Among new more → Follows old new → Follows less more

-- what follows by each of the first so many items
abbrev pub ByFirst : {A B : Type 0} → (B → A → A → Type 0) → List B → ℕ → A → A → Type 0
ByFirst {A} {B} Follows xs n old new = (k : ℕ) (x : B) → k < n → slice_get xs k ≡ Some x → Follows x old new

-- nothing changes where all that follows is there
pub still : {A : Type 0} (Among Follows : A → A → Type 0) → IsPreorder Among → (a : A) → Follows a a → IsStep Among Follows a a
still Among Follows o a has = record { kept = o.same a; has = has; least = λ other among closed. among }

-- no item yet
pub no_step : {A B : Type 0} (Among : A → A → Type 0) → IsPreorder Among → (Follows : B → A → A → Type 0) (xs : List B) (a : A)
    → IsStep Among (ByFirst Follows xs 0) a a
no_step Among o Follows xs a = still Among (ByFirst Follows xs 0) o a (λ k x l e. absurd (omega arith))

-- one item more
pub one_step : {A B : Type 0} (Among : A → A → Type 0) → IsPreorder Among → (Follows : B → A → A → Type 0) → ((x : B) → Stays Among (Follows x))
    → (xs : List B) (i : ℕ) (x : B) → slice_get xs i ≡ Some x → (a b c : A) → IsStep Among (ByFirst Follows xs i) a b → IsStep Among (Follows x) b c
    → IsStep Among (ByFirst Follows xs (i + 1)) a c
one_step Among o Follows stays xs i x here a b c first step = record {
  kept = o.through a b c first.kept step.kept;
  has = below_more (λ y. Follows y a c) xs i x (λ k y l e. stays y a a b c (o.same a) step.kept (first.has k y l e)) here
      (stays x a b c c first.kept (o.same c) step.has);
  least = λ other among closed. step.least other (first.least other among (λ k y l e. closed k y (omega arith) e)) (closed i x (omega arith) here);
}

-- all items
pub all_steps : {A B : Type 0} (Among : A → A → Type 0) (Follows : B → A → A → Type 0) (xs : List B) (i : ℕ) → length xs ≤ i → (a b : A)
    → IsStep Among (ByFirst Follows xs i) a b → IsStep Among (ByEach Follows xs) a b
all_steps Among Follows xs i all a b step = record {
  kept = step.kept;
  has = λ x is. let l = get_below xs is.0 x is.1 in step.has is.0 x (omega (arith, l, all)) is.1;
  least = λ other among closed. step.least other among (λ k x l e. closed x (k, e));
}

-- what follows under a condition that holds, and holds of more
pub if_step : {A : Type 0} (Among Follows : A → A → Type 0) (If : A → Type 0) → ((a b : A) → Among a b → If a → If b) → (a b : A) → If a
    → IsStep Among Follows a b → IsStep Among (λ old new. If old → Follows old new) a b
if_step Among Follows If more a b holds step = record {
  kept = step.kept;
  has = λ h. step.has;
  least = λ other among closed. step.least other among (closed (more a other among holds));
}

-- under a condition that doesn't hold nothing follows
pub else_step : {A : Type 0} (Among Follows : A → A → Type 0) → IsPreorder Among → (If : A → Type 0) (a : A) → (If a → ⊥)
    → IsStep Among (λ old new. If old → Follows old new) a a
else_step Among Follows o If a none = still Among (λ old new. If old → Follows old new) o a (λ h. absurd (none h))

-- on the way to a closure: all of the start, and nothing that every closed thing above the start hasn't
pub record IsOnWay {A : Type 0} (Among Follows : A → A → Type 0) (start now : A) : Type 0 where
  pub kept : Among start now
  pub least : (other : A) → Among start other → Follows other other → Among now other

pub way_starts : {A : Type 0} (Among Follows : A → A → Type 0) → IsPreorder Among → (start : A) → IsOnWay Among Follows start start
way_starts Among Follows o start = record { kept = o.same start; least = λ other among closed. among }

pub way_goes_on : {A : Type 0} (Among Follows : A → A → Type 0) → IsPreorder Among → (start now next : A) → IsOnWay Among Follows start now
    → IsStep Among Follows now next → IsOnWay Among Follows start next
way_goes_on Among Follows o start now next way step = record {
  kept = o.through start now next way.kept step.kept;
  least = λ other among closed. step.least other (way.least other among closed) closed;
}

pub way_ends : {A : Type 0} (Among Follows : A → A → Type 0) (start now : A) → IsOnWay Among Follows start now → Follows now now
    → IsClosure Among Follows start now
way_ends Among Follows start now way closed = record { kept = way.kept; has = closed; least = way.least }

-- a step to what was there already says that all that follows is there
pub nothing_new : {A : Type 0} (Among Follows : A → A → Type 0) → IsPreorder Among → Stays Among Follows → (a b : A) → IsStep Among Follows a b
    → Among b a → Follows a a
nothing_new Among Follows o stays a b step back = stays a a b a (o.same a) back step.has
