-- A walk along the chain of a place's later users.
use Rattle.std.proofs.Common.{ℕ, ◌≡◌, ◌<◌, ◌≤◌, ◌+◌, List, length, get_or, arith, sym, subst, Bool, Option, Some, None, inl, inr}
use Rattle.std.specs.Prelude.{◌⊎◌}
use Rattle.std.proofs.lemmas.Bool.{cases_eq, cases_lt}
use Rattle.std.proofs.lemmas.List.{get_or_read}
use Rattle.hall_match.specs.Holding.{given_at}
use Rattle.hall_match.specs.Rows.{row_at}
use Rattle.hall_match.specs.Chains.{IsLastUser, AreChains}
use Rattle.hall_match.specs.Search.{Instance, IsSeen, IsRowSeen, IsShutFrom}
use Rattle.hall_match.proofs.HoldingLemmas.{given_inside}

-- how far the walk has still to go at most
abbrev pub steps_left : Option ℕ → ℕ
steps_left None = 0
steps_left (Some item) = item + 1

-- the users from a number on are done, and the next one is the last before it
abbrev pub WalkedTo : Instance → List Bool → ℕ → Option ℕ → Type 0
WalkedTo s seen place next = (high : ℕ) × IsLastUser s.given place (s.item + 1) high next ×
    IsShutFrom s seen place high

pub walk_starts : (s : Instance) (seen : List Bool) (place : ℕ) (next : Option ℕ)
    → IsLastUser s.given place (s.item + 1) (length s.given) next → WalkedTo s seen place next
walk_starts s seen place next h = (
  length s.given,
  h,
  λ user l e. absurd
      (let r = given_inside s.given user place e in omega (arith, r, l)),
)

pub walk_steps : (s : Instance) (old new : List Bool) (place item : ℕ) (user next : Option ℕ)
    → ((p : ℕ) → IsSeen old p → IsSeen new p) → user ≡ Some item → WalkedTo s old place user
    → IsRowSeen new (row_at s.rows item)
    → IsLastUser s.given place (s.item + 1) item next → WalkedTo s new place next
walk_steps s old new place item user next up is walked row last =
    (item, last, λ user l e. either user l e (cases_eq user item) (cases_lt user w.0))
  where
    w : WalkedTo s old place (Some item)
    w = subst (λ (o : Option ℕ). WalkedTo s old place o) is walked

    either : (user : ℕ) → item ≤ user → given_at s.given user ≡ Some place
        → (user ≡ item) ⊎ (user ≡ item → ⊥) → (user < w.0) ⊎ (w.0 ≤ user)
        → IsRowSeen new (row_at s.rows user)
    either user l e (inl same) o = rw same row
    either user l e (inr n) (inl below) = absurd (w.1.3 user (omega (arith, n, l)) below e)
    either user l e (inr n) (inr above) = λ p c. up p (w.2 user above e p c)

pub walk_ends : (s : Instance) (seen : List Bool) (place : ℕ) (next : Option ℕ) → next ≡ None
    → WalkedTo s seen place next → IsShutFrom s seen place (s.item + 1)
walk_ends s seen place next is walked user l e = either (cases_lt user w.0)
  where
    w : WalkedTo s seen place None
    w = subst (λ (o : Option ℕ). WalkedTo s seen place o) is walked

    either : (user < w.0) ⊎ (w.0 ≤ user) → IsRowSeen seen (row_at s.rows user)
    either (inl below) = absurd (w.1 user l below e)
    either (inr above) = w.2 user above e

-- the chain goes down
pub walk_falls : (s : Instance) (place item : ℕ) (user next : Option ℕ) → user ≡ Some item
    → IsLastUser s.given place (s.item + 1) item next → steps_left next < steps_left user
walk_falls s place item user next is last = subst (λ (o : Option ℕ). steps_left next < steps_left o)
    (sym is) (falls next last)
  where
    falls : (next : Option ℕ) → IsLastUser s.given place (s.item + 1) item next
        → steps_left next < item + 1
    falls None last = omega arith
    falls (Some other) last = let l = last.1 in omega (arith, l)

-- the user that the walk has come to
pub walk_at : (s : Instance) (seen : List Bool) (place item : ℕ) (user : Option ℕ) → user ≡ Some item
    → WalkedTo s seen place user → (s.item < item) × (given_at s.given item ≡ Some place)
walk_at s seen place item user is walked = let l = w.1.0 in (omega (arith, l), w.1.2)
  where
    w : WalkedTo s seen place (Some item)
    w = subst (λ (o : Option ℕ). WalkedTo s seen place o) is walked

-- the link of the user that the walk has come to
pub walk_on : (s : Instance) (seen : List Bool) (place item : ℕ) (user read : Option ℕ)
    (ends links : List (Option ℕ)) → AreChains s.given (s.item + 1) (length s.given) ends links
    → length links ≡ length s.given → user ≡ Some item
    → WalkedTo s seen place user → read ≡ get_or links item read → IsLastUser s.given place
    (s.item + 1) item read
walk_on s seen place item user read ends links chains long is walked reads =
    let at = walk_at s seen place item user is walked in
    let later = at.0 in
    let inside = given_inside s.given item place at.1 in
    let same = get_or_read links item read (omega (arith, inside, long)) reads None in
    subst (λ (o : Option ℕ). IsLastUser s.given place (s.item + 1) item o) (sym same)
    (chains.before item place (omega (arith, later)) inside at.1)
