-- What reading a document may come to: a value, or its first fault.
use Rattle.std.specs.Prelude.{ℕ, ◌≡◌, ◌+◌, ◌⊎◌, Bool, true, false, List, [], ◌∷◌, Result, Ok, Err}
use Rattle.role_order.specs.declared.order.OrderError.{OrderError}
use Rattle.cond_text.specs.declared.cond_error.CondError.{CondError}

-- a fault, with the key that it is told of
pub data Fault : Type 0 where
  not_toml : Fault
  missing : List ℕ → Fault
  wrong_kind : List ℕ → Fault
  unknown_role : List ℕ → Fault
  no_order : OrderError → Fault
  no_cond : List ℕ → CondError → Fault
  mixed_role : List ℕ → Fault
  too_many : List ℕ → ℕ → Fault
  too_wide : List ℕ → ℕ → Fault
  unknown_key : List ℕ → Fault

-- which values, and which faults, reading may come to
abbrev pub Outcome : Type 0 → Type 1
Outcome A = Result A Fault → Type 0

-- this value
abbrev pub gives : {A : Type 0} → A → Outcome A
gives value result = result ≡ Ok value

-- this fault
abbrev pub fails : {A : Type 0} → Fault → Outcome A
fails fault result = result ≡ Err fault

-- this fault where the test holds
abbrev pub fails_if : Bool → Fault → Outcome (Unit {0})
fails_if false fault = gives tt
fails_if true fault = fails fault

-- the values that are seen as these, and the same faults
abbrev pub seen_as : {A B : Type 0} → (A → B) → Outcome B → Outcome A
seen_as view outcome (Ok value) = outcome (Ok (view value))
seen_as view outcome (Err fault) = outcome (Err fault)

infixl 10 ◌>>=◌
-- the first one's fault, or what the second comes to with the first one's value
abbrev pub ◌>>=◌ : {A B : Type 0} → Outcome A → (A → Outcome B) → Outcome B
(first >>= second) result = ((fault : Fault) × first (Err fault) × (result ≡ Err fault)) ⊎ ((value : _) × first (Ok value) × second value result)

-- one item after another, each with its place from this one on: all their values, or the first fault
abbrev pub in_turn : {A B : Type 0} → (ℕ → A → Outcome B) → ℕ → List A → Outcome (List B)
in_turn read place [] = gives []
in_turn read place (x ∷ xs) = do
  value ← read place x
  values ← in_turn read (place + 1) xs
  gives (value ∷ values)
