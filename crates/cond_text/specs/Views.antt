-- What the code's states are seen as, and what a private function gives.
use Rattle.std.specs.Prelude.{◌≡◌, List, [], ◌∷◌, map, reverse, option_map, Option, Some, None, Result, Ok, Err}
use Rattle.arbac_policy.specs.Truth.{term_of}
use Rattle.cond_text.specs.declared.word.Placed.{Placed}
use Rattle.cond_text.specs.declared.cond_error.CondError.{CondError}
use Rattle.cond_text.specs.declared.cond_error.CondError.TheVariants.{Unexpected, UnknownRole, TooDeep, Memory}
use Rattle.cond_text.specs.declared.reader.Frame as f
use Rattle.cond_text.specs.declared.reader.State as s
use Rattle.cond_text.specs.declared.reader.State.TheVariants as v
use Rattle.cond_text.specs.Machine.{Frame, State, wants_operand, wants_name, has_conjunction}

-- what a kept frame is seen as
abbrev pub frame_of : f.Frame → Frame
frame_of x = record { ors = option_map term_of x.ors; ands = option_map term_of x.ands }

-- the code pushes the innermost frame last
abbrev pub stack_of : List f.Frame → List Frame
stack_of xs = reverse (map frame_of xs)

-- what a kept state is seen as
abbrev pub state_of : s.State → State
state_of (v.WantsOperand outer frame) = wants_operand (stack_of outer.items) (frame_of frame)
state_of (v.WantsName outer frame) = wants_name (stack_of outer.items) (frame_of frame)
state_of (v.HasConjunction outer ors conjunction) =
    has_conjunction (stack_of outer.items) (option_map term_of ors) (term_of conjunction)

-- the first word, and those behind it
abbrev pub uncons : List Placed → Option (Placed × List Placed)
uncons [] = None
uncons (x ∷ xs) = Some (x, xs)

-- unless memory ran out, reading gives this fault
abbrev pub Fails : {Y : Type 0} → CondError → Result Y CondError → Type 0
Fails (Unexpected place) read = read ≡ Err (Unexpected place)
Fails (UnknownRole place) read = read ≡ Err (UnknownRole place)
Fails (TooDeep place) read = read ≡ Err (TooDeep place)
Fails Memory read = Unit {0}

-- unless memory ran out, what a function returned, seen by view, is what reading gives
abbrev pub Gives : {X Y : Type 0} → (X → Y) → Result X CondError → Result Y CondError → Type 0
Gives view (Ok x) read = read ≡ Ok (view x)
Gives view (Err error) read = Fails error read
