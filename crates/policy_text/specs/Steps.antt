-- What one line does behind what was read so far, as the private functions say it.
use Rattle.std.specs.Prelude.{ℕ, ◌≡◌, List, [], ◌∷◌, ◌++◌, ◌+◌, ◌≤◌, ◌⊎◌, map, length, codes}
use Rattle.role_order.specs.declared.order.OrderError.TheVariants as refusals
use Rattle.role_order.specs.Refusals.{IsOrder, IsRefused}
use Rattle.role_order.specs.Graph.{Graph}
use Rattle.list_words.specs.Lists.{Each}
use Rattle.role_order.specs.Names.{texts}
use Rattle.arbac_policy.specs.Truth.{term_of}
use Rattle.cond_text.specs.declared.cond_error.CondError.TheVariants as conditions
use Rattle.cond_text.specs.Reading.{IsRefused as IsRefusedCond}
use Rattle.policy_text.specs.declared.listing.Listing.{Listing}
use Rattle.policy_text.specs.declared.body.Body.{Body}
use Rattle.policy_text.specs.declared.run_error.RunError.{RunError}
use Rattle.policy_text.specs.declared.run_error.RunError.TheVariants.{BadLine, UnknownRole, Order, Cond, TooMany, Unended, Memory}
use Rattle.text_lines.specs.Lines.{split}
use Rattle.policy_text.specs.LineForms.{LineForm, IsWellFormed, spell}
use Rattle.arbac_policy.specs.PlainRules.{plain_rule}
use Rattle.policy_text.specs.Runs.{RunValue, nothing, MayStand, HasRoom, Adds, AddAll}
use Rattle.policy_text.specs.Faults.{HasUnknown, HasCondFault, IsLineFault, IsPastOrder}

-- what the lines of the role order say
abbrev pub listing_view : Listing → RunValue
listing_view listing = record nothing { names = texts listing.names.items; edges = listing.edges.items }

-- what the lines behind them say, without the role order
abbrev pub body_view : Body → RunValue
body_view body = record {
  names = [];
  edges = [];
  assign = map plain_rule body.assign.items;
  revoke = body.revoke.items;
  start = body.start.items;
  acts = body.acts.items;
  goal = map term_of body.goal.items;
}

-- what all lines so far say
abbrev pub run_view : Graph → Body → RunValue
run_view order body = record (body_view body) { names = order.names; edges = order.edges }

-- what the lines of the role order say, when it is known
abbrev pub order_view : Graph → RunValue
order_view order = record nothing { names = order.names; edges = order.edges }

-- behind the run the form is at fault so
abbrev pub IsFormFault : RunValue → LineForm → ℕ → RunError → Type 0
IsFormFault run form number (BadLine at) = (at ≡ number) × (¬ MayStand run form)
IsFormFault run form number (TooMany at) = (at ≡ number) × MayStand run form × (¬ HasRoom run form)
IsFormFault run form number (UnknownRole at) = (at ≡ number) × MayStand run form × HasRoom run form × HasUnknown run.names form
IsFormFault run form number (Cond at error) =
    (at ≡ number) × MayStand run form × HasRoom run form × (¬ HasUnknown run.names form) × HasCondFault run.names form error
IsFormFault run form number (Order error) = ⊥
IsFormFault run form number Unended = ⊥
IsFormFault run form number Memory = Unit {0}

-- the text of a condition is at fault so
abbrev pub IsTextFault : List (List ℕ) → List ℕ → ℕ → RunError → Type 0
IsTextFault names text number (Cond at error) = (at ≡ number) × IsRefusedCond names text error × (¬ (error ≡ conditions.Memory))
IsTextFault names text number Memory = Unit {0}
IsTextFault names text number (BadLine at) = ⊥
IsTextFault names text number (TooMany at) = ⊥
IsTextFault names text number (UnknownRole at) = ⊥
IsTextFault names text number (Order error) = ⊥
IsTextFault names text number Unended = ⊥

-- the role order is refused so
abbrev pub IsOrderTold : List (List ℕ) → List (ℕ × ℕ) → RunError → Type 0
IsOrderTold names edges (Order error) = IsRefused names edges error × (¬ (error ≡ refusals.Memory))
IsOrderTold names edges Memory = Unit {0}
IsOrderTold names edges (BadLine at) = ⊥
IsOrderTold names edges (TooMany at) = ⊥
IsOrderTold names edges (UnknownRole at) = ⊥
IsOrderTold names edges (Cond at error) = ⊥
IsOrderTold names edges Unended = ⊥

-- the line has a form, which makes the run the next
pub record AddsLine (run : RunValue) (line : List ℕ) (next : RunValue) : Type 0 where
  pub form : LineForm
  pub formed : IsWellFormed form
  pub spelled : spell form ≡ line
  pub adds : Adds run form next

-- right lines lead from the run at the text, whose first line has the number, to the next run at the rest
pub record Passes (run : RunValue) (text : List ℕ) (number : ℕ) (next : RunValue) (rest : List ℕ) (after : ℕ) : Type 0 where
  pub lines : List LineForm
  pub formed : Each IsWellFormed lines
  pub text_is : split text ≡ (map spell lines ++ (split rest).0, (split rest).1)
  pub added : AddAll run lines next
  pub number_is : after ≡ number + length lines

-- right lines lead from the run at the text to a line that is at fault so
pub record StopsAt (run : RunValue) (text : List ℕ) (number : ℕ) (fault : RunError) : Type 0 where
  pub last : RunValue
  pub rest : List ℕ
  pub at : ℕ
  pub line : List ℕ
  pub later : List ℕ
  pub passed : Passes run text number last rest at
  pub next : split rest ≡ (line ∷ (split later).0, (split later).1)
  pub past : IsPastOrder last line
  pub fault_is : IsLineFault last line at fault

-- right lines lead from the run at the text to the line `end`, the last one, behind a goal
pub record EndsWith (run : RunValue) (text : List ℕ) (number : ℕ) (last : RunValue) : Type 0 where
  pub rest : List ℕ
  pub at : ℕ
  pub passed : Passes run text number last rest at
  pub end : split rest ≡ (codes "end" ∷ [], [])
  pub order : IsOrder last.names last.edges
  pub goal : 1 ≤ length last.goal

-- right lines lead to a line `end` behind a goal, and then the text goes on at the next line
pub record GoesOn (run : RunValue) (text : List ℕ) (number : ℕ) (next : ℕ) : Type 0 where
  pub last : RunValue
  pub rest : List ℕ
  pub at : ℕ
  pub later : List ℕ
  pub passed : Passes run text number last rest at
  pub end : split rest ≡ (codes "end" ∷ (split later).0, (split later).1)
  pub order : IsOrder last.names last.edges
  pub goal : ¬ (length last.goal ≡ 0)
  pub more : ¬ (((split later).0 ≡ []) × ((split later).1 ≡ []))
  pub next_is : next ≡ at + 1

-- no whole line is at fault, and the last one is still missing
pub record HasNoEnd (run : RunValue) (text : List ℕ) (number : ℕ) : Type 0 where
  pub last : RunValue
  pub rest : List ℕ
  pub at : ℕ
  pub passed : Passes run text number last rest at
  pub order : IsOrder last.names last.edges
  pub none : (split rest).0 ≡ []

-- behind the role order the text is at fault so
abbrev pub IsBodyFault : RunValue → List ℕ → ℕ → RunError → Type 0
IsBodyFault run text number (BadLine at) = StopsAt run text number (BadLine at) ⊎ GoesOn run text number at
IsBodyFault run text number (TooMany at) = StopsAt run text number (TooMany at)
IsBodyFault run text number (UnknownRole at) = StopsAt run text number (UnknownRole at)
IsBodyFault run text number (Cond at error) = StopsAt run text number (Cond at error)
IsBodyFault run text number (Order error) = ⊥
IsBodyFault run text number Unended = HasNoEnd run text number
IsBodyFault run text number Memory = Unit {0}

-- unless memory ran out
abbrev pub Told : RunError → Type 0 → Type 0
Told Memory P = Unit {0}
Told (BadLine at) P = P
Told (TooMany at) P = P
Told (UnknownRole at) P = P
Told (Cond at error) P = P
Told (Order error) P = P
Told Unended P = P
