-- The first fault of a text that is no run text.
use Rattle.std.specs.Prelude.{ℕ, ◌≡◌, ◌+◌, ◌⊎◌, true, false, List, [], ◌∷◌, length, codes, Result, Ok, Err}
use Rattle.role_order.specs.declared.order.OrderError.{OrderError}
use Rattle.role_order.specs.declared.order.OrderError.TheVariants as refusals
use Rattle.list_words.specs.Lists.{Some_of}
use Rattle.role_order.specs.Refusals.{IsOrder, IsRefused as IsRefusedOrder}
use Rattle.cond_text.specs.declared.cond_error.CondError.{CondError}
use Rattle.cond_text.specs.declared.cond_error.CondError.TheVariants as conditions
use Rattle.cond_text.specs.Reading.{IsRefused as IsRefusedCond}
use Rattle.policy_text.specs.declared.run.Run.{Run}
use Rattle.policy_text.specs.declared.run_error.RunError.{RunError}
use Rattle.policy_text.specs.declared.run_error.RunError.TheVariants.{BadLine, UnknownRole, Order, Cond, TooMany, Unended, Memory}
use Rattle.text_lines.specs.Lines.{split}
use Rattle.policy_text.specs.Lines.{is_order_line}
use Rattle.policy_text.specs.LineForms.{LineForm, a_role, an_edge, an_assign, a_revoke, a_user, an_act, a_goal, IsWellFormed, spell}
use Rattle.policy_text.specs.Runs.{RunValue, behind_edges, MayStand, HasRoom, IsReadTo}
use Rattle.cond_text.specs.Named.{IsUnknown, HasUnknownEnd}

-- the line has a name that is that of no role, outside its condition
abbrev pub HasUnknown : List (List ℕ) → LineForm → Type 0
HasUnknown names (a_role name) = ⊥
HasUnknown names (an_edge senior junior) = IsUnknown names senior ⊎ IsUnknown names junior
HasUnknown names (an_assign admin range condition) = IsUnknown names admin ⊎ HasUnknownEnd names range
HasUnknown names (a_revoke admin range) = IsUnknown names admin ⊎ HasUnknownEnd names range
HasUnknown names (a_user words) = Some_of (IsUnknown names) words
HasUnknown names (an_act act) = IsUnknown names act.role
HasUnknown names (a_goal condition) = ⊥

-- the line has a condition, and this is its text's first fault
abbrev pub HasCondFault : List (List ℕ) → LineForm → CondError → Type 0
HasCondFault names (an_assign admin range condition) error = IsRefusedCond names condition error × (¬ (error ≡ conditions.Memory))
HasCondFault names (a_goal condition) error = IsRefusedCond names condition error × (¬ (error ≡ conditions.Memory))
HasCondFault names (a_role name) error = ⊥
HasCondFault names (an_edge senior junior) error = ⊥
HasCondFault names (a_revoke admin range) error = ⊥
HasCondFault names (a_user words) error = ⊥
HasCondFault names (an_act act) error = ⊥

-- the line has a form, and stands in its place
pub record IsPlaced (run : RunValue) (line : List ℕ) (form : LineForm) : Type 0 where
  pub formed : IsWellFormed form
  pub spelled : spell form ≡ line
  pub place : MayStand run form

-- behind what the run says so far the line is at fault: it has no form or is out of place, and is no `end` behind a goal;
-- or its kind is used up; or it has an unknown name; or its condition has a fault
abbrev pub IsLineFault : RunValue → List ℕ → ℕ → RunError → Type 0
IsLineFault run line number (BadLine at) =
    (at ≡ number) × ((form : LineForm) → ¬ IsPlaced run line form) × (line ≡ codes "end" → length run.goal ≡ 0)
IsLineFault run line number (TooMany at) = (at ≡ number) × (form : LineForm) × IsPlaced run line form × (¬ HasRoom run form)
IsLineFault run line number (UnknownRole at) = (at ≡ number) × (form : LineForm) × IsPlaced run line form × HasRoom run form × HasUnknown run.names form
IsLineFault run line number (Cond at error) =
    (at ≡ number) × (form : LineForm) × IsPlaced run line form × HasRoom run form × (¬ HasUnknown run.names form) × HasCondFault run.names form error
IsLineFault run line number (Order error) = ⊥
IsLineFault run line number Unended = ⊥
IsLineFault run line number Memory = Unit {0}

-- no refusal of the role order was told before the line: the line is one of the order's own, behind no other, or the names and edges are an order
abbrev pub IsPastOrder : RunValue → List ℕ → Type 0
IsPastOrder run line = ((behind_edges run ≡ 0) × (is_order_line line ≡ true)) ⊎ IsOrder run.names run.edges

-- the first line that is at fault is behind right lines
pub record IsFaultInside (bytes : List ℕ) (fault : RunError) : Type 0 where
  pub run : RunValue
  pub number : ℕ
  pub line : List ℕ
  pub later : List (List ℕ)
  pub part : List ℕ
  pub read : IsReadTo bytes run number (line ∷ later) part
  pub past : IsPastOrder run line
  pub fault_is : IsLineFault run line number fault

-- the first line isn't `run 1`
pub record IsFaultAhead (bytes : List ℕ) (at : ℕ) : Type 0 where
  pub line : List ℕ
  pub later : List (List ℕ)
  pub part : List ℕ
  pub text : split bytes ≡ (line ∷ later, part)
  pub other : ¬ (line ≡ codes "run 1")
  pub number_is : at ≡ 1

-- bytes stand behind the last line of a whole run text; they are the line after it
pub record IsFaultBehind (bytes : List ℕ) (at : ℕ) : Type 0 where
  pub run : RunValue
  pub number : ℕ
  pub later : List (List ℕ)
  pub part : List ℕ
  pub read : IsReadTo bytes run number (codes "end" ∷ later) part
  pub order : IsOrder run.names run.edges
  pub goal : ¬ (length run.goal ≡ 0)
  pub more : ¬ ((later ≡ []) × (part ≡ []))
  pub number_is : at ≡ number + 1

-- no line is left, or the first that is left is none of the role order's
abbrev pub EndsOrder : List (List ℕ) → Type 0
EndsOrder [] = Unit {0}
EndsOrder (line ∷ later) = is_order_line line ≡ false

-- the names and edges are refused, behind all lines that tell them
pub record IsOrderFault (bytes : List ℕ) (error : OrderError) : Type 0 where
  pub run : RunValue
  pub number : ℕ
  pub left : List (List ℕ)
  pub part : List ℕ
  pub read : IsReadTo bytes run number left part
  pub early : behind_edges run ≡ 0
  pub ends : EndsOrder left
  pub refused : IsRefusedOrder run.names run.edges error
  pub told : ¬ (error ≡ refusals.Memory)

-- no whole line is at fault, and the last one is still missing
pub record IsUnended (bytes : List ℕ) : Type 0 where
  pub run : RunValue
  pub number : ℕ
  pub part : List ℕ
  pub read : IsReadTo bytes run number [] part
  pub order : IsOrder run.names run.edges

-- the text's first fault; a text without a whole line has no roles
abbrev pub IsFirstFault : List ℕ → RunError → Type 0
IsFirstFault bytes (BadLine at) = IsFaultAhead bytes at ⊎ (IsFaultInside bytes (BadLine at) ⊎ IsFaultBehind bytes at)
IsFirstFault bytes (TooMany at) = IsFaultInside bytes (TooMany at)
IsFirstFault bytes (UnknownRole at) = IsFaultInside bytes (UnknownRole at)
IsFirstFault bytes (Cond at error) = IsFaultInside bytes (Cond at error)
IsFirstFault bytes (Order error) = (((split bytes).0 ≡ []) × (error ≡ refusals.NoRoles)) ⊎ IsOrderFault bytes error
IsFirstFault bytes Unended = IsUnended bytes
IsFirstFault bytes Memory = ⊥

-- the error is the text's first fault, or want of memory
abbrev pub IsRefused : List ℕ → RunError → Type 0
IsRefused bytes (BadLine at) = IsFirstFault bytes (BadLine at)
IsRefused bytes (TooMany at) = IsFirstFault bytes (TooMany at)
IsRefused bytes (UnknownRole at) = IsFirstFault bytes (UnknownRole at)
IsRefused bytes (Cond at error) = IsFirstFault bytes (Cond at error)
IsRefused bytes (Order error) = IsFirstFault bytes (Order error)
IsRefused bytes Unended = IsFirstFault bytes Unended
IsRefused bytes Memory = Unit {0}

-- reading tells the fault, unless memory runs out
abbrev pub Tells : Result Run RunError → RunError → Type 0
Tells (Ok run) fault = ⊥
Tells (Err error) fault = (error ≡ fault) ⊎ (error ≡ Memory)
