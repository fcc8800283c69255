-- Counts of faults, and plans of the calls that are to fail.
use Rattle.std.specs.Prelude.{ℕ, ◌≡◌, ◌+◌, ◌-◌, ◌^◌, ◌≤◌, min, List, Contains}

-- a count, raised by one; as a `u64` it stays at its last value
abbrev pub raised : ℕ → ℕ
raised count = min (count + 1) (2 ^ 64 - 1)

-- the count rose, or stands at its last value
abbrev pub Rose : ℕ → ℕ → Type 0
Rose before now = raised before ≤ now

-- a call that failed raised the count of faults by one, and any other call left it
pub record HasCause (before now : ℕ) (failed : Type 0) : Type 0 where
  pub kept : before ≤ now
  pub once : failed → now ≡ raised before
  pub same : ¬ failed → now ≡ before

-- the numbers of the calls of an object that are to fail, how many calls it had, and how many failed
pub record Plan : Type 0 where
  pub fail : List ℕ
  pub calls : ℕ
  pub faults : ℕ

-- the plan of an object that had no call
abbrev pub fresh_plan : List ℕ → Plan
fresh_plan fail = record { fail = fail; calls = 0; faults = 0 }

-- the next call is to fail
abbrev pub IsDue : Plan → Type 0
IsDue plan = Contains plan.fail (raised plan.calls)

-- the call was to fail, and counts as a fault
pub record Fails (old new : Plan) : Type 0 where
  pub due : IsDue old
  pub counted : new ≡ record { fail = old.fail; calls = raised old.calls; faults = raised old.faults }

-- the call was not to fail, and no fault came
pub record Goes (old new : Plan) : Type 0 where
  pub not_due : ¬ IsDue old
  pub counted : new ≡ record { fail = old.fail; calls = raised old.calls; faults = old.faults }
