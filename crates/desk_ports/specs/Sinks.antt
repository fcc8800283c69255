-- What a sink takes.
use Rattle.std.specs.Prelude.{ℕ, ◌≡◌, ◌<◌, List, length, take, Option}
use Rattle.std.specs.Io.KnownBytes.{append_known, Appends}
use Rattle.desk_ports.specs.Faults.{Plan}

-- what a caller sees of a sink: the bytes that it took, where the sink tells them; and how often it failed, which as a `u64` stays
-- at its last value
pub record SinkView : Type 0 where
  pub taken : Option (List ℕ)
  pub faults : ℕ

-- it took these bytes besides, and tells what it took just where it did before
abbrev pub Took : Option (List ℕ) → Option (List ℕ) → List ℕ → Type 0
Took old new bytes = new ≡ append_known old bytes

-- it took a prefix of these bytes besides
abbrev pub TookFront : Option (List ℕ) → Option (List ℕ) → List ℕ → Type 0
TookFront old new bytes = (count : ℕ) × Took old new (take count bytes)

-- what a writer holds grew by a prefix of these bytes, but not by all, where that is known
abbrev pub AppendsFront : Option (List ℕ) → Option (List ℕ) → List ℕ → Type 0
AppendsFront old new bytes = (count : ℕ) × (count < length bytes) × Appends old new (take count bytes)

-- a sink in memory: the bytes that it took, and which calls fail
pub record SinkState : Type 0 where
  pub taken : List ℕ
  pub plan : Plan

-- a sink over a writer: the bytes that the writer holds, where it tells them, and how often it failed
pub record OutState : Type 0 where
  pub written : Option (List ℕ)
  pub faults : ℕ
