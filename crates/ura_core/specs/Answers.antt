-- What a verdict says.
use Rattle.std.specs.Prelude.{ℕ, List}
use Rattle.arbac_policy.specs.declared.verdict.Part.{Part}
use Rattle.ura_core.specs.declared.decision.Verdict.{Verdict}
use Rattle.ura_core.specs.declared.decision.Verdict.TheVariants.{Granted, Denied}

-- P holds of the target's new set, where the act is granted
abbrev pub IfGranted : Verdict → (List ℕ → Type 0) → Type 0
IfGranted (Granted set) P = P set
IfGranted (Denied part) P = Unit {0}

-- P holds of the part that fails, where the act is denied
abbrev pub IfDenied : Verdict → (Part → Type 0) → Type 0
IfDenied (Granted set) P = Unit {0}
IfDenied (Denied part) P = P part
