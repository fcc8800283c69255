-- What holds of a granted set, and of a part that is told.
use Rattle.std.proofs.Common.{ℕ, List}
use Rattle.arbac_policy.specs.declared.verdict.Part.{Part}
use Rattle.ura_core.specs.declared.decision.Verdict.{Verdict}
use Rattle.ura_core.specs.declared.decision.Verdict.TheVariants.{Granted, Denied}
use Rattle.ura_core.specs.Answers.{IfGranted, IfDenied}

pub granted_weaker : (P Q : List ℕ → Type 0) (verdict : Verdict) → ((set : List ℕ) → P set → Q set) → IfGranted verdict P → IfGranted verdict Q
granted_weaker P Q (Granted set) f h = f set h
granted_weaker P Q (Denied part) f h = tt

pub denied_weaker : (P Q : Part → Type 0) (verdict : Verdict) → ((part : Part) → P part → Q part) → IfDenied verdict P → IfDenied verdict Q
denied_weaker P Q (Granted set) f h = tt
denied_weaker P Q (Denied part) f h = f part h

pub granted_always : (P : Type 0) (verdict : Verdict) → P → IfGranted verdict (λ _. P)
granted_always P (Granted set) p = p
granted_always P (Denied part) p = tt
