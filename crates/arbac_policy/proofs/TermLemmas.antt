-- The term of each variant.
use Rattle.std.proofs.Common.{ℕ, ◌≡◌, ◌∙◌, ap, sym}
use Rattle.arbac_policy.specs.declared.cond.Cond.{Cond, fold-roll-Cond}
use Rattle.arbac_policy.specs.declared.cond.Cond.TheVariants.{Any, Has, Lacks, And, Or, rolls-Any, rolls-Has, rolls-Lacks, rolls-And, rolls-Or}
use Rattle.arbac_policy.specs.Truth.{Term, any, has, lacks, both, either, term_of, term_level}

pub term_any : term_of Any ≡ any
term_any = ap term_of (sym rolls-Any) ∙ fold-roll-Cond Term term_level _

pub term_has : (role : ℕ) → term_of (Has role) ≡ has role
term_has role = ap term_of (sym (rolls-Has role)) ∙ fold-roll-Cond Term term_level _

pub term_lacks : (role : ℕ) → term_of (Lacks role) ≡ lacks role
term_lacks role = ap term_of (sym (rolls-Lacks role)) ∙ fold-roll-Cond Term term_level _

pub term_and : (l r : Cond) → term_of (And l r) ≡ both (term_of l) (term_of r)
term_and l r = ap term_of (sym (rolls-And l r)) ∙ fold-roll-Cond Term term_level _

pub term_or : (l r : Cond) → term_of (Or l r) ≡ either (term_of l) (term_of r)
term_or l r = ap term_of (sym (rolls-Or l r)) ∙ fold-roll-Cond Term term_level _
