-- The fields of a record, by their places.
use Rattle.std.proofs.Common.{ℕ, ◌≡◌, List, [], ◌∷◌, length, Option, Some, None, arith}
use Rattle.std.specs.Prelude.{IfNone}
use Rattle.csv.specs.Records.{field_at}
use Rattle.profile_set.specs.Members.{Fields}

pub none_told : {A : Type 0} (o : Option A) (P : Type 0) → P → IfNone o P
none_told None P p = p
none_told (Some x) P p = tt

pub three_are : (fields : Fields) (kind name role : List ℕ) → length fields ≡ 3
    → Some kind ≡ field_at fields 0 → Some name ≡ field_at fields 1 → Some role ≡ field_at fields 2 → fields ≡ kind ∷ name ∷ role ∷ []
unfolding field_at
three_are [] kind name role three k n r = absurd (omega arith)
three_are (a ∷ []) kind name role three k n r = absurd (omega arith)
three_are (a ∷ b ∷ []) kind name role three k n r = absurd (omega arith)
three_are (a ∷ b ∷ c ∷ []) kind name role three k n r = cc
three_are (a ∷ b ∷ c ∷ d ∷ more) kind name role three k n r = absurd (omega arith)
