-- What is read and written piece by piece.
use Rattle.std.proofs.Common.{ℕ, ◌≡◌, ◌≤◌, ◌+◌, ◌-◌, ◌++◌, List, length, take, drop, arith, ap, ◌∙◌, subst}
use Rattle.std.specs.Prelude.{Option, None, Some}
use Rattle.std.specs.Io.KnownBytes.{Appends, Consumes}
use Rattle.std.proofs.Math.Seq.{take-add}
use Rattle.std.proofs.lemmas.List.{drop-drop, append_assoc, length-drop, take_all}

-- these bytes were read, and no more than are wanted
pub record IsReadTo (old new : Option (List ℕ)) (wanted : ℕ) (bytes : List ℕ) : Type 0 where
  pub within : length bytes ≤ wanted
  pub read : Consumes old new bytes

-- the writer took these bytes but for the rest
pub record IsWrittenTo (old new : Option (List ℕ)) (bytes rest : List ℕ) : Type 0 where
  pub count : ℕ
  pub within : count ≤ length bytes
  pub left : rest ≡ drop count bytes
  pub took : Appends old new (take count bytes)

-- two appends are one
pub appends-twice : (old mid new : Option (List ℕ)) (xs ys : List ℕ)
    → Appends old mid xs → Appends mid new ys → Appends old new (xs ++ ys)
appends-twice None mid new xs ys first then = tt
appends-twice (Some a) None new xs ys first then = absurd first
appends-twice (Some a) (Some b) None xs ys first then = absurd then
appends-twice (Some a) (Some b) (Some c) xs ys first then = then ∙ ap (λ t. t ++ ys) first ∙ append_assoc a xs ys

-- a write takes the first bytes of the rest
pub written-step : (old mid new : Option (List ℕ)) (bytes rest : List ℕ) (n : ℕ)
    → IsWrittenTo old mid bytes rest → n ≤ length rest → Appends mid new (take n rest)
    → IsWrittenTo old new bytes (take (length rest - n) (drop n rest))
written-step old mid new bytes rest n before fits then = record {
  count = before.count + n;
  within = omega (arith, before.within, ap length before.left, length-drop before.count bytes);
  left = take_all _ _ (omega (arith, length-drop n rest)) ∙ ap (λ r. drop n r) before.left ∙ drop-drop n before.count bytes;
  took = let P : List ℕ → Type 0 = λ r. Appends mid new (take n r) in
      rw take-add (appends-twice old mid new _ _ before.took (subst P before.left then));
}
