-- The first item of which something holds.
use Rattle.std.proofs.Common.{ℕ, ◌≡◌, ◌≤◌, ◌+◌, List, length, arith, Some, None, Option, is_some, refl}
use Rattle.std.specs.Prelude.{◌↔◌, IsTrue, IfSome, IfNone, slice_get}
use Rattle.std.proofs.lemmas.Bool.{false≢true}
use Rattle.list_words.specs.Lists.{Some_of, IsFirst}
use Rattle.ura_core.specs.Searched.{HasNoneBefore}
use Rattle.list_words.proofs.EachLemmas.{some_at, some_none}
use Rattle.list_words.proofs.GetLemmas.{below_more, get_below}

pub none_more : {A : Type 0} (P : A → Type 0) (xs : List A) (i : ℕ) (x : A) → HasNoneBefore P xs i → slice_get xs i ≡ Some x → (P x → ⊥)
    → HasNoneBefore P xs (i + 1)
none_more P xs i x before e none = below_more (λ y. P y → ⊥) xs i x before e none

pub none_at_all : {A : Type 0} (P : A → Type 0) (xs : List A) (n : ℕ) → HasNoneBefore P xs n → length xs ≤ n → Some_of P xs → ⊥
none_at_all P xs n before all = some_none P xs (λ k x e h. let l = get_below xs k x e in before k x (omega (arith, l, all)) e h)

-- there is a first one exactly where there is some
pub some_told : {A : Type 0} (P : A → Type 0) (xs : List A) (told : Option ℕ) → IfSome told (IsFirst P xs) → IfNone told (Some_of P xs → ⊥)
    → IsTrue (is_some told) ↔ Some_of P xs
some_told P xs None found none = (λ no. absurd (false≢true no), λ h. absurd (none h))
some_told P xs (Some place) found none = (λ yes. some_at P xs place found.item found.at found.holds, λ h. refl)
