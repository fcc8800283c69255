-- A text has one first fault at most, and none where it is read.
use Rattle.std.proofs.Common.{◌≡◌, ℕ, ◌∙◌, ap, sym, List, [], ◌∷◌, ◌++◌, inl, inr}
use Rattle.cond_text.specs.declared.word.Word.{Word}
use Rattle.cond_text.specs.declared.word.Placed.{Placed}
use Rattle.cond_text.specs.declared.cond_error.CondError.{CondError}
use Rattle.cond_text.specs.declared.cond_error.CondError.TheVariants.{Unexpected, UnknownRole, TooDeep, Memory}
use Rattle.cond_text.specs.Faults.{IsFaultAt, IsFirstFault}
use Rattle.cond_text.proofs.JudgeLemmas.{clash_at}

one_at : (count : ℕ) (before : List Word) (x : Placed) (rest : List Placed) (f g : CondError)
    → IsFaultAt count before x rest f → IsFaultAt count before x rest g → f ≡ g
one_at count before x rest (Unexpected p) (Unexpected q) h k = ap Unexpected (h.0 ∙ sym k.0)
one_at count before x rest (Unexpected p) (TooDeep q) h k = absurd (h.1 k.1)
one_at count before x rest (Unexpected p) (UnknownRole q) h k = absurd (h.1 k.1)
one_at count before x rest (Unexpected p) Memory h k = absurd k
one_at count before x rest (TooDeep p) (Unexpected q) h k = absurd (k.1 h.1)
one_at count before x rest (TooDeep p) (TooDeep q) h k = ap TooDeep (h.0 ∙ sym k.0)
one_at count before x rest (TooDeep p) (UnknownRole q) h k = absurd (k.2 h.2)
one_at count before x rest (TooDeep p) Memory h k = absurd k
one_at count before x rest (UnknownRole p) (Unexpected q) h k = absurd (k.1 h.1)
one_at count before x rest (UnknownRole p) (TooDeep q) h k = absurd (h.2 k.2)
one_at count before x rest (UnknownRole p) (UnknownRole q) h k = ap UnknownRole (h.0 ∙ sym k.0)
one_at count before x rest (UnknownRole p) Memory h k = absurd k
one_at count before x rest Memory g h k = absurd h

one_of : (count size : ℕ) (before : List Word) (x : Placed) (xs : List Placed) (f g : CondError)
    → IsFirstFault count size before (x ∷ xs) f → IsFirstFault count size before (x ∷ xs) g
    → (IsFirstFault count size (before ++ (x.word ∷ [])) xs f → IsFirstFault count size (before ++ (x.word ∷ [])) xs g → f ≡ g) → f ≡ g
one_of count size before x xs f g (inl a) (inl b) later = one_at count before x xs f g a b
one_of count size before x xs f g (inl a) (inr b) later = absurd (clash_at count before x xs f a b.0)
one_of count size before x xs f g (inr a) (inl b) later = absurd (clash_at count before x xs g b a.0)
one_of count size before x xs f g (inr a) (inr b) later = later a.1 b.1

pub one_fault : (count size : ℕ) (before : List Word) (xs : List Placed) (f g : CondError)
    → IsFirstFault count size before xs f → IsFirstFault count size before xs g → f ≡ g
one_fault count size before [] f g h k = h.0 ∙ sym k.0
one_fault count size before (x ∷ xs) f g h k =
    one_of count size before x xs f g h k (λ i j. one_fault count size (before ++ (x.word ∷ [])) xs f g i j)
