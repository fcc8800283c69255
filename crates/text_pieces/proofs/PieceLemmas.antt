-- Texts that grow piece by piece: a loop keeps "what is written, and the pieces to come, are the whole".
use Rattle.std.proofs.Common.{ℕ, ◌≡◌, ◌+◌, ◌≤◌, ◌∙◌, List, [], ◌∷◌, ◌++◌, append_assoc, append-nil, length, drop, refl}
use Rattle.std.proofs.Common.{arith, sym, ap, zero, suc, Some}
use Rattle.std.specs.Prelude.{slice_get}
use Rattle.std.specs.List.{flat_map}
use Rattle.text_pieces.specs.Pieces.{pieces_from}

-- a piece moves from what is to come to what is written
pub moved : {A : Type 0} (text piece new rest whole : List A)
    → text ++ (piece ++ rest) ≡ whole → new ≡ text ++ piece → new ++ rest ≡ whole
moved text piece new rest whole h e = ap (λ t. t ++ rest) e ∙ append_assoc text piece rest ∙ h

-- where nothing is to come, what is written is the whole
pub finished : {A : Type 0} (text rest whole : List A) → rest ≡ [] → text ++ rest ≡ whole → text ≡ whole
finished text rest whole none h = sym (append-nil text) ∙ ap (λ r. text ++ r) (sym none) ∙ h

-- what is left from a place on begins with the item at that place
pub drop_at : {A : Type 0} (xs : List A) (i : ℕ) (x : A) → slice_get xs i ≡ Some x → drop i xs ≡ x ∷ drop (i + 1) xs
drop_at [] i x e = cc
drop_at (y ∷ ys) zero x e = let same : y ≡ x = cc in ap (λ t. t ∷ ys) same
drop_at (y ∷ ys) (suc i) x e = let n : suc i + 1 ≡ suc (i + 1) = omega arith in rw n (drop_at ys i x e)

-- behind the last place nothing is left
pub drop_all : {A : Type 0} (xs : List A) (i : ℕ) → length xs ≤ i → drop i xs ≡ []
drop_all [] zero l = refl
drop_all [] (suc i) l = refl
drop_all (x ∷ xs) zero l = absurd (omega arith)
drop_all (x ∷ xs) (suc i) l = drop_all xs i (omega arith)

-- a loop that puts a piece for each item, where a piece depends on its place: one turn
pub pieces_step : {A : Type 0} (piece : ℕ → A → List ℕ) (xs : List A) (i : ℕ) (x : A) (text new whole : List ℕ) → slice_get xs i ≡ Some x
    → text ++ pieces_from piece i (drop i xs) ≡ whole → new ≡ text ++ piece i x
    → new ++ pieces_from piece (i + 1) (drop (i + 1) xs) ≡ whole
pieces_step piece xs i x text new whole at h e =
    moved text (piece i x) new (pieces_from piece (i + 1) (drop (i + 1) xs)) whole
    (ap (λ ys. text ++ pieces_from piece i ys) (sym (drop_at xs i x at)) ∙ h) e

-- and its end
pub pieces_end : {A : Type 0} (piece : ℕ → A → List ℕ) (xs : List A) (i : ℕ) (text whole : List ℕ) → length xs ≤ i
    → text ++ pieces_from piece i (drop i xs) ≡ whole → text ≡ whole
pieces_end piece xs i text whole end h =
    finished text (pieces_from piece i (drop i xs)) whole (ap (pieces_from piece i) (drop_all xs i end)) h

-- the same, where a piece depends on its item alone: one turn
pub flat_step : {A : Type 0} (piece : A → List ℕ) (xs : List A) (i : ℕ) (x : A) (text new whole : List ℕ) → slice_get xs i ≡ Some x
    → text ++ flat_map piece (drop i xs) ≡ whole → new ≡ text ++ piece x → new ++ flat_map piece (drop (i + 1) xs) ≡ whole
flat_step piece xs i x text new whole at h e =
    moved text (piece x) new (flat_map piece (drop (i + 1) xs)) whole (ap (λ ys. text ++ flat_map piece ys) (sym (drop_at xs i x at)) ∙ h) e

-- and its end
pub flat_end : {A : Type 0} (piece : A → List ℕ) (xs : List A) (i : ℕ) (text whole : List ℕ) → length xs ≤ i
    → text ++ flat_map piece (drop i xs) ≡ whole → text ≡ whole
flat_end piece xs i text whole end h = finished text (flat_map piece (drop i xs)) whole (ap (flat_map piece) (drop_all xs i end)) h
