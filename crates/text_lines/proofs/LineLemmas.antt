-- The first piece of a text before a byte, and all lines.
use Rattle.std.proofs.Common.{ℕ, ◌≡◌, Bool, true, false, List, [], ◌∷◌, length, refl, arith, Option, Some, None, eqb, cond}
use Rattle.cond_text.specs.Cuts.{cut, with_front}
use Rattle.text_lines.specs.Lines.{split, in_front, after_feed}
use Rattle.cond_text.proofs.CutLemmas.{same_pair}

-- bytes without a line feed have no whole line
pub split_none : (bytes : List ℕ) → cut 10 bytes ≡ None → split bytes ≡ ([], bytes)
unfolding cut split
split_none [] e = refl
split_none (b ∷ bs) e = by_byte (eqb b 10) e (split_none bs)
  where
    by_byte : (t : Bool) → cond t (Some ([], bs)) (with_front b (cut 10 bs)) ≡ None → (cut 10 bs ≡ None → split bs ≡ ([], bs))
        → cond t (after_feed (split bs)) (in_front b (split bs)) ≡ ([], b ∷ bs)
    by_byte true e rest = cc
    by_byte false e rest = by_rest (cut 10 bs) refl e rest
      where
        by_rest : (o : Option (List ℕ × List ℕ)) → cut 10 bs ≡ o → with_front b o ≡ None → (cut 10 bs ≡ None → split bs ≡ ([], bs))
            → in_front b (split bs) ≡ ([], b ∷ bs)
        by_rest (Some found) f e rest = cc
        by_rest None f e rest = rw (rest f) refl

-- what is cut at the first line feed is the first line, and the other lines are those of the rest
pub split_first : (bytes line rest : List ℕ) → cut 10 bytes ≡ Some (line, rest) → split bytes ≡ (line ∷ (split rest).0, (split rest).1)
unfolding cut split
split_first [] line rest e = cc
split_first (b ∷ bs) line rest e = by_byte (eqb b 10) e (split_first bs)
  where
    by_byte : (t : Bool) → cond t (Some ([], bs)) (with_front b (cut 10 bs)) ≡ Some (line, rest)
        → ((l r : List ℕ) → cut 10 bs ≡ Some (l, r) → split bs ≡ (l ∷ (split r).0, (split r).1))
        → cond t (after_feed (split bs)) (in_front b (split bs)) ≡ (line ∷ (split rest).0, (split rest).1)
    by_byte true e later = let same = same_pair ([], bs) (line, rest) e in rw (← same.0, ← same.1)
    by_byte false e later = by_rest (cut 10 bs) refl e later
      where
        by_rest : (o : Option (List ℕ × List ℕ)) → cut 10 bs ≡ o → with_front b o ≡ Some (line, rest)
            → ((l r : List ℕ) → cut 10 bs ≡ Some (l, r) → split bs ≡ (l ∷ (split r).0, (split r).1))
            → in_front b (split bs) ≡ (line ∷ (split rest).0, (split rest).1)
        by_rest None f e later = cc
        by_rest (Some (l, r)) f e later =
            let same = same_pair (b ∷ l, r) (line, rest) e in
            rw (later l r f, ← same.0, ← same.1)

-- nothing is split from no bytes alone
pub nothing_left : (bytes : List ℕ) → (split bytes).0 ≡ [] → (split bytes).1 ≡ [] → length bytes ≡ 0
unfolding split
nothing_left [] e f = refl
nothing_left (b ∷ bs) e f = by_byte (eqb b 10) (split bs) e f
  where
    by_byte : (t : Bool) (s : List (List ℕ) × List ℕ) → (cond t (after_feed s) (in_front b s)).0 ≡ []
        → (cond t (after_feed s) (in_front b s)).1 ≡ [] → length (b ∷ bs) ≡ 0
    by_byte true s e f = absurd (cc)
    by_byte false ([], part) e f = absurd (cc)
    by_byte false (l ∷ ls, part) e f = absurd (cc)

-- no bytes have no line
pub split_empty : (bytes : List ℕ) → length bytes ≡ 0 → split bytes ≡ ([], [])
unfolding split
split_empty [] e = refl
split_empty (b ∷ bs) e = absurd (omega arith)
