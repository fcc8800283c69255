-- The pieces of a text between bytes of one kind.
use Rattle.std.proofs.Common.{ℕ, ◌≡◌, Bool, true, false, List, [], ◌∷◌, ◌++◌, append-nil, refl, sym, ◌∙◌, ap, Option, Some, None, eqb, cond}
use Rattle.std.proofs.lemmas.Bool.{eqb-true}
use Rattle.list_words.specs.Lists.{Each}
use Rattle.cond_text.specs.Cuts.{cut, with_front}
use Rattle.cert_text.specs.Spelling.{in_first, pieces}
use Rattle.cond_text.proofs.CutLemmas.{same_pair, Lacks, lacks_append, cut_behind, cut_nowhere}

-- what stands before the first such byte is the first piece
pub pieces_cut : (sign : ℕ) (bytes piece rest : List ℕ) → cut sign bytes ≡ Some (piece, rest) → pieces sign bytes ≡ piece ∷ pieces sign rest
unfolding cut pieces
pieces_cut sign [] piece rest e = cc
pieces_cut sign (b ∷ bs) piece rest e = by_byte (eqb b sign) e (pieces_cut sign bs)
  where
    by_byte : (t : Bool) → cond t (Some ([], bs)) (with_front b (cut sign bs)) ≡ Some (piece, rest)
        → ((p r : List ℕ) → cut sign bs ≡ Some (p, r) → pieces sign bs ≡ p ∷ pieces sign r)
        → cond t ([] ∷ pieces sign bs) (in_first b (pieces sign bs)) ≡ piece ∷ pieces sign rest
    by_byte true e later = let same = same_pair ([], bs) (piece, rest) e in rw (← same.0, ← same.1)
    by_byte false e later = by_rest (cut sign bs) refl e later
      where
        by_rest : (o : Option (List ℕ × List ℕ)) → cut sign bs ≡ o → with_front b o ≡ Some (piece, rest)
            → ((p r : List ℕ) → cut sign bs ≡ Some (p, r) → pieces sign bs ≡ p ∷ pieces sign r)
            → in_first b (pieces sign bs) ≡ piece ∷ pieces sign rest
        by_rest None f e later = cc
        by_rest (Some (l, r)) f e later = let same = same_pair (b ∷ l, r) (piece, rest) e in rw (later l r f, ← same.0, ← same.1)

-- a text without such a byte is one piece
pub pieces_one : (sign : ℕ) (bytes : List ℕ) → cut sign bytes ≡ None → pieces sign bytes ≡ bytes ∷ []
unfolding cut pieces
pieces_one sign [] e = refl
pieces_one sign (b ∷ bs) e = by_byte (eqb b sign) e (pieces_one sign bs)
  where
    by_byte : (t : Bool) → cond t (Some ([], bs)) (with_front b (cut sign bs)) ≡ None → (cut sign bs ≡ None → pieces sign bs ≡ bs ∷ [])
        → cond t ([] ∷ pieces sign bs) (in_first b (pieces sign bs)) ≡ (b ∷ bs) ∷ []
    by_byte true e later = cc
    by_byte false e later = by_rest (cut sign bs) refl e later
      where
        by_rest : (o : Option (List ℕ × List ℕ)) → cut sign bs ≡ o → with_front b o ≡ None → (cut sign bs ≡ None → pieces sign bs ≡ bs ∷ [])
            → in_first b (pieces sign bs) ≡ (b ∷ bs) ∷ []
        by_rest (Some found) f e later = cc
        by_rest None f e later = rw (later f) refl

-- there is a piece
pub pieces_some : (sign : ℕ) (bytes : List ℕ) → (piece : List ℕ) × (more : List (List ℕ)) × (pieces sign bytes ≡ piece ∷ more)
unfolding pieces
pieces_some sign [] = ([], [], refl)
pieces_some sign (b ∷ bs) = by_byte (eqb b sign) (pieces sign bs)
  where
    by_byte : (t : Bool) (ps : List (List ℕ)) → (piece : List ℕ) × (more : List (List ℕ)) × (cond t ([] ∷ ps) (in_first b ps) ≡ piece ∷ more)
    by_byte true ps = ([], ps, refl)
    by_byte false [] = (b ∷ [], [], refl)
    by_byte false (p ∷ ps) = (b ∷ p, ps, refl)

-- the byte before each piece
abbrev pub behind : ℕ → List (List ℕ) → List ℕ
behind sign [] = []
behind sign (piece ∷ more) = sign ∷ (piece ++ behind sign more)

behind_first : (sign b : ℕ) (ps : List (List ℕ)) (bs : List ℕ) → behind sign ps ≡ sign ∷ bs → behind sign (in_first b ps) ≡ sign ∷ (b ∷ bs)
behind_first sign b [] bs e = absurd (cc)
behind_first sign b (p ∷ ps) bs e = let tail : p ++ behind sign ps ≡ bs = cc in ap (λ t. sign ∷ (b ∷ t)) tail

-- the pieces, with the byte before each, are the text with the byte before it
pub pieces_joined : (sign : ℕ) (bytes : List ℕ) → behind sign (pieces sign bytes) ≡ sign ∷ bytes
unfolding pieces
pieces_joined sign [] = refl
pieces_joined sign (b ∷ bs) = by_byte (eqb b sign) refl (pieces_joined sign bs)
  where
    by_byte : (t : Bool) → eqb b sign ≡ t → behind sign (pieces sign bs) ≡ sign ∷ bs
        → behind sign (cond t ([] ∷ pieces sign bs) (in_first b (pieces sign bs))) ≡ sign ∷ (b ∷ bs)
    by_byte true t tail = let at : b ≡ sign = eqb-true b sign t in ap (λ l. sign ∷ l) (tail ∙ ap (λ c. c ∷ bs) (sym at))
    by_byte false t tail = behind_first sign b (pieces sign bs) bs tail

-- pieces without the byte are those of the text that they make
pub pieces_of : (sign : ℕ) (piece : List ℕ) (more : List (List ℕ)) → Lacks sign piece → Each (Lacks sign) more
    → pieces sign (piece ++ behind sign more) ≡ piece ∷ more
pieces_of sign piece [] h k =
    pieces_one sign (piece ++ []) (cut_nowhere sign (piece ++ []) (lacks_append sign piece [] h tt)) ∙ ap (λ p. p ∷ []) (append-nil piece)
pieces_of sign piece (next ∷ more) h k =
    pieces_cut sign (piece ++ (sign ∷ (next ++ behind sign more))) piece (next ++ behind sign more)
    (cut_behind sign piece (next ++ behind sign more) h)
    ∙ ap (λ t. piece ∷ t) (pieces_of sign next more k.0 k.1)
