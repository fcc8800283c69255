-- Pieces of a text before a byte and behind it.
use Rattle.std.proofs.Common.{ℕ, ◌≡◌, ◌<◌, ◌+◌, Bool, true, false, List, [], ◌∷◌, ◌++◌, length, get_or, take, drop, refl, arith}
use Rattle.std.proofs.Common.{sym, ap, Option, Some, None, eqb, zero, suc, cond}
use Rattle.std.proofs.lemmas.Bool.{ne_eqb, eq-eqb, eqb-true}
use Rattle.cond_text.specs.Cuts.{◌>>=◌, only_if, cut, with_front}

-- a chain that comes to its end has come past each step
pub step_of : {A B : Type 0} (o : Option A) (f : A → Option B) (y : B) → o >>= f ≡ Some y → (x : A) × (o ≡ Some x) × (f x ≡ Some y)
step_of None f y e = absurd (cc)
step_of (Some x) f y e = (x, refl, e)

pub only_is : {A : Type 0} (t : Bool) (x y : A) → only_if t x ≡ Some y → (t ≡ true) × (x ≡ y)
only_is true x y e = (refl, cc)
only_is false x y e = absurd (cc)

pub cut_found : (sign : ℕ) (bytes : List ℕ) (i : ℕ) → i < length bytes → ((k : ℕ) → k < i → get_or bytes k 0 ≡ sign → ⊥)
    → get_or bytes i 0 ≡ sign
    → cut sign bytes ≡ Some (take i bytes, drop (i + 1) bytes)
unfolding cut
cut_found sign [] i l before here = absurd (omega arith)
cut_found sign (b ∷ bs) zero l before here = let e : eqb b sign ≡ true = eq-eqb b sign here in rw e
cut_found sign (b ∷ bs) (suc i) l before here =
    let e : eqb b sign ≡ false = ne_eqb b sign (before 0 (omega arith)) in
    let n : suc i + 1 ≡ suc (i + 1) = omega arith in
    rw (e, n, cut_found sign bs i (omega arith) (λ k m. before (suc k) (omega arith)) here)

pub cut_none : (sign : ℕ) (bytes : List ℕ) → ((k : ℕ) → k < length bytes → get_or bytes k 0 ≡ sign → ⊥) → cut sign bytes ≡ None
unfolding cut
cut_none sign [] before = refl
cut_none sign (b ∷ bs) before =
    let e : eqb b sign ≡ false = ne_eqb b sign (before 0 (omega arith)) in
    rw (e, cut_none sign bs (λ k m. before (suc k) (omega arith)))

pub same_pair : {A B : Type 0} (p q : A × B) → Some p ≡ Some q → (p.0 ≡ q.0) × (p.1 ≡ q.1)
same_pair {A} {B} p q e = let same : p ≡ q = cc in (ap (λ (r : A × B). r.0) same, ap (λ (r : A × B). r.1) same)

-- what was cut apart is the text with the byte between
pub cut_joined : (sign : ℕ) (bytes front back : List ℕ) → cut sign bytes ≡ Some (front, back) → bytes ≡ front ++ (sign ∷ back)
unfolding cut
cut_joined sign [] front back e = cc
cut_joined sign (b ∷ bs) front back e = by_byte (eqb b sign) refl e (cut_joined sign bs)
  where
    by_byte : (t : Bool) → eqb b sign ≡ t → cond t (Some ([], bs)) (with_front b (cut sign bs)) ≡ Some (front, back)
        → ((f r : List ℕ) → cut sign bs ≡ Some (f, r) → bs ≡ f ++ (sign ∷ r)) → b ∷ bs ≡ front ++ (sign ∷ back)
    by_byte true t e later =
        let same = same_pair ([], bs) (front, back) e in
        let at : b ≡ sign = eqb-true b sign t in
        rw (← same.0, ← same.1, at) refl
    by_byte false t e later = by_rest (cut sign bs) refl e later
      where
        by_rest : (o : Option (List ℕ × List ℕ)) → cut sign bs ≡ o → with_front b o ≡ Some (front, back)
            → ((f r : List ℕ) → cut sign bs ≡ Some (f, r) → bs ≡ f ++ (sign ∷ r)) → b ∷ bs ≡ front ++ (sign ∷ back)
        by_rest None f e later = cc
        by_rest (Some (l, r)) f e later =
            let same = same_pair (b ∷ l, r) (front, back) e in
            rw (← same.0, ← same.1) (ap (λ t. b ∷ t) (later l r f))

-- the front has no such byte
abbrev pub Lacks : ℕ → List ℕ → Type 0
Lacks sign [] = Unit {0}
Lacks sign (b ∷ bs) = (eqb b sign ≡ false) × Lacks sign bs

pub cut_behind : (sign : ℕ) (front back : List ℕ) → Lacks sign front → cut sign (front ++ (sign ∷ back)) ≡ Some (front, back)
unfolding cut
cut_behind sign [] back lacks = let e : eqb sign sign ≡ true = eq-eqb sign sign refl in rw e
cut_behind sign (b ∷ bs) back lacks = rw (lacks.0, cut_behind sign bs back lacks.1)

pub cut_nowhere : (sign : ℕ) (bytes : List ℕ) → Lacks sign bytes → cut sign bytes ≡ None
unfolding cut
cut_nowhere sign [] lacks = refl
cut_nowhere sign (b ∷ bs) lacks = rw (lacks.0, cut_nowhere sign bs lacks.1)

pub cut_shorter : (sign : ℕ) (bytes front back : List ℕ) → cut sign bytes ≡ Some (front, back) → length back < length bytes
cut_shorter sign bytes front back e = shorter front back bytes (cut_joined sign bytes front back e)
  where
    shorter : (f r bs : List ℕ) → bs ≡ f ++ (sign ∷ r) → length r < length bs
    shorter f r bs e = rw e (longer f r)
      where
        longer : (f r : List ℕ) → length r < length (f ++ (sign ∷ r))
        longer [] r = omega arith
        longer (x ∷ f) r = let l = longer f r in omega arith

pub cut_within : (sign : ℕ) (bytes front back : List ℕ) → cut sign bytes ≡ Some (front, back) → length front < length bytes
cut_within sign bytes front back e = within front back bytes (cut_joined sign bytes front back e)
  where
    within : (f r bs : List ℕ) → bs ≡ f ++ (sign ∷ r) → length f < length bs
    within f r bs e = rw e (longer f r)
      where
        longer : (f r : List ℕ) → length f < length (f ++ (sign ∷ r))
        longer [] r = omega arith
        longer (x ∷ f) r = let l = longer f r in omega arith

pub cut_is : (sign : ℕ) (text : List ℕ) (p : List ℕ × List ℕ) → cut sign text ≡ Some p → p.0 ++ (sign ∷ p.1) ≡ text
cut_is sign text p e = sym (cut_joined sign text p.0 p.1 e)

pub nothing_is : (xs : List ℕ) → eqb (length xs) 0 ≡ true → xs ≡ []
nothing_is [] e = refl
nothing_is (x ∷ xs) e = let none : length (x ∷ xs) ≡ 0 = eqb-true (length (x ∷ xs)) 0 e in absurd (omega arith)

pub lacks_append : (sign : ℕ) (xs ys : List ℕ) → Lacks sign xs → Lacks sign ys → Lacks sign (xs ++ ys)
lacks_append sign [] ys h k = k
lacks_append sign (x ∷ xs) ys h k = (h.0, lacks_append sign xs ys h.1 k)
