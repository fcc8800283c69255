-- Equal users change places, and requirements cover each other.
use Rattle.std.proofs.Common.{ℕ, ◌≡◌, ◌<◌, ◌≤◌, List, [], ◌∷◌, ◌++◌, Some, length, refl, arith, zero, suc, sym, ◌∙◌, ap}
use Rattle.std.proofs.Common.{subst, inl, inr}
use Rattle.std.specs.Prelude.{◌⊎◌, slice_get, slice_set}
use Rattle.std.specs.Option.{option_map}
use Rattle.std.proofs.lemmas.Bool.{eq-eqb, ne_eqb}
use Rattle.std.proofs.lemmas.Option.{slice_get_past}
use Rattle.list_words.proofs.NumberLemmas.{cases_eq, compare}
use Rattle.list_words.proofs.GetLemmas.{get_append, get_below, get_last, get_set_other, get_set_same, length_more, length_set}
use Rattle.arbac_laws.specs.Needs.{Covers, Need}
use Rattle.arbac_laws.specs.PreImages.{Pick, add_hit, change_at, with_admin, itself, other, fresh}
use Rattle.arbac_laws.proofs.CoverLemmas.{covers_itself}
use Rattle.arbac_laws.proofs.ExchangeLemmas.{get_change_other}
use Rattle.search_laws.specs.Pruning.{changed_pick, changed_place}

-- the first place goes to the second
pub changed_left : (i j : ℕ) → changed_place i j i ≡ j
changed_left i j = rw (eq-eqb i i refl) refl

-- the second place goes to the first
pub changed_right : (i j : ℕ) → changed_place i j j ≡ i
changed_right i j = by_case (cases_eq j i)
  where
    by_case : (j ≡ i) ⊎ (j ≡ i → ⊥) → changed_place i j j ≡ i
    by_case (inl e) = rw (eq-eqb j i e) e
    by_case (inr n) = rw (ne_eqb j i n, eq-eqb j j refl) refl

-- any other place stays
pub changed_other : (i j k : ℕ) → (k ≡ i → ⊥) → (k ≡ j → ⊥) → changed_place i j k ≡ k
changed_other i j k n m = rw (ne_eqb k i n, ne_eqb k j m) refl

-- a place is one of the two, or none
abbrev pub WhichPlace : ℕ → ℕ → ℕ → Type 0
WhichPlace i j k = (k ≡ i) ⊎ ((k ≡ j) ⊎ ((k ≡ i → ⊥) × (k ≡ j → ⊥)))

-- it is decided which
pub which_place : (i j k : ℕ) → WhichPlace i j k
which_place i j k = by_case (cases_eq k i) (cases_eq k j)
  where
    by_case : (k ≡ i) ⊎ (k ≡ i → ⊥) → (k ≡ j) ⊎ (k ≡ j → ⊥) → WhichPlace i j k
    by_case (inl e) unseen = inl e
    by_case (inr n) (inl e) = inr (inl e)
    by_case (inr n) (inr m) = inr (inr (n, m))

-- two changes lead back
pub changed_twice : (i j k : ℕ) → changed_place i j (changed_place i j k) ≡ k
changed_twice i j k = by_case (which_place i j k)
  where
    by_case : WhichPlace i j k → changed_place i j (changed_place i j k) ≡ k
    by_case (inl e) = subst (λ v. changed_place i j (changed_place i j v) ≡ v) (sym e) (ap (changed_place i j) (changed_left i j) ∙ changed_right i j)
    by_case (inr (inl e)) =
        subst (λ v. changed_place i j (changed_place i j v) ≡ v) (sym e) (ap (changed_place i j) (changed_right i j) ∙ changed_left i j)
    by_case (inr (inr n)) = ap (changed_place i j) (changed_other i j k n.0 n.1) ∙ changed_other i j k n.0 n.1

-- different places go to different places
pub changed_apart : (i j k l : ℕ) → changed_place i j k ≡ changed_place i j l → k ≡ l
changed_apart i j k l e = sym (changed_twice i j k) ∙ ap (changed_place i j) e ∙ changed_twice i j l

-- places below a number stay below it
pub changed_below : (i j k n : ℕ) → i < n → j < n → k < n → changed_place i j k < n
changed_below i j k n li lj l = by_case (which_place i j k)
  where
    by_case : WhichPlace i j k → changed_place i j k < n
    by_case (inl e) = subst (λ v. v < n) (sym (ap (changed_place i j) e ∙ changed_left i j)) lj
    by_case (inr (inl e)) = subst (λ v. v < n) (sym (ap (changed_place i j) e ∙ changed_right i j)) li
    by_case (inr (inr m)) = subst (λ v. v < n) (sym (changed_other i j k m.0 m.1)) l

-- what stands at a place of the one stands at the changed place of the other
abbrev pub AreAlike : ℕ → ℕ → List Need → List Need → Type 0
AreAlike i j xs ys = (k : ℕ) → slice_get xs k ≡ slice_get ys (changed_place i j k)

-- lists that are alike so cover each other
pub alike_covers : (i j : ℕ) (xs ys : List Need) → AreAlike i j xs ys → Covers xs ys
alike_covers i j xs ys alike = record {
  to = changed_place i j;
  apart = λ k l lk ll e. changed_apart i j k l e;
  each = λ k x at. (x, sym (alike k) ∙ at, covers_itself x);
}

-- the list itself, where two users are equal
pub own_alike : (needs : List Need) (i j : ℕ) (need : Need) → slice_get needs i ≡ Some need → slice_get needs j ≡ Some need
    → AreAlike i j needs needs
own_alike needs i j need at there k = by_case (which_place i j k)
  where
    by_case : WhichPlace i j k → slice_get needs k ≡ slice_get needs (changed_place i j k)
    by_case (inl e) = ap (slice_get needs) e ∙ at ∙ sym there ∙ ap (slice_get needs) (sym (ap (changed_place i j) e ∙ changed_left i j))
    by_case (inr (inl e)) = ap (slice_get needs) e ∙ there ∙ sym at ∙ ap (slice_get needs) (sym (ap (changed_place i j) e ∙ changed_right i j))
    by_case (inr (inr n)) = ap (slice_get needs) (sym (changed_other i j k n.0 n.1))

-- one user exchanged at the one place and at the other
pub set_alike : (needs : List Need) (i j : ℕ) (need before : Need) → slice_get needs i ≡ Some need → slice_get needs j ≡ Some need
    → AreAlike i j (slice_set needs i before) (slice_set needs j before)
set_alike needs i j need before at there k = by_case (cases_eq i k)
  where
    by_case : (i ≡ k) ⊎ (i ≡ k → ⊥) → slice_get (slice_set needs i before) k ≡ slice_get (slice_set needs j before) (changed_place i j k)
    by_case (inl e) = ap (slice_get (slice_set needs i before)) (sym e) ∙ get_set_same needs i before (get_below needs i need at)
        ∙ sym (ap (slice_get (slice_set needs j before)) (ap (changed_place i j) (sym e) ∙ changed_left i j) ∙ get_set_same needs j before
        (get_below needs j need there))
    by_case (inr n) = get_set_other needs i k before n ∙ own_alike needs i j need at there k
        ∙ sym (get_set_other needs j (changed_place i j k) before (λ e. n (changed_apart i j i k (changed_left i j ∙ e))))

-- what stands where an item was changed
pub get_change : (needs : List Need) (k : ℕ) (f : Need → Need) → slice_get (change_at k f needs) k ≡ option_map f (slice_get needs k)
get_change [] k f = refl
get_change (x ∷ xs) zero f = refl
get_change (x ∷ xs) (suc k) f = get_change xs k f

-- one item changed in both lists
pub change_alike : (i j : ℕ) (xs ys : List Need) (f : Need → Need) (p : ℕ) → AreAlike i j xs ys
    → AreAlike i j (change_at p f xs) (change_at (changed_place i j p) f ys)
change_alike i j xs ys f p alike k = by_case (cases_eq p k)
  where
    by_case : (p ≡ k) ⊎ (p ≡ k → ⊥) → slice_get (change_at p f xs) k ≡ slice_get (change_at (changed_place i j p) f ys) (changed_place i j k)
    by_case (inl e) = ap (slice_get (change_at p f xs)) (sym e) ∙ get_change xs p f ∙ ap (option_map f) (alike p)
        ∙ sym (get_change ys (changed_place i j p) f)
        ∙ ap (λ v. slice_get (change_at (changed_place i j p) f ys) (changed_place i j v)) e
    by_case (inr n) =
        get_change_other xs p k f n ∙ alike k ∙ sym (get_change_other ys (changed_place i j p) (changed_place i j k) f (λ e. n (changed_apart i j p k e)))

-- one item at the end of both lists
pub more_alike : (i j : ℕ) (xs ys : List Need) (x : Need) → i < length xs → j < length xs → length xs ≡ length ys → AreAlike i j xs ys
    → AreAlike i j (xs ++ x ∷ []) (ys ++ x ∷ [])
more_alike i j xs ys x li lj long alike k = by_order (compare k (length xs))
  where
    still : length xs ≤ k → changed_place i j k ≡ k
    still l = changed_other i j k (λ e. omega (arith, e, li, l)) (λ e. omega (arith, e, lj, l))

    by_order : (k < length xs) ⊎ ((k ≡ length xs) ⊎ (length xs < k)) → slice_get (xs ++ x ∷ []) k ≡ slice_get (ys ++ x ∷ []) (changed_place i j k)
    by_order (inl l) =
        get_append xs x k l ∙ alike k
        ∙ sym (get_append ys x (changed_place i j k) (subst (λ n. changed_place i j k < n) long (changed_below i j k (length xs) li lj l)))
    by_order (inr (inl e)) =
        ap (slice_get (xs ++ x ∷ [])) e ∙ get_last xs x ∙ sym (get_last ys x)
        ∙ ap (slice_get (ys ++ x ∷ [])) (sym (still (omega (arith, e)) ∙ e ∙ long))
    by_order (inr (inr l)) = slice_get_past (xs ++ x ∷ []) k (let n = length_more xs x in omega (arith, n, l))
        ∙ sym (ap (slice_get (ys ++ x ∷ [])) (still (omega (arith, l))) ∙ slice_get_past (ys ++ x ∷ []) k
        (let n = length_more ys x in omega (arith, n, l, long)))

-- equal users as targets
pub targets_alike : (needs : List Need) (i j : ℕ) (need before : Need) (hit : List ℕ) (pick : Pick) → slice_get needs i ≡ Some need
    → slice_get needs j ≡ Some need
    → Covers (with_admin pick i hit (slice_set needs i before)) (with_admin (changed_pick i j pick) j hit (slice_set needs j before))
targets_alike needs i j need before hit itself at there =
    alike_covers i j (change_at i (add_hit hit) (slice_set needs i before)) (change_at j (add_hit hit) (slice_set needs j before))
    (subst (λ v. AreAlike i j (change_at i (add_hit hit) (slice_set needs i before)) (change_at v (add_hit hit) (slice_set needs j before)))
    (changed_left i j)
    (change_alike i j (slice_set needs i before) (slice_set needs j before) (add_hit hit) i (set_alike needs i j need before at there)))
targets_alike needs i j need before hit (other place) at there =
    alike_covers i j (change_at place (add_hit hit) (slice_set needs i before)) (change_at (changed_place i j place) (add_hit hit) (slice_set needs j before))
    (change_alike i j (slice_set needs i before) (slice_set needs j before) (add_hit hit) place (set_alike needs i j need before at there))
targets_alike needs i j need before hit fresh at there =
    alike_covers i j (slice_set needs i before ++ record { hits = hit ∷ []; lacks = [] } ∷ [])
    (slice_set needs j before ++ record { hits = hit ∷ []; lacks = [] } ∷ [])
    (more_alike i j (slice_set needs i before) (slice_set needs j before) (record { hits = hit ∷ []; lacks = [] })
    (subst (λ n. i < n) (sym (length_set needs i before)) (get_below needs i need at))
    (subst (λ n. j < n) (sym (length_set needs i before)) (get_below needs j need there))
    (length_set needs i before ∙ sym (length_set needs j before)) (set_alike needs i j need before at there))

-- equal users as other administrators
pub admins_alike : (needs : List Need) (target i j : ℕ) (need : Need) (hit : List ℕ) → slice_get needs i ≡ Some need → slice_get needs j ≡ Some need
    → Covers (with_admin (other i) target hit needs) (with_admin (other j) target hit needs)
admins_alike needs target i j need hit at there =
    alike_covers i j (change_at i (add_hit hit) needs) (change_at j (add_hit hit) needs)
    (subst (λ v. AreAlike i j (change_at i (add_hit hit) needs) (change_at v (add_hit hit) needs)) (changed_left i j)
    (change_alike i j needs needs (add_hit hit) i (own_alike needs i j need at there)))
