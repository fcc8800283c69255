-- What is kept of candidates, part by part.
use Rattle.std.proofs.Common.{ℕ, ◌≡◌, ◌<◌, ◌+◌, ◌∙◌, List, [], ◌∷◌, ◌++◌, length, Some, zero, suc, refl, sym, ap, subst, inl, inr}
use Rattle.std.proofs.Common.{append_assoc, append-nil, arith, length-append, ◌-◌}
use Rattle.std.specs.Prelude.{◌⊎◌, slice_get}
use Rattle.list_words.proofs.GetLemmas.{get_below, get_there, same_some}
use Rattle.list_words.proofs.NumberLemmas.{compare}
use Rattle.arbac_laws.specs.Needs.{Need, IsCovered}
use Rattle.arbac_laws.specs.Recorded.{Entry}
use Rattle.search_laws.specs.Beats.{Beats}
use Rattle.search_laws.proofs.OutcomeLemmas.{get_front}
use Rattle.search_rounds.specs.Keeping.{Keeps, Gathered, Gathers}

-- places of two lists, one behind the other

pub get_left : {A : Type 0} (xs ys : List A) (k : ℕ) (x : A) → slice_get xs k ≡ Some x → slice_get (xs ++ ys) k ≡ Some x
get_left xs ys k x e = get_front xs ys k (get_below xs k x e) ∙ e

pub get_right : {A : Type 0} (xs ys : List A) (k : ℕ) (x : A) → slice_get ys k ≡ Some x → slice_get (xs ++ ys) (length xs + k) ≡ Some x
get_right xs ys k x e = at_place xs (length xs + k) refl
  where
    at_place : (xs : List _) (i : ℕ) → i ≡ length xs + k → slice_get (xs ++ ys) i ≡ Some x
    at_place [] i h = let same : k ≡ i = omega (arith, h) in subst (λ n. slice_get ys n ≡ Some x) same e
    at_place (z ∷ zs) zero h = absurd (omega (arith, h))
    at_place (z ∷ zs) (suc i) h = at_place zs i (omega (arith, h))

pub get_side : {A : Type 0} (xs ys : List A) (k : ℕ) (x : A) → slice_get (xs ++ ys) k ≡ Some x
    → (slice_get xs k ≡ Some x) ⊎ ((j : ℕ) × (k ≡ length xs + j) × (slice_get ys j ≡ Some x))
get_side [] ys k x e = inr (k, omega arith, e)
get_side (y ∷ xs) ys zero x e = inl e
get_side (y ∷ xs) ys (suc k) x e = by_side (get_side xs ys k x e)
  where
    by_side : (slice_get xs k ≡ Some x) ⊎ ((j : ℕ) × (k ≡ length xs + j) × (slice_get ys j ≡ Some x))
        → (slice_get xs k ≡ Some x) ⊎ ((j : ℕ) × (suc k ≡ suc (length xs) + j) × (slice_get ys j ≡ Some x))
    by_side (inl h) = inl h
    by_side (inr h) = let same = h.1 in inr (h.0, omega (arith, same), h.2)

-- who beats another among some candidates does so among all

pub beats_over : (all some : List Entry) (to : ℕ → ℕ)
    → ((i : ℕ) (entry : Entry) → slice_get some i ≡ Some entry → slice_get all (to i) ≡ Some entry)
    → (i j : ℕ) → (i < j → to i < to j) → Beats some i j → Beats all (to i) (to j)
beats_over all some to each i j rises b = record {
  by = b.by;
  by_is = each i b.by b.by_is;
  beaten = b.beaten;
  beaten_is = each j b.beaten b.beaten_is;
  covers = b.covers;
  apart = by_apart b.apart;
}
  where
    by_apart : ¬ (b.by.needs ≡ b.beaten.needs) ⊎ (i < j) → ¬ (b.by.needs ≡ b.beaten.needs) ⊎ (to i < to j)
    by_apart (inl n) = inl n
    by_apart (inr l) = inr (rises l)

-- the candidate at the place stands among so many that are kept, was covered by what was known, or is beaten
abbrev pub MayMiss : List (List Need) → List Entry → ℕ → (ℕ → ℕ) → ℕ → List Need → Type 0
MayMiss known candidates n to place needs =
    ((i : ℕ) × (i < n) × (to i ≡ place)) ⊎ (IsCovered known needs ⊎ ((other : ℕ) × Beats candidates other place))

-- nothing is left out

pub keeps_all : (known : List (List Need)) (all : List Entry) → Keeps known all all
keeps_all known all = record {
  part = record { to = λ i. i; rises = λ i j l m. l; each = λ i entry at. at };
  left_out = λ place entry at. inl (place, get_below all place entry at, refl);
}

-- of what is kept again only some is

pub keeps_through : (known : List (List Need)) (all some fewer : List Entry) → Keeps known all some → Keeps known some fewer → Keeps known all fewer
keeps_through known all some fewer k l = record {
  part = record { to = to; rises = rises; each = each };
  left_out = λ place entry at. by_first place entry at (k.left_out place entry at);
}
  where
    to : ℕ → ℕ
    to i = k.part.to (l.part.to i)

    within : (j : ℕ) → j < length fewer → l.part.to j < length some
    within j m = let there = get_there fewer j m in get_below some (l.part.to j) there.0 (l.part.each j there.0 there.1)

    rises : (i j : ℕ) → i < j → j < length fewer → k.part.to (l.part.to i) < k.part.to (l.part.to j)
    rises i j less m = k.part.rises (l.part.to i) (l.part.to j) (l.part.rises i j less m) (within j m)

    each : (i : ℕ) (entry : Entry) → slice_get fewer i ≡ Some entry → slice_get all (k.part.to (l.part.to i)) ≡ Some entry
    each i entry at = k.part.each (l.part.to i) entry (l.part.each i entry at)

    -- who is beaten among some is beaten among all
    by_second : (place i : ℕ) (entry : Entry) → k.part.to i ≡ place
        → MayMiss known some (length fewer) l.part.to i entry.needs
        → MayMiss known all (length fewer) to place entry.needs
    by_second place i entry e (inl one) = inl (one.0, one.1, ap k.part.to one.2 ∙ e)
    by_second place i entry e (inr (inl c)) = inr (inl c)
    by_second place i entry e (inr (inr other)) =
        let b = other.1 in
        let rises = λ (less : other.0 < i). k.part.rises other.0 i less (get_below some i b.beaten b.beaten_is) in
        let over = beats_over all some k.part.to k.part.each other.0 i rises b in
        inr (inr (k.part.to other.0, subst (Beats all (k.part.to other.0)) e over))

    by_first : (place : ℕ) (entry : Entry) → slice_get all place ≡ Some entry
        → MayMiss known all (length some) k.part.to place entry.needs
        → MayMiss known all (length fewer) to place entry.needs
    by_first place entry at (inl one) =
        let there = get_there some one.0 one.1 in
        let same = same_some there.0 entry (sym (k.part.each one.0 there.0 there.1) ∙ ap (slice_get all) one.2 ∙ at) in
        by_second place one.0 entry one.2 (l.left_out one.0 entry (there.1 ∙ ap Some same))
    by_first place entry at (inr h) = inr h

-- one part behind the other

-- below the number one map, from there on another, moved up
beside : ℕ → ℕ → (ℕ → ℕ) → (ℕ → ℕ) → ℕ → ℕ
beside zero up f g i = up + g i
beside (suc n) up f g zero = f zero
beside (suc n) up f g (suc i) = beside n up (λ k. f (suc k)) g i

beside_below : (n up : ℕ) (f g : ℕ → ℕ) (i : ℕ) → i < n → beside n up f g i ≡ f i
unfolding beside
beside_below zero up f g i l = absurd (omega (arith, l))
beside_below (suc n) up f g zero l = refl
beside_below (suc n) up f g (suc i) l = beside_below n up (λ k. f (suc k)) g i (omega (arith, l))

beside_above : (n up : ℕ) (f g : ℕ → ℕ) (i j : ℕ) → i ≡ n + j → beside n up f g i ≡ up + g j
unfolding beside
beside_above zero up f g i j e = let same : i ≡ j = omega (arith, e) in ap (λ k. up + g k) same
beside_above (suc n) up f g zero j e = absurd (omega (arith, e))
beside_above (suc n) up f g (suc i) j e = beside_above n up (λ k. f (suc k)) g i j (omega (arith, e))

side_of : (n i : ℕ) → (i < n) ⊎ ((j : ℕ) × (i ≡ n + j))
side_of n i = by_order (compare i n)
  where
    by_order : (i < n) ⊎ ((i ≡ n) ⊎ (n < i)) → (i < n) ⊎ ((j : ℕ) × (i ≡ n + j))
    by_order (inl l) = inl l
    by_order (inr (inl e)) = inr (0, omega (arith, e))
    by_order (inr (inr l)) = inr (i - n, omega (arith, l))

pub keeps_append : (known : List (List Need)) (xs ys kept more : List Entry) → Keeps known xs kept → Keeps known ys more
    → Keeps known (xs ++ ys) (kept ++ more)
keeps_append known xs ys kept more k l = record {
  part = record {
    to = to;
    rises = λ i j less m. by_sides i j less m (side_of (length kept) i) (side_of (length kept) j);
    each = λ i entry at. by_part i entry (get_side kept more i entry at);
  };
  left_out = λ place entry at. by_place place entry (get_side xs ys place entry at);
}
  where
    to : ℕ → ℕ
    to i = beside (length kept) (length xs) k.part.to l.part.to i

    below : (i : ℕ) → i < length kept → to i ≡ k.part.to i
    below i less = beside_below (length kept) (length xs) k.part.to l.part.to i less

    above : (i j : ℕ) → i ≡ length kept + j → to i ≡ length xs + l.part.to j
    above i j e = beside_above (length kept) (length xs) k.part.to l.part.to i j e

    long : length (kept ++ more) ≡ length kept + length more
    long = length-append kept more

    within : (i : ℕ) → i < length kept → k.part.to i < length xs
    within i m = let there = get_there kept i m in get_below xs (k.part.to i) there.0 (k.part.each i there.0 there.1)

    -- all places of the first part stand before those of the second
    by_sides : (i j : ℕ) → i < j → j < length (kept ++ more) → (i < length kept) ⊎ ((i' : ℕ) × (i ≡ length kept + i'))
        → (j < length kept) ⊎ ((j' : ℕ) × (j ≡ length kept + j'))
        → to i < to j
    by_sides i j less m (inl a) (inl b) =
        let e = below i a in let f = below j b in let r = k.part.rises i j less b in omega (arith, e, f, r)
    by_sides i j less m (inl a) (inr b) =
        let e = below i a in let f = above j b.0 b.1 in let r = within i a in omega (arith, e, f, r)
    by_sides i j less m (inr a) (inl b) = let e = a.1 in absurd (omega (arith, less, e, b))
    by_sides i j less m (inr a) (inr b) =
        let g = a.1 in let h = b.1 in let e = above i a.0 a.1 in let f = above j b.0 b.1 in
        let r = l.part.rises a.0 b.0 (omega (arith, less, g, h)) (omega (arith, m, h, long)) in
        omega (arith, e, f, r)

    by_part : (i : ℕ) (entry : Entry)
        → (slice_get kept i ≡ Some entry) ⊎ ((j : ℕ) × (i ≡ length kept + j) × (slice_get more j ≡ Some entry))
        → slice_get (xs ++ ys) (to i) ≡ Some entry
    by_part i entry (inl h) =
        ap (slice_get (xs ++ ys)) (below i (get_below kept i entry h)) ∙ get_left xs ys (k.part.to i) entry (k.part.each i entry h)
    by_part i entry (inr h) =
        ap (slice_get (xs ++ ys)) (above i h.0 h.1) ∙ get_right xs ys (l.part.to h.0) entry (l.part.each h.0 entry h.2)

    by_first : (place : ℕ) (entry : Entry)
        → MayMiss known xs (length kept) k.part.to place entry.needs
        → MayMiss known (xs ++ ys) (length (kept ++ more)) to place entry.needs
    by_first place entry (inl one) =
        let m = one.1 in inl (one.0, omega (arith, m, long), below one.0 one.1 ∙ one.2)
    by_first place entry (inr (inl c)) = inr (inl c)
    by_first place entry (inr (inr other)) =
        inr (inr (other.0, beats_over (xs ++ ys) xs (λ i. i) (get_left xs ys) other.0 place (λ less. less) other.1))

    by_second : (place j : ℕ) (entry : Entry) → place ≡ length xs + j
        → MayMiss known ys (length more) l.part.to j entry.needs
        → MayMiss known (xs ++ ys) (length (kept ++ more)) to place entry.needs
    by_second place j entry e (inl one) =
        let m = one.1 in
        inl (
          length kept + one.0,
          omega (arith, m, long),
          above (length kept + one.0) one.0 refl ∙ ap (λ i. length xs + i) one.2 ∙ sym e,
        )
    by_second place j entry e (inr (inl c)) = inr (inl c)
    by_second place j entry e (inr (inr other)) =
        let over = beats_over (xs ++ ys) ys (λ i. length xs + i) (get_right xs ys) other.0 j (λ less. omega (arith, less)) other.1 in
        inr (inr (length xs + other.0, subst (Beats (xs ++ ys) (length xs + other.0)) (sym e) over))

    by_place : (place : ℕ) (entry : Entry)
        → (slice_get xs place ≡ Some entry) ⊎ ((j : ℕ) × (place ≡ length xs + j) × (slice_get ys j ≡ Some entry))
        → MayMiss known (xs ++ ys) (length (kept ++ more)) to place entry.needs
    by_place place entry (inl h) = by_first place entry (k.left_out place entry h)
    by_place place entry (inr h) = by_second place h.0 entry h.1 (l.left_out h.0 entry h.2)

-- nothing more is made

pub gathers_none : (g : Gathered) → Gathers g g []
gathers_none g = record {
  order = refl;
  known = refl;
  still = λ gathered. gathered;
  kept = λ gathered all k. subst (λ list. Keeps g.known list g.kept) (sym (append-nil all)) k;
}

-- some candidates are made, and then others

pub gathers_more : (a b c : Gathered) (xs ys : List Entry) → Gathers a b xs → Gathers b c ys → Gathers a c (xs ++ ys)
gathers_more a b c xs ys f g = record {
  order = g.order ∙ f.order;
  known = g.known ∙ f.known;
  still = λ gathered. g.still (f.still gathered);
  kept = λ gathered all k. subst (λ list. Keeps a.known list c.kept) (append_assoc all xs ys)
      (subst (λ known. Keeps known ((all ++ xs) ++ ys) c.kept) f.known
      (g.kept (f.still gathered) (all ++ xs)
      (subst (λ known. Keeps known (all ++ xs) b.kept) (sym f.known) (f.kept gathered all k))));
}

-- what needn't be made isn't

pub gathers_some : (a b : Gathered) (made some : List Entry) → Keeps a.known made some → Gathers a b some → Gathers a b made
gathers_some a b made some k g = record {
  order = g.order;
  known = g.known;
  still = g.still;
  kept = λ gathered all l.
      keeps_through a.known (all ++ made) (all ++ some) b.kept (keeps_append a.known all made all some (keeps_all a.known all) k) (g.kept gathered all l);
}
