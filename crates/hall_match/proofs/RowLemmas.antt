-- Rows that are filled edge by edge and then sorted.
use Rattle.std.proofs.Common.{ℕ, ◌≡◌, ◌<◌, ◌≤◌, ◌+◌, List, [], ◌∷◌, ◌++◌, length, get_or, set, take, replicate, Vec, arith}
use Rattle.std.proofs.Common.{sym, ◌∙◌, ap, subst, inl, inr}
use Rattle.std.specs.Prelude.{◌⊎◌, ◌↔◌, Contains}
use Rattle.std.specs.List.Sorted.{IsPermutation, IsNonDecreasing}
use Rattle.std.specs.declared.alloc.Global.{Global}
use Rattle.std.proofs.lemmas.Bool.{cases_eq, cases_lt}
use Rattle.std.proofs.lemmas.List.{get_or-set_same, get_or-set_other, get_or-map, get_or-replicate, get_or_past, length-replicate, length-map, map-set}
use Rattle.std.proofs.lemmas.List.{take_more}
use Rattle.std.proofs.lemmas.List.Elements.{Contains-append_left, Contains-push, Contains-push_cases}
use Rattle.std.proofs.lemmas.List.Sorted.{Contains-permutation, IsPermutation-sym}
use Rattle.hall_match.specs.Rows.{lists, row_at, HaveEdges, HaveSame, RowsRise}

pub row-read : (rows : List (Vec ℕ Global)) (i : ℕ) (d : Vec ℕ Global) → i < length rows
    → row_at (lists rows) i ≡ (get_or rows i d).items
row-read rows i d l = get_or-map (λ row. row.items) rows i d [] l

pub nothing_contained : {X : Type 0} (x : X) → Contains [] x → ⊥
nothing_contained x c = let h = c.1 in omega (arith, h)

pub have_none : (n : ℕ) → HaveEdges (replicate n []) []
have_none n item place = (
  λ c. absurd (nothing_contained place (rw empty at c)),
  λ c. absurd
      (nothing_contained {X = ℕ × ℕ} (item, place) c),
)
  where
    empty : row_at (replicate n []) item ≡ []
    empty = either (cases_lt item n)
      where
        either : (item < n) ⊎ (n ≤ item) → row_at (replicate n []) item ≡ []
        either (inl l) = get_or-replicate {A = List ℕ} n item [] [] l
        either (inr l) = let e = length-replicate {A = List ℕ} n [] in get_or_past {X = List ℕ}
            (replicate n []) item [] (omega (arith, e, l))

-- a row that gets one more place, and a list of edges that gets one more edge of that row
pub grown_row : (row : List ℕ) (edges : List (ℕ × ℕ)) (item place p : ℕ)
    → (Contains row p ↔ Contains edges (item, p))
    → (Contains (row ++ place ∷ []) p ↔ Contains (edges ++ (item, place) ∷ []) (item, p))
grown_row row edges item place p h = (
  λ c. there (Contains-push_cases row place p c),
  λ c. back
      (Contains-push_cases {X = ℕ × ℕ} edges (item, place) (item, p) c),
)
  where
    there : Contains row p ⊎ (place ≡ p) → Contains (edges ++ (item, place) ∷ []) (item, p)
    there (inl c) = Contains-append_left {X = ℕ × ℕ} edges ((item, place) ∷ []) (item, p) (h.0 c)
    there (inr e) = subst (λ q. Contains (edges ++ (item, place) ∷ []) (item, q)) e
        (Contains-push {X = ℕ × ℕ} edges (item, place))

    back : Contains edges (item, p) ⊎ (◌≡◌ {A = ℕ × ℕ} (item, place) (item, p))
        → Contains (row ++ place ∷ []) p
    back (inl c) = Contains-append_left row (place ∷ []) p (h.1 c)
    back (inr e) = subst (λ q. Contains (row ++ place ∷ []) q) (ap (λ (pair : ℕ × ℕ). pair.1) e)
        (Contains-push row place)

-- an edge of another row changes nothing here
pub other_row : (row : List ℕ) (edges : List (ℕ × ℕ)) (i item place p : ℕ) → (i ≡ item → ⊥)
    → (Contains row p ↔ Contains edges (i, p))
    → (Contains row p ↔ Contains (edges ++ (item, place) ∷ []) (i, p))
other_row row edges i item place p n h = (
  λ c. Contains-append_left {X = ℕ × ℕ} edges ((item, place) ∷ []) (i, p) (h.0 c),
  λ c. back
      (Contains-push_cases {X = ℕ × ℕ} edges (item, place) (i, p) c),
)
  where
    back : Contains edges (i, p) ⊎ (◌≡◌ {A = ℕ × ℕ} (item, place) (i, p)) → Contains row p
    back (inl c) = h.1 c
    back (inr e) = absurd (n (sym (ap (λ (pair : ℕ × ℕ). pair.0) e)))

-- the place of one more edge goes to the end of its item's row
pub have_more : (rows : List (List ℕ)) (edges : List (ℕ × ℕ)) (k item place : ℕ) → k < length edges
    → get_or edges k (0, 0) ≡ (item, place) → item < length rows → HaveEdges rows (take k edges)
    → HaveEdges (set rows item (row_at rows item ++ place ∷ [])) (take (k + 1) edges)
have_more rows edges k item place l e inside h i p = rw more (either (cases_eq i item))
  where
    more : take (k + 1) edges ≡ take k edges ++ (item, place) ∷ []
    more = take_more edges k (0, 0) l ∙ ap (λ v. take k edges ++ v ∷ []) e

    either : (i ≡ item) ⊎ (i ≡ item → ⊥)
        → Contains (row_at (set rows item (row_at rows item ++ place ∷ [])) i) p ↔ Contains
        (take k edges ++ (item, place) ∷ []) (i, p)
    either (inl s) = rw (s, get_or-set_same rows item (row_at rows item ++ place ∷ []) [] inside)
        (grown_row (row_at rows item) (take k edges) item place p (h item p))
    either (inr n) = rw (get_or-set_other rows item i (row_at rows item ++ place ∷ []) [] n)
        (other_row (row_at rows i) (take k edges) i item place p n (h i p))

-- a row put in another order
pub same_more : (old rows : List (List ℕ)) (i : ℕ) (row : List ℕ) → i < length rows
    → IsPermutation (row_at rows i) row → HaveSame old rows → HaveSame old (set rows i row)
same_more old rows i row inside moved h item place = either (cases_eq item i)
  where
    either : (item ≡ i) ⊎ (item ≡ i → ⊥)
        → Contains (row_at (set rows i row) item) place ↔ Contains (row_at old item) place
    either (inl s) = rw (s, get_or-set_same rows i row [] inside) (
      λ c. (h i place).0 (Contains-permutation row (row_at rows i) place
          (IsPermutation-sym (row_at rows i) row moved) c),
      λ c. Contains-permutation
          (row_at rows i) row place moved ((h i place).1 c),
    )
    either (inr n) = rw (get_or-set_other rows i item row [] n) (h item place)

pub rising_more : (rows : List (List ℕ)) (i : ℕ) (row : List ℕ) → i < length rows
    → IsNonDecreasing row → ((item : ℕ) → item < i → IsNonDecreasing (row_at rows item))
    → (item : ℕ) → item < i + 1 → IsNonDecreasing (row_at (set rows i row) item)
rising_more rows i row inside up h item l = either (cases_eq item i)
  where
    either : (item ≡ i) ⊎ (item ≡ i → ⊥) → IsNonDecreasing (row_at (set rows i row) item)
    either (inl s) = rw (s, get_or-set_same rows i row [] inside) up
    either (inr n) = rw (get_or-set_other rows i item row [] n) (h item (omega (arith, n)))

pub all_rising : (rows : List (List ℕ))
    → ((item : ℕ) → item < length rows → IsNonDecreasing (row_at rows item)) → RowsRise rows
all_rising rows h item = either (cases_lt item (length rows))
  where
    either : (item < length rows) ⊎ (length rows ≤ item) → IsNonDecreasing (row_at rows item)
    either (inl l) = h item l
    either (inr l) = rw (get_or_past rows item [] l) (λ i j d below inside. absurd (omega arith))

-- the same of the vectors that hold the rows
pub filled : (rows : List (Vec ℕ Global)) (edges : List (ℕ × ℕ)) (k item place : ℕ)
    (read row : Vec ℕ Global) → k < length edges → get_or edges k (0, 0) ≡ (item, place)
    → item < length rows
    → read ≡ get_or rows item read → row.items ≡ read.items ++ place ∷ [] → HaveEdges (lists rows)
    (take k edges) → HaveEdges (lists (set rows item row)) (take (k + 1) edges)
filled rows edges k item place read row l e inside reads is h =
    let long = length-map rows (λ (v : Vec ℕ Global). v.items) in
    let same : row.items ≡ row_at (lists rows) item ++ place ∷ [] = is ∙ ap
    (λ (v : Vec ℕ Global). v.items ++ place ∷ []) reads ∙ ap (λ xs. xs ++ place ∷ [])
    (sym (row-read rows item read inside)) in
    rw (map-set (λ (v : Vec ℕ Global). v.items) rows item row, same)
    (have_more (lists rows) edges k item place l e (omega (arith, long, inside)) h)

pub sorted_same : (old : List (List ℕ)) (rows : List (Vec ℕ Global)) (i : ℕ)
    (read row : Vec ℕ Global) → i < length rows → read ≡ get_or rows i read
    → IsPermutation read.items row.items → HaveSame old (lists rows)
    → HaveSame old (lists (set rows i row))
sorted_same old rows i read row inside reads moved h =
    let long = length-map rows (λ (v : Vec ℕ Global). v.items) in
    let e : row_at (lists rows) i ≡ read.items = row-read rows i read inside ∙ ap
    (λ (v : Vec ℕ Global). v.items) (sym reads) in
    rw (map-set (λ (v : Vec ℕ Global). v.items) rows i row) (same_more old (lists rows) i row.items
    (omega (arith, long, inside)) (rw e moved) h)

pub sorted_rising : (rows : List (Vec ℕ Global)) (i : ℕ) (row : Vec ℕ Global) → i < length rows
    → IsNonDecreasing row.items
    → ((item : ℕ) → item < i → IsNonDecreasing (row_at (lists rows) item))
    → (item : ℕ) → item < i + 1 → IsNonDecreasing (row_at (lists (set rows i row)) item)
sorted_rising rows i row inside up h =
    let long = length-map rows (λ (v : Vec ℕ Global). v.items) in
    rw (map-set (λ (v : Vec ℕ Global). v.items) rows i row) (rising_more (lists rows) i row.items
    (omega (arith, long, inside)) up h)

pub same_edges : (old new : List (List ℕ)) (edges : List (ℕ × ℕ)) → HaveSame old new
    → HaveEdges old edges → HaveEdges new edges
same_edges old new edges same h item place = (
  λ c. (h item place).0 ((same item place).0 c),
  λ c.
      (same item place).1 ((h item place).1 c),
)
