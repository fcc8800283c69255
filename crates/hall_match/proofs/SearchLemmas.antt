-- The steps of a search: a place that is seen for the first time, and one that is gone through.
use Rattle.std.proofs.Common.{ℕ, ◌≡◌, ◌<◌, ◌≤◌, ◌+◌, ◌-◌, List, [], ◌∷◌, ◌++◌, length, get_or, set, arith, zero, suc, sym}
use Rattle.std.proofs.Common.{◌∙◌, ap, refl, subst, Bool, true, false, not, cond, Option, Some, None, count_by, inl, inr}
use Rattle.std.specs.Prelude.{◌⊎◌, slice_get, Contains}
use Rattle.std.specs.List.Sorted.{IsNonDecreasing}
use Rattle.std.proofs.lemmas.Bool.{cases_eq, cases_lt, false≢true}
use Rattle.std.proofs.lemmas.Option.{slice_get_within}
use Rattle.std.proofs.lemmas.List.{length-set, length_push, get_or-set_same, get_or-set_other, get_or_default, get_or_read, get_or_past}
use Rattle.std.proofs.lemmas.List.Elements.{Contains-get_or}
use Rattle.std.proofs.lemmas.List.Sums.{sum_by-set}
use Rattle.hall_match.specs.declared.search.Reached.{Reached}
use Rattle.hall_match.specs.declared.search.Move.{Move}
use Rattle.hall_match.specs.Holding.{has_room}
use Rattle.hall_match.specs.Rows.{row_at, AreInside}
use Rattle.hall_match.specs.Search.{Instance, IsSeen, IsRowSeen, IsReachable, IsShutFrom, IsClosed, IsStep, IsAlternatingTree, IsWaiting, IsSearch, IsFound}
use Rattle.hall_match.specs.Search.{IsFoundFrom, IsLeastPath, GoesOn, IsUserAt}

-- a list with one more at its end
pub get-push_old : {X : Type 0} (xs : List X) (y : X) (k : ℕ) (x : X) → slice_get xs k ≡ Some x
    → slice_get (xs ++ y ∷ []) k ≡ Some x
get-push_old [] y k x e = absurd (cc)
get-push_old (z ∷ zs) y zero x e = e
get-push_old (z ∷ zs) y (suc k) x e = get-push_old zs y k x e

pub get-push_last : {X : Type 0} (xs : List X) (y : X)
    → slice_get (xs ++ y ∷ []) (length xs) ≡ Some y
get-push_last [] y = refl
get-push_last (z ∷ zs) y = get-push_last zs y

pub get-push_cases : {X : Type 0} (xs : List X) (y : X) (k : ℕ) (x : X)
    → slice_get (xs ++ y ∷ []) k ≡ Some x → (slice_get xs k ≡ Some x) ⊎ ((k ≡ length xs) × (y ≡ x))
get-push_cases [] y zero x e = let same : y ≡ x = cc in inr (refl, same)
get-push_cases [] y (suc k) x e = absurd (cc)
get-push_cases (z ∷ zs) y zero x e = inl e
get-push_cases (z ∷ zs) y (suc k) x e = more (get-push_cases zs y k x e)
  where
    more : (slice_get zs k ≡ Some x) ⊎ ((k ≡ length zs) × (y ≡ x))
        → (slice_get zs k ≡ Some x) ⊎ ((suc k ≡ suc (length zs)) × (y ≡ x))
    more (inl a) = inl a
    more (inr b) = inr (ap suc b.0, b.1)

-- a place that becomes seen
pub seen_here : (seen : List Bool) (place : ℕ) → place < length seen
    → IsSeen (set seen place true) place
seen_here seen place l = get_or-set_same seen place true false l

pub seen_still : (seen : List Bool) (place other : ℕ) → IsSeen seen other
    → IsSeen (set seen place true) other
seen_still seen place other h = either (cases_eq other place) (cases_lt place (length seen))
  where
    either : (other ≡ place) ⊎ (other ≡ place → ⊥) → (place < length seen) ⊎ (length seen ≤ place)
        → IsSeen (set seen place true) other
    either (inl s) (inl l) = rw s (seen_here seen place l)
    either (inl s) (inr l) = let past : get_or seen other false ≡ false = get_or_past seen other
        false (omega (arith, s, l)) in absurd (false≢true (sym past ∙ h))
    either (inr n) o = get_or-set_other seen place other true false n ∙ h

pub seen_cases : (seen : List Bool) (place other : ℕ) → IsSeen (set seen place true) other
    → (other ≡ place) ⊎ IsSeen seen other
seen_cases seen place other h = either (cases_eq other place)
  where
    either : (other ≡ place) ⊎ (other ≡ place → ⊥) → (other ≡ place) ⊎ IsSeen seen other
    either (inl s) = inl s
    either (inr n) = inr (sym (get_or-set_other seen place other true false n) ∙ h)

pub seen_inside : (seen : List Bool) (place : ℕ) → IsSeen seen place → place < length seen
seen_inside seen place h = either (cases_lt place (length seen))
  where
    either : (place < length seen) ⊎ (length seen ≤ place) → place < length seen
    either (inl l) = l
    either (inr l) = absurd (false≢true (sym (get_or_past seen place false l) ∙ h))

pub unseen-set : (seen : List Bool) (place : ℕ) → place < length seen
    → get_or seen place false ≡ false → count_by not (set seen place true) + 1 ≡ count_by not seen
unseen-set seen place l e =
    let a = sum_by-set (λ b. cond (not b) 1 0) seen place true false l in
    let b = ap (λ t. cond {A = ℕ} (not t) 1 0) e in
    omega (arith, a, b)

-- what holds of the seen places goes on to hold as more are seen
pub reachable_still : (s : Instance) (old new : List Bool) (place : ℕ)
    → ((p : ℕ) → IsSeen old p → IsSeen new p) → IsReachable s old place → IsReachable s new place
reachable_still s old new place up (inl c) = inl c
reachable_still s old new place up (inr h) = inr (h.0, h.1, up h.0 h.2, h.3, h.4, h.5)

pub shut_still : (s : Instance) (old new : List Bool) (place low : ℕ)
    → ((p : ℕ) → IsSeen old p → IsSeen new p) → IsShutFrom s old place low
    → IsShutFrom s new place low
shut_still s old new place low up h user l e next c = up next (h user l e next c)

pub step_still : (s : Instance) (reached : List Reached) (more : Reached) (at place : ℕ)
    (by : Option Move) → IsStep s reached at place by → IsStep s (reached ++ more ∷ []) at place by
step_still s reached more at place None h = h
step_still s reached more at place (Some move) h = (
  h.0,
  h.1,
  get-push_old reached more move.from h.0
      h.2,
  h.3,
  h.4,
  h.5,
)

pub waiting_still : (reached : List Reached) (more : Reached) (low place : ℕ)
    → IsWaiting reached low place → IsWaiting (reached ++ more ∷ []) low place
waiting_still reached more low place h = (h.0, h.1, h.2, get-push_old reached more h.0 h.1 h.3, h.4)

-- a search that sees a place for the first time
module _ (s : Instance) (seen : List Bool) (reached : List Reached) (more : Reached) where
  pub tree_push : IsAlternatingTree s reached
      → ((at : ℕ) (here : Reached) → slice_get reached at ≡ Some here → IsSeen seen here.place)
      → get_or seen more.place false ≡ false → IsStep s reached (length reached) more.place more.by
      → IsAlternatingTree s (reached ++ more ∷ [])
  tree_push t marked new step = record {
    steps = λ at here e. steps at here (get-push_cases reached more at here e);
    apart = λ at other here there e f same. apart at other here there
        (get-push_cases reached more at here e) (get-push_cases reached more other there f) same;
  }
    where
      steps : (at : ℕ) (here : Reached)
          → (slice_get reached at ≡ Some here) ⊎ ((at ≡ length reached) × (more ≡ here))
          → IsStep s (reached ++ more ∷ []) at here.place here.by
      steps at here (inl e) = step_still s reached more at here.place here.by (t.steps at here e)
      steps at here (inr e) =
          let w = step_still s reached more (length reached) more.place more.by step in
          let v : IsStep s (reached ++ more ∷ []) at more.place more.by = rw e.0 w in
          subst (λ (r : Reached). IsStep s (reached ++ more ∷ []) at r.place r.by) e.1 v

      met : (at : ℕ) (here : Reached) → slice_get reached at ≡ Some here → more.place ≡ here.place
          → ⊥
      met at here e same = false≢true (sym new ∙ ap (λ p. get_or seen p false) same ∙ marked at here
          e)

      apart : (at other : ℕ) (here there : Reached)
          → (slice_get reached at ≡ Some here) ⊎ ((at ≡ length reached) × (more ≡ here))
          → (slice_get reached other ≡ Some there) ⊎ ((other ≡ length reached) × (more ≡ there))
          → here.place ≡ there.place → at ≡ other
      apart at other here there (inl e) (inl f) same = t.apart at other here there e f same
      apart at other here there (inl e) (inr f) same = absurd
          (met at here e (ap (λ (r : Reached). r.place) f.1 ∙ sym same))
      apart at other here there (inr e) (inl f) same = absurd
          (met other there f (ap (λ (r : Reached). r.place) e.1 ∙ same))
      apart at other here there (inr e) (inr f) same = e.0 ∙ sym f.0

  pub search_push : (low : ℕ) → IsSearch s seen reached low → more.place < length seen
      → get_or seen more.place false ≡ false → low ≤ length reached
      → IsStep s reached (length reached) more.place more.by
      → IsReachable s seen more.place → has_room s.capacities s.given more.place ≡ false → IsSearch
      s (set seen more.place true) (reached ++ more ∷ []) low
  search_push low h inside new up step reach full = record {
    tree = tree_push h.tree h.marked new step;
    marked = λ at here e. marked at here (get-push_cases reached more at here e);
    reachable = λ place e. reachable_still s seen (set seen more.place true) place
        (seen_still seen more.place) (reachable place (seen_cases seen more.place place e));
    full = λ place e. filled place (seen_cases seen more.place place e);
    waiting = λ place e. waiting place (seen_cases seen more.place place e);
  }
    where
      marked : (at : ℕ) (here : Reached)
          → (slice_get reached at ≡ Some here) ⊎ ((at ≡ length reached) × (more ≡ here))
          → IsSeen (set seen more.place true) here.place
      marked at here (inl e) = seen_still seen more.place here.place (h.marked at here e)
      marked at here (inr e) = subst (λ (r : Reached). IsSeen (set seen more.place true) r.place)
          e.1 (seen_here seen more.place inside)

      reachable : (place : ℕ) → (place ≡ more.place) ⊎ IsSeen seen place → IsReachable s seen place
      reachable place (inl e) = rw e reach
      reachable place (inr e) = h.reachable place e

      filled : (place : ℕ) → (place ≡ more.place) ⊎ IsSeen seen place
          → has_room s.capacities s.given place ≡ false
      filled place (inl e) = rw e full
      filled place (inr e) = h.full place e

      waiting : (place : ℕ) → (place ≡ more.place) ⊎ IsSeen seen place
          → IsShutFrom s (set seen more.place true) place (s.item + 1) ⊎ IsWaiting
          (reached ++ more ∷ []) low place
      waiting place (inl e) = inr (length reached, more, up, get-push_last reached more, sym e)
      waiting place (inr e) = either (h.waiting place e)
        where
          either : IsShutFrom s seen place (s.item + 1) ⊎ IsWaiting reached low place
              → IsShutFrom s (set seen more.place true) place (s.item + 1) ⊎ IsWaiting
              (reached ++ more ∷ []) low place
          either (inl shut) = inl (shut_still s seen (set seen more.place true) place (s.item + 1)
              (seen_still seen more.place) shut)
          either (inr waits) = inr (waiting_still reached more low place waits)

  pub found_push : (low : ℕ) → IsSearch s seen reached low → get_or seen more.place false ≡ false
      → IsStep s reached (length reached) more.place more.by
      → has_room s.capacities s.given more.place ≡ true
      → IsFound s (reached ++ more ∷ [])
  found_push low h new step room = record {
    tree = tree_push h.tree h.marked new step;
    last = more;
    is_last = (let e = length_push reached more in let n : length (reached ++ more ∷ []) - 1 ≡
        length reached = omega (arith, e) in rw n (get-push_last reached more));
    room = room;
  }

  pub goes_push : more.place < length seen → get_or seen more.place false ≡ false
      → GoesOn seen (set seen more.place true) reached (reached ++ more ∷ [])
  goes_push inside new = record {
    places = length-set seen more.place true;
    seen = seen_still seen more.place;
    reached = λ at here e. get-push_old reached more at here e;
    left = (let a = unseen-set seen more.place inside new in let b = length_push reached more in
        omega (arith, a, b));
  }

pub goes_same : (seen : List Bool) (reached : List Reached) → GoesOn seen seen reached reached
goes_same seen reached = record {
  places = refl;
  seen = λ place e. e;
  reached = λ at here e. e;
  left = refl;
}

pub goes_further : (old mid new : List Bool) (a b c : List Reached) → GoesOn old mid a b
    → GoesOn mid new b c → GoesOn old new a c
goes_further old mid new a b c g h = record {
  places = h.places ∙ g.places;
  seen = λ place e. h.seen place (g.seen place e);
  reached = λ at here e. h.reached at here (g.reached at here e);
  left = h.left ∙ g.left;
}

-- the place at the number has been gone through
pub search_next : (s : Instance) (seen : List Bool) (reached : List Reached) (at : ℕ) (here : Reached)
    → slice_get reached at ≡ Some here → IsShutFrom s seen here.place (s.item + 1)
    → IsSearch s seen reached at
    → IsSearch s seen reached (at + 1)
search_next s seen reached at here is shut h = record {
  tree = h.tree;
  marked = h.marked;
  reachable = h.reachable;
  full = h.full;
  waiting = λ place e. either place (h.waiting place e);
}
  where
    either : (place : ℕ) → IsShutFrom s seen place (s.item + 1) ⊎ IsWaiting reached at place
        → IsShutFrom s seen place (s.item + 1) ⊎ IsWaiting reached (at + 1) place
    either place (inl g) = inl g
    either place (inr w) = which (cases_eq w.0 at)
      where
        which : (w.0 ≡ at) ⊎ (w.0 ≡ at → ⊥)
            → IsShutFrom s seen place (s.item + 1) ⊎ IsWaiting reached (at + 1) place
        which (inl e) =
            let one : slice_get reached at ≡ Some w.1 = sym (ap (slice_get reached) e) ∙ w.3 in
            let same : here ≡ w.1 = cc in
            let q : here.place ≡ place = ap (λ (r : Reached). r.place) same ∙ w.4 in
            inl (rw q at shut)
        which (inr n) = let l = w.2 in inr (w.0, w.1, omega (arith, n, l), w.3, w.4)

-- a search that has gone through all
pub search_ends : (s : Instance) (seen : List Bool) (reached : List Reached) (low : ℕ)
    → length reached ≤ low → IsSearch s seen reached low → IsClosed s seen
search_ends s seen reached low l h = record {
  reachable = h.reachable;
  full = h.full;
  shut = λ place e. either place (h.waiting place e);
}
  where
    either : (place : ℕ) → IsShutFrom s seen place (s.item + 1) ⊎ IsWaiting reached low place
        → IsShutFrom s seen place (s.item + 1)
    either place (inl g) = g
    either place (inr w) = let a = slice_get_within reached w.0 w.1 w.3 in let b = w.2 in absurd
        (omega (arith, a, b, l))

-- a search that begins, where what was seen before is closed
module _ (s : Instance) (seen : List Bool) (place : ℕ) where
  abbrev pub start : List Reached
  start = record { place = place; by = None } ∷ []

  pub tree_begins : IsAlternatingTree s start
  tree_begins = record {
    steps = λ at here e. steps at here e;
    apart = λ at other here there e f same. apart at other here there e f;
  }
    where
      steps : (at : ℕ) (here : Reached) → slice_get start at ≡ Some here
          → IsStep s start at here.place here.by
      steps zero here e =
          let same : ◌≡◌ {A = Reached} (record { place = place; by = None }) here = cc in
          subst (λ (r : Reached). IsStep s start 0 r.place r.by) same refl
      steps (suc at) here e = absurd (cc)

      apart : (at other : ℕ) (here there : Reached) → slice_get start at ≡ Some here
          → slice_get start other ≡ Some there → at ≡ other
      apart zero zero here there e f = refl
      apart zero (suc other) here there e f = absurd (cc)
      apart (suc at) other here there e f = absurd (cc)

  pub search_begins : IsClosed s seen → place < length seen → Contains (row_at s.rows s.item) place
      → has_room s.capacities s.given place ≡ false → IsSearch s (set seen place true) start 0
  search_begins h inside near full = record {
    tree = tree_begins;
    marked = λ at here e. marked at here e;
    reachable = λ p e. reachable_still s seen (set seen place true) p (seen_still seen place)
        (reachable p (seen_cases seen place p e));
    full = λ p e. filled p (seen_cases seen place p e);
    waiting = λ p e. waiting p (seen_cases seen place p e);
  }
    where
      marked : (at : ℕ) (here : Reached) → slice_get start at ≡ Some here
          → IsSeen (set seen place true) here.place
      marked zero here e =
          let same : ◌≡◌ {A = Reached} (record { place = place; by = None }) here = cc in
          subst (λ (r : Reached). IsSeen (set seen place true) r.place) same
          (seen_here seen place inside)
      marked (suc at) here e = absurd (cc)

      reachable : (p : ℕ) → (p ≡ place) ⊎ IsSeen seen p → IsReachable s seen p
      reachable p (inl e) = inl (rw e near)
      reachable p (inr e) = h.reachable p e

      filled : (p : ℕ) → (p ≡ place) ⊎ IsSeen seen p → has_room s.capacities s.given p ≡ false
      filled p (inl e) = rw e full
      filled p (inr e) = h.full p e

      waiting : (p : ℕ) → (p ≡ place) ⊎ IsSeen seen p
          → IsShutFrom s (set seen place true) p (s.item + 1) ⊎ IsWaiting start 0 p
      waiting p (inl e) = inr (0, record { place = place; by = None }, omega arith, refl, sym e)
      waiting p (inr e) = inl (shut_still s seen (set seen place true) p (s.item + 1)
          (seen_still seen place) (h.shut p e))

  pub found_begins : has_room s.capacities s.given place ≡ true → IsFound s start
  found_begins room = record {
    tree = tree_begins;
    last = record { place = place; by = None };
    is_last = refl;
    room = room;
  }

-- an element of a list that is the row
pub near : (row items : List ℕ) (k : ℕ) → items ≡ row → k < length items
    → Contains row (get_or items k 0)
near row items k e l = subst (λ r. Contains r (get_or items k 0)) e (Contains-get_or items k 0 l)

-- it is inside where the places of all rows are
pub near_inside : (rows : List (List ℕ)) (count item : ℕ) (items : List ℕ) (k : ℕ) → AreInside rows count → items ≡ row_at rows item
    → k < length items
    → get_or items k 0 < count
near_inside rows count item items k inside e l = inside item (get_or items k 0) (near (row_at rows item) items k e l)

pub row_seen : (seen : List Bool) (row items : List ℕ) → items ≡ row
    → ((k : ℕ) → k < length items → IsSeen seen (get_or items k 0)) → IsRowSeen seen row
row_seen seen row items e h = rw (← e) (λ place c. let r = h c.0 c.1 in let d = get_or_default items
    c.0 0 place c.1 ∙ c.2 in rw d at r)

-- a place of the row of a later user
module _ (s : Instance) (seen : List Bool) (reached : List Reached) (by : Move) (place : ℕ) where
  pub step_by : s.item < by.item → IsUserAt s.given reached by.item by.from
      → Contains (row_at s.rows by.item) place → IsStep s reached (length reached) place (Some by)
  step_by later user c = (
    user.0,
    slice_get_within reached by.from user.0 user.1,
    user.1,
    later,
    user.2,
    c,
  )

  pub row_push : IsSearch s seen reached by.from → s.item < by.item
      → IsUserAt s.given reached by.item by.from → Contains (row_at s.rows by.item) place
      → get_or seen place false ≡ false → place < length seen
      → has_room s.capacities s.given place ≡ false → IsSearch s (set seen place true)
      (reached ++ record { place = place; by = Some by } ∷ []) by.from
  row_push h later user c new inside full =
      let before = slice_get_within reached by.from user.0 user.1 in
      let reach : IsReachable s seen place = inr (
        user.0.place,
        by.item,
        h.marked by.from user.0
            user.1,
        later,
        user.2,
        c,
      ) in
      search_push s seen reached (record { place = place; by = Some by }) by.from h inside new
      (omega (arith, before)) (step_by later user c) reach full

  pub row_found : IsSearch s seen reached by.from → s.item < by.item
      → IsUserAt s.given reached by.item by.from → Contains (row_at s.rows by.item) place
      → get_or seen place false ≡ false
      → has_room s.capacities s.given place ≡ true → IsFound s
      (reached ++ record { place = place; by = Some by } ∷ [])
  row_found h later user c new room = found_push s seen reached
      (record { place = place; by = Some by }) by.from h new (step_by later user c) room

pub user_still : (given : List (Option ℕ)) (before after : List Reached) (item at : ℕ)
    → ((k : ℕ) (here : Reached) → slice_get before k ≡ Some here → slice_get after k ≡ Some here)
    → IsUserAt given before item at → IsUserAt given after item at
user_still given before after item at up u = (u.0, up at u.0 u.1, u.2)

-- what a read of a mark says
pub read_false : (seen : List Bool) (place : ℕ) (read : Bool) → place < length seen
    → read ≡ get_or seen place read → read ≡ false → get_or seen place false ≡ false
read_false seen place read l e f = sym (get_or_read seen place read l e false) ∙ f

pub read_true : (seen : List Bool) (place : ℕ) (read : Bool) → place < length seen
    → read ≡ get_or seen place read → read ≡ true → IsSeen seen place
read_true seen place read l e f = sym (get_or_read seen place read l e false) ∙ f

-- the places of a row up to one more are seen
pub next_seen : (old new : List Bool) (items : List ℕ) (i : ℕ)
    → ((p : ℕ) → IsSeen old p → IsSeen new p) → IsSeen new (get_or items i 0)
    → ((k : ℕ) → k < i → IsSeen old (get_or items k 0)) → (k : ℕ) → k < i + 1
    → IsSeen new (get_or items k 0)
next_seen old new items i up here h k l = either (cases_eq k i)
  where
    either : (k ≡ i) ⊎ (k ≡ i → ⊥) → IsSeen new (get_or items k 0)
    either (inl e) = rw e here
    either (inr n) = up (get_or items k 0) (h k (omega (arith, n, l)))

-- what one more place of a row does to a search
pub record RowStep (s : Instance) (old new : List Bool) (before after : List Reached)
    (place low : ℕ) : Type 0 where
  pub goes_on : GoesOn old new before after
  pub here : IsSeen new place
  pub full : has_room s.capacities s.given place ≡ false → IsSearch s new after low
  pub found : has_room s.capacities s.given place ≡ true → IsFound s after

pub row_step : (s : Instance) (seen new : List Bool) (before reached after : List Reached) (by : Move)
    (place : ℕ) → IsSearch s seen reached by.from → s.item < by.item
    → ((k : ℕ) (here : Reached) → slice_get before k ≡ Some here → slice_get reached k ≡ Some here)
    → IsUserAt s.given before by.item by.from → Contains (row_at s.rows by.item) place → place <
    length seen → get_or seen place false ≡ false → new ≡ set seen place true
    → after ≡ reached ++ record { place = place; by = Some by } ∷ [] → RowStep s seen new reached
    after place by.from
row_step s seen new before reached after by place h later up user c inside unseen e f =
    let at = user_still s.given before reached by.item by.from up user in
    rw (e, f) (record {
      goes_on = goes_push s seen reached (record { place = place; by = Some by }) inside unseen;
      here = seen_here seen place inside;
      full = λ full. row_push s seen reached by place h later at c unseen inside full;
      found = λ room. row_found s seen reached by place h later at c unseen room;
    })

-- the lesser places of a row stand before
pub lesser_seen : (seen : List Bool) (row : List ℕ) (i : ℕ) → IsNonDecreasing row → i < length row
    → ((k : ℕ) → k < i → IsSeen seen (get_or row k 0)) → (place : ℕ) → Contains row place
    → place < get_or row i 0 → IsSeen seen place
lesser_seen seen row i up inside h place c less = either (cases_lt c.0 i)
  where
    there : get_or row c.0 0 ≡ place
    there = get_or_default row c.0 0 place c.1 ∙ c.2

    either : (c.0 < i) ⊎ (i ≤ c.0) → IsSeen seen place
    either (inl l) = let r = h c.0 l in rw there at r
    either (inr l) = let r = up i c.0 0 l c.1 in let e = there in absurd (omega (arith, r, e, less))

pub least_path : (s : Instance) (seen : List Bool) (reached : List Reached) (items : List ℕ) (i : ℕ)
    → items ≡ row_at s.rows s.item → IsNonDecreasing (row_at s.rows s.item) → i < length items
    → IsClosed s seen
    → ((k : ℕ) → k < i → IsSeen seen (get_or items k 0)) → IsFoundFrom s reached (get_or items i 0)
    → IsLeastPath s reached
least_path s seen reached items i e up inside closed h f = record {
  found = f.found;
  first = record { place = get_or items i 0; by = None };
  is_first = f.begins;
  neighbour = near (row_at s.rows s.item) items i e inside;
  closed = seen;
  is_closed = closed;
  least = λ place c less. lesser_seen seen items i (rw e up) inside h place (rw e c) less;
}

-- the same of the next place of the row, which is read as not seen
pub row_next : (s : Instance) (seen new : List Bool) (before reached after : List Reached) (by : Move)
    (items : List ℕ) (i : ℕ) (read : Bool) → IsSearch s seen reached by.from → s.item < by.item
    → ((k : ℕ) (here : Reached) → slice_get before k ≡ Some here → slice_get reached k ≡ Some here)
    → IsUserAt s.given before by.item by.from → items ≡ row_at s.rows by.item → i < length items
    → AreInside s.rows (length seen) → read ≡ get_or seen (get_or items i 0) read → read ≡ false
    → new ≡ set seen (get_or items i 0) true
    → after ≡ reached ++ record { place = get_or items i 0; by = Some by } ∷ []
    → RowStep s seen new reached after (get_or items i 0) by.from
row_next s seen new before reached after by items i read h later up user row l inside reads off =
    let contained = near (row_at s.rows by.item) items i row l in
    let within = inside by.item (get_or items i 0) contained in
    row_step s seen new before reached after by (get_or items i 0) h later up user contained within
    (read_false seen (get_or items i 0) read within reads off)
