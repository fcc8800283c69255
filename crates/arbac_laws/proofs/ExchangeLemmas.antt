-- What a population meets before and after one user's set is exchanged.
use Rattle.std.proofs.Common.{ℕ, ◌≡◌, ◌<◌, List, [], ◌∷◌, ◌++◌, length, Some, arith, zero, suc, sym, ◌∙◌, ap, eqb, cond, subst}
use Rattle.std.proofs.Common.{refl, inl, inr}
use Rattle.std.specs.Prelude.{slice_get, slice_set, ◌⊎◌}
use Rattle.std.proofs.lemmas.Bool.{eq-eqb, ne_eqb}
use Rattle.role_order.specs.Roles.{HaveCommon}
use Rattle.arbac_laws.specs.Needs.{Meets, MeetsNeed, Need}
use Rattle.arbac_laws.specs.PreImages.{IsPick, Pick, add_hit, admin_place, change_at, with_admin, itself, other, fresh}
use Rattle.list_words.proofs.NumberLemmas.{cases_eq}
use Rattle.list_words.proofs.EmbedLemmas.{find_place}
use Rattle.list_words.proofs.GetLemmas.{get_append, get_below, get_last, get_set_other, get_set_same, get_there, length_more, length_set}

pub length_change : (needs : List Need) (i : ℕ) (f : Need → Need) → length (change_at i f needs) ≡ length needs
length_change [] i f = refl
length_change (x ∷ xs) zero f = refl
length_change (x ∷ xs) (suc i) f = ap suc (length_change xs i f)

pub get_change_same : (needs : List Need) (i : ℕ) (f : Need → Need) (x : Need) → slice_get needs i ≡ Some x
    → slice_get (change_at i f needs) i ≡ Some (f x)
get_change_same [] i f x e = cc
get_change_same (y ∷ ys) zero f x e = let same : y ≡ x = cc in ap (λ z. Some (f z)) same
get_change_same (y ∷ ys) (suc i) f x e = get_change_same ys i f x e

pub get_change_other : (needs : List Need) (i j : ℕ) (f : Need → Need) → (i ≡ j → ⊥) → slice_get (change_at i f needs) j ≡ slice_get needs j
get_change_other [] i j f n = refl
get_change_other (x ∷ xs) zero zero f n = absurd (n refl)
get_change_other (x ∷ xs) zero (suc j) f n = refl
get_change_other (x ∷ xs) (suc i) zero f n = refl
get_change_other (x ∷ xs) (suc i) (suc j) f n = get_change_other xs i j f (λ e. n (ap suc e))

-- the map, and a user who has one of the roles
pub record Peeled (users : List (List ℕ)) (needs : List Need) (hit : List ℕ) (admin : ℕ) (to : ℕ → ℕ) : Type 0 where
  pub map : Meets users needs
  pub kept : (i : ℕ) → map.to i ≡ to i
  pub by : List ℕ
  pub by_is : slice_get users admin ≡ Some by
  pub common : HaveCommon hit by

pub peel_hit : (users : List (List ℕ)) (needs : List Need) (hit : List ℕ) (j : ℕ) → j < length needs
    → (f : Meets users (change_at j (add_hit hit) needs)) → Peeled users needs hit (f.to j) f.to
peel_hit users needs hit j l f = record {
  map = record {
    to = f.to;
    apart = λ a b la lb e. f.apart a b (rw (length_change needs j (add_hit hit)) la) (rw (length_change needs j (add_hit hit)) lb) e;
    each = λ i x at. by_place i x at (cases_eq j i);
  };
  kept = λ i. refl;
  by = user.0;
  by_is = user.1;
  common = user.2.hits.0;
}
  where
    need : (x : Need) × (slice_get needs j ≡ Some x)
    need = get_there needs j l

    user : (y : List ℕ) × (slice_get users (f.to j) ≡ Some y) × MeetsNeed (add_hit hit need.0) y
    user = f.each j (add_hit hit need.0) (get_change_same needs j (add_hit hit) need.0 need.1)

    by_place : (i : ℕ) (x : Need) → slice_get needs i ≡ Some x → (j ≡ i) ⊎ (j ≡ i → ⊥) → (y : List ℕ)
        × (slice_get users (f.to i) ≡ Some y)
        × MeetsNeed x y
    by_place i x at (inr else') = f.each i x (get_change_other needs j i (add_hit hit) else' ∙ at)
    by_place i x at (inl here) =
        let one = f.each i (add_hit hit x) (ap (λ k. slice_get (change_at k (add_hit hit) needs) i) here ∙ get_change_same needs i (add_hit hit) x at) in
        (one.0, one.1, record { hits = one.2.hits.1; lacks = one.2.lacks })

pub peel_fresh : (users : List (List ℕ)) (needs : List Need) (hit : List ℕ)
    → (f : Meets users (needs ++ record { hits = hit ∷ []; lacks = [] } ∷ [])) → Peeled users needs hit (f.to (length needs)) f.to
peel_fresh users needs hit f = record {
  map = record {
    to = f.to;
    apart = λ a b la lb e. f.apart a b (longer a la) (longer b lb) e;
    each = λ i x at. f.each i x (get_append needs last i (get_below needs i x at) ∙ at);
  };
  kept = λ i. refl;
  by = user.0;
  by_is = user.1;
  common = user.2.hits.0;
}
  where
    last : Need
    last = record { hits = hit ∷ []; lacks = [] }

    user : (y : List ℕ) × (slice_get users (f.to (length needs)) ≡ Some y) × MeetsNeed last y
    user = f.each (length needs) last (get_last needs last)

    longer : (a : ℕ) → a < length needs → a < length (needs ++ last ∷ [])
    longer a l = let e = length_more needs last in omega (arith, e)

pub peel : (users : List (List ℕ)) (needs : List Need) (hit : List ℕ) (pick : Pick) (target : ℕ) → target < length needs
    → IsPick pick target (length needs)
    → (f : Meets users (with_admin pick target hit needs)) → Peeled users needs hit (f.to (admin_place pick target (length needs))) f.to
peel users needs hit itself target l is f = peel_hit users needs hit target l f
peel users needs hit (other place) target l is f = peel_hit users needs hit place is.0 f
peel users needs hit fresh target l is f = peel_fresh users needs hit f

-- one user's need was exchanged for another: who meets the needs, and then has a set that meets the first, meets the first needs
pub exchanged : (users : List (List ℕ)) (needs : List Need) (t : ℕ) (need before : Need) → slice_get needs t ≡ Some need
    → (f : Meets users (slice_set needs t before))
    → (new : List ℕ) → MeetsNeed need new → (m : Meets (slice_set users (f.to t) new) needs) × ((i : ℕ) → m.to i ≡ f.to i)
exchanged users needs t need before at f new meets = (
  record {
    to = f.to;
    apart = λ a b la lb e. f.apart a b (rw (length_set needs t before) la) (rw (length_set needs t before) lb) e;
    each = λ i x is. by_place i x is (cases_eq t i);
  },
  λ i. refl,
)
  where
    target : (y : List ℕ) × (slice_get users (f.to t) ≡ Some y) × MeetsNeed before y
    target = f.each t before (get_set_same needs t before (get_below needs t need at))

    by_place : (i : ℕ) (x : Need) → slice_get needs i ≡ Some x → (t ≡ i) ⊎ (t ≡ i → ⊥) → (y : List ℕ)
        × (slice_get (slice_set users (f.to t) new) (f.to i) ≡ Some y) × MeetsNeed x y
    by_place i x is (inl here) =
        let same : need ≡ x = cc in (
          new,
          ap (λ k. slice_get (slice_set users (f.to t) new) (f.to k)) (sym here)
              ∙ get_set_same users (f.to t) new (get_below users (f.to t) target.0 target.1),
          subst (λ n. MeetsNeed n new) same meets,
        )
    by_place i x is (inr else') =
        let one = f.each i x (get_set_other needs t i before else' ∙ is) in
        (one.0, get_set_other users (f.to t) (f.to i) new moved ∙ one.1, one.2)
      where
        moved : f.to t ≡ f.to i → ⊥
        moved e = else' (f.apart t i (rw (length_set needs t before) (get_below needs t need at)) (rw (length_set needs t before) (get_below needs i x is)) e)

-- no need goes to the user whose set was exchanged
pub untouched : (users : List (List ℕ)) (needs : List Need) (p : ℕ) (new : List ℕ) (f : Meets (slice_set users p new) needs)
    → ((i : ℕ) → i < length needs → f.to i ≡ p → ⊥) → Meets users needs
untouched users needs p new f none = record {
  to = f.to;
  apart = f.apart;
  each = λ i x is.
      let one = f.each i x is in
      (one.0, sym (get_set_other users p (f.to i) new (λ e. none i (get_below needs i x is) (sym e))) ∙ one.1, one.2);
}

-- the need at t goes to the user whose set was exchanged, and his old set meets another need: so the old population meets the needs with that one
pub put_target : (users : List (List ℕ)) (needs : List Need) (p t : ℕ) (set new : List ℕ) (before : Need) → slice_get users p ≡ Some set
    → (f : Meets (slice_set users p new) needs) → t < length needs → f.to t ≡ p → MeetsNeed before set
    → (g : Meets users (slice_set needs t before)) × ((i : ℕ) → g.to i ≡ f.to i)
put_target users needs p t set new before set_is f l goes meets = (
  record {
    to = f.to;
    apart = λ a b la lb e. f.apart a b (rw (length_set needs t before) at la) (rw (length_set needs t before) at lb) e;
    each = λ i x is. by_place i x is (cases_eq t i);
  },
  λ i. refl,
)
  where
    by_place : (i : ℕ) (x : Need) → slice_get (slice_set needs t before) i ≡ Some x → (t ≡ i) ⊎ (t ≡ i → ⊥) → (y : List ℕ)
        × (slice_get users (f.to i) ≡ Some y) × MeetsNeed x y
    by_place i x is (inl here) =
        let there : slice_get (slice_set needs t before) i ≡ Some before = ap (λ k. slice_get (slice_set needs t before) k) (sym here)
        ∙ get_set_same needs t before l in
        let same : before ≡ x = cc in
        (set, ap (λ k. slice_get users (f.to k)) (sym here) ∙ ap (slice_get users) goes ∙ set_is, subst (λ n. MeetsNeed n set) same meets)
    by_place i x is (inr else') =
        let there = sym (get_set_other needs t i before else') ∙ is in
        let one = f.each i x there in
        (one.0, sym (get_set_other users p (f.to i) new (moved there)) ∙ one.1, one.2)
      where
        moved : slice_get needs i ≡ Some x → p ≡ f.to i → ⊥
        moved there e = else' (f.apart t i l (get_below needs i x there) (goes ∙ e))

pub put_hit : (users : List (List ℕ)) (needs : List Need) (hit : List ℕ) (j : ℕ) (by : List ℕ) (f : Meets users needs)
    → slice_get users (f.to j) ≡ Some by → HaveCommon hit by
    → Meets users (change_at j (add_hit hit) needs)
put_hit users needs hit j by f by_is common = record {
  to = f.to;
  apart = λ a b la lb e. f.apart a b (rw (length_change needs j (add_hit hit)) at la) (rw (length_change needs j (add_hit hit)) at lb) e;
  each = λ i x is. by_place i x is (cases_eq j i);
}
  where
    by_place : (i : ℕ) (x : Need) → slice_get (change_at j (add_hit hit) needs) i ≡ Some x → (j ≡ i) ⊎ (j ≡ i → ⊥) → (y : List ℕ)
        × (slice_get users (f.to i) ≡ Some y) × MeetsNeed x y
    by_place i x is (inr else') = f.each i x (sym (get_change_other needs j i (add_hit hit) else') ∙ is)
    by_place i x is (inl here) =
        let old = get_there needs i (rw (length_change needs j (add_hit hit)) at (get_below (change_at j (add_hit hit) needs) i x is)) in
        let one = f.each i old.0 old.1 in
        let there : slice_get (change_at j (add_hit hit) needs) i ≡ Some (add_hit hit old.0) =
        ap (λ k. slice_get (change_at k (add_hit hit) needs) i) here ∙ get_change_same needs i (add_hit hit) old.0 old.1 in
        let same : add_hit hit old.0 ≡ x = cc in
        let here_is : slice_get users (f.to i) ≡ Some by = ap (λ k. slice_get users (f.to k)) (sym here) ∙ by_is in
        let who : by ≡ one.0 = cc in
        (one.0, one.1, subst (λ n. MeetsNeed n one.0) same (record { hits = (subst (λ s. HaveCommon hit s) who common, one.2.hits); lacks = one.2.lacks }))

pub put_fresh : (users : List (List ℕ)) (needs : List Need) (hit : List ℕ) (a : ℕ) (by : List ℕ) (f : Meets users needs)
    → slice_get users a ≡ Some by → HaveCommon hit by
    → ((i : ℕ) → i < length needs → f.to i ≡ a → ⊥) → Meets users (needs ++ record { hits = hit ∷ []; lacks = [] } ∷ [])
put_fresh users needs hit a by f by_is common none = record {
  to = to;
  apart = λ i j li lj e. by_places i j li lj e (cases_eq i (length needs)) (cases_eq j (length needs));
  each = λ i x is. by_place i x is (cases_eq i (length needs));
}
  where
    last : Need
    last = record { hits = hit ∷ []; lacks = [] }

    to : ℕ → ℕ
    to i = cond (eqb i (length needs)) a (f.to i)

    to_last : (i : ℕ) → i ≡ length needs → to i ≡ a
    to_last i e = rw (eq-eqb i (length needs) e)

    to_old : (i : ℕ) → (i ≡ length needs → ⊥) → to i ≡ f.to i
    to_old i n = rw (ne_eqb i (length needs) n)

    below : (i : ℕ) → i < length (needs ++ last ∷ []) → (i ≡ length needs → ⊥) → i < length needs
    below i l n = let e = length_more needs last in omega (arith, e)

    by_places : (i j : ℕ) → i < length (needs ++ last ∷ []) → j < length (needs ++ last ∷ []) → to i ≡ to j
        → (i ≡ length needs) ⊎ (i ≡ length needs → ⊥) → (j ≡ length needs) ⊎ (j ≡ length needs → ⊥) → i ≡ j
    by_places i j li lj e (inl p) (inl q) = p ∙ sym q
    by_places i j li lj e (inl p) (inr n) = absurd (none j (below j lj n) (sym (to_old j n) ∙ sym e ∙ to_last i p))
    by_places i j li lj e (inr n) (inl q) = absurd (none i (below i li n) (sym (to_old i n) ∙ e ∙ to_last j q))
    by_places i j li lj e (inr n) (inr m) = f.apart i j (below i li n) (below j lj m) (sym (to_old i n) ∙ e ∙ to_old j m)

    meets_last : MeetsNeed last by
    meets_last = record { hits = (common, tt); lacks = λ role h held. cc }

    by_place : (i : ℕ) (x : Need) → slice_get (needs ++ last ∷ []) i ≡ Some x → (i ≡ length needs) ⊎ (i ≡ length needs → ⊥)
        → (y : List ℕ) × (slice_get users (to i) ≡ Some y) × MeetsNeed x y
    by_place i x is (inl p) =
        let there : slice_get (needs ++ last ∷ []) i ≡ Some last = ap (slice_get (needs ++ last ∷ [])) p ∙ get_last needs last in
        let same : last ≡ x = cc in
        (by, ap (slice_get users) (to_last i p) ∙ by_is, subst (λ n. MeetsNeed n by) same meets_last)
    by_place i x is (inr n) =
        let one = f.each i x (sym (get_append needs last i (below i (get_below (needs ++ last ∷ []) i x is) n)) ∙ is) in
        (one.0, ap (slice_get users) (to_old i n) ∙ one.1, one.2)

-- whoever the administrator is, one of the three has him
pub put_admin : (users : List (List ℕ)) (needs : List Need) (hit : List ℕ) (t a : ℕ) (by : List ℕ) (f : Meets users needs)
    → slice_get users a ≡ Some by → HaveCommon hit by
    → (pick : Pick) × IsPick pick t (length needs) × Meets users (with_admin pick t hit needs)
put_admin users needs hit t a by f by_is common = by_found (find_place f.to a (length needs))
  where
    by_found : ((j : ℕ) × (j < length needs) × (f.to j ≡ a)) ⊎ ((i : ℕ) → i < length needs → f.to i ≡ a → ⊥)
        → (pick : Pick) × IsPick pick t (length needs) × Meets users (with_admin pick t hit needs)
    by_found (inr none) = (fresh, tt, put_fresh users needs hit a by f by_is common none)
    by_found (inl found) = by_target (cases_eq found.0 t)
      where
        there : slice_get users (f.to found.0) ≡ Some by
        there = ap (slice_get users) found.2 ∙ by_is

        by_target : (found.0 ≡ t) ⊎ (found.0 ≡ t → ⊥) → (pick : Pick) × IsPick pick t (length needs) × Meets users (with_admin pick t hit needs)
        by_target (inl same) = (itself, tt, put_hit users needs hit t by f (ap (λ k. slice_get users (f.to k)) (sym same) ∙ there) common)
        by_target (inr else') = (other found.0, (found.1, else'), put_hit users needs hit found.0 by f there common)
