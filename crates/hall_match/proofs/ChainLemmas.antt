-- Chains of users, grown item by item.
use Rattle.std.proofs.Common.{ℕ, ◌≡◌, ◌<◌, ◌≤◌, ◌+◌, List, length, get_or, set, replicate, arith, sym, ◌∙◌, ap, refl, Option}
use Rattle.std.proofs.Common.{Some, None, inl, inr}
use Rattle.std.specs.Prelude.{◌⊎◌}
use Rattle.std.proofs.lemmas.Bool.{cases_eq}
use Rattle.std.proofs.lemmas.List.{length-set, get_or-set_same, get_or-set_other, get_or-replicate, length-replicate}
use Rattle.hall_match.specs.Holding.{given_at}
use Rattle.hall_match.specs.Chains.{IsLastUser, AreChains}

-- one more item, which is not given the place
pub wider : (given : List (Option ℕ)) (place low high : ℕ) (found : Option ℕ)
    → (given_at given high ≡ Some place → ⊥) → IsLastUser given place low high found
    → IsLastUser given place low (high + 1) found
wider given place low high None n h = λ item l below e. either item l e (cases_eq item high) below
  where
    either : (item : ℕ) → low ≤ item → given_at given item ≡ Some place
        → (item ≡ high) ⊎ (item ≡ high → ⊥) → item < high + 1 → ⊥
    either item l e (inl s) below = n (sym (ap (given_at given) s) ∙ e)
    either item l e (inr m) below = h item l (omega (arith, m, below)) e
wider given place low high (Some last) n h = (
  h.0,
  omega (arith, h.1),
  h.2,
  λ item l below e. either
      item l e (cases_eq item high) below,
)
  where
    either : (item : ℕ) → last + 1 ≤ item → given_at given item ≡ Some place
        → (item ≡ high) ⊎ (item ≡ high → ⊥) → item < high + 1 → ⊥
    either item l e (inl s) below = n (sym (ap (given_at given) s) ∙ e)
    either item l e (inr m) below = h.3 item l (omega (arith, m, below)) e

pub chains_none : (given : List (Option ℕ)) (low places items : ℕ)
    → AreChains given low low (replicate places None) (replicate items None)
chains_none given low places items = record {
  last = λ place below. let e = length-replicate {A = Option ℕ} places None in
      rw (get_or-replicate {A = Option ℕ} places place None None (omega (arith, e, below)))
      (λ item l m h. omega (arith, l, m));
  before = λ item place l below e. absurd (omega (arith, l, below));
}

pub chains_free : (given : List (Option ℕ)) (low high : ℕ) (ends links : List (Option ℕ))
    → given_at given high ≡ None → AreChains given low high ends links
    → AreChains given low (high + 1) ends links
chains_free given low high ends links free h = record {
  last = λ place below. wider given place low high (get_or ends place None) (λ e. cc)
      (h.last place below);
  before = λ item place l below e. h.before item place l (other item place below e) e;
}
  where
    other : (item place : ℕ) → item < high + 1 → given_at given item ≡ Some place → item < high
    other item place below e = either (cases_eq item high)
      where
        either : (item ≡ high) ⊎ (item ≡ high → ⊥) → item < high
        either (inl s) = let f : given_at given item ≡ None = ap (given_at given) s ∙ free in absurd
            (cc)
        either (inr n) = omega (arith, n, below)

pub chains_used : (given : List (Option ℕ)) (low high place : ℕ) (ends links : List (Option ℕ))
    → low ≤ high → given_at given high ≡ Some place → place < length ends → high < length links
    → AreChains given low high ends links → AreChains given low (high + 1)
    (set ends place (Some high)) (set links high (get_or ends place None))
chains_used given low high place ends links up is inside room h = record {
  last = λ q below. last q below (cases_eq q place);
  before = λ item q l below e. before item q l below e (cases_eq item high);
}
  where
    last : (q : ℕ) → q < length (set ends place (Some high)) → (q ≡ place) ⊎ (q ≡ place → ⊥)
        → IsLastUser given q low (high + 1) (get_or (set ends place (Some high)) q None)
    last q below (inl s) = rw (s, get_or-set_same ends place (Some high) None inside)
        (up, omega arith, is, λ item l m e. omega (arith, l, m))
    last q below (inr n) =
        let long = length-set ends place (Some high) in
        rw (get_or-set_other ends place q (Some high) None n)
        (wider given q low high (get_or ends q None) (λ e. n (cc))
        (h.last q (omega (arith, long, below))))

    before : (item q : ℕ) → low ≤ item → item < high + 1 → given_at given item ≡ Some q
        → (item ≡ high) ⊎ (item ≡ high → ⊥)
        → IsLastUser given q low item (get_or (set links high (get_or ends place None)) item None)
    before item q l below e (inl s) =
        let here : given_at given high ≡ Some q = sym (ap (given_at given) s) ∙ e in
        let same : q ≡ place = cc in
        rw (s, get_or-set_same links high (get_or ends place None) None room, same)
        (h.last place inside)
    before item q l below e (inr n) = rw (get_or-set_other links high item (get_or ends place None)
        None n) (h.before item q l (omega (arith, n, below)) e)

-- what is nothing is none
pub none_from : {X : Type 0} (given : Option X) → ((x : X) → given ≡ Some x → ⊥) → given ≡ None
none_from None n = refl
none_from (Some x) n = absurd (n x refl)
