-- The least matching, item by item.
use Rattle.std.proofs.Common.{ℕ, ◌≡◌, ◌<◌, ◌+◌, List, [], ◌∷◌, length, get_or, take, arith, suc, sym, ◌∙◌, ap, refl, cond, Option}
use Rattle.std.proofs.Common.{Some, None, inl, inr}
use Rattle.std.specs.Prelude.{◌⊎◌}
use Rattle.std.proofs.lemmas.Bool.{cases_eq, cases_order}
use Rattle.std.proofs.lemmas.List.{length-take-le, get_or-take, ext_get_or}
use Rattle.hall_match.specs.Holding.{is_at, given_at, holder_count, IsPartialMatching}
use Rattle.hall_match.specs.Matchings.{IsMatching, IsBefore, IsLeast, uses}
use Rattle.hall_match.specs.Rows.{HaveEdges}
use Rattle.hall_match.specs.Search.{Instance}
use Rattle.hall_match.specs.Settling.{Settles}
use Rattle.hall_match.specs.Settling.{AgreesTo, IsUpTo}
use Rattle.hall_match.proofs.CountLemmas.{count-cons}
use Rattle.hall_match.proofs.ExclusionLemmas.{excluded}

-- one more item is settled: no other matching that agrees so far gives it a lesser place
pub up_to_next : (s : Instance) (left : ℕ) (edges : List (ℕ × ℕ)) (given new : List (Option ℕ))
    (other : List ℕ) → HaveEdges s.rows edges → length s.given ≡ left → s.item < left
    → given_at s.given s.item ≡ None
    → ((k : ℕ) → k < s.item → given_at s.given k ≡ given_at given k) → Settles s new → IsMatching
    left s.capacities edges other → IsUpTo given s.item other → IsUpTo new (s.item + 1) other
up_to_next s left edges given new other rows whole inside free stood settled m (inr w) =
    let l = w.2 in
    inr (
      w.0,
      w.1,
      omega (arith, l),
      λ k below. settled.before k (omega (arith, below, l)) ∙ stood k
          (omega (arith, below, l)) ∙ w.3 k below,
      settled.before w.0 l ∙ stood w.0 l ∙ w.4,
      w.5,
    )
up_to_next s left edges given new other rows whole inside free stood settled m (inl agrees) = either
    (cases_order settled.place there)
  where
    there : ℕ
    there = get_or other s.item 0

    still : AgreesTo new s.item other
    still = λ k l. settled.before k l ∙ stood k l ∙ agrees k l

    either : (settled.place ≡ there) ⊎ ((settled.place < there) ⊎ (there < settled.place))
        → IsUpTo new (s.item + 1) other
    either (inl e) = inl (λ k l. more k l (cases_eq k s.item))
      where
        more : (k : ℕ) → k < s.item + 1 → (k ≡ s.item) ⊎ (k ≡ s.item → ⊥)
            → given_at new k ≡ Some (get_or other k 0)
        more k l (inl same) = ap (given_at new) same ∙ settled.here ∙ ap Some
            (e ∙ sym (ap (λ i. get_or other i 0) same))
        more k l (inr n) = still k (omega (arith, n, l))
    either (inr (inl l)) = inr (s.item, settled.place, omega arith, still, settled.here, l)
    either (inr (inr l)) = absurd (excluded s left edges settled.closed other rows whole inside free
        (λ k below. stood k below ∙ agrees k below) settled.is_closed m
        (settled.least there ((rows s.item there).1 (m.neighbours s.item inside)) l))

-- a list of the places that items are given has each place as often
pub uses_are : (given : List (Option ℕ)) (list : List ℕ) (place : ℕ) → length given ≡ length list
    → ((k : ℕ) → k < length given → given_at given k ≡ Some (get_or list k 0))
    → uses place list ≡ holder_count place given
uses_are [] [] place e h = refl
uses_are [] (x ∷ xs) place e h = absurd (omega (arith, e))
uses_are (g ∷ gs) [] place e h = absurd (omega (arith, e))
uses_are (g ∷ gs) (x ∷ xs) place e h =
    let a = count-cons (λ y. is_at place (Some y)) x xs in
    let b = count-cons (is_at place) g gs in
    let r = uses_are gs xs place (omega (arith, e)) (λ k l. h (suc k) (omega (arith, l))) in
    let first : g ≡ Some x = h 0 (omega arith) in
    let same = ap (λ o. cond {A = ℕ} (is_at place o) 1 0) first in omega (arith, a, b, r, same)

module _ (left : ℕ) (capacities : List (Option ℕ)) (rows : List (List ℕ)) (edges : List (ℕ × ℕ))
    (given : List (Option ℕ)) (list : List ℕ) (have : HaveEdges rows edges)
    (whole : length given ≡ left) (long : length list ≡ length given)
    (held : IsPartialMatching capacities rows given) (all : (k : ℕ) → k < length given → given_at given k ≡
    Some (get_or list k 0)) where
  pub matching_from : IsMatching left capacities edges list
  matching_from = record {
    whole = long ∙ whole;
    neighbours = λ item l. (have item (get_or list item 0)).0
        (held.neighbours item (get_or list item 0) (all item (omega (arith, l, whole))));
    within = λ place most e. let a = uses_are given list place (sym long) all in let b = held.within
        place most e in omega (arith, a, b);
  }

  -- a matching that the list is up to is the list, or is after it
  pub after : (other : List ℕ) → IsMatching left capacities edges other → IsUpTo given left other
      → (other ≡ list) ⊎ IsBefore list other
  after other m (inl agrees) = inl (ext_get_or 0 other list (let a = m.whole in omega
      (arith, a, whole, long)) (λ k l. same k (let a = m.whole in omega (arith, a, l))))
    where
      same : (k : ℕ) → k < left → get_or other k 0 ≡ get_or list k 0
      same k l = let a = agrees k l in let b = all k (omega (arith, l, whole)) in cc
  after other m (inr w) = inr (record {
    item = w.0;
    inside = inside;
    same = ext_get_or 0 (take w.0 list) (take w.0 other) (long_front ∙ sym other_front)
        (λ k l. fronts k (let a = long_front in omega (arith, a, l)));
    less = (let here : get_or list w.0 0 ≡ w.1 = place in let l = w.5 in omega (arith, here, l));
  })
    where
      inside : w.0 < length list
      inside = let l = w.2 in omega (arith, l, whole, long)

      long_front : length (take w.0 list) ≡ w.0
      long_front = let l = inside in length-take-le w.0 list (omega (arith, l))

      other_front : length (take w.0 other) ≡ w.0
      other_front = let l = w.2 in let a = m.whole in length-take-le w.0 other (omega (arith, l, a))

      place : get_or list w.0 0 ≡ w.1
      place = let l = w.2 in let a = w.4 in let b = all w.0 (omega (arith, l, whole)) in cc

      fronts : (k : ℕ) → k < w.0 → get_or (take w.0 list) k 0 ≡ get_or (take w.0 other) k 0
      fronts k l =
          let a = w.3 k l in
          let h = w.2 in
          let b = all k (omega (arith, l, h, whole)) in
          let same : get_or list k 0 ≡ get_or other k 0 = cc in
          get_or-take w.0 list k 0 l ∙ same ∙ sym (get_or-take w.0 other k 0 l)

  pub least_from : ((other : List ℕ) → IsMatching left capacities edges other → IsUpTo given left
      other) → IsLeast left capacities edges list
  least_from h = record {
    matching = matching_from;
    least = λ other m. after other m (h other m);
  }
