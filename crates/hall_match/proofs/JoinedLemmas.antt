-- Matchings of the pairs that go together, and transversals.
use Rattle.std.proofs.Common.{ℕ, ◌≡◌, ◌<◌, ◌+◌, List, [], ◌∷◌, length, get_or, refl, arith, zero, suc, sym, subst, inl, inr, Option}
use Rattle.std.proofs.Common.{Some, None}
use Rattle.std.specs.Prelude.{◌⊎◌, ◌↔◌, Contains, slice_get, replicate, IfNone}
use Rattle.std.proofs.lemmas.List.{length-replicate, get_or_default}
use Rattle.list_words.specs.Embeds.{Embeds}
use Rattle.list_words.specs.Places.{ArePlaces}
use Rattle.list_words.proofs.GetLemmas.{get_below, get_there}
use Rattle.list_words.proofs.PlaceLemmas.{to_places}
use Rattle.hall_match.specs.Matchings.{ArePairsWithin, IsMatching, IsLeast}
use Rattle.hall_match.specs.declared.outcome.Matching.{Matching}
use Rattle.hall_match.specs.declared.outcome.Matching.TheVariants.{Matched, Deficient}
use Rattle.hall_match.specs.Outcome.{IfMatched, IfDeficient}
use Rattle.hall_match.specs.Joined.{AreJoined, OfPairs, IsTransversal, IsLeastTransversal, JoinsAt}
use Rattle.hall_match.proofs.EdgeLemmas.{HaveItems, item_more}
use Rattle.hall_match.proofs.OneLemmas.{matching_apart, apart_within}

-- the item goes with the place, which is below the number
abbrev pub GoesBelow : (ℕ → ℕ → Type 0) → ℕ → ℕ → ℕ → Type 0
GoesBelow Joins places k u = (u < places) × Joins k u

-- the pairs of the items so far, with those of the next one
pub row_more : (Joins : ℕ → ℕ → Type 0) (places : ℕ) (old new : List (ℕ × ℕ)) (at : ℕ) → HaveItems old at (GoesBelow Joins places)
    → ((k u : ℕ) → Contains new (k, u) ↔ (Contains old (k, u) ⊎ ((k ≡ at) × (u < places) × Joins at u)))
    → HaveItems new (at + 1) (GoesBelow Joins places)
row_more Joins places old new at before step =
    item_more old new at (GoesBelow Joins places) before (λ k u. (λ h. to k u ((step k u).0 h), λ h. (step k u).1 (from k u h)))
  where
    to : (k u : ℕ) → Contains old (k, u) ⊎ ((k ≡ at) × (u < places) × Joins at u) → Contains old (k, u)
        ⊎ ((k ≡ at) × GoesBelow Joins places at u)
    to k u (inl c) = inl c
    to k u (inr h) = inr (h.0, (h.1, h.2))

    from : (k u : ℕ) → Contains old (k, u) ⊎ ((k ≡ at) × GoesBelow Joins places at u) → Contains old (k, u)
        ⊎ ((k ≡ at) × (u < places) × Joins at u)
    from k u (inl c) = inl c
    from k u (inr h) = inr (h.0, h.1.0, h.1.1)

-- the pairs of all items
pub rows_whole : (Joins : ℕ → ℕ → Type 0) (places : ℕ) (pairs : List (ℕ × ℕ)) (items : ℕ) → HaveItems pairs items (GoesBelow Joins places)
    → AreJoined Joins items places pairs
rows_whole Joins places pairs items have k u = (λ c. let h = (have k u).0 c in (h.0, h.1.0, h.1.1), λ h. (have k u).1 (h.0, (h.1, h.2)))

-- joined pairs are pairs of a matching problem
pub joined_within : (Joins : ℕ → ℕ → Type 0) (left : ℕ) (capacities : List (Option ℕ)) (pairs : List (ℕ × ℕ))
    → AreJoined Joins left (length capacities) pairs
    → ArePairsWithin left capacities pairs
joined_within Joins left capacities pairs are k d l =
    let pair : ℕ × ℕ = get_or pairs k d in
    let met = (are pair.0 pair.1).0 (k, l, sym (get_or_default pairs k d pair l)) in (met.0, met.1)

abbrev Ones : ℕ → List (Option ℕ)
Ones places = replicate places (Some 1)

of_ones : (Joins : ℕ → ℕ → Type 0) (left places : ℕ) (pairs : List (ℕ × ℕ)) → AreJoined Joins left (length (Ones places)) pairs
    → AreJoined Joins left places pairs
of_ones Joins left places pairs are = subst (λ n. AreJoined Joins left n pairs) (length-replicate places (Some 1)) are

-- with capacities of one, a matching of the joined pairs is a transversal
matching_transversal : (Joins : ℕ → ℕ → Type 0) (left places : ℕ) (pairs : List (ℕ × ℕ)) (list : List ℕ) → AreJoined Joins left places pairs
    → IsMatching left (Ones places) pairs list → IsTransversal Joins left places list
matching_transversal Joins left places pairs list are m = record {
  long = m.whole;
  apart = matching_apart left places pairs list (λ k u c. ((are k u).0 c).1) m;
  each = λ item l. let met = (are item (get_or list item 0)).0 (m.neighbours item l) in (met.1, met.2);
}

-- and the other way round
transversal_matching : (Joins : ℕ → ℕ → Type 0) (left places : ℕ) (pairs : List (ℕ × ℕ)) (list : List ℕ) → AreJoined Joins left places pairs
    → IsTransversal Joins left places list → IsMatching left (Ones places) pairs list
transversal_matching Joins left places pairs list are t = record {
  whole = t.long;
  neighbours = λ item l. let one = t.each item l in (are item (get_or list item 0)).1 (l, one.0, one.1);
  within = apart_within places list t.apart;
}

-- with capacities of one, the least matching of the joined pairs is the least transversal
pub least_ones : (Joins : ℕ → ℕ → Type 0) (left places : ℕ) (list : List ℕ)
    → OfPairs Joins left (length (Ones places)) (λ pairs. IsLeast left (Ones places) pairs list) → IsLeastTransversal Joins left places list
least_ones Joins left places list (pairs, joined, m) =
    let are = of_ones Joins left places pairs joined in record {
      transversal = matching_transversal Joins left places pairs list are m.matching;
      least = λ other t. m.least other (transversal_matching Joins left places pairs other are t);
    }

-- where the joined pairs have no matching, there is no transversal
pub none_ones : (Joins : ℕ → ℕ → Type 0) (left places : ℕ)
    → OfPairs Joins left (length (Ones places)) (λ pairs. (list : List ℕ) → ¬ IsMatching left (Ones places) pairs list)
    → (list : List ℕ) → ¬ IsTransversal Joins left places list
none_ones Joins left places (pairs, joined, none) list t =
    none list (transversal_matching Joins left places pairs list (of_ones Joins left places pairs joined) t)

-- where the items of two lists go together, a transversal has for each item of the first one of the second
pub transversal_places : {A B : Type 0} (R : A → B → Type 0) (xs : List A) (ys : List B) (list : List ℕ)
    → IsTransversal (JoinsAt R xs ys) (length xs) (length ys) list
    → ArePlaces R xs ys list
transversal_places {A} {B} R xs ys list t = record { long = t.long; apart = t.apart; each = each }
  where
    each : (i : ℕ) (x : A) → slice_get xs i ≡ Some x → (y : B) × (slice_get ys (get_or list i 0) ≡ Some y) × R x y
    each i x is =
        let one = (t.each i (get_below xs i x is)).1 in
        let same : one.0 ≡ x = cc (one.2, is) in
        (one.1, one.3, subst (λ v. R v one.1) same one.4)

-- and the other way round
pub places_transversal : {A B : Type 0} (R : A → B → Type 0) (xs : List A) (ys : List B) (list : List ℕ) → ArePlaces R xs ys list
    → IsTransversal (JoinsAt R xs ys) (length xs) (length ys) list
places_transversal {A} {B} R xs ys list p = record {
  long = p.long;
  apart = p.apart;
  each = λ i l.
      let x = get_there xs i l in
      let one = p.each i x.0 x.1 in
      (get_below ys (get_or list i 0) one.0 one.1, (x.0, one.0, x.1, one.1, one.2));
}

-- where there is no transversal, there is no injective map
pub none_embeds : {A B : Type 0} (R : A → B → Type 0) (xs : List A) (ys : List B)
    → ((list : List ℕ) → ¬ IsTransversal (JoinsAt R xs ys) (length xs) (length ys) list) → ¬ Embeds R xs ys
none_embeds R xs ys none f = let places = to_places R xs ys f in none places.0 (places_transversal R xs ys places.0 places.1)

-- what is known of a list of the pairs below these numbers
pub of_pairs : (Joins : ℕ → ℕ → Type 0) (items places left count : ℕ) (pairs : List (ℕ × ℕ)) (P : ℕ → List (ℕ × ℕ) → Type 0)
    → items ≡ left
    → places ≡ count
    → AreJoined Joins items places pairs → P items pairs → OfPairs Joins left count (P left)
of_pairs Joins items places left count pairs P here there are holds = (
  pairs,
  subst (λ n. AreJoined Joins left n pairs) there (subst (λ n. AreJoined Joins n places pairs) here are),
  subst (λ n. P n pairs) here holds,
)

-- what follows from what holds of the matched list
pub matched_of : (answer : Matching) (P Q : List ℕ → Type 0) → ((list : List ℕ) → P list → Q list) → IfMatched answer P → IfMatched answer Q
matched_of (Matched list) P Q follows p = follows list.items p
matched_of (Deficient items) P Q follows p = p

-- what follows from what holds of the deficient set
pub deficient_of : (answer : Matching) (P Q : List ℕ → Type 0) → ((items : List ℕ) → P items → Q items) → IfDeficient answer P
    → IfDeficient answer Q
deficient_of (Matched list) P Q follows p = p
deficient_of (Deficient items) P Q follows p = follows items.items p

-- what follows from what holds where there is no value
pub none_then : {A : Type 0} (o : Option A) {P Q : Type 0} → IfNone o P → (P → Q) → IfNone o Q
none_then None h follows = follows h
none_then (Some x) h follows = h
