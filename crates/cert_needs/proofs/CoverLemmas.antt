-- Whom users cover: tests, and partners of all of them.
use Rattle.std.proofs.Common.{ℕ, ◌≡◌, ◌<◌, ◌≤◌, ◌+◌, ◌∙◌, Bool, true, false, List, [], ◌∷◌, ◌++◌, length, map, get_or, take, Option, Some, None}
use Rattle.std.proofs.Common.{zero, suc, refl, arith, sym, subst, ap, inl, inr}
use Rattle.std.specs.Prelude.{◌⊎◌, ◌↔◌, IsTrue, IfSome, IfNone, is_some, slice_get, slice_set, Vec}
use Rattle.std.specs.List.{list_any, list_all}
use Rattle.std.specs.declared.alloc.Global.{Global}
use Rattle.std.proofs.lemmas.List.{length-map, get_or_append_left, get_or_push}
use Rattle.std.proofs.lemmas.Grind.{take-set_at}
use Rattle.std.proofs.lemmas.Map.Keys.{any_passes_from_place}
use Rattle.list_words.specs.Embeds.{Embeds}
use Rattle.list_words.specs.Places.{ArePlaces}
use Rattle.list_words.proofs.TestLemmas.{and_both, both_true}
use Rattle.list_words.proofs.GetLemmas.{same_some, get_below, get_map, get_last_cases, length_more, take_one_more}
use Rattle.list_words.proofs.EachLemmas.{each_of}
use Rattle.list_words.proofs.NumberLemmas.{compare}
use Rattle.list_words.proofs.CountLemmas.{embeds_long}
use Rattle.list_words.proofs.PlaceLemmas.{from_places}
use Rattle.role_order.specs.Roles.{is_within, less_roles}
use Rattle.arbac_policy.specs.declared.conjunct.Conjunct.{Conjunct}
use Rattle.hall_match.specs.Joined.{IsTransversal, IsLeastTransversal, JoinsAt}
use Rattle.hall_match.proofs.JoinedLemmas.{none_embeds, transversal_places}
use Rattle.arbac_laws.specs.Needs.{Need, Covers, CoversNeed}
use Rattle.arbac_laws.specs.Views.{need_of, needs_of}
use Rattle.arbac_laws.proofs.SameLemmas.{covers_test, covers_of_test, test_of_covers, each_all}
use Rattle.cert_needs.specs.declared.wanted.Wanted.{Wanted}
use Rattle.cert_needs.specs.Wanted.{need_wanted, needs_wanted}
use Rattle.cert_needs.specs.Cover.{covers_need, IsPartner, IsFreePartner}

-- one user

hits_test : Need → Need → Bool
hits_test a b = list_all (λ hit. list_any (λ one. is_within (less_roles one b.lacks) hit) b.hits) a.hits

-- where the test passes, the first covers the second
test_covers : (a b : Need) → covers_need a b ≡ true → CoversNeed a b
unfolding covers_test hits_test
test_covers a b t =
    let both = and_both (is_within a.lacks b.lacks) (hits_test a b) t in
    covers_of_test a b (both_true (hits_test a b) (is_within a.lacks b.lacks) both.1 both.0)

-- and the other way round
covers_passes : (a b : Need) → CoversNeed a b → covers_need a b ≡ true
unfolding covers_test hits_test
covers_passes a b c =
    let both = and_both (hits_test a b) (is_within a.lacks b.lacks) (test_of_covers a b c) in
    both_true (is_within a.lacks b.lacks) (hits_test a b) both.1 both.0

-- so it decides
pub covers_by : (a b : Need) (t : Bool) → t ≡ covers_need a b → IsTrue t ↔ CoversNeed a b
covers_by a b t is = (λ passes. test_covers a b (sym is ∙ passes), λ c. is ∙ covers_passes a b c)

-- lists and what their items are seen as

-- what stands in a mapped list is seen of an item
pub got_map : {A B : Type 0} (f : A → B) (xs : List A) (k : ℕ) (y : B) → slice_get (map f xs) k ≡ Some y
    → (x : A) × (slice_get xs k ≡ Some x) × (f x ≡ y)
got_map f [] k y e = cc
got_map f (x ∷ xs) zero y e = (x, refl, same_some (f x) y e)
got_map f (x ∷ xs) (suc k) y e = got_map f xs k y e

-- partners of all users are a cover
pub partners_cover : (users : List Conjunct) (others : List Wanted) → Embeds IsPartner users others
    → Covers (needs_of users) (needs_wanted others)
partners_cover users others e = record { to = e.to; apart = λ i j l m. e.apart i j (short i l) (short j m); each = each }
  where
    short : (i : ℕ) → i < length (needs_of users) → i < length users
    short i l = subst (λ n. i < n) (length-map users need_of) l

    each : (i : ℕ) (a : Need) → slice_get (needs_of users) i ≡ Some a
        → (b : Need) × (slice_get (needs_wanted others) (e.to i) ≡ Some b) × CoversNeed a b
    each i a is =
        let user = got_map need_of users i a is in
        let one = e.each i user.0 user.1 in (
          need_wanted one.0,
          get_map need_wanted others (e.to i) one.0 one.1,
          subst (λ (v : Need). CoversNeed v (need_wanted one.0)) user.2 (test_covers (need_of user.0) (need_wanted one.0) one.2),
        )

-- and a cover is partners of all users
pub cover_partners : (users : List Conjunct) (others : List Wanted) → Covers (needs_of users) (needs_wanted others)
    → Embeds IsPartner users others
cover_partners users others e = record { to = e.to; apart = λ i j l m. e.apart i j (long i l) (long j m); each = each }
  where
    long : (i : ℕ) → i < length users → i < length (needs_of users)
    long i l = subst (λ n. i < n) (sym (length-map users need_of)) l

    each : (i : ℕ) (user : Conjunct) → slice_get users i ≡ Some user
        → (other : Wanted) × (slice_get others (e.to i) ≡ Some other) × IsPartner user other
    each i user is =
        let one = e.each i (need_of user) (get_map need_of users i user is) in
        let from = got_map need_wanted others (e.to i) one.0 one.1 in (
          from.0,
          from.1,
          covers_passes (need_of user) (need_wanted from.0) (subst (λ (v : Need). CoversNeed (need_of user) v) (sym from.2) one.2),
        )

-- tests as relations

-- where both items are there, the test decides
pub joins_there : {A B : Type 0} (test : A → B → Bool) (xs : List A) (ys : List B) (k u : ℕ) (x : A) (y : B) (t : Bool) → slice_get xs k ≡ Some x
    → slice_get ys u ≡ Some y → t ≡ test x y → IsTrue t ↔ JoinsAt (λ a b. test a b ≡ true) xs ys k u
joins_there {A} {B} test xs ys k u x y t here there is = (
  λ passes. (x, y, here, there, sym is ∙ passes),
  λ j.
      let first : j.0 ≡ x = same_some j.0 x (sym j.2 ∙ here) in
      let second : j.1 ≡ y = same_some j.1 y (sym j.3 ∙ there) in
      is ∙ subst (λ (a : A). test a y ≡ true) first (subst (λ (b : B). test j.0 b ≡ true) second j.4),
)

-- where one is not, they don't go together
pub joins_nowhere : {A B : Type 0} (R : A → B → Type 0) (xs : List A) (ys : List B) (k u : ℕ) → (length xs ≤ k) ⊎ (length ys ≤ u)
    → IsTrue false ↔ JoinsAt R xs ys k u
joins_nowhere R xs ys k u past = (λ e. absurd (let never : false ≡ true = e in cc), λ j. absurd (by_side past j))
  where
    by_side : (length xs ≤ k) ⊎ (length ys ≤ u) → JoinsAt R xs ys k u → ⊥
    by_side (inl l) j = let less = get_below xs k j.0 j.2 in omega (arith, l, less)
    by_side (inr l) j = let less = get_below ys u j.1 j.3 in omega (arith, l, less)

-- quick answers

-- more users cover no fewer others
pub too_many : (users : List Conjunct) (others : List Wanted) → length others < length users → ¬ Covers (needs_of users) (needs_wanted others)
too_many users others more c =
    let fits = embeds_long IsPartner users others (cover_partners users others c) in omega (arith, fits, more)

-- in a cover each user has a partner
pub all_have : (users : List Conjunct) (others : List Wanted) → Covers (needs_of users) (needs_wanted others)
    → list_all (λ user. list_any (λ other. covers_need (need_of user) (need_wanted other)) others) users ≡ true
all_have users others c =
    let e = cover_partners users others c in
    each_all (λ user. has user ≡ true) has (λ user h. h) users (each_of (λ user. has user ≡ true) users (λ k user is.
    let one = e.each k user is in
    any_passes_from_place (λ other. covers_need (need_of user) (need_wanted other)) others (e.to k) one.0 one.1 one.2))
  where
    has : Conjunct → Bool
    has user = list_any (λ other. covers_need (need_of user) (need_wanted other)) others

-- one item more has a place that no earlier one has
places_more : {A B : Type 0} (R : A → B → Type 0) (xs : List A) (ys : List B) (places : List ℕ) (x : A) (y : B) (place : ℕ)
    → ArePlaces R xs ys places → slice_get ys place ≡ Some y → R x y → ((k : ℕ) → k < length places → ¬ (get_or places k 0 ≡ place))
    → ArePlaces R (xs ++ x ∷ []) ys (places ++ place ∷ [])
places_more {A} {B} R xs ys places x y place p at r free = record { long = long; apart = apart; each = each }
  where
    long : length (places ++ place ∷ []) ≡ length (xs ++ x ∷ [])
    long = omega (arith, length_more places place, length_more xs x, p.long)

    early : (i : ℕ) → i < length places → get_or (places ++ place ∷ []) i 0 ≡ get_or places i 0
    early i l = get_or_append_left places (place ∷ []) 0 i l

    last : (i : ℕ) → length places ≡ i → get_or (places ++ place ∷ []) i 0 ≡ place
    last i e = get_or_push places place 0 i e

    cases : (i : ℕ) → i < length (places ++ place ∷ []) → (i < length places) ⊎ (length places ≡ i)
    cases i l = by_place (compare i (length places))
      where
        by_place : (i < length places) ⊎ ((i ≡ length places) ⊎ (length places < i)) → (i < length places) ⊎ (length places ≡ i)
        by_place (inl k) = inl k
        by_place (inr (inl e)) = inr (sym e)
        by_place (inr (inr k)) = absurd (omega (arith, length_more places place, l, k))

    apart : (i j : ℕ) → i < length (places ++ place ∷ []) → j < length (places ++ place ∷ [])
        → get_or (places ++ place ∷ []) i 0 ≡ get_or (places ++ place ∷ []) j 0 → i ≡ j
    apart i j l m e = by_both (cases i l) (cases j m)
      where
        by_both : (i < length places) ⊎ (length places ≡ i) → (j < length places) ⊎ (length places ≡ j) → i ≡ j
        by_both (inl a) (inl b) = p.apart i j a b (sym (early i a) ∙ e ∙ early j b)
        by_both (inl a) (inr b) = absurd (free i a (sym (early i a) ∙ e ∙ last j b))
        by_both (inr a) (inl b) = absurd (free j b (sym (early j b) ∙ sym e ∙ last i a))
        by_both (inr a) (inr b) = sym a ∙ b

    each : (i : ℕ) (v : A) → slice_get (xs ++ x ∷ []) i ≡ Some v
        → (w : B) × (slice_get ys (get_or (places ++ place ∷ []) i 0) ≡ Some w) × R v w
    each i v is = by_item (get_last_cases xs x v i is)
      where
        by_item : (slice_get xs i ≡ Some v) ⊎ ((i ≡ length xs) × (x ≡ v))
            → (w : B) × (slice_get ys (get_or (places ++ place ∷ []) i 0) ≡ Some w) × R v w
        by_item (inl old) =
            let one = p.each i v old in
            let less : i < length places = subst (λ n. i < n) (sym p.long) (get_below xs i v old) in
            (one.0, ap (slice_get ys) (early i less) ∙ one.1, one.2)
        by_item (inr new) =
            (y, ap (slice_get ys) (last i (p.long ∙ sym new.0)) ∙ at, subst (λ u. R u y) new.1 r)

-- one user more has a partner whom the users before have left
pub one_more_partner : (users : List Conjunct) (others : List Wanted) (taken : List ℕ) (at place : ℕ) (user : Conjunct) → at < length taken
    → slice_get users at ≡ Some user → ArePlaces IsPartner (take at users) others (take at taken)
    → IsFreePartner user others (take at taken) place
    → ArePlaces IsPartner (take (at + 1) users) others (take (at + 1) (slice_set taken at place))
one_more_partner users others taken at place user l is p f =
    subst (λ (xs : List Conjunct). ArePlaces IsPartner xs others (take (at + 1) (slice_set taken at place))) (sym (take_one_more users at user is))
    (subst (λ (ps : List ℕ). ArePlaces IsPartner (take at users ++ user ∷ []) others ps) (sym (take-set_at taken at (at + 1) place refl l))
    (places_more IsPartner (take at users) others (take at taken) user f.other place p f.at f.covered f.free))

-- the matching

-- a transversal is a cover, and where there is none there is no cover
pub found_covers : (users : List Conjunct) (others : List Wanted) (found : Option (Vec ℕ Global)) (t : Bool) → t ≡ is_some found
    → IfSome found (λ list. IsLeastTransversal (JoinsAt IsPartner users others) (length users) (length others) list.items)
    → IfNone found ((list : List ℕ) → ¬ IsTransversal (JoinsAt IsPartner users others) (length users) (length others) list)
    → IsTrue t ↔ Covers (needs_of users) (needs_wanted others)
found_covers users others (Some list) t is least none = (
  λ _. partners_cover users others
      (from_places IsPartner users others list.items (transversal_places IsPartner users others list.items least.transversal)),
  λ c. is,
)
found_covers users others None t is least none = (
  λ e. let never : true ≡ false = sym e ∙ is in cc,
  λ c. absurd (none_embeds IsPartner users others none (cover_partners users others c)),
)
