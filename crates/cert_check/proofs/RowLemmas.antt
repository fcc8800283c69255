-- Rows of bits of whom users cover.
use Rattle.std.proofs.Common.{ℕ, ◌≡◌, ◌<◌, ◌≤◌, ◌+◌, ◌^◌, ◌∙◌, Bool, true, false}
use Rattle.std.proofs.Common.{eqb, List, length, take, get_or, Some, refl, sym, subst, arith, inl, inr}
use Rattle.std.specs.Prelude.{◌⊎◌, ◌↔◌, slice_get, slice_set, bit_or}
use Rattle.std.specs.Int.{bit_at}
use Rattle.std.proofs.lemmas.Bool.{eq-eqb, eqb-true}
use Rattle.std.proofs.lemmas.Bool.Decides.{nat_tests}
use Rattle.list_words.proofs.TestLemmas.{or_cases, or_right}
use Rattle.list_words.proofs.GetLemmas.{same_some, get_below, get_there, get_take, get_taken, get_set_same, get_set_other}
use Rattle.list_words.proofs.PlaceLemmas.{from_places, to_places}
use Rattle.role_order.specs.Masks.{has_bit}
use Rattle.role_order.specs.MasksBack.{has_bit_of_one}
use Rattle.role_order.proofs.MaskLemmas.{bit_of_true, has_bit-or, has_bit-pow, no_bit}
use Rattle.role_order.proofs.ClosureLemmas.{length_taken}
use Rattle.hall_match.specs.Joined.{IsTransversal, JoinsAt}
use Rattle.hall_match.proofs.JoinedLemmas.{transversal_places, places_transversal}
use Rattle.arbac_policy.specs.declared.conjunct.Conjunct.{Conjunct}
use Rattle.arbac_laws.specs.Needs.{Covers}
use Rattle.arbac_laws.specs.Views.{need_of, needs_of}
use Rattle.cert_needs.specs.declared.wanted.Wanted.{Wanted}
use Rattle.cert_needs.specs.Wanted.{need_wanted, needs_wanted}
use Rattle.cert_needs.specs.Cover.{covers_need, IsPartner}
use Rattle.cert_needs.proofs.CoverLemmas.{partners_cover, cover_partners}
use Rattle.mask_match.specs.declared.TheConstants.{MOST_PLACES}
use Rattle.mask_match.specs.Rows.{HasBitAt, ArePlaced}
use Rattle.cert_check.specs.CoverRows.{IsPartnerAt, IsRow, AreRows}

-- one bit more
bit_more : (row at k : ℕ) → (bit_at (bit_or row (2 ^ at)) k ≡ 1) ↔ ((bit_at row k ≡ 1) ⊎ (at ≡ k))
bit_more row at k = (
  λ one. by_side (or_cases (has_bit row k) (has_bit (2 ^ at) k) (sym (has_bit-or row (2 ^ at) k) ∙ has_bit_of_one (bit_or row (2 ^ at)) k one)),
  back,
)
  where
    by_side : (has_bit row k ≡ true) ⊎ (has_bit (2 ^ at) k ≡ true) → (bit_at row k ≡ 1) ⊎ (at ≡ k)
    by_side (inl h) = inl (bit_of_true row k h)
    by_side (inr h) = inr (eqb-true at k (sym (has_bit-pow at k) ∙ h))

    back : (bit_at row k ≡ 1) ⊎ (at ≡ k) → bit_at (bit_or row (2 ^ at)) k ≡ 1
    back (inl one) = bit_of_true (bit_or row (2 ^ at)) k (has_bit-or row (2 ^ at) k ∙ rw (has_bit_of_one row k one) refl)
    back (inr e) = bit_of_true (bit_or row (2 ^ at)) k
        (has_bit-or row (2 ^ at) k ∙ or_right (has_bit row k) (has_bit (2 ^ at) k) (has_bit-pow at k ∙ eq-eqb at k e))

-- the row so far has the bits of the partners so far
abbrev pub IsRowUpTo : Conjunct → List Wanted → ℕ → ℕ → Type 0
IsRowUpTo user others at row = (k : ℕ) → (bit_at row k ≡ 1) ↔ ((k < at) × IsPartnerAt user others k)

-- with one partner more
pub row_with : (user : Conjunct) (others : List Wanted) (row at : ℕ) (other : Wanted) → slice_get others at ≡ Some other → IsPartner user other
    → IsRowUpTo user others at row → IsRowUpTo user others (at + 1) (bit_or row (2 ^ at))
row_with user others row at other here partner before k = (λ one. to ((bit_more row at k).0 one), λ both. (bit_more row at k).1 (from (eqb at k) refl both))
  where
    to : (bit_at row k ≡ 1) ⊎ (at ≡ k) → (k < at + 1) × IsPartnerAt user others k
    to (inl one) = let old = (before k).0 one in (omega (arith, old.0), old.1)
    to (inr e) = (omega (arith, e), subst (λ (place : ℕ). IsPartnerAt user others place) e (other, here, partner))

    from : (t : Bool) → eqb at k ≡ t → (k < at + 1) × IsPartnerAt user others k → (bit_at row k ≡ 1) ⊎ (at ≡ k)
    from true e both = inr (eqb-true at k e)
    from false e both = let less : k < at = grind (arith, nat_tests) in inl ((before k).1 (less, both.1))

-- with one more who is no partner
pub row_without : (user : Conjunct) (others : List Wanted) (row at : ℕ) (other : Wanted) → slice_get others at ≡ Some other
    → covers_need (need_of user) (need_wanted other) ≡ false → IsRowUpTo user others at row → IsRowUpTo user others (at + 1) row
row_without user others row at other here none before k = (λ one. let old = (before k).0 one in (omega (arith, old.0), old.1), from (eqb at k) refl)
  where
    from : (t : Bool) → eqb at k ≡ t → (k < at + 1) × IsPartnerAt user others k → bit_at row k ≡ 1
    from true e both =
        let there : slice_get others k ≡ Some other = subst (λ (place : ℕ). slice_get others place ≡ Some other) (eqb-true at k e) here in
        let same : both.1.0 ≡ other = same_some both.1.0 other (sym both.1.1 ∙ there) in
        let passes : covers_need (need_of user) (need_wanted other) ≡ true = subst (λ (x : Wanted). IsPartner user x) same both.1.2 in
        absurd (let never : false ≡ true = sym none ∙ passes in cc)
    from false e both = let less : k < at = grind (arith, nat_tests) in (before k).1 (less, both.1)

-- when all others are gone through, it is the user's row
pub row_whole : (user : Conjunct) (others : List Wanted) (row at : ℕ) → length others ≤ at → IsRowUpTo user others at row → IsRow user others row
row_whole user others row at all before k = (
  λ one. ((before k).0 one).1,
  λ partner. let less = get_below others k partner.0 partner.1 in (before k).1 (omega (arith, all, less), partner),
)

-- one row more
pub rows_more : (users : List Conjunct) (others : List Wanted) (rows : List ℕ) (at row : ℕ) (user : Conjunct) → at < length rows
    → slice_get users at ≡ Some user → AreRows users others rows at → IsRow user others row → AreRows users others (slice_set rows at row) (at + 1)
rows_more users others rows at row user room here before is k one less there = by_test (eqb at k) refl
  where
    by_test : (t : Bool) → eqb at k ≡ t → (r : ℕ) × (slice_get (slice_set rows at row) k ≡ Some r) × IsRow one others r
    by_test true e =
        let same_place : at ≡ k = eqb-true at k e in
        let same : user ≡ one = same_some user one (sym (subst (λ (place : ℕ). slice_get users place ≡ Some user) same_place here) ∙ there) in (
          row,
          subst (λ (place : ℕ). slice_get (slice_set rows at row) place ≡ Some row) same_place (get_set_same rows at row room),
          subst (λ (x : Conjunct). IsRow x others row) same is,
        )
    by_test false e =
        let short : k < at = grind (arith, nat_tests) in
        let old = before k one short there in
        (old.0, get_set_other rows at k row (λ same. let l : k < at = short in omega (arith, same, l)) ∙ old.1, old.2)

-- a user without a bit covers nobody, so there is no cover
pub none_covered : (users : List Conjunct) (others : List Wanted) (at row : ℕ) (user : Conjunct) → slice_get users at ≡ Some user → IsRow user others row
    → row ≡ 0 → ¬ Covers (needs_of users) (needs_wanted others)
none_covered users others at row user here is none c =
    let partners = cover_partners users others c in
    let partner = partners.each at user here in
    let one : bit_at 0 (partners.to at) ≡ 1 = rw none at ((is (partners.to at)).1 (partner.0, partner.1, partner.2)) in
    let never : false ≡ true = sym (no_bit (partners.to at)) ∙ has_bit_of_one 0 (partners.to at) one in cc

-- rows of all users can be placed just where the users cover the others
pub placed_cover : (users : List Conjunct) (others : List Wanted) (rows : List ℕ) → length others ≤ MOST_PLACES → length users ≤ length rows
    → AreRows users others rows (length users) → ArePlaced (take (length users) rows) ↔ Covers (needs_of users) (needs_wanted others)
placed_cover users others rows few room are = (λ placed. to placed.0 placed.1, from)
  where
    long : length (take (length users) rows) ≡ length users
    long = length_taken rows (length users) room

    joined : (item place : ℕ) → item < length users → HasBitAt (take (length users) rows) item place → JoinsAt IsPartner users others item place
    joined item place less bit =
        let user = get_there users item less in
        let own = are item user.0 less user.1 in
        let taken = get_taken rows (length users) item bit.0 bit.1 in
        let same : bit.0 ≡ own.0 = same_some bit.0 own.0 (sym taken.1 ∙ own.1) in
        let partner = (own.2 place).0 (subst (λ (row : ℕ). bit_at row place ≡ 1) same bit.2) in
        (user.0, partner.0, user.1, partner.1, partner.2)

    to : (list : List ℕ) → IsTransversal (HasBitAt (take (length users) rows)) (length (take (length users) rows)) MOST_PLACES list
        → Covers (needs_of users) (needs_wanted others)
    to list t = partners_cover users others (from_places IsPartner users others list (transversal_places IsPartner users others list record {
      long = t.long ∙ long;
      apart = t.apart;
      each = λ item less.
          let one = t.each item (subst (λ n. item < n) (sym long) less) in
          let j = joined item (get_or list item 0) less one.1 in
          (get_below others (get_or list item 0) j.1 j.3, j);
    }))

    has_bit_there : (item place : ℕ) → JoinsAt IsPartner users others item place → HasBitAt (take (length users) rows) item place
    has_bit_there item place j =
        let less = get_below users item j.0 j.2 in
        let own = are item j.0 less j.2 in
        (own.0, get_take rows (length users) item less ∙ own.1, (own.2 place).1 (j.1, j.3, j.4))

    from : Covers (needs_of users) (needs_wanted others) → ArePlaced (take (length users) rows)
    from c =
        let places = to_places IsPartner users others (cover_partners users others c) in
        let t = places_transversal IsPartner users others places.0 places.1 in (
          places.0,
          record {
            long = t.long ∙ sym long;
            apart = t.apart;
            each = λ item less.
                let one = t.each item (subst (λ n. item < n) long less) in
                (let below = one.0 in omega (arith, below, few), has_bit_there item (get_or places.0 item 0) one.1);
          },
        )

-- all rows are there
pub rows_of_all : (users : List Conjunct) (others : List Wanted) (rows : List ℕ) (at : ℕ) → length users ≤ at → AreRows users others rows at
    → AreRows users others rows (length users)
rows_of_all users others rows at all are k user less here = are k user (omega (arith, less, all)) here
