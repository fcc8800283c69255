-- A matching of user requirements and profiles is a choice that serves the requirement.
use Rattle.std.proofs.Common.{ℕ, ◌≡◌, ◌<◌, ◌≤◌, ◌+◌, ◌∙◌, true, cond, List, [], ◌∷◌, length, get_or, refl, arith, zero, suc}
use Rattle.std.proofs.Common.{sym, subst, ap, Some, take, inl, inr}
use Rattle.std.specs.Prelude.{◌↔◌, ◌==◌, ◌⊎◌, Contains, slice_get}
use Rattle.list_words.proofs.GetLemmas.{get_within, get_any, get_at, get_there}
use Rattle.arbac_policy.specs.declared.profile.Profile.{Profile}
use Rattle.list_words.specs.Embeds.{Embeds}
use Rattle.arbac_policy.specs.Goals.{times, AreUsers, IsDrawn}
use Rattle.arbac_laws.specs.Needs.{Need, MeetsNeed, Meets, MeetsBy}
use Rattle.arbac_laws.specs.Closed.{IsUnmet}
use Rattle.list_words.proofs.CountLemmas.{counted, count}
use Rattle.list_words.proofs.PlaceLemmas.{told, length-told, get-told}
use Rattle.hall_match.proofs.CountLemmas.{count-cons}
use Rattle.hall_match.specs.Matchings.{capacity_at, uses, IsBefore, IsMatching, IsLeast, IsDeficient}
use Rattle.hall_match.proofs.LawLemmas.{deficient}
use Rattle.std.proofs.lemmas.List.{get_or-take}
use Rattle.list_words.proofs.NumberLemmas.{compare}
use Rattle.hall_match.specs.Joined.{AreJoined, JoinsAt, OfPairs}
use Rattle.arbac_laws.specs.Serving.{IsServed, Serves, ServesLeast, counts, AreServing, AreUnserved}

-- lists

item_at : {A : Type 0} (xs : List A) (i : ℕ) (x d : A) → slice_get xs i ≡ Some x → get_or xs i d ≡ x
item_at xs i x d is = let w = get_within xs i x is in get_any xs i d x w.0 ∙ sym w.1

length_counts : (profiles : List Profile) → length (counts profiles) ≡ length profiles
length_counts [] = refl
length_counts (p ∷ ps) = ap suc (length_counts ps)

-- the capacity of a profile's place is its count
capacity_there : (profiles : List Profile) (place : ℕ) (profile : Profile) → slice_get profiles place ≡ Some profile
    → capacity_at (counts profiles) place ≡ profile.most
capacity_there [] place profile is = cc
capacity_there (p ∷ ps) zero profile is = let is' : Some p ≡ Some profile = is in let same : p ≡ profile = cc in ap (λ (q : Profile). q.most) same
capacity_there (p ∷ ps) (suc place) profile is = capacity_there ps place profile is

-- a place that has a capacity is a profile's
capacity_from : (profiles : List Profile) (place most : ℕ) → capacity_at (counts profiles) place ≡ Some most
    → (profile : Profile) × (slice_get profiles place ≡ Some profile) × (profile.most ≡ Some most)
capacity_from [] place most e = cc
capacity_from (p ∷ ps) zero most e = (p, refl, e)
capacity_from (p ∷ ps) (suc place) most e = capacity_from ps place most e

uses_times : (place : ℕ) (list : List ℕ) → uses place list ≡ times place list
uses_times place [] = refl
uses_times place (x ∷ xs) = count-cons (λ given. given == place) x xs ∙ ap (λ n. cond (x == place) 1 0 + n) (uses_times place xs)

count_times : (place : ℕ) (list : List ℕ) → count (λ given. given == place) list ≡ times place list
count_times place [] = refl
count_times place (x ∷ xs) = ap (λ n. cond (x == place) 1 0 + n) (count_times place xs)

-- the user requirements and the profiles that serve them
abbrev pub ServedAt : List Profile → List Need → ℕ → ℕ → Type 0
ServedAt profiles needs = JoinsAt (λ (need : Need) (profile : Profile). MeetsNeed need profile.set) needs profiles

-- the joined pairs are the serving ones
pub pairs_serving : (profiles : List Profile) (needs : List Need) (pairs : List (ℕ × ℕ))
    → AreJoined (ServedAt profiles needs) (length needs) (length (counts profiles)) pairs
    → AreServing profiles needs pairs
pairs_serving profiles needs pairs joined k u = (λ h. let one = ((joined k u).0 h).2 in (one.0, one.2, (one.1, one.3, one.4)), from)
  where
    from : ((need : Need) × (slice_get needs k ≡ Some need) × IsServed profiles need u) → Contains pairs (k, u)
    from h =
        let less = (get_within needs k h.0 h.1).0 in
        let below = (get_within profiles u h.2.0 h.2.1).0 in
        (joined k u).1 (less, subst (λ n. u < n) (sym (length_counts profiles)) below, (h.0, h.2.0, h.1, h.2.1, h.2.2))

-- a matching of the pairs is a choice that serves the requirement
pub matching_serves : (profiles : List Profile) (needs : List Need) (pairs : List (ℕ × ℕ)) (list : List ℕ) → AreServing profiles needs pairs
    → IsMatching (length needs) (counts profiles) pairs list → Serves profiles needs list
matching_serves profiles needs pairs list are m = record { drawn = record { places = places; few = few }; long = m.whole; each = each }
  where
    met : (i : ℕ) → i < length needs → (need : Need) × (slice_get needs i ≡ Some need) × IsServed profiles need (get_or list i 0)
    met i l = (are i (get_or list i 0)).0 (m.neighbours i l)

    places : (k place : ℕ) → slice_get list k ≡ Some place → (profile : Profile) × (slice_get profiles place ≡ Some profile)
    places k place is =
        let one = met k (subst (λ n. k < n) m.whole (get_within list k place is).0) in
        (one.2.0, subst (λ p. slice_get profiles p ≡ Some one.2.0) (item_at list k place 0 is) one.2.1)

    few : (place : ℕ) (profile : Profile) (most : ℕ) → slice_get profiles place ≡ Some profile → profile.most ≡ Some most
        → times place list ≤ most
    few place profile most is e = omega (arith, uses_times place list, m.within place most (capacity_there profiles place profile is ∙ e))

    each : (i : ℕ) (need : Need) → slice_get needs i ≡ Some need → IsServed profiles need (get_or list i 0)
    each i need is =
        let one = met i (get_within needs i need is).0 in
        let same : one.0 ≡ need = cc (one.1, is) in
        subst (λ n. IsServed profiles n (get_or list i 0)) same one.2

-- and the other way round
pub serves_matching : (profiles : List Profile) (needs : List Need) (pairs : List (ℕ × ℕ)) (list : List ℕ) → AreServing profiles needs pairs
    → Serves profiles needs list → IsMatching (length needs) (counts profiles) pairs list
serves_matching profiles needs pairs list are s = record { whole = s.long; neighbours = neighbours; within = within }
  where
    neighbours : (item : ℕ) → item < length needs → Contains pairs (item, get_or list item 0)
    neighbours item l = let need = get_there needs item l in (are item (get_or list item 0)).1 (need.0, need.1, s.each item need.0 need.1)

    within : (place most : ℕ) → capacity_at (counts profiles) place ≡ Some most → uses place list ≤ most
    within place most e = let p = capacity_from profiles place most e in omega (arith, uses_times place list, s.drawn.few place p.0 most p.1 p.2)

-- the least matching is the least choice
pub least_serves : (profiles : List Profile) (needs : List Need) (list : List ℕ)
    → OfPairs (ServedAt profiles needs) (length needs) (length (counts profiles)) (λ pairs. IsLeast (length needs) (counts profiles) pairs list)
    → ServesLeast profiles needs list
least_serves profiles needs list (pairs, joined, m) =
    let are = pairs_serving profiles needs pairs joined in record {
      serves = matching_serves profiles needs pairs list are m.matching;
      least = λ other serves. m.least other (serves_matching profiles needs pairs other are serves);
    }

-- users and the places that they are drawn from

drawn_users : (profiles : List Profile) (choice : List ℕ)
    → ((k place : ℕ) → slice_get choice k ≡ Some place → (profile : Profile) × (slice_get profiles place ≡ Some profile))
    → (users : List (List ℕ)) × AreUsers profiles choice users
drawn_users profiles [] places = ([], tt)
drawn_users profiles (p ∷ ps) places =
    let one = places 0 p refl in let rest = drawn_users profiles ps (λ k place is. places (suc k) place is) in
    (one.0.set ∷ rest.0, ((one.0, one.1, refl), rest.1))

user_at : (profiles : List Profile) (choice : List ℕ) (users : List (List ℕ)) → AreUsers profiles choice users → (i place : ℕ) (profile : Profile)
    → slice_get choice i ≡ Some place → slice_get profiles place ≡ Some profile → slice_get users i ≡ Some profile.set
user_at profiles [] users are i place profile at is = cc
user_at profiles (p ∷ ps) [] are i place profile at is = absurd are
user_at profiles (p ∷ ps) (u ∷ us) are zero place profile at is =
    let at' : Some p ≡ Some place = at in
    let here : p ≡ place = cc in
    let there : slice_get profiles place ≡ Some are.0.0 = subst (λ q. slice_get profiles q ≡ Some are.0.0) here are.0.1 in
    let same : are.0.0 ≡ profile = cc (there, is) in
    ap Some (are.0.2 ∙ ap (λ (q : Profile). q.set) same)
user_at profiles (p ∷ ps) (u ∷ us) are (suc i) place profile at is = user_at profiles ps us are.1 i place profile at is

place_at : (profiles : List Profile) (choice : List ℕ) (users : List (List ℕ)) → AreUsers profiles choice users → (i : ℕ) (set : List ℕ)
    → slice_get users i ≡ Some set
    → (place : ℕ) × (slice_get choice i ≡ Some place) × (profile : Profile) × (slice_get profiles place ≡ Some profile) × (set ≡ profile.set)
place_at profiles [] [] are i set is = cc
place_at profiles [] (u ∷ us) are i set is = absurd are
place_at profiles (p ∷ ps) [] are i set is = absurd are
place_at profiles (p ∷ ps) (u ∷ us) are zero set is =
    let is' : Some u ≡ Some set = is in let same : u ≡ set = cc in (p, refl, are.0.0, are.0.1, sym same ∙ are.0.2)
place_at profiles (p ∷ ps) (u ∷ us) are (suc i) set is = place_at profiles ps us are.1 i set is

-- the users of a choice that serves meet the requirement in order
pub serves_users : (profiles : List Profile) (needs : List Need) (choice : List ℕ) → Serves profiles needs choice
    → (users : List (List ℕ)) × AreUsers profiles choice users × MeetsBy users needs (λ i. i)
serves_users profiles needs choice s = (users.0, users.1, (record { to = λ i. i; apart = λ i j l m e. e; each = each }, λ i. refl))
  where
    users : (users : List (List ℕ)) × AreUsers profiles choice users
    users = drawn_users profiles choice s.drawn.places

    each : (i : ℕ) (need : Need) → slice_get needs i ≡ Some need → (set : List ℕ) × (slice_get users.0 i ≡ Some set) × MeetsNeed need set
    each i need is =
        let one = s.each i need is in
        let at = get_at choice i 0 (subst (λ n. i < n) (sym s.long) (get_within needs i need is).0) in
        (one.0.set, user_at profiles choice users.0 users.1 i (get_or choice i 0) one.0 at one.1, one.2)

-- where drawn users meet the requirement, the profiles of those who do serve it
pub drawn_serves : (profiles : List Profile) (needs : List Need) (users : List (List ℕ)) (drawn : IsDrawn profiles users) (met : Meets users needs)
    → Serves profiles needs (told (λ i. get_or drawn.choice (met.to i) 0) (length needs))
drawn_serves profiles needs users drawn met = record { drawn = record { places = places; few = few }; long = length-told from (length needs); each = each }
  where
    from : ℕ → ℕ
    from i = get_or drawn.choice (met.to i) 0

    list : List ℕ
    list = told from (length needs)

    below : (i x : ℕ) → slice_get list i ≡ Some x → i < length needs
    below i x is = subst (λ n. i < n) (length-told from (length needs)) (get_within list i x is).0

    listed : (i : ℕ) → i < length needs → get_or list i 0 ≡ from i
    listed i l = get-told from (length needs) i l

    served : (i : ℕ) (need : Need) → slice_get needs i ≡ Some need → (slice_get drawn.choice (met.to i) ≡ Some (from i))
        × IsServed profiles need (from i)
    served i need is =
        let one = met.each i need is in
        let at = place_at profiles drawn.choice users drawn.are_users (met.to i) one.0 one.1 in
        let here : at.0 ≡ from i = sym (item_at drawn.choice (met.to i) at.0 0 at.1) in (
          subst (λ p. slice_get drawn.choice (met.to i) ≡ Some p) here at.1,
          (at.2, subst (λ p. slice_get profiles p ≡ Some at.2) here at.3, subst (λ set. MeetsNeed need set) at.4 one.2),
        )

    each : (i : ℕ) (need : Need) → slice_get needs i ≡ Some need → IsServed profiles need (get_or list i 0)
    each i need is = subst (λ p. IsServed profiles need p) (sym (listed i (get_within needs i need is).0)) (served i need is).1

    place_of : (i x : ℕ) → slice_get list i ≡ Some x → x ≡ from i
    place_of i x is = sym (item_at list i x 0 is) ∙ listed i (below i x is)

    places : (k place : ℕ) → slice_get list k ≡ Some place → (profile : Profile) × (slice_get profiles place ≡ Some profile)
    places k place is =
        let need = get_there needs k (below k place is) in
        let one = (served k need.0 need.1).1 in
        (one.0, subst (λ p. slice_get profiles p ≡ Some one.0) (sym (place_of k place is)) one.1)

    into : Embeds (λ (x y : ℕ). x ≡ y) list drawn.choice
    into = record {
      to = met.to;
      apart = λ i j l m e. met.apart i j (subst (λ n. i < n) (length-told from (length needs)) l) (subst (λ n. j < n) (length-told from (length needs)) m) e;
      each = λ i x is. let need = get_there needs i (below i x is) in (from i, (served i need.0 need.1).0, place_of i x is);
    }

    few : (place : ℕ) (profile : Profile) (most : ℕ) → slice_get profiles place ≡ Some profile → profile.most ≡ Some most
        → times place list ≤ most
    few place profile most is e =
        let fewer : count (λ given. given == place) list ≤ count (λ given. given == place) drawn.choice =
        counted (λ (x y : ℕ). x ≡ y) (λ given. given == place) (λ given. given == place)
        (λ x y same h. subst (λ n. (n == place) ≡ true) same h) list drawn.choice into in
        omega (arith, fewer, count_times place list, count_times place drawn.choice, drawn.drawn.few place profile most is e)

-- where the pairs have no matching, no drawn users meet the requirement
pub none_unmet : (profiles : List Profile) (needs : List Need)
    → OfPairs (ServedAt profiles needs) (length needs) (length (counts profiles))
    (λ pairs. (list : List ℕ) → ¬ IsMatching (length needs) (counts profiles) pairs list)
    → IsUnmet profiles needs
none_unmet profiles needs (pairs, joined, none) users drawn met =
    let list = told (λ i. get_or drawn.choice (met.to i) 0) (length needs) in
    none list (serves_matching profiles needs pairs list (pairs_serving profiles needs pairs joined) (drawn_serves profiles needs users drawn met))

-- a deficient set of the pairs is user requirements that the profiles can't serve together
pub deficient_unserved : (profiles : List Profile) (needs : List Need) (items : List ℕ)
    → OfPairs (ServedAt profiles needs) (length needs) (length (counts profiles)) (λ pairs. IsDeficient (length needs) (counts profiles) pairs items)
    → AreUnserved profiles needs items
deficient_unserved profiles needs items (pairs, joined, d) = (pairs, pairs_serving profiles needs pairs joined, d)

-- some drawn users meet the requirement exactly where some choice serves it
pub drawn_served : (profiles : List Profile) (needs : List Need)
    → ((users : List (List ℕ)) × IsDrawn profiles users × Meets users needs) ↔ ((choice : List ℕ) × Serves profiles needs choice)
drawn_served profiles needs = (served, drawn)
  where
    served : ((users : List (List ℕ)) × IsDrawn profiles users × Meets users needs) → (choice : List ℕ) × Serves profiles needs choice
    served h = (told (λ i. get_or h.1.choice (h.2.to i) 0) (length needs), drawn_serves profiles needs h.0 h.1 h.2)

    drawn : ((choice : List ℕ) × Serves profiles needs choice) → (users : List (List ℕ)) × IsDrawn profiles users × Meets users needs
    drawn h =
        let users = serves_users profiles needs h.0 h.1 in
        (users.0, record { choice = h.0; drawn = h.1.drawn; are_users = users.1 }, users.2.0)

-- so none do exactly where no choice does
pub unmet_unserved : (profiles : List Profile) (needs : List Need) → IsUnmet profiles needs ↔ ((choice : List ℕ) → ¬ Serves profiles needs choice)
unmet_unserved profiles needs = (
  λ unmet choice serves. let h = (drawn_served profiles needs).1 (choice, serves) in unmet h.0 h.1 h.2,
  λ none users drawn met. let h = (drawn_served profiles needs).0 (users, drawn, met) in none h.0 h.1,
)

-- user requirements that are more than who serves them are met by no drawn users
pub unserved_unmet : (profiles : List Profile) (needs : List Need) (items : List ℕ) → AreUnserved profiles needs items → IsUnmet profiles needs
unserved_unmet profiles needs items u users drawn met =
    let list = told (λ i. get_or drawn.choice (met.to i) 0) (length needs) in
    deficient (length needs) (counts profiles) u.0 items list u.2 (serves_matching profiles needs u.0 list u.1 (drawn_serves profiles needs users drawn met))

-- of two lists at most one is before the other
pub before_once : (first second : List ℕ) → IsBefore first second → IsBefore second first → ⊥
before_once first second a b = by_item (compare a.item b.item)
  where
    same_at : (xs ys : List ℕ) (n k : ℕ) → take n xs ≡ take n ys → k < n → get_or xs k 0 ≡ get_or ys k 0
    same_at xs ys n k e l = sym (get_or-take n xs k 0 l) ∙ ap (λ zs. get_or zs k 0) e ∙ get_or-take n ys k 0 l

    by_item : (a.item < b.item) ⊎ ((a.item ≡ b.item) ⊎ (b.item < a.item)) → ⊥
    by_item (inl l) = let same = same_at second first b.item a.item b.same l in let less = a.less in omega (arith, less, same)
    by_item (inr (inl e)) =
        let less : get_or first b.item 0 < get_or second b.item 0 = subst (λ k. get_or first k 0 < get_or second k 0) e a.less in
        let more = b.less in
        omega (arith, less, more)
    by_item (inr (inr l)) = let same = same_at first second a.item b.item a.same l in let less = b.less in omega (arith, less, same)

-- there is at most one least choice
pub one_least : (profiles : List Profile) (needs : List Need) (first second : List ℕ) → ServesLeast profiles needs first
    → ServesLeast profiles needs second
    → first ≡ second
one_least profiles needs first second a b = by_cases (a.least second b.serves) (b.least first a.serves)
  where
    by_cases : (second ≡ first) ⊎ IsBefore first second → (first ≡ second) ⊎ IsBefore second first → first ≡ second
    by_cases (inl e) other = sym e
    by_cases (inr l) (inl e) = e
    by_cases (inr l) (inr m) = absurd (before_once first second l m)
