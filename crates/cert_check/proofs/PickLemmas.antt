-- What must hold before an act by each administrator, and the marks of its users.
use Rattle.std.proofs.Common.{ℕ, ◌≡◌, ◌<◌, ◌≤◌, ◌+◌, ◌∙◌, Bool, true, false, not, List, [], ◌∷◌, ◌++◌, length, map, Some, None, Option, zero, suc}
use Rattle.std.proofs.Common.{refl, sym, ap, subst, arith, eqb, take, drop}
use Rattle.std.specs.Prelude.{slice_get, slice_set, filter, IsTrue, ◌↔◌}
use Rattle.std.proofs.lemmas.Bool.{ne_eqb}
use Rattle.std.proofs.lemmas.Bool.Decides.{nat_tests}
use Rattle.std.proofs.lemmas.List.{length-append, take-append-le}
use Rattle.list_words.specs.Lists.{Each}
use Rattle.list_words.proofs.EachLemmas.{each_left}
use Rattle.list_words.proofs.GetLemmas.{length_set, take_all}
use Rattle.role_order.specs.Graph.{Graph}
use Rattle.role_order.specs.Reach.{count_up}
use Rattle.arbac_laws.specs.Needs.{Need, IsPossible, IsPossibleNeed}
use Rattle.arbac_laws.specs.PreImages.{Pick, itself, other, fresh, add_hit, change_at, with_admin}
use Rattle.arbac_laws.specs.Obligations.{flat, picks}
use Rattle.cert_needs.specs.declared.wanted.Wanted.{Wanted}
use Rattle.cert_needs.specs.Wanted.{need_wanted, needs_wanted}
use Rattle.need_marks.specs.declared.marks.UserMark.{UserMark}
use Rattle.need_marks.specs.Marks.{IsUserMark, AreUserMarks}
use Rattle.cert_check.specs.Asked.{IsUncovered}
use Rattle.cert_check.proofs.PassingLemmas.{counts_one, counts_more, counts_stop}
use Rattle.arbac_policy.specs.Rules.{Rules}
use Rattle.cert_check.specs.Passing.{Counts, IsMissed, is_of_use, before_by, by_other, by_users, by_picks, by_before, by_target}

-- lengths

pub length_mapped : {A B : Type 0} (f : A → B) (xs : List A) → length (map f xs) ≡ length xs
length_mapped f [] = refl
length_mapped f (x ∷ xs) = ap (λ n. suc n) (length_mapped f xs)

-- no number from one on is the target
pub all_others : (target at n : ℕ) → target < at → length (filter (λ place. not (eqb place target)) (count_up at n)) ≡ n
all_others target at zero h = refl
all_others target at (suc n) h =
    let apart : eqb at target ≡ false = ne_eqb at target (λ e. omega (arith, e, h)) in
    rw apart (ap (λ k. suc k) (all_others target (at + 1) n (omega (arith, h))))

-- one of them is
pub other_count : (target at n : ℕ) → at ≤ target → target < at + n → length (filter (λ place. not (eqb place target)) (count_up at n)) + 1 ≡ n
other_count target at zero l h = absurd (omega (arith, l, h))
other_count target at (suc n) l h = by_test (eqb at target) refl (λ m. other_count target (at + 1) n (omega (arith, m)) (omega (arith, h)))
  where
    by_test : (t : Bool) → eqb at target ≡ t
        → (at < target → length (filter (λ place. not (eqb place target)) (count_up (at + 1) n)) + 1 ≡ n)
        → length (filter (λ place. not (eqb place target)) (count_up at (suc n))) + 1 ≡ suc n
    by_test true e rest =
        let same : at ≡ target = grind (arith, nat_tests) in
        let all = all_others target (at + 1) n (omega (arith, same)) in
        rw e (omega (arith, all))
    by_test false e rest =
        let below : at < target = grind (arith, nat_tests) in
        let more = rest below in
        rw e (omega (arith, more))

pub pick_count : (target count : ℕ) → target < count → length (picks target count) ≡ count + 1
pick_count target count h =
    let others = filter (λ place. not (eqb place target)) (count_up 0 count) in
    let long = length-append (map other others) (fresh ∷ []) in
    let same = length_mapped other others in
    let n = other_count target 0 count (omega arith) (omega (arith, h)) in
    omega (arith, long, same, n)

-- the picks one by one

pub map_append : {A B : Type 0} (f : A → B) (xs ys : List A) → map f (xs ++ ys) ≡ map f xs ++ map f ys
map_append f [] ys = refl
map_append f (x ∷ xs) ys = ap (λ l. f x ∷ l) (map_append f xs ys)

pub others_are : (hit : List ℕ) (users : List Need) (target : ℕ) (xs : List ℕ)
    → map (λ pick. Some (with_admin pick target hit users)) (map other (filter (λ place. not (eqb place target)) xs))
    ≡ flat (by_other hit users target) xs
others_are hit users target [] = refl
others_are hit users target (x ∷ xs) = by_test (not (eqb x target)) refl (others_are hit users target xs)
  where
    by_test : (t : Bool) → not (eqb x target) ≡ t
        → map (λ pick. Some (with_admin pick target hit users)) (map other (filter (λ place. not (eqb place target)) xs))
        ≡ flat (by_other hit users target) xs
        → map (λ pick. Some (with_admin pick target hit users)) (map other (filter (λ place. not (eqb place target)) (x ∷ xs)))
        ≡ by_other hit users target x ++ flat (by_other hit users target) xs
    by_test true e rest = rw e (ap (λ l. Some (with_admin (other x) target hit users) ∷ l) rest)
    by_test false e rest = rw e rest

pub picks_are : (hit : List ℕ) (users : List Need) (target : ℕ)
    → by_picks hit users target ≡ by_users hit users target ++ Some (users ++ record { hits = hit ∷ []; lacks = [] } ∷ []) ∷ []
picks_are hit users target =
    let image : Pick → Option (List Need) = λ pick. Some (with_admin pick target hit users) in
    ap (λ l. image itself ∷ l)
    (map_append image (map other (filter (λ place. not (eqb place target)) (count_up 0 (length users)))) (fresh ∷ [])
    ∙ ap (λ l. l ++ image fresh ∷ []) (others_are hit users target (count_up 0 (length users))))

-- the target's requirement is exchanged first
pub before_is : (hit : List ℕ) (needs : List Need) (target : ℕ) (one : Need)
    → by_picks hit (slice_set needs target one) target ≡ by_before hit needs target (Some one)
before_is hit needs target one =
    ap (λ n. map (λ pick. Some (with_admin pick target hit (slice_set needs target one))) (picks target n)) (length_set needs target one)

-- none of them is open

pub each_mapped : {A B : Type 0} (Q : B → Type 0) (f : A → B) → ((x : A) → Q (f x)) → (xs : List A) → Each Q (map f xs)
each_mapped Q f h [] = tt
each_mapped Q f h (x ∷ xs) = (h x, each_mapped Q f h xs)

pub possible_less : (users : List Need) (place : ℕ) (hit : List ℕ) → IsPossible (change_at place (add_hit hit) users) → IsPossible users
possible_less [] place hit h = tt
possible_less (user ∷ users) zero hit h = (h.0.1, h.1)
possible_less (user ∷ users) (suc place) hit h = (h.0, possible_less users place hit h.1)

pub possible_without : (pick : Pick) (users : List Need) (target : ℕ) (hit : List ℕ) → IsPossible (with_admin pick target hit users)
    → IsPossible users
possible_without itself users target hit h = possible_less users target hit h
possible_without (other place) users target hit h = possible_less users place hit h
possible_without fresh users target hit h = each_left IsPossibleNeed users (record { hits = hit ∷ []; lacks = [] } ∷ []) h

pub impossible_picks : (members : List (List Need)) (hit : List ℕ) (users : List Need) (target from to : ℕ) → target < length users
    → ¬ IsPossible users → to ≡ from + (length users + 1) → Counts (IsMissed members) (by_picks hit users target) from false to
impossible_picks members hit users target from to l none on =
    let image : Pick → Option (List Need) = λ pick. Some (with_admin pick target hit users) in
    let long = length_mapped image (picks target (length users)) in
    let count = pick_count target (length users) l in (
      omega (arith, long, count, on),
      each_mapped (λ one. ¬ IsMissed members one) image (λ pick missed. none (of_pick pick missed)) (picks target (length users)),
    )
  where
    of_pick : (pick : Pick) → IsMissed members (Some (with_admin pick target hit users)) → IsPossible users
    of_pick pick missed =
        let same : with_admin pick target hit users ≡ missed.0 = cc in
        possible_without pick users target hit (subst IsPossible (sym same) missed.2.0)

pub no_picks : (members : List (List Need)) (hit : List ℕ) (needs : List Need) (target from to : ℕ) → target < length needs
    → to ≡ from + (length needs + 1) → Counts (IsMissed members) (by_before hit needs target None) from false to
no_picks members hit needs target from to l on =
    let image : Pick → Option (List Need) = λ pick. None in
    let long = length_mapped image (picks target (length needs)) in
    let count = pick_count target (length needs) l in
    (omega (arith, long, count, on), each_mapped (λ one. ¬ IsMissed members one) image (λ pick missed. cc) (picks target (length needs)))

-- one that is something is open where it is uncovered
pub missed_some : (members : List (List Need)) (needs : List Need) (answer : Bool) → (IsTrue answer ↔ IsUncovered members needs)
    → (IsTrue answer ↔ IsMissed members (Some needs))
missed_some members needs answer h =
    (λ yes'. (needs, refl, h.0 yes'), λ missed. let same : missed.0 ≡ needs = cc in h.1 (subst (IsUncovered members) same missed.2))

-- one act
pub counts_some : (members : List (List Need)) (needs : List Need) (answer found : Bool) (from to : ℕ) → (IsTrue answer ↔ IsUncovered members needs)
    → found ≡ answer → (found ≡ true → to ≡ from) → (found ≡ false → to ≡ from + 1) → Counts (IsMissed members) (Some needs ∷ []) from found to
counts_some members needs answer found from to h same stay on =
    counts_one (IsMissed members) (Some needs) answer found from to (missed_some members needs answer h) same stay on

-- the target itself, the others and a new user, one after another

pub itself_open : (members : List (List Need)) (hit : List ℕ) (users : List Need) (target from to : ℕ) (found : Bool)
    → Counts (IsMissed members) (Some (change_at target (add_hit hit) users) ∷ []) from found to → found ≡ true
    → Counts (IsMissed members) (by_users hit users target) from true to
itself_open members hit users target from to true h yes' =
    counts_stop (IsMissed members) (Some (change_at target (add_hit hit) users) ∷ []) (flat (by_other hit users target) (count_up 0 (length users)))
    from to h
itself_open members hit users target from to false h yes' = cc

pub users_count : (members : List (List Need)) (hit : List ℕ) (list : List Wanted) (target from now to : ℕ) (first found : Bool)
    → Counts (IsMissed members) (Some (change_at target (add_hit hit) (needs_wanted list)) ∷ []) from first now → first ≡ false
    → Counts (IsMissed members) (flat (by_other hit (needs_wanted list) target) (count_up 0 (length list))) now found to
    → Counts (IsMissed members) (by_users hit (needs_wanted list) target) from found to
users_count members hit list target from now to false found passed not h =
    let users = needs_wanted list in
    counts_more (IsMissed members) (Some (change_at target (add_hit hit) users) ∷ []) (flat (by_other hit users target) (count_up 0 (length users)))
    from now found to passed
    (subst (λ n. Counts (IsMissed members) (flat (by_other hit users target) (count_up 0 n)) now found to) (sym (length_mapped need_wanted list)) h)
users_count members hit list target from now to true found passed not h = cc

pub user_open : (members : List (List Need)) (hit : List ℕ) (users : List Need) (target from to : ℕ) (found : Bool)
    → Counts (IsMissed members) (by_users hit users target) from found to → found ≡ true
    → Counts (IsMissed members) (by_picks hit users target) from true to
user_open members hit users target from to true h yes' =
    subst (λ l. Counts (IsMissed members) l from true to) (sym (picks_are hit users target))
    (counts_stop (IsMissed members) (by_users hit users target) (Some (users ++ record { hits = hit ∷ []; lacks = [] } ∷ []) ∷ []) from to h)
user_open members hit users target from to false h yes' = cc

pub picks_count : (members : List (List Need)) (hit : List ℕ) (users : List Need) (target from now to : ℕ) (first found : Bool)
    → Counts (IsMissed members) (by_users hit users target) from first now → first ≡ false
    → Counts (IsMissed members) (Some (users ++ record { hits = hit ∷ []; lacks = [] } ∷ []) ∷ []) now found to
    → Counts (IsMissed members) (by_picks hit users target) from found to
picks_count members hit users target from now to false found passed not last =
    subst (λ l. Counts (IsMissed members) l from found to) (sym (picks_are hit users target))
    (counts_more (IsMissed members) (by_users hit users target) (Some (users ++ record { hits = hit ∷ []; lacks = [] } ∷ []) ∷ []) from now found to
    passed last)
picks_count members hit users target from now to true found passed not last = cc

-- the acts on a target, where they are of use to it
pub target_counts : (members : List (List Need)) (rules : Rules) (given : Option Need) (hit : List ℕ) (needs : List Need) (role target : ℕ)
    (need : Need) (used : Bool) (before : Option Need) (from to : ℕ) (found : Bool) → used ≡ is_of_use given role need → used ≡ true
    → before ≡ before_by rules given role need → Counts (IsMissed members) (by_before hit needs target before) from found to
    → Counts (IsMissed members) (by_target rules given hit needs role target need) from found to
target_counts members rules given hit needs role target need used before from to found of_use yes' same h =
    let is : is_of_use given role need ≡ true = sym of_use ∙ yes' in
    rw is (subst (λ b. Counts (IsMissed members) (by_before hit needs target b) from found to) same h)

-- what is written back to a list of the same length
pub written : {A : Type 0} (xs new : List A) (n : ℕ) → n ≡ length xs → length new ≡ length xs → take n (new ++ drop (length new) xs) ≡ new
written xs new n long same = take-append-le n new (drop (length new) xs) (omega (arith, long, same)) ∙ take_all new n (omega (arith, long, same))

-- what is written back is what was there
pub kept : {A : Type 0} (xs new : List A) (n : ℕ) → n ≡ length xs → new ≡ xs → take n (new ++ drop (length new) xs) ≡ xs
kept xs new n long same =
    subst (λ l. take n (l ++ drop (length l) xs) ≡ xs) (sym same)
    (take-append-le n xs (drop (length xs) xs) (omega (arith, long)) ∙ take_all xs n (omega (arith, long)))

-- marks, user by user

pub marks_long : (order : Graph) (needs : List Need) (marks : List UserMark) → AreUserMarks order needs marks → length marks ≡ length needs
marks_long order [] [] h = refl
marks_long order [] (mark ∷ marks) h = absurd h
marks_long order (need ∷ needs) [] h = absurd h
marks_long order (need ∷ needs) (mark ∷ marks) h = ap (λ n. suc n) (marks_long order needs marks h.1)

pub marks_set : (order : Graph) (needs : List Need) (marks : List UserMark) (place : ℕ) (need : Need) (mark : UserMark)
    → AreUserMarks order needs marks → IsUserMark order need mark → AreUserMarks order (slice_set needs place need) (slice_set marks place mark)
marks_set order [] [] place need mark h is = tt
marks_set order [] (other' ∷ marks) place need mark h is = absurd h
marks_set order (one ∷ needs) [] place need mark h is = absurd h
marks_set order (one ∷ needs) (other' ∷ marks) zero need mark h is = (is, h.1)
marks_set order (one ∷ needs) (other' ∷ marks) (suc place) need mark h is = (h.0, marks_set order needs marks place need mark h.1 is)

pub marks_put : (order : Graph) (needs : List Need) (marks : List UserMark) (place : ℕ) (hit : List ℕ) (old mark : UserMark)
    → AreUserMarks order needs marks → slice_get marks place ≡ Some old
    → ((need : Need) → IsUserMark order need old → IsUserMark order (add_hit hit need) mark)
    → AreUserMarks order (change_at place (add_hit hit) needs) (slice_set marks place mark)
marks_put order [] [] place hit old mark h at more = tt
marks_put order [] (other' ∷ marks) place hit old mark h at more = absurd h
marks_put order (one ∷ needs) [] place hit old mark h at more = absurd h
marks_put order (one ∷ needs) (other' ∷ marks) zero hit old mark h at more =
    let same : other' ≡ old = cc in (more one (subst (IsUserMark order one) same h.0), h.1)
marks_put order (one ∷ needs) (other' ∷ marks) (suc place) hit old mark h at more =
    (h.0, marks_put order needs marks place hit old mark h.1 at more)

pub marks_push : (order : Graph) (needs : List Need) (marks : List UserMark) (need : Need) (mark : UserMark)
    → AreUserMarks order needs marks → IsUserMark order need mark → AreUserMarks order (needs ++ need ∷ []) (marks ++ mark ∷ [])
marks_push order [] [] need mark h is = (is, tt)
marks_push order [] (other' ∷ marks) need mark h is = absurd h
marks_push order (one ∷ needs) [] need mark h is = absurd h
marks_push order (one ∷ needs) (other' ∷ marks) need mark h is = (h.0, marks_push order needs marks need mark h.1 is)

-- each user has a mark
pub mark_there : (order : Graph) (users : List Wanted) (marks : List UserMark) (place : ℕ) → place < length users
    → AreUserMarks order (needs_wanted users) marks → place < length marks
mark_there order users marks place l h =
    let long = marks_long order (needs_wanted users) marks h in
    let same = length_mapped need_wanted users in
    omega (arith, long, same, l)

-- the act that another user administers
pub other_counts : (members : List (List Need)) (hit : List ℕ) (users : List Need) (target admin : ℕ) (answer found : Bool) (from to : ℕ)
    → eqb admin target ≡ false → (IsTrue answer ↔ IsUncovered members (change_at admin (add_hit hit) users)) → found ≡ answer
    → (found ≡ true → to ≡ from) → (found ≡ false → to ≡ from + 1)
    → Counts (IsMissed members) (by_other hit users target admin) from found to
other_counts members hit users target admin answer found from to apart h same stay on =
    rw apart (counts_one (IsMissed members) (Some (change_at admin (add_hit hit) users)) answer found from to
    (missed_some members (change_at admin (add_hit hit) users) answer h) same stay on)
