-- Texts that grow piece by piece.
use Rattle.std.proofs.Common.{ℕ, ◌≡◌, ◌+◌, ◌<◌, ◌≤◌, ◌∙◌, Bool, true, false, cond, List, [], ◌∷◌, ◌++◌, append_assoc}
use Rattle.std.proofs.Common.{append-nil, length, drop, refl, arith, sym, ap, zero, suc, Some, eqb, ltb, get_or}
use Rattle.std.specs.Prelude.{slice_get, codes, map, if◌then◌else◌, ◌==◌, nat_lt}
use Rattle.std.specs.List.{flat_map, join_by}
use Rattle.std.proofs.lemmas.Bool.{eqb-true}
use Rattle.std.proofs.lemmas.Bool.Decides.{nat_tests}
use Rattle.list_words.specs.Lists.{Each}
use Rattle.role_order.specs.Roles.{has_role, Rises}
use Rattle.role_order.proofs.SetLemmas.{has_role-below}
use Rattle.arbac_policy.specs.declared.profile.Profile.{Profile}
use Rattle.arbac_policy.specs.declared.rule.CanRevoke.{CanRevoke}
use Rattle.arbac_policy.specs.Truth.{Term}
use Rattle.arbac_policy.specs.PlainRules.{AssignRule}
use Rattle.question_writer.specs.Texts.{line, quoted, listed, role_text, pair_text, version_text, truth_text, exclusive_text, goal_text, assign_text}
use Rattle.question_writer.specs.Texts.{revoke_text, profile_text, keys_text, tables_text}
use Rattle.question_text.specs.Values.{QuestionValue}
use Rattle.text_pieces.proofs.PieceLemmas.{moved, finished, drop_at, drop_all}

-- ---- items with commas between them

-- what stands before the item at the place
abbrev pub comma : ℕ → List ℕ
comma place = if place == 0 then [] else codes ", "

-- the items from the place on
abbrev pub joined_from : {A : Type 0} → (A → List ℕ) → ℕ → List A → List ℕ
joined_from item place xs = if place == 0 then join_by item (codes ", ") xs else flat_map (λ y. codes ", " ++ item y) xs

more_than_0 : (place : ℕ) → (place + 1 == 0) ≡ false
more_than_0 place = grind (arith, nat_tests)

joined_front : {A : Type 0} (item : A → List ℕ) (place : ℕ) (x : A) (xs : List A)
    → joined_from item place (x ∷ xs) ≡ (comma place ++ item x) ++ joined_from item (place + 1) xs
joined_front item place x xs = rw (more_than_0 place) (by_test (place == 0))
  where
    by_test : (t : Bool)
        → cond t (join_by item (codes ", ") (x ∷ xs))
        (flat_map (λ y. codes ", " ++ item y) (x ∷ xs)) ≡ (cond t [] (codes ", ") ++ item x) ++ flat_map (λ y. codes ", " ++ item y) xs
    by_test true = refl
    by_test false = refl

joined_none : {A : Type 0} (item : A → List ℕ) (place : ℕ) → joined_from item place [] ≡ []
joined_none item place = by_test (place == 0)
  where
    by_test : (t : Bool) → cond t (join_by item (codes ", ") []) (flat_map (λ y. codes ", " ++ item y) []) ≡ []
    by_test true = refl
    by_test false = refl

pub joined_step : {A : Type 0} (item : A → List ℕ) (xs : List A) (place : ℕ) (x : A) (text mid new whole : List ℕ) → slice_get xs place ≡ Some x
    → text ++ joined_from item place (drop place xs) ≡ whole → mid ≡ text ++ comma place → new ≡ mid ++ item x
    → new ++ joined_from item (place + 1) (drop (place + 1) xs) ≡ whole
joined_step item xs place x text mid new whole at h e f =
    moved text (comma place ++ item x) new (joined_from item (place + 1) (drop (place + 1) xs)) whole
    (ap (λ t. text ++ t) (sym (ap (joined_from item place) (drop_at xs place x at) ∙ joined_front item place x (drop (place + 1) xs))) ∙ h)
    (f ∙ ap (λ t. t ++ item x) e ∙ append_assoc text (comma place) (item x))

-- the whole list, in its brackets
pub joined_end : {A : Type 0} (item : A → List ℕ) (xs : List A) (place : ℕ) (old front text new : List ℕ) → length xs ≤ place
    → front ≡ old ++ codes "["
    → text ++ joined_from item place (drop place xs) ≡ front ++ join_by item (codes ", ") xs → new ≡ text ++ codes "]" → new ≡ old ++ listed item xs
joined_end item xs place old front text new end e h f =
    let none : joined_from item place (drop place xs) ≡ [] = ap (joined_from item place) (drop_all xs place end) ∙ joined_none item place in
    f ∙ ap (λ t. t ++ codes "]") (finished text (joined_from item place (drop place xs)) (front ++ join_by item (codes ", ") xs) none h
    ∙ ap (λ t. t ++ join_by item (codes ", ") xs) e)
    ∙ append_assoc (old ++ codes "[") (join_by item (codes ", ") xs) (codes "]") ∙ append_assoc old (codes "[") (join_by item (codes ", ") xs ++ codes "]")

pub name_at : (names : List (List ℕ)) (role : ℕ) (name : List ℕ) → Some name ≡ slice_get names role → name ≡ get_or names role []
name_at [] role name e = cc
name_at (n ∷ ns) zero name e = cc
name_at (n ∷ ns) (suc role) name e = name_at ns role name e

-- ---- the roles of a set, one after another

-- the roles below the number
unfoldable pub roles_below : ℕ → List ℕ → List ℕ
roles_below at [] = []
roles_below at (x ∷ xs) = if nat_lt x at then x ∷ roles_below at xs else []

pub none_below : (set : List ℕ) → [] ≡ roles_below 0 set
unfolding roles_below
none_below [] = refl
none_below (x ∷ xs) = let test : nat_lt x 0 ≡ false = grind (arith, nat_tests) in rw test refl

none_of_rest : (xs : List ℕ) (x at : ℕ) → Each (λ y. x < y) xs → at ≤ x + 1 → roles_below at xs ≡ []
unfolding roles_below
none_of_rest [] x at h l = refl
none_of_rest (y ∷ ys) x at h l = let first = h.0 in let test : nat_lt y at ≡ false = grind (arith, nat_tests) in rw test refl

less_more : (x at : ℕ) → ltb x at ≡ true → ltb x (at + 1) ≡ true
less_more x at e = grind (arith, nat_tests)

less_apart : (x at : ℕ) → ltb x at ≡ true → eqb x at ≡ false
less_apart x at e = grind (arith, nat_tests)

same_more : (x at : ℕ) → eqb x at ≡ true → ltb x (at + 1) ≡ true
same_more x at e = grind (arith, nat_tests)

past_more : (x at : ℕ) → ltb x at ≡ false → eqb x at ≡ false → ltb x (at + 1) ≡ false
past_more x at e f = grind (arith, nat_tests)

past_absent : (x at : ℕ) (xs : List ℕ) → ltb x at ≡ false → eqb x at ≡ false → Each (λ y. x < y) xs → has_role (x ∷ xs) at ≡ false
past_absent x at xs e f h = has_role-below at x xs (grind (arith, nat_tests)) h

pub below_step : (set : List ℕ) (at : ℕ) → Rises set → roles_below (at + 1) set ≡ roles_below at set ++ (if has_role set at then at ∷ [] else [])
unfolding roles_below
below_step [] at h = refl
below_step (x ∷ xs) at h = by_test (ltb x at) (eqb x at) refl refl (below_step xs at h.1)
  where
    by_test : (less same : Bool) → ltb x at ≡ less → eqb x at ≡ same
        → roles_below (at + 1) xs ≡ roles_below at xs ++ (if has_role xs at then at ∷ [] else [])
        → roles_below (at + 1) (x ∷ xs) ≡ roles_below at (x ∷ xs) ++ (if has_role (x ∷ xs) at then at ∷ [] else [])
    by_test true same e f rest = rw (less_more x at e, e, less_apart x at e) (ap (λ l. x ∷ l) rest)
    by_test false true e f rest =
        let here : x ≡ at = eqb-true x at f in
        rw (same_more x at f, e, f) (ap (λ l. x ∷ l) (none_of_rest xs x (at + 1) h.0 (omega arith)) ∙ ap (λ n. n ∷ []) here)
    by_test false false e f rest = rw (past_more x at e f, e, past_absent x at xs e f h.0) refl

pub below_all : (set : List ℕ) (at : ℕ) → Each (λ x. x < at) set → roles_below at set ≡ set
unfolding roles_below
below_all [] at h = refl
below_all (x ∷ xs) at h = let first = h.0 in let test : nat_lt x at ≡ true = grind (arith, nat_tests) in rw test (ap (λ l. x ∷ l) (below_all xs at h.1))

-- ---- the keys and the tables of a question

in_order : (t0 t1 t2 p rest : List ℕ) → t1 ≡ t0 ++ p → t2 ≡ t1 ++ rest → t2 ≡ t0 ++ (p ++ rest)
in_order t0 t1 t2 p rest e f = f ∙ ap (λ t. t ++ rest) e ∙ append_assoc t0 p rest

pub keys_done : (q : QuestionValue) (names : List (List ℕ)) (edges pairs : List (ℕ × ℕ)) (goal : List Term)
    (version truth t0 t1 t2 t3 t4 t5 t6 t7 : List ℕ)
    → names ≡ q.names → edges ≡ q.edges → pairs ≡ q.exclusive → goal ≡ q.goal → version ≡ version_text pairs
    → truth ≡ truth_text q.separate
    → t1 ≡ t0 ++ line (codes "version") version
    → t2 ≡ t1 ++ line (codes "separate") truth
    → t3 ≡ t2 ++ line (codes "roles") (listed quoted names)
    → t4 ≡ t3 ++ line (codes "admin_roles") (listed (role_text names) q.admin_roles)
    → t5 ≡ t4 ++ line (codes "edges") (listed (pair_text names) edges)
    → t6 ≡ t5 ++ exclusive_text names pairs
    → t7 ≡ t6 ++ goal_text names goal
    → t7 ≡ t0 ++ keys_text q
unfolding keys_text
keys_done q names edges pairs goal version truth t0 t1 t2 t3 t4 t5 t6 t7 en ee ep eg ev et e1 e2 e3 e4 e5 e6 e7 =
    in_order t0 t1 t7 _ _ (e1 ∙ ap (λ v. t0 ++ line (codes "version") v) (ev ∙ ap version_text ep))
    (in_order t1 t2 t7 _ _ (e2 ∙ ap (λ v. t1 ++ line (codes "separate") v) et)
    (in_order t2 t3 t7 _ _ (e3 ∙ ap (λ ns. t2 ++ line (codes "roles") (listed quoted ns)) en)
    (in_order t3 t4 t7 _ _ (e4 ∙ ap (λ ns. t3 ++ line (codes "admin_roles") (listed (role_text ns) q.admin_roles)) en)
    (in_order t4 t5 t7 _ _ (e5 ∙ ap (λ ns. t4 ++ line (codes "edges") (listed (pair_text ns) edges)) en
    ∙ ap (λ es. t4 ++ line (codes "edges") (listed (pair_text q.names) es)) ee)
    (in_order t5 t6 t7 _ _ (e6 ∙ ap (λ ns. t5 ++ exclusive_text ns pairs) en ∙ ap (λ ps. t5 ++ exclusive_text q.names ps) ep)
    (e7 ∙ ap (λ ns. t6 ++ goal_text ns goal) en ∙ ap (λ g. t6 ++ goal_text q.names g) eg))))))

pub tables_done : (q : QuestionValue) (names : List (List ℕ)) (assign assignp : List AssignRule) (revoke revokep : List CanRevoke)
    (profiles : List Profile) (t0 t1 t2 t3 t4 t5 : List ℕ)
    → names ≡ q.names → assign ≡ q.assign → revoke ≡ q.revoke → assignp ≡ q.assignp → revokep ≡ q.revokep → profiles ≡ q.profiles
    → t1 ≡ t0 ++ flat_map (assign_text (codes "can_assign") names) assign
    → t2 ≡ t1 ++ flat_map (revoke_text (codes "can_revoke") names) revoke
    → t3 ≡ t2 ++ flat_map (assign_text (codes "can_assignp") names) assignp
    → t4 ≡ t3 ++ flat_map (revoke_text (codes "can_revokep") names) revokep
    → t5 ≡ t4 ++ flat_map (profile_text names) profiles
    → t5 ≡ t0 ++ tables_text q
unfolding tables_text
tables_done q names assign assignp revoke revokep profiles t0 t1 t2 t3 t4 t5 en ea er eap erp epr e1 e2 e3 e4 e5 =
    in_order t0 t1 t5 _ _ (e1 ∙ ap (λ ns. t0 ++ flat_map (assign_text (codes "can_assign") ns) assign) en
    ∙ ap (λ rs. t0 ++ flat_map (assign_text (codes "can_assign") q.names) rs) ea)
    (in_order t1 t2 t5 _ _ (e2 ∙ ap (λ ns. t1 ++ flat_map (revoke_text (codes "can_revoke") ns) revoke) en
    ∙ ap (λ rs. t1 ++ flat_map (revoke_text (codes "can_revoke") q.names) rs) er)
    (in_order t2 t3 t5 _ _ (e3 ∙ ap (λ ns. t2 ++ flat_map (assign_text (codes "can_assignp") ns) assignp) en
    ∙ ap (λ rs. t2 ++ flat_map (assign_text (codes "can_assignp") q.names) rs) eap)
    (in_order t3 t4 t5 _ _ (e4 ∙ ap (λ ns. t3 ++ flat_map (revoke_text (codes "can_revokep") ns) revokep) en
    ∙ ap (λ rs. t3 ++ flat_map (revoke_text (codes "can_revokep") q.names) rs) erp)
    (e5 ∙ ap (λ ns. t4 ++ flat_map (profile_text ns) profiles) en ∙ ap (λ ps. t4 ++ flat_map (profile_text q.names) ps) epr))))
