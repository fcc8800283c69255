-- What is in normal form is its own normal form, and possible.
use Rattle.std.proofs.Common.{ℕ, ◌≡◌, List, [], ◌∷◌, map, Some, sym, ◌∙◌, ap, eqb, Bool, true, false, not, subst, refl, inl, inr}
use Rattle.std.specs.Prelude.{◌⊎◌, filter}
use Rattle.std.specs.List.{list_any}
use Rattle.std.proofs.lemmas.Bool.{eq-eqb}
use Rattle.list_words.proofs.TestLemmas.{or_right, not_false}
use Rattle.list_words.specs.Lists.{Each, Some_of}
use Rattle.role_order.specs.Orders.{set_before}
use Rattle.list_words.specs.Orders.{IsTotalOrder, AreRising, AreSorted}
use Rattle.role_order.specs.Roles.{AreApart, IsIn, IsOut, IsWithin, has_role, less_roles}
use Rattle.list_words.proofs.EachLemmas.{each_of, each_at, each_weaker, some_each}
use Rattle.role_order.proofs.OrderLemmas.{set_order}
use Rattle.list_words.proofs.OrderLemmas.{not_both}
use Rattle.arbac_laws.specs.Needs.{Covers, CoversNeed, IsPossible, IsPossibleNeed, Need}
use Rattle.arbac_laws.specs.Orders.{need_before}
use Rattle.arbac_laws.specs.NormalForms.{IsNormal, IsNormalNeed, bare_hits, insert_by, insert_once, is_impossible, is_less, least_hits, normal_form}
use Rattle.arbac_laws.specs.NormalForms.{normal_need, sort_by, sort_once}
use Rattle.arbac_laws.proofs.NormalLemmas.{less_parts, normal_both, not_possible, possible_not}
use Rattle.list_words.proofs.GetLemmas.{some_cond}
use Rattle.arbac_laws.proofs.RoleLemmas.{cases_in, in_less}
use Rattle.arbac_laws.proofs.SameLemmas.{any_of}

-- possible

pub is_decided : (needs : List Need) → IsPossible needs ⊎ ¬ IsPossible needs
is_decided needs = by_test (is_impossible needs) refl
  where
    by_test : (t : Bool) → is_impossible needs ≡ t → IsPossible needs ⊎ ¬ IsPossible needs
    by_test true e = inr (λ p. let f = possible_not needs p in cc)
    by_test false e = inl (not_possible needs e)

pub covering_possible_need : (a b : Need) → CoversNeed a b → IsPossibleNeed b → IsPossibleNeed a
covering_possible_need a b covers possible =
    each_weaker (λ hit. Some_of (λ other. IsWithin (less_roles other b.lacks) hit) b.hits) (λ hit. (role : ℕ) × IsIn hit role × IsOut a.lacks role)
    (λ hit some. some_each (λ other. IsWithin (less_roles other b.lacks) hit) (λ other. (role : ℕ) × IsIn other role × IsOut b.lacks role)
    ((role : ℕ) × IsIn hit role × IsOut a.lacks role)
    (λ other within free. (free.0, within free.0 (in_less other b.lacks free.0 free.1 free.2), out free.0 (cases_in a.lacks free.0) free.2))
    b.hits some possible) a.hits covers.hits
  where
    out : (role : ℕ) → IsIn a.lacks role ⊎ IsOut a.lacks role → IsOut b.lacks role → IsOut a.lacks role
    out role (inl lacked) free = let both = covers.lacks role lacked in cc
    out role (inr free) other = free

-- what covers a possible requirement is possible
pub covering_possible : (a b : List Need) → Covers a b → IsPossible b → IsPossible a
covering_possible a b covers possible = each_of IsPossibleNeed a (λ i need at.
    let one = covers.each i need at in covering_possible_need need one.0 one.2 (each_at IsPossibleNeed b (covers.to i) one.0 possible one.1))

pub both_possible : (needs form : List Need) → normal_form needs ≡ Some form → IsPossible needs × IsPossible form
both_possible needs form e =
    let possible = not_possible needs (some_cond (is_impossible needs) (sort_by need_before (map normal_need needs)) form e).0 in
    (possible, covering_possible form needs (normal_both needs form e).1 possible)

-- sorted lists stay as they are

pub filter_all : {A : Type 0} (p : A → Bool) (xs : List A) → Each (λ x. p x ≡ true) xs → filter p xs ≡ xs
filter_all p [] h = refl
filter_all p (x ∷ xs) h = let passed = h.0 in rw passed (ap (λ t. x ∷ t) (filter_all p xs h.1))

pub rising_once : {A : Type 0} (before : A → A → Bool) → IsTotalOrder before → (xs : List A) → AreRising before xs → sort_once before xs ≡ xs
rising_once before o [] r = refl
rising_once {A} before o (x ∷ xs) r = ap (insert_once before x) (rising_once before o xs r.1) ∙ first xs r.0
  where
    first : (ys : List A) → Each (λ y. before x y ≡ true) ys → insert_once before x ys ≡ x ∷ ys
    first [] h = refl
    first (y ∷ ys) h = let less = h.0 in rw (not_false (before y x) (not_both before o x y less), less) refl

pub sorted_by : {A : Type 0} (before : A → A → Bool) (xs : List A) → AreSorted before xs → sort_by before xs ≡ xs
sorted_by before [] s = refl
sorted_by {A} before (x ∷ xs) s = ap (insert_by before x) (sorted_by before xs s.1) ∙ first xs s.0
  where
    first : (ys : List A) → Each (λ y. ¬ (before y x ≡ true)) ys → insert_by before x ys ≡ x ∷ ys
    first [] h = refl
    first (y ∷ ys) h = rw (not_false (before y x) h.0) refl

-- one user requirement

pub bare_already : (need : Need) → IsNormalNeed need → bare_hits need ≡ need.hits
bare_already need n = go need.hits n.bare
  where
    kept : (hit : List ℕ) → AreApart need.lacks hit → less_roles hit need.lacks ≡ hit
    kept hit apart = filter_all (λ x. not (has_role need.lacks x)) hit (passes hit (λ role held. free role held (cases_in need.lacks role)))
      where
        free : (role : ℕ) → IsIn hit role → IsIn need.lacks role ⊎ IsOut need.lacks role → IsOut need.lacks role
        free role held (inl lacked) = absurd (apart role lacked held)
        free role held (inr out) = out

        passes : (xs : List ℕ) → ((role : ℕ) → IsIn xs role → IsOut need.lacks role) → Each (λ x. not (has_role need.lacks x) ≡ true) xs
        passes [] h = tt
        passes (x ∷ xs) h = (rw (h x (rw (eq-eqb x x refl) refl)) refl, passes xs (λ role held. h role (or_right (eqb x role) (has_role xs role) held)))

    go : (hits : List (List ℕ)) → Each (λ hit. AreApart need.lacks hit) hits → map (λ hit. less_roles hit need.lacks) hits ≡ hits
    go [] h = refl
    go (hit ∷ hits) h = ap (λ v. v ∷ map (λ hit. less_roles hit need.lacks) hits) (kept hit h.0) ∙ ap (λ t. hit ∷ t) (go hits h.1)

pub least_already : (hits : List (List ℕ)) → Each (λ hit. Each (λ other. IsWithin other hit → other ≡ hit) hits) hits → least_hits hits ≡ hits
least_already hits least = filter_all (λ hit. not (list_any (λ other. is_less other hit) hits)) hits
    (each_weaker (λ hit. Each (λ other. IsWithin other hit → other ≡ hit) hits) (λ hit. not (list_any (λ other. is_less other hit) hits) ≡ true)
    (λ hit only. rw (not_false (list_any (λ other. is_less other hit) hits) (none hit only)) refl) hits least)
  where
    none : (hit : List ℕ) → Each (λ other. IsWithin other hit → other ≡ hit) hits → list_any (λ other. is_less other hit) hits ≡ true → ⊥
    none hit only e =
        some_each (λ other. is_less other hit ≡ true) (λ other. IsWithin other hit → other ≡ hit) ⊥
        (λ other less same. let parts = less_parts other hit less in parts.1 (subst (λ v. IsWithin hit v) (sym (same parts.0)) (λ role held. held)))
        hits (any_of (λ other. is_less other hit ≡ true) (λ other. is_less other hit) (λ other f. f) hits e) only

pub need_fixed : (need : Need) → IsNormalNeed need → normal_need need ≡ need
need_fixed need n = ap (λ (h : List (List ℕ)). let v : Need = record { hits = h; lacks = need.lacks } in v) hits
  where
    hits : sort_once set_before (least_hits (bare_hits need)) ≡ need.hits
    hits = ap (λ h. sort_once set_before (least_hits h)) (bare_already need n) ∙ ap (sort_once set_before) (least_already need.hits n.least)
        ∙ rising_once set_before set_order need.hits n.sorted

-- a requirement

pub needs_fixed : (needs : List Need) → Each IsNormalNeed needs → map normal_need needs ≡ needs
needs_fixed [] h = refl
needs_fixed (x ∷ xs) h = ap (λ v. v ∷ map normal_need xs) (need_fixed x h.0) ∙ ap (λ t. x ∷ t) (needs_fixed xs h.1)

pub normal_possible : (need : Need) → IsNormalNeed need → IsPossibleNeed need
normal_possible need n = go need.hits n.filled n.bare
  where
    out : (role : ℕ) (hit : List ℕ) → AreApart need.lacks hit → IsIn hit role → IsIn need.lacks role ⊎ IsOut need.lacks role
        → IsOut need.lacks role
    out role hit apart held (inl lacked) = absurd (apart role lacked held)
    out role hit apart held (inr free) = free

    go : (hits : List (List ℕ)) → Each (λ hit. (role : ℕ) × IsIn hit role) hits → Each (λ hit. AreApart need.lacks hit) hits
        → Each (λ hit. (role : ℕ) × IsIn hit role × IsOut need.lacks role) hits
    go [] f b = tt
    go (hit ∷ hits) f b = ((f.0.0, f.0.1, out f.0.0 hit b.0 f.0.1 (cases_in need.lacks f.0.0)), go hits f.1 b.1)

pub form_fixed : (form : List Need) → IsNormal form → normal_form form ≡ Some form
form_fixed form n =
    rw (possible_not form (each_weaker IsNormalNeed IsPossibleNeed normal_possible form n.each))
    (ap Some (ap (sort_by need_before) (needs_fixed form n.each) ∙ sorted_by need_before form n.sorted))
