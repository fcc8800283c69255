-- What wants less has a pre-image that covers.
use Rattle.std.proofs.Common.{ℕ, ◌≡◌, ◌<◌, ◌||◌, true, not, List, [], ◌∷◌, ◌++◌, Some, zero, suc, subst, refl, inl, inr}
use Rattle.std.specs.Prelude.{◌⊎◌, filter, slice_get, slice_set}
use Rattle.list_words.specs.Lists.{Each, Some_of}
use Rattle.list_words.proofs.EachLemmas.{each_append, each_by, each_some, each_weaker, one_some, some_left, some_one, some_weaker}
use Rattle.list_words.proofs.EmbedLemmas.{embeds_front, embeds_none}
use Rattle.list_words.proofs.GetLemmas.{set_itself, some_cond}
use Rattle.list_words.proofs.TestLemmas.{not_false, not_true}
use Rattle.role_order.specs.Roles.{IsIn, IsWithin, has_role, join_roles, less_roles}
use Rattle.arbac_policy.specs.Rules.{Rules}
use Rattle.arbac_laws.specs.Needs.{Covers, CoversNeed, Need}
use Rattle.arbac_laws.specs.NormalForms.{AreSets, normal_form}
use Rattle.arbac_laws.specs.PreImages.{Pick, add_hit, barred, before_assign, change_at, is_barred, with_admin, itself, other, fresh}
use Rattle.arbac_laws.proofs.CoverLemmas.{covers_itself, covers_transitive}
use Rattle.arbac_laws.proofs.FixedLemmas.{both_possible, covering_possible}
use Rattle.arbac_laws.proofs.NormalLemmas.{form_is_normal, normal_both}
use Rattle.arbac_laws.proofs.RoleLemmas.{less_in}
use Rattle.arbac_laws.proofs.SameLemmas.{same_needs}
use Rattle.arbac_laws.proofs.SortLemmas.{filter_in, in_filter}
use Rattle.arbac_laws.specs.Recorded.{Entry}
use Rattle.search_laws.specs.Beats.{Beats}
use Rattle.search_laws.proofs.CandidateLemmas.{has_form}

-- normal forms

-- what covers a requirement that has a form has one too, which covers the other
pub covering_form : (a b form : List Need) → Covers a b → normal_form b ≡ Some form
    → (covering : List Need) × (normal_form a ≡ Some covering) × Covers covering form
covering_form a b form covers e =
    let made = has_form a (covering_possible a b covers (both_possible b form e).0) in
    (made.0, made.1, covers_transitive made.0 a form (normal_both a made.0 made.1).1 (covers_transitive a b form covers (normal_both b form e).0))

-- requirements that cover each other have one form
pub one_form : (a b first second : List Need) → Each AreSets a → Each AreSets b → Covers a b → Covers b a → normal_form a ≡ Some first
    → normal_form b ≡ Some second → first ≡ second
one_form a b first second s t f g d e = same_needs first second (form_is_normal a first s d) (form_is_normal b second t e)
    (covers_transitive first a second (normal_both a first d).1 (covers_transitive a b second f (normal_both b second e).0))
    (covers_transitive second b first (normal_both b second e).1 (covers_transitive b a first g (normal_both a first d).0))

-- the form of what covers another, and isn't covered by it or stands before it, beats the other's
pub form_beats : (candidates : List Entry) (i j : ℕ) (by entry : Entry) (a b : List Need) → slice_get candidates i ≡ Some by
    → slice_get candidates j ≡ Some entry
    → normal_form a ≡ Some by.needs → normal_form b ≡ Some entry.needs → Covers a b → ¬ Covers b a ⊎ (i < j) → Beats candidates i j
form_beats candidates i j by entry a b at there e f covers apart = record {
  by = by;
  by_is = at;
  beaten = entry;
  beaten_is = there;
  covers = covers_transitive by.needs a entry.needs (normal_both a by.needs e).1 (covers_transitive a b entry.needs covers (normal_both b entry.needs f).0);
  apart = by_case apart;
}
  where
    by_case : ¬ Covers b a ⊎ (i < j) → ¬ (by.needs ≡ entry.needs) ⊎ (i < j)
    by_case (inl n) = inl (λ same. n (covers_transitive b entry.needs a (normal_both b entry.needs f).0
        (subst (λ form. Covers form a) same (normal_both a by.needs e).1)))
    by_case (inr l) = inr l

-- each user covers the one at its place
abbrev pub Along : List Need → List Need → Type 0
Along [] [] = Unit {0}
Along [] (y ∷ ys) = ⊥
Along (x ∷ xs) [] = ⊥
Along (x ∷ xs) (y ∷ ys) = CoversNeed x y × Along xs ys

-- then the one covers the other
pub covers_along : (xs ys : List Need) → Along xs ys → Covers xs ys
covers_along [] [] h = embeds_none CoversNeed []
covers_along [] (y ∷ ys) h = absurd h
covers_along (x ∷ xs) [] h = absurd h
covers_along (x ∷ xs) (y ∷ ys) h = embeds_front CoversNeed x y xs ys h.0 (covers_along xs ys h.1)

-- each user covers itself
pub along_itself : (xs : List Need) → Along xs xs
along_itself [] = tt
along_itself (x ∷ xs) = (covers_itself x, along_itself xs)

-- one user exchanged in both
pub along_set : (needs : List Need) (target : ℕ) (a b : Need) → CoversNeed a b → Along (slice_set needs target a) (slice_set needs target b)
along_set [] target a b h = tt
along_set (x ∷ xs) zero a b h = (h, along_itself xs)
along_set (x ∷ xs) (suc target) a b h = (covers_itself x, along_set xs target a b h)

-- one user more at the end of both
pub along_more : (xs ys : List Need) (x y : Need) → Along xs ys → CoversNeed x y → Along (xs ++ x ∷ []) (ys ++ y ∷ [])
along_more [] [] x y h c = (c, tt)
along_more [] (z ∷ ys) x y h c = absurd h
along_more (z ∷ xs) [] x y h c = absurd h
along_more (v ∷ xs) (w ∷ ys) x y h c = (h.0, along_more xs ys x y h.1 c)

-- one more hit on both sides
pub added_covers : (a b : Need) (hit less : List ℕ) → IsWithin less hit → CoversNeed a b → CoversNeed (add_hit hit a) (add_hit less b)
added_covers a b hit less within c = record {
  hits = (
    inl (λ role h. within role (less_in less b.lacks role h)),
    each_weaker (λ hit. Some_of (λ other. IsWithin (less_roles other b.lacks) hit) b.hits)
        (λ hit. Some_of (λ other. IsWithin (less_roles other b.lacks) hit) (less ∷ b.hits))
        (λ hit some. inr some) a.hits c.hits,
  );
  lacks = c.lacks;
}

-- one more hit on the covered side
pub bare_covers : (need : Need) (hit : List ℕ) → CoversNeed need (add_hit hit need)
bare_covers need hit = record {
  hits =
      each_weaker (λ h. Some_of (λ other. IsWithin (less_roles other need.lacks) h) need.hits)
      (λ h. Some_of (λ other. IsWithin (less_roles other need.lacks) h) (hit ∷ need.hits))
      (λ h some. inr some) need.hits (covers_itself need).hits;
  lacks = λ role h. h;
}

-- one hit more for the user at a place of both
pub along_change : (xs ys : List Need) (k : ℕ) (hit less : List ℕ) → IsWithin less hit → Along xs ys
    → Along (change_at k (add_hit hit) xs) (change_at k (add_hit less) ys)
along_change [] [] k hit less within h = tt
along_change [] (y ∷ ys) k hit less within h = absurd h
along_change (x ∷ xs) [] k hit less within h = absurd h
along_change (x ∷ xs) (y ∷ ys) zero hit less within h = (added_covers x y hit less within h.0, h.1)
along_change (x ∷ xs) (y ∷ ys) (suc k) hit less within h = (h.0, along_change xs ys k hit less within h.1)

-- the administrator's hit in both
pub along_admin : (pick : Pick) (target : ℕ) (xs ys : List Need) (hit less : List ℕ) → IsWithin less hit → Along xs ys
    → Along (with_admin pick target hit xs) (with_admin pick target less ys)
along_admin itself target xs ys hit less within h = along_change xs ys target hit less within h
along_admin (other place) target xs ys hit less within h = along_change xs ys place hit less within h
along_admin fresh target xs ys hit less within h =
    along_more xs ys (record { hits = hit ∷ []; lacks = [] }) (record { hits = less ∷ []; lacks = [] }) h
    (added_covers nobody nobody hit less within (covers_itself nobody))
  where
    nobody : Need
    nobody = record { hits = []; lacks = [] }

-- of one administrator, who wants less of both has the covering pre-image
pub acts_covered : (needs : List Need) (target : ℕ) (pick : Pick) (first second : Need) (hit less : List ℕ) → CoversNeed first second
    → IsWithin less hit
    → Covers (with_admin pick target hit (slice_set needs target first)) (with_admin pick target less (slice_set needs target second))
acts_covered needs target pick first second hit less c within =
    covers_along (with_admin pick target hit (slice_set needs target first)) (with_admin pick target less (slice_set needs target second))
    (along_admin pick target (slice_set needs target first) (slice_set needs target second) hit less within (along_set needs target first second c))

-- one hit more for the user at a place of the covered one
pub change_bare : (xs : List Need) (k : ℕ) (hit : List ℕ) → Along xs (change_at k (add_hit hit) xs)
change_bare [] k hit = tt
change_bare (x ∷ xs) zero hit = (bare_covers x hit, along_itself xs)
change_bare (x ∷ xs) (suc k) hit = (covers_itself x, change_bare xs k hit)

-- a list covers each longer one that begins with it
pub front_covers : (xs ys : List Need) → Covers xs (xs ++ ys)
front_covers [] ys = embeds_none CoversNeed ys
front_covers (x ∷ xs) ys = embeds_front CoversNeed x x xs (xs ++ ys) (covers_itself x) (front_covers xs ys)

-- without what the administrator must meet, less is wanted
pub without_admin : (needs : List Need) (target : ℕ) (pick : Pick) (hit : List ℕ) → Covers needs (with_admin pick target hit needs)
without_admin needs target itself hit = covers_along needs (change_at target (add_hit hit) needs) (change_bare needs target hit)
without_admin needs target (other place) hit = covers_along needs (change_at place (add_hit hit) needs) (change_bare needs place hit)
without_admin needs target fresh hit = front_covers needs (record { hits = hit ∷ []; lacks = [] } ∷ [])

-- a parent whose target covers what is wanted of it before covers the pre-image
pub parent_covers : (needs : List Need) (target : ℕ) (pick : Pick) (need before : Need) (hit : List ℕ) → slice_get needs target ≡ Some need
    → CoversNeed need before
    → Covers needs (with_admin pick target hit (slice_set needs target before))
parent_covers needs target pick need before hit at c =
    covers_transitive needs (slice_set needs target before) (with_admin pick target hit (slice_set needs target before))
    (subst (λ list. Covers list (slice_set needs target before)) (set_itself needs target need at)
    (covers_along (slice_set needs target need) (slice_set needs target before) (along_set needs target need before c)))
    (without_admin (slice_set needs target before) target pick hit)

-- what an assignment wants of its target
abbrev pub wanted_before : Rules → Need → ℕ → Need → Need
wanted_before rules conjunct role need = record {
  hits = filter (λ hit. not (has_role hit role)) need.hits ++ conjunct.hits;
  lacks = join_roles need.lacks (join_roles conjunct.lacks (barred rules.order role rules.exclusive));
}

-- where an assignment will do, that is what it wants
pub before_is_wanted : (rules : Rules) (conjunct need before : Need) (role : ℕ) → before_assign rules conjunct role need ≡ Some before
    → wanted_before rules conjunct role need ≡ before
before_is_wanted rules conjunct need before role e =
    (some_cond (has_role need.lacks role || is_barred rules.order role rules.exclusive) (wanted_before rules conjunct role need) before e).1

-- an assignment that takes all hits that the other takes, and whose conjunct is wanted anyway, wants less
pub assign_covers : (rules : Rules) (need a b first second : Need) (given role : ℕ) → before_assign rules a given need ≡ Some first
    → before_assign rules b role need ≡ Some second
    → Each (λ hit. IsIn hit role → IsIn hit given) need.hits
    → Each (λ hit. Some_of (λ other. IsWithin (less_roles other second.lacks) hit) second.hits) a.hits
    → IsWithin first.lacks second.lacks → CoversNeed first second
assign_covers rules need a b first second given role e f takes wanted within = record {
  hits = subst (λ (v : Need). Each HasLess v.hits) (before_is_wanted rules a need first given e)
      (each_append HasLess (filter (λ hit. not (has_role hit given)) need.hits) a.hits kept wanted);
  lacks = within;
}
  where
    HasLess : List ℕ → Type 0
    HasLess hit = Some_of (λ other. IsWithin (less_roles other second.lacks) hit) second.hits

    stays : (hit : List ℕ) → (IsIn hit role → IsIn hit given) → not (has_role hit given) ≡ true → not (has_role hit role) ≡ true
    stays hit takes out = rw (not_false (has_role hit role) (λ h. not_true (has_role hit given) out (takes h))) refl

    in_second : (hit : List ℕ) → Some_of (λ (other : List ℕ). other ≡ hit) (filter (λ hit. not (has_role hit role)) need.hits) → HasLess hit
    in_second hit i = subst (λ (v : Need). Some_of (λ other. IsWithin (less_roles other second.lacks) hit) v.hits)
        (before_is_wanted rules b need second role f)
        (some_left (λ other. IsWithin (less_roles other second.lacks) hit) (filter (λ hit. not (has_role hit role)) need.hits) b.hits
        (some_weaker (λ (other : List ℕ). other ≡ hit) (λ other. IsWithin (less_roles other second.lacks) hit)
        (λ other same r h. subst (λ v. IsIn v r) same (less_in other second.lacks r h)) (filter (λ hit. not (has_role hit role)) need.hits) i))

    kept : Each HasLess (filter (λ hit. not (has_role hit given)) need.hits)
    kept = each_by HasLess (filter (λ hit. not (has_role hit given)) need.hits) (λ hit i.
        let own = some_one (λ x. (x ≡ hit) × (not (has_role x given) ≡ true)) need.hits
        (filter_in (λ x. x ≡ hit) (λ x. not (has_role x given)) need.hits i) in
        in_second hit (in_filter (λ x. x ≡ hit) (λ x. not (has_role x role)) need.hits
        (one_some (λ x. (x ≡ hit) × (not (has_role x role) ≡ true)) need.hits own.0 own.1
        (own.2.0, stays own.0 (each_some (λ hit. IsIn hit role → IsIn hit given) need.hits own.0 takes own.1) own.2.1))))
