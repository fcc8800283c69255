-- Entries of a recorded list are in normal form and different.
use Rattle.std.proofs.Common.{ℕ, ◌≡◌, ◌<◌, List, [], ◌∷◌, Some, arith, zero, suc, sym, ◌∙◌, subst, inl, inr, take}
use Rattle.std.specs.Prelude.{slice_get, ◌⊎◌}
use Rattle.role_order.proofs.ClosureLemmas.{take_taken}
use Rattle.list_words.proofs.GetLemmas.{get_take, get_taken}
use Rattle.list_words.specs.Lists.{Each}
use Rattle.arbac_policy.specs.Rules.{Rules}
use Rattle.arbac_policy.specs.Truth.{Term}
use Rattle.arbac_policy.specs.declared.profile.Profile.{Profile}
use Rattle.arbac_laws.specs.Goals.{goal_requirements}
use Rattle.arbac_laws.specs.Needs.{Covers, CoversNeed, Need}
use Rattle.arbac_laws.specs.NormalForms.{AreSets, IsNormal, IsNormalNeed}
use Rattle.arbac_laws.specs.Recorded.{Entry, IsEntry, IsRecordedList, IsOrigin, Origin, of_goal, of_parent}
use Rattle.arbac_laws.proofs.ConjunctLemmas.{AreSeniors}
use Rattle.arbac_laws.proofs.CoverLemmas.{covers_itself}
use Rattle.list_words.proofs.EachLemmas.{each_at, some_one_at, some_map}
use Rattle.list_words.proofs.NumberLemmas.{compare}
use Rattle.list_words.proofs.EmbedLemmas.{embeds_itself}
use Rattle.arbac_laws.proofs.NormalLemmas.{form_is_normal}
use Rattle.arbac_laws.proofs.SetsLemmas.{goal_sets, sets_kept}

pub normal_sets : (needs : List Need) → Each IsNormalNeed needs → Each AreSets needs
normal_sets [] h = tt
normal_sets (x ∷ xs) h = (record { hits = h.0.rising; lacks = h.0.lacks }, normal_sets xs h.1)

-- each entry is in normal form, by its parents before it
pub entry_normal : (rules : Rules) → AreSeniors rules.order → (profiles : List Profile) (goal : List Term) (list : List Entry)
    → IsRecordedList rules profiles goal list
    → (n place : ℕ) (entry : Entry) → place < n → slice_get list place ≡ Some entry → IsNormal entry.needs
entry_normal rules same profiles goal list recorded zero place entry l at = absurd (omega arith)
entry_normal rules same profiles goal list recorded (suc n) place entry l at =
    let r = recorded place entry at in
    form_is_normal r.derived.0 entry.needs
    (by_origin entry.origin r.derived.0 r.derived.1 (λ p e m. entry_normal rules same profiles goal list recorded n p e m)) r.derived.2
  where
    by_origin : (origin : Origin) (needs : List Need) → IsOrigin rules goal (take place list) origin needs
        → ((p : ℕ) (parent : Entry) → p < n → slice_get list p ≡ Some parent → IsNormal parent.needs) → Each AreSets needs
    by_origin (of_goal number) needs named before =
        each_at (Each AreSets) (goal_requirements rules.order goal) number needs (goal_sets rules.order goal) named
    by_origin (of_parent p ob) needs named before =
        let there = get_taken list place p named.0 named.1 in
        let less = there.0 in
        let normal = before p named.0 (omega (arith, less, l)) there.1 in
        sets_kept rules same named.0.needs (normal_sets named.0.needs normal.each) ob named.2 needs named.3

pub each_normal : (rules : Rules) → AreSeniors rules.order → (profiles : List Profile) (goal : List Term) (list : List Entry)
    → IsRecordedList rules profiles goal list
    → (place : ℕ) (entry : Entry) → slice_get list place ≡ Some entry → IsNormal entry.needs
each_normal rules same profiles goal list recorded place entry at =
    entry_normal rules same profiles goal list recorded (suc place) place entry (omega arith) at

pub front_recorded : (rules : Rules) (profiles : List Profile) (goal : List Term) (list : List Entry) (n : ℕ)
    → IsRecordedList rules profiles goal list → IsRecordedList rules profiles goal (take n list)
front_recorded rules profiles goal list n recorded place entry at =
    let there = get_taken list n place entry at in
    let less = there.0 in
    subst (λ earlier. IsEntry rules profiles goal earlier entry) (sym (take_taken list place n (omega (arith, less)))) (recorded place entry there.1)

-- an earlier entry doesn't cover a later one
pub not_covering : (rules : Rules) (profiles : List Profile) (goal : List Term) (list : List Entry) → IsRecordedList rules profiles goal list
    → (i j : ℕ) (a b : Entry) → slice_get list i ≡ Some a → slice_get list j ≡ Some b → i < j → Covers a.needs b.needs → ⊥
not_covering rules profiles goal list recorded i j a b at there l covers =
    (recorded j b there).uncovered (some_map (λ (e : Entry). e.needs) (λ one. Covers one b.needs) (take j list)
    (some_one_at (λ (e : Entry). Covers e.needs b.needs) (take j list) a (i, get_take list j i l ∙ at) covers))

pub entries_different : (rules : Rules) (profiles : List Profile) (goal : List Term) (list : List Entry) → IsRecordedList rules profiles goal list
    → (i j : ℕ) (a b : Entry) → slice_get list i ≡ Some a → slice_get list j ≡ Some b → a.needs ≡ b.needs → i ≡ j
entries_different rules profiles goal list recorded i j a b at there e = by_order (compare i j)
  where
    covering : Covers a.needs b.needs
    covering = subst (Covers a.needs) e (embeds_itself CoversNeed covers_itself a.needs)

    back : Covers b.needs a.needs
    back = subst (λ n. Covers n a.needs) e (embeds_itself CoversNeed covers_itself a.needs)

    by_order : (i < j) ⊎ ((i ≡ j) ⊎ (j < i)) → i ≡ j
    by_order (inl l) = absurd (not_covering rules profiles goal list recorded i j a b at there l covering)
    by_order (inr (inl same)) = same
    by_order (inr (inr l)) = absurd (not_covering rules profiles goal list recorded j i b a there at l back)
