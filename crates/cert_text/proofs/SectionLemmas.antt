-- What the code's lists say where the last item gets one more user.
use Rattle.std.proofs.Common.{ℕ, ◌≡◌, ◌≤◌, ◌+◌, Bool, true, false, List, [], ◌∷◌, ◌++◌, length, arith, zero, suc, sym, ◌∙◌, ap, map, Option, Some}
use Rattle.std.proofs.Common.{None, is_some, not, inl, inr}
use Rattle.std.specs.Prelude.{◌⊎◌, slice_get, slice_set}
use Rattle.std.proofs.lemmas.Bool.{false≢true}
use Rattle.std.proofs.lemmas.List.{length-map}
use Rattle.arbac_policy.specs.declared.conjunct.Conjunct.{Conjunct}
use Rattle.arbac_laws.specs.Needs.{Need}
use Rattle.arbac_laws.specs.Views.{need_of}
use Rattle.cert_text.specs.declared.cert.Need as code
use Rattle.cert_text.specs.declared.cert.Step.{Step}
use Rattle.cert_text.specs.Certificates.{users_of, origin_of, entry_of}
use Rattle.cert_text.specs.LineForms.{a_user}
use Rattle.cert_text.specs.Drafts.{list, steps, NamesNeed, in_last, with_user, with_step_user, Adds}
use Rattle.cert_text.specs.Steps.{draft_of}

-- the last item was changed
last_set : {A B : Type 0} (view : A → B) (change : B → B) (xs : List A) (at : ℕ) (old new : A) → at + 1 ≡ length xs → slice_get xs at ≡ Some old
    → view new ≡ change (view old) → map view (slice_set xs at new) ≡ in_last change (map view xs)
last_set view change [] at old new l e h = absurd (omega arith)
last_set view change (x ∷ []) zero old new l e h = let same : x ≡ old = cc in ap (λ b. b ∷ []) (h ∙ ap (λ a. change (view a)) (sym same))
last_set view change (x ∷ []) (suc at) old new l e h = absurd (omega arith)
last_set view change (x ∷ y ∷ ys) zero old new l e h = absurd (omega arith)
last_set view change (x ∷ y ∷ ys) (suc at) old new l e h =
    ap (λ bs. view x ∷ bs) (last_set view change (y ∷ ys) at old new (omega arith) e h)

some_there : {A B : Type 0} (view : A → B) (xs : List A) (n : ℕ) → n + 1 ≡ length xs → 1 ≤ length (map view xs)
some_there view xs n l = let m = length-map xs view in omega arith

-- the last requirement
pub user_added : (names : List (List ℕ)) (hits : List (List (List ℕ))) (lacks : List (List ℕ)) (needs : List code.Need) (at : ℕ) (old new : code.Need)
    (user : Conjunct) → at + 1 ≡ length needs → slice_get needs at ≡ Some old → users_of new ≡ users_of old ++ need_of user ∷ []
    → NamesNeed names hits lacks (need_of user)
    → Adds names (list (map users_of needs)) (a_user hits lacks) (list (map users_of (slice_set needs at new)))
user_added names hits lacks needs at old new user l e h n = record {
  place = some_there users_of needs at l;
  extends = (need_of user, n, ap list (last_set users_of (with_user (need_of user)) needs at old new l e h));
}

-- the last recorded step
pub step_user_added : (names : List (List ℕ)) (hits : List (List (List ℕ))) (lacks : List (List ℕ)) (limit : ℕ) (recorded : List Step) (at : ℕ) (old : Step)
    (need : code.Need) (user : Conjunct) → at + 1 ≡ length recorded → slice_get recorded at ≡ Some old
    → users_of need ≡ users_of old.need ++ need_of user ∷ [] → NamesNeed names hits lacks (need_of user)
    → Adds names (draft_of limit (map entry_of recorded) None) (a_user hits lacks)
    (draft_of limit (map entry_of (slice_set recorded at (record { origin = old.origin; need = need }))) None)
step_user_added names hits lacks limit recorded at old need user l e h n = record {
  place = some_there entry_of recorded at l;
  extends = (
    need_of user,
    n,
    ap (steps limit) (last_set entry_of (with_step_user (need_of user)) recorded at old (record { origin = old.origin; need = need }) l e
        (ap (λ (users : List Need). record { origin = origin_of old.origin; needs = users }) h)),
  );
}

-- where no step stands behind them, some are recorded
pub some_recorded : (test : Bool) (count : ℕ) (next : Option Step) → ((test ≡ true) × (count ≡ 0 → ⊥)) ⊎ (test ≡ false) → is_some next ≡ not test
    → next ≡ None → count ≡ 0 → ⊥
some_recorded test count next (inl h) e f = h.1
some_recorded test count next (inr h) e f = absurd (false≢true (sym (ap is_some f) ∙ e ∙ ap not h))
