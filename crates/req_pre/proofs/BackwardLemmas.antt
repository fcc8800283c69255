-- A change at a place of the list of raw users.
use Rattle.std.proofs.Common.{ℕ, ◌≡◌, ◌≤◌, List, [], ◌∷◌, length, Some, zero, suc, refl, ap, arith}
use Rattle.std.specs.Prelude.{slice_get, slice_set}
use Rattle.arbac_laws.specs.Needs.{Need}
use Rattle.arbac_laws.specs.PreImages.{add_hit, change_at}
use Rattle.arbac_policy.specs.declared.conjunct.Conjunct.{Conjunct}
use Rattle.arbac_laws.specs.Views.{need_of, needs_of}

pub change_raw : (raw : List Conjunct) (i : ℕ) (user : Conjunct) (hit : List ℕ) (old : Conjunct) → slice_get raw i ≡ Some old
    → need_of user ≡ add_hit hit (need_of old)
    → needs_of (slice_set raw i user) ≡ change_at i (add_hit hit) (needs_of raw)
change_raw [] i user hit old e h = cc
change_raw (x ∷ raw) zero user hit old e h = let same : x ≡ old = cc in rw (h, same) refl
change_raw (x ∷ raw) (suc i) user hit old e h = ap (λ l. need_of x ∷ l) (change_raw raw i user hit old e h)

pub change_past : (change : Need → Need) (needs : List Need) (i : ℕ) → length needs ≤ i → needs ≡ change_at i change needs
change_past change [] i h = refl
change_past change (x ∷ needs) zero h = absurd (omega arith)
change_past change (x ∷ needs) (suc i) h = ap (λ l. x ∷ l) (change_past change needs i (omega arith))

pub set_needs : (raw : List Conjunct) (i : ℕ) (user : Conjunct) → needs_of (slice_set raw i user) ≡ slice_set (needs_of raw) i (need_of user)
set_needs [] i user = refl
set_needs (x ∷ raw) zero user = refl
set_needs (x ∷ raw) (suc i) user = ap (λ l. need_of x ∷ l) (set_needs raw i user)

pub length_raw : (raw : List Conjunct) → length (needs_of raw) ≡ length raw
length_raw [] = refl
length_raw (x ∷ raw) = ap (λ n. suc n) (length_raw raw)
