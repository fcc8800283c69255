-- What the target of a weak revocation must meet before it.
use Rattle.std.proofs.Common.{ℕ, ◌≡◌, ◌∙◌, true, false, List, [], ◌∷◌, map, Some, refl, ap, sym}
use Rattle.std.specs.Prelude.{◌||◌, None}
use Rattle.std.specs.List.{list_any}
use Rattle.role_order.specs.Roles.{without_role}
use Rattle.arbac_laws.specs.Needs.{Need}
use Rattle.arbac_laws.specs.PreImages.{before_weak, has_alone, is_empty}

pub any_alone : (role : ℕ) (hits : List (List ℕ)) → list_any (λ hit. is_empty (without_role hit role)) hits ≡ has_alone role hits
any_alone role [] = refl
any_alone role (hit ∷ hits) = ap (λ b. is_empty (without_role hit role) || b) (any_alone role hits)

pub weak_none : (role : ℕ) (need : Need) → list_any (λ hit. is_empty (without_role hit role)) need.hits ≡ true → None ≡ before_weak role need
weak_none role need h = let alone : has_alone role need.hits ≡ true = sym (any_alone role need.hits) ∙ h in rw alone refl

pub weak_some : (role : ℕ) (need : Need) (hits : List (List ℕ)) (lacks : List ℕ)
    → list_any (λ hit. is_empty (without_role hit role)) need.hits ≡ false
    → hits ≡ map (λ hit. without_role hit role) need.hits → lacks ≡ without_role need.lacks role
    → Some (record { hits = hits; lacks = lacks }) ≡ before_weak role need
weak_some role need hits lacks h is less =
    let alone : has_alone role need.hits ≡ false = sym (any_alone role need.hits) ∙ h in
    rw (alone, is, less) refl
