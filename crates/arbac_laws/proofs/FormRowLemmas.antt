-- Small requirements in normal form, and where their users stand.
use Rattle.std.proofs.Common.{◌≡◌, [], ◌∷◌, Some, None, arith, refl}
use Rattle.role_order.specs.Reach.{seniors_of}
use Rattle.arbac_laws.specs.NormalForms.{AreFormPlaces, normal_form}
use Rattle.arbac_laws.specs.Obligations.{pre_image, revokes}
use Rattle.arbac_laws.specs.PreImages.{fresh}
use Rattle.arbac_laws.specs.Rows.{mix, adm, c, d, hits, hits_without, without, anyone, untidy}
use Rattle.arbac_laws.proofs.FormPlaceLemmas.{are_places}

pub untidy_form : normal_form (untidy ∷ hits adm ∷ hits_without c d ∷ []) ≡ Some (hits adm ∷ hits_without c d ∷ hits_without c d ∷ [])
untidy_form = refl

pub untidy_moved : AreFormPlaces (untidy ∷ hits adm ∷ hits_without c d ∷ []) (hits adm ∷ hits_without c d ∷ hits_without c d ∷ [])
    (1 ∷ 0 ∷ 2 ∷ [])
untidy_moved = are_places (untidy ∷ hits adm ∷ hits_without c d ∷ [])

pub empty_impossible : normal_form (record { hits = [] ∷ []; lacks = [] } ∷ []) ≡ None
empty_impossible = refl

pub three_before : pre_image mix (without adm ∷ hits adm ∷ []) (revokes 0 adm 0 fresh) ≡ Some (anyone ∷ hits adm ∷ hits adm ∷ [])
unfolding seniors_of
three_before = refl

pub three_kept : AreFormPlaces (anyone ∷ hits adm ∷ hits adm ∷ []) (anyone ∷ hits adm ∷ hits adm ∷ []) (0 ∷ 1 ∷ 2 ∷ [])
three_kept = are_places (anyone ∷ hits adm ∷ hits adm ∷ [])

pub three_not_turned : AreFormPlaces (anyone ∷ hits adm ∷ hits adm ∷ []) (anyone ∷ hits adm ∷ hits adm ∷ []) (0 ∷ 2 ∷ 1 ∷ []) → ⊥
three_not_turned places = let turned = places.stable 1 2 (hits adm) (hits adm) (omega arith) refl refl refl in omega (arith, turned)
