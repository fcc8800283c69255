-- Small requirements: exclusive pairs, and what covers what.
use Rattle.std.proofs.Common.{ℕ, ◌≡◌, List, [], ◌∷◌, Some, None, arith, zero, suc, sym, eqb, subst, refl, inl, inr}
use Rattle.std.specs.Prelude.{slice_get}
use Rattle.list_words.proofs.TestLemmas.{or_right}
use Rattle.list_words.specs.Lists.{Each, IsOneOf, Some_of}
use Rattle.role_order.specs.Reach.{seniors_of}
use Rattle.arbac_policy.specs.Truth.{both, has}
use Rattle.arbac_policy.proofs.TermLemmas.{term_any}
use Rattle.role_order.specs.Roles.{IsWithin, has_role, less_roles}
use Rattle.arbac_laws.specs.Needs.{Covers, CoversNeed, IsCovered, IsPossible, Meets, MeetsNeed, Need}
use Rattle.arbac_laws.specs.Closed.{IsClosedList, IsUnmet}
use Rattle.arbac_laws.specs.Goals.{goal_requirements}
use Rattle.arbac_laws.specs.NormalForms.{pre_form}
use Rattle.arbac_laws.specs.Obligations.{Obligation, obligations, pre_image, assigns}
use Rattle.arbac_laws.specs.PreImages.{fresh, itself}
use Rattle.arbac_laws.specs.Rows.{mix_apart, one_admin, pair_policy, hits_both, adm, c, d, hits, hits_either, without, anyone}
use Rattle.list_words.proofs.CountLemmas.{embeds_long}
use Rattle.list_words.proofs.EmbedLemmas.{embeds_front, embeds_itself, embeds_none}
use Rattle.list_words.proofs.GetLemmas.{same_some}
use Rattle.list_words.proofs.EachLemmas.{each_at}
use Rattle.arbac_laws.proofs.NormalLemmas.{none_impossible}
use Rattle.arbac_laws.proofs.CoverLemmas.{covers_itself}
use Rattle.arbac_laws.proofs.RowLemmas.{anyone_covers, form_of, lacks_adm, nobody_has_c}

-- exclusive pairs

pub d_barred : pre_form (mix_apart ((c, d) ∷ [])) (hits c ∷ []) (assigns 0 0 c 0 fresh) ≡ Some
    (record { hits = []; lacks = adm ∷ d ∷ [] } ∷ hits adm ∷ [])
unfolding seniors_of
d_barred = rw lacks_adm refl

pub d_barred_second : pre_form (mix_apart ((d, c) ∷ [])) (hits c ∷ []) (assigns 0 0 c 0 fresh) ≡ Some
    (record { hits = []; lacks = adm ∷ d ∷ [] } ∷ hits adm ∷ [])
unfolding seniors_of
d_barred_second = rw lacks_adm refl

pub c_barred : pre_image (mix_apart ((c, c) ∷ [])) (hits c ∷ []) (assigns 0 0 c 0 fresh) ≡ None
unfolding seniors_of
c_barred = rw lacks_adm refl

pub none_barred : pre_form (mix_apart ((adm, d) ∷ [])) (hits c ∷ []) (assigns 0 0 c 0 fresh) ≡ Some (without adm ∷ hits adm ∷ [])
unfolding seniors_of
none_barred = rw lacks_adm refl

pub four_obligations : obligations pair_policy
    (hits_both c d ∷ []) ≡ assigns 0 0 c 0 itself ∷ assigns 0 0 c 0 fresh ∷ assigns 1 0 d 0 itself ∷ assigns 1 0 d 0 fresh ∷ []
unfolding seniors_of
four_obligations = rw term_any refl

pub both_wanted : goal_requirements pair_policy.order (both (has c) (has d) ∷ []) ≡ (hits_both c d ∷ []) ∷ []
unfolding seniors_of
both_wanted = refl

pub nothing_will_do : Each (λ ob. pre_form pair_policy (hits_both c d ∷ []) ob ≡ None) (obligations pair_policy (hits_both c d ∷ []))
unfolding seniors_of
nothing_will_do = subst (Each (λ ob. pre_form pair_policy (hits_both c d ∷ []) ob ≡ None)) (sym four_obligations)
    (rw term_any refl, (rw term_any refl, (rw term_any refl, (rw term_any refl, tt))))

pub both_closed : IsClosedList pair_policy one_admin (both (has c) (has d) ∷ []) ((hits_both c d ∷ []) ∷ [])
both_closed = record {
  goals = λ needs is possible. each_at (IsCovered list) (goal_requirements pair_policy.order (both (has c) (has d) ∷ [])) is.0 needs
      (subst (Each (IsCovered list)) (sym both_wanted) (inl (embeds_itself CoversNeed covers_itself (hits_both c d ∷ [])), tt)) is.1;
  pre_images = λ needs is ob at before e possible. absurd (each_at Impossible list is.0 needs (none, tt) is.1 ob at before e possible);
  unmet = λ needs is. each_at (IsUnmet one_admin) list is.0 needs (nobody_has_c one_admin (refl, tt) ((d ∷ []) ∷ []), tt) is.1;
}
  where
    list : List (List Need)
    list = (hits_both c d ∷ []) ∷ []

    Impossible : List Need → Type 0
    Impossible needs = (ob : Obligation) → IsOneOf (obligations pair_policy needs) ob → (before : List Need)
        → pre_image pair_policy needs ob ≡ Some before → ¬ IsPossible before

    none : Impossible (hits_both c d ∷ [])
    none ob at before e = (none_impossible before).0 (form_of pair_policy (hits_both c d ∷ []) ob before None
        (each_at (λ ob. pre_form pair_policy (hits_both c d ∷ []) ob ≡ None)
        (obligations pair_policy (hits_both c d ∷ [])) at.0 ob nothing_will_do at.1) e)

-- one user, and another that it covers

pub one_covers : (a b : Need) → CoversNeed a b → Covers (a ∷ []) (b ∷ [])
one_covers a b h = embeds_front CoversNeed a b [] [] h (embeds_none CoversNeed [])

pub covers_one : (a b : Need) → Covers (a ∷ []) (b ∷ []) → CoversNeed a b
covers_one a b f = let one = f.each 0 a refl in at_place (f.to 0) one.0 one.1 one.2
  where
    at_place : (k : ℕ) (y : Need) → slice_get (b ∷ []) k ≡ Some y → CoversNeed a y → CoversNeed a b
    at_place zero y e h = let e' : Some b ≡ Some y = e in subst (CoversNeed a) (sym (same_some b y e')) h
    at_place (suc k) y e h = cc

pub one_is_not_two : Meets ([] ∷ []) (anyone ∷ anyone ∷ []) → ⊥
one_is_not_two f = let long = embeds_long MeetsNeed (anyone ∷ anyone ∷ []) ([] ∷ []) f in omega (arith, long)

pub two_cover_no_one : Covers (anyone ∷ anyone ∷ []) (anyone ∷ []) → ⊥
two_cover_no_one f = let long = embeds_long CoversNeed (anyone ∷ anyone ∷ []) (anyone ∷ []) f in omega (arith, long)

pub third_covers : Covers (anyone ∷ hits adm ∷ []) (hits adm ∷ hits adm ∷ [])
third_covers = embeds_front CoversNeed anyone (hits adm) (hits adm ∷ []) (hits adm ∷ []) (anyone_covers (hits adm))
    (one_covers (hits adm) (hits adm) (covers_itself (hits adm)))

pub third_not_covering : Covers (anyone ∷ hits adm ∷ []) (hits c ∷ []) → ⊥
third_not_covering f = let long = embeds_long CoversNeed (anyone ∷ hits adm ∷ []) (hits c ∷ []) f in omega (arith, long)

pub lacks_not_covering : Covers (without c ∷ []) (anyone ∷ []) → ⊥
lacks_not_covering f = let none = (covers_one (without c) anyone f).lacks c refl in cc

pub either_covers : Covers (hits_either adm c ∷ []) (hits c ∷ [])
either_covers = one_covers (hits_either adm c) (hits c)
    (record { hits = (inl (λ role h. or_right (eqb adm role) (has_role (c ∷ []) role) h), tt); lacks = λ role h. h })

pub lesser_not_covering : Covers (hits c ∷ []) (hits_either adm c ∷ []) → ⊥
lesser_not_covering f = by_some (covers_one (hits c) (hits_either adm c) f).hits.0
  where
    by_some : Some_of (λ other. IsWithin (less_roles other []) (c ∷ [])) ((adm ∷ c ∷ []) ∷ []) → ⊥
    by_some (inl w) = let none = w adm refl in cc
    by_some (inr h) = h

pub lacking_covered : Covers (hits c ∷ []) (record { hits = (adm ∷ c ∷ []) ∷ []; lacks = adm ∷ [] } ∷ [])
lacking_covered = one_covers (hits c) (record { hits = (adm ∷ c ∷ []) ∷ []; lacks = adm ∷ [] })
    (record { hits = (inl (λ role h. h), tt); lacks = λ role h. cc })
