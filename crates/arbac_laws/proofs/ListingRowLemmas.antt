-- Listed obligations, and roles above others, computed.
use Rattle.std.proofs.Common.{◌≡◌, [], ◌∷◌, Some, true, subst, sym, refl}
use Rattle.list_words.proofs.GetLemmas.{same_some}
use Rattle.role_order.specs.Reach.{seniors_of}
use Rattle.role_order.specs.Roles.{has_role, IsIn}
use Rattle.arbac_policy.specs.Truth.{has, lacks}
use Rattle.arbac_policy.specs.declared.cond.Cond.TheVariants.{Has, Lacks}
use Rattle.arbac_policy.proofs.TermLemmas.{term_any, term_has, term_lacks, term_or}
use Rattle.arbac_laws.specs.Conjuncts.{conjuncts}
use Rattle.arbac_laws.specs.Goals.{goal_requirements}
use Rattle.arbac_laws.specs.Needs.{Need}
use Rattle.arbac_laws.specs.NormalForms.{pre_form}
use Rattle.arbac_laws.specs.Listings.{IsObligation}
use Rattle.arbac_laws.proofs.ConjunctLemmas.{are_seniors}
use Rattle.arbac_laws.proofs.ObligationLemmas.{listed_is}
use Rattle.arbac_laws.specs.Obligations.{assigns, revokes, obligations}
use Rattle.arbac_laws.specs.PreImages.{itself, other, fresh}
use Rattle.arbac_laws.specs.Rows.{giver_policy, senior_policy, adm, c, d, hits, hits_either, hits_without}

pub all_listed : obligations giver_policy (hits_without c d ∷ hits c ∷ [])
    ≡ assigns 0 0 c 0 itself ∷ assigns 0 0 c 0 (other 1) ∷ assigns 0 0 c 0 fresh
    ∷ assigns 0 0 c 1 itself ∷ assigns 0 0 c 1 (other 0) ∷ assigns 0 0 c 1 fresh
    ∷ assigns 0 1 c 0 itself ∷ assigns 0 1 c 0 (other 1) ∷ assigns 0 1 c 0 fresh
    ∷ assigns 0 1 c 1 itself ∷ assigns 0 1 c 1 (other 0) ∷ assigns 0 1 c 1 fresh
    ∷ assigns 1 0 c 0 itself ∷ assigns 1 0 c 0 (other 1) ∷ assigns 1 0 c 0 fresh
    ∷ assigns 1 0 c 1 itself ∷ assigns 1 0 c 1 (other 0) ∷ assigns 1 0 c 1 fresh
    ∷ revokes 0 d 0 itself ∷ revokes 0 d 0 (other 1) ∷ revokes 0 d 0 fresh ∷ []
unfolding seniors_of
all_listed = rw (term_or (Has adm) (Lacks d), term_has adm, term_lacks d, term_any) refl

-- the second user is given c by the first, who has to be without d
pub second_assigned : IsObligation giver_policy (hits_without c d ∷ hits c ∷ []) (assigns 0 1 c 1 (other 0))
second_assigned =
    listed_is giver_policy (are_seniors giver_policy.order tt) (hits_without c d ∷ hits c ∷ []) (assigns 0 1 c 1 (other 0)) (10, rw all_listed refl)

pub not_other_itself : IsObligation giver_policy (hits_without c d ∷ hits c ∷ []) (assigns 0 1 c 1 (other 1)) → ⊥
not_other_itself is = is.is_pick.1 refl

pub first_revoked : IsObligation giver_policy (hits_without c d ∷ hits c ∷ []) (revokes 0 d 0 fresh)
first_revoked = listed_is giver_policy (are_seniors giver_policy.order tt) (hits_without c d ∷ hits c ∷ []) (revokes 0 d 0 fresh) (20, rw all_listed refl)

-- the second user may have d
pub second_not_barred : IsObligation giver_policy (hits_without c d ∷ hits c ∷ []) (revokes 0 d 1 fresh) → ⊥
second_not_barred is =
    let same : hits c ≡ is.need = same_some (hits c) is.need is.need_is in
    let none : has_role [] d ≡ true = subst (λ (n : Need). IsIn n.lacks d) (sym same) is.barred in
    cc

pub senior_goal : goal_requirements senior_policy.order (has d ∷ []) ≡ (hits_either adm d ∷ []) ∷ []
unfolding seniors_of
senior_goal = refl

pub senior_listed : obligations senior_policy (hits_either adm d ∷ [])
    ≡ assigns 0 0 adm 0 itself ∷ assigns 0 0 adm 0 fresh ∷ assigns 0 0 d 0 itself ∷ assigns 0 0 d 0 fresh ∷ []
unfolding seniors_of
senior_listed = rw (term_has d) refl

pub senior_before : pre_form senior_policy (hits_either adm d ∷ []) (assigns 0 0 d 0 fresh) ≡ Some (hits_either adm d ∷ hits_either adm d ∷ [])
unfolding seniors_of
senior_before = rw (term_has d) refl

pub senior_barred : conjuncts senior_policy.order (lacks d) ≡ record { hits = []; lacks = adm ∷ d ∷ [] } ∷ []
unfolding seniors_of
senior_barred = refl
