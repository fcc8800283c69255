-- Steps and what must be met before them, both ways.
use Rattle.std.proofs.Common.{ℕ, ◌≡◌, ◌<◌, List, [], ◌∷◌, length, Some, arith, sym, ◌∙◌, ap, subst, refl, inl, inr}
use Rattle.std.specs.Prelude.{slice_get, slice_set, ◌⊎◌}
use Rattle.list_words.specs.Lists.{IsOneOf, Some_of}
use Rattle.role_order.specs.Reach.{seniors_of}
use Rattle.role_order.specs.Roles.{HaveCommon, IsIn, IsOut, with_role, without_role}
use Rattle.arbac_policy.specs.Rules.{Rules}
use Rattle.arbac_policy.specs.Steps.{AssignStep, Blocks, LetsAssign, LetsRevoke, WeakStep}
use Rattle.arbac_policy.specs.Truth.{term_of, user}
use Rattle.arbac_policy.specs.declared.rule.CanAssign.{CanAssign}
use Rattle.arbac_policy.specs.declared.rule.CanRevoke.{CanRevoke}
use Rattle.arbac_laws.specs.Conjuncts.{conjuncts}
use Rattle.arbac_laws.specs.Needs.{Meets, MeetsNeed, Need}
use Rattle.arbac_laws.specs.PreImages.{AssignObligation, IsPick, Pick, WeakObligation, admin_place, assign_pre_image, weak_pre_image, with_admin}
use Rattle.arbac_laws.proofs.ConjunctLemmas.{common_member, conjunct_met, member_common, met_conjunct}
use Rattle.arbac_laws.proofs.ExchangeLemmas.{Peeled, exchanged, peel, put_admin, put_target, untouched}
use Rattle.list_words.proofs.EachLemmas.{some_one_at, some_item}
use Rattle.list_words.proofs.GetLemmas.{set_itself, get_below, get_set_same, get_there, length_set}
use Rattle.list_words.proofs.EmbedLemmas.{find_place}
use Rattle.arbac_laws.proofs.RoleLemmas.{cases_in}
use Rattle.arbac_laws.proofs.TargetLemmas.{before_given, before_taken, given, given_kept, taken, taken_kept}
use Rattle.arbac_laws.proofs.ConjunctLemmas.{AreSeniors}

pub cases_wanted : (role : ℕ) (hits : List (List ℕ)) → Some_of (λ hit. IsIn hit role) hits ⊎ (Some_of (λ hit. IsIn hit role) hits → ⊥)
cases_wanted role [] = inr (λ h. h)
cases_wanted role (hit ∷ hits) = by_case (cases_in hit role) (cases_wanted role hits)
  where
    by_case : IsIn hit role ⊎ IsOut hit role → Some_of (λ hit. IsIn hit role) hits ⊎ (Some_of (λ hit. IsIn hit role) hits → ⊥)
        → Some_of (λ hit. IsIn hit role) (hit ∷ hits) ⊎ (Some_of (λ hit. IsIn hit role) (hit ∷ hits) → ⊥)
    by_case (inl here) rest = inl (inl here)
    by_case (inr out) (inl there) = inl (inr there)
    by_case (inr out) (inr none) = inr neither
      where
        neither : Some_of (λ hit. IsIn hit role) (hit ∷ hits) → ⊥
        neither (inl here) = cc
        neither (inr there) = none there

-- the administrator that the needs name, the target and what comes of a new set
pub record Opened (users : List (List ℕ)) (needs : List Need) (hit : List ℕ) (before need : Need) (admin target : ℕ) (to : ℕ → ℕ) : Type 0 where
  pub by : List ℕ
  pub by_is : slice_get users admin ≡ Some by
  pub common : HaveCommon hit by
  pub set : List ℕ
  pub set_is : slice_get users target ≡ Some set
  pub meets : MeetsNeed before set
  pub after : (new : List ℕ) → MeetsNeed need new → (m : Meets (slice_set users target new) needs) × ((i : ℕ) → m.to i ≡ to i)

pub opened : (users : List (List ℕ)) (needs : List Need) (t : ℕ) (need before : Need) (pick : Pick) (hit : List ℕ) → slice_get needs t ≡ Some need
    → IsPick pick t (length needs) → (f : Meets users (with_admin pick t hit (slice_set needs t before)))
    → Opened users needs hit before need (f.to (admin_place pick t (length needs))) (f.to t) f.to
opened users needs t need before pick hit at is f = record {
  by = p.by;
  by_is = subst (λ n. slice_get users (f.to (admin_place pick t n)) ≡ Some p.by) same p.by_is;
  common = p.common;
  set = user.0;
  set_is = ap (slice_get users) (sym (p.kept t)) ∙ user.1;
  meets = user.2;
  after = λ new m. later (f.to t) (p.kept t) new (joined_maps new (exchanged users needs t need before at p.map new m));
}
  where
    within : t < length needs
    within = get_below needs t need at

    same : length (slice_set needs t before) ≡ length needs
    same = length_set needs t before

    p : Peeled users (slice_set needs t before) hit (f.to (admin_place pick t (length (slice_set needs t before)))) f.to
    p = peel users (slice_set needs t before) hit pick t (omega (arith, same, within)) (subst (λ n. IsPick pick t n) (sym same) is) f

    user : (y : List ℕ) × (slice_get users (p.map.to t) ≡ Some y) × MeetsNeed before y
    user = p.map.each t before (get_set_same needs t before within)

    joined_maps : (new : List ℕ) → (m : Meets (slice_set users (p.map.to t) new) needs) × ((i : ℕ) → m.to i ≡ p.map.to i)
        → (m : Meets (slice_set users (p.map.to t) new) needs) × ((i : ℕ) → m.to i ≡ f.to i)
    joined_maps new r = (r.0, λ i. r.1 i ∙ p.kept i)

    later : (k : ℕ) → p.map.to t ≡ k → (new : List ℕ) → (m : Meets (slice_set users (p.map.to t) new) needs) × ((i : ℕ) → m.to i ≡ f.to i)
        → (m : Meets (slice_set users k new) needs) × ((i : ℕ) → m.to i ≡ f.to i)
    later k e new r = subst (λ k. (m : Meets (slice_set users k new) needs) × ((i : ℕ) → m.to i ≡ f.to i)) e r

pub record AssignLeads (rules : Rules) (users : List (List ℕ)) (needs : List Need) (admin target role : ℕ) (to : ℕ → ℕ) : Type 0 where
  pub new : List (List ℕ)
  pub step : AssignStep user rules users users admin target role new
  pub meets : Meets new needs
  pub kept : (i : ℕ) → meets.to i ≡ to i

pub assign_leads : (rules : Rules) → AreSeniors rules.order → (users : List (List ℕ)) (needs : List Need) (ob : AssignObligation rules needs)
    (f : Meets users (assign_pre_image ob))
    → AssignLeads rules users needs (f.to (admin_place ob.pick ob.target (length needs))) (f.to ob.target) ob.role f.to
assign_leads rules same users needs ob f = record {
  new = slice_set users (f.to ob.target) (with_role o.set ob.role);
  step = record {
    by = o.by;
    by_is = o.by_is;
    set = o.set;
    set_is = o.set_is;
    lets = some_one_at (LetsAssign user rules o.by o.set ob.role) rules.assign ob.rule ob.is_rule (record {
      in_range = ob.in_range;
      by_admin = common_member rules.order same o.by ob.rule.admin o.common;
      meets = met_conjunct rules.order same o.set (term_of ob.rule.cond)
          (some_one_at (λ c. MeetsNeed c o.set) (conjuncts rules.order (term_of ob.rule.cond)) ob.conjunct ob.is_conjunct g.1);
    });
    free = inr g.2;
    gives = refl;
  };
  meets = later.0;
  kept = later.1;
}
  where
    o : Opened users needs (seniors_of rules.order ob.rule.admin) ob.before ob.need (f.to (admin_place ob.pick ob.target (length needs)))
        (f.to ob.target) f.to
    o = opened users needs ob.target ob.need ob.before ob.pick (seniors_of rules.order ob.rule.admin) ob.need_is ob.is_pick f

    g : MeetsNeed ob.need (with_role o.set ob.role) × MeetsNeed ob.conjunct o.set × (Some_of (Blocks rules.order.edges o.set ob.role) rules.exclusive → ⊥)
    g = given rules same ob.conjunct ob.need ob.before ob.role o.set ob.before_is o.meets

    later : (m : Meets (slice_set users (f.to ob.target) (with_role o.set ob.role)) needs) × ((i : ℕ) → m.to i ≡ f.to i)
    later = o.after (with_role o.set ob.role) g.0

pub record WeakLeads (rules : Rules) (users : List (List ℕ)) (needs : List Need) (admin target role : ℕ) (to : ℕ → ℕ) : Type 0 where
  pub new : List (List ℕ)
  pub step : WeakStep user rules users users admin target role new
  pub meets : Meets new needs
  pub kept : (i : ℕ) → meets.to i ≡ to i

pub weak_leads : (rules : Rules) → AreSeniors rules.order → (users : List (List ℕ)) (needs : List Need) (ob : WeakObligation rules needs)
    (f : Meets users (weak_pre_image ob))
    → WeakLeads rules users needs (f.to (admin_place ob.pick ob.target (length needs))) (f.to ob.target) ob.role f.to
weak_leads rules same users needs ob f = record {
  new = slice_set users (f.to ob.target) (without_role o.set ob.role);
  step = record {
    by = o.by;
    by_is = o.by_is;
    set = o.set;
    set_is = o.set_is;
    lets = some_one_at (LetsRevoke rules o.by ob.role) rules.revoke ob.rule ob.is_rule (record {
      in_range = ob.in_range;
      by_admin = common_member rules.order same o.by ob.rule.admin o.common;
    });
    gives = refl;
  };
  meets = later.0;
  kept = later.1;
}
  where
    o : Opened users needs (seniors_of rules.order ob.rule.admin) ob.before ob.need (f.to (admin_place ob.pick ob.target (length needs)))
        (f.to ob.target) f.to
    o = opened users needs ob.target ob.need ob.before ob.pick (seniors_of rules.order ob.rule.admin) ob.need_is ob.is_pick f

    later : (m : Meets (slice_set users (f.to ob.target) (without_role o.set ob.role)) needs) × ((i : ℕ) → m.to i ≡ f.to i)
    later = o.after (without_role o.set ob.role) (taken ob.need ob.before ob.role o.set ob.before_is o.meets)

-- the need that goes to the user whose set was exchanged, and what follows from another need of his old set
pub record AtUser (users : List (List ℕ)) (needs : List Need) (set new : List ℕ) : Type 0 where
  pub target : ℕ
  pub need : Need
  pub need_is : slice_get needs target ≡ Some need
  pub meets : MeetsNeed need new
  pub put : (before : Need) → MeetsNeed before set → Meets users (slice_set needs target before)

pub touched : (users : List (List ℕ)) (needs : List Need) (p : ℕ) (set new : List ℕ) → slice_get users p ≡ Some set
    → Meets (slice_set users p new) needs
    → Meets users needs ⊎ AtUser users needs set new
touched users needs p set new set_is f = by_found (find_place f.to p (length needs))
  where
    by_found : ((t : ℕ) × (t < length needs) × (f.to t ≡ p)) ⊎ ((i : ℕ) → i < length needs → f.to i ≡ p → ⊥) → Meets users needs
        ⊎ AtUser users needs set new
    by_found (inr none) = inl (untouched users needs p new f none)
    by_found (inl found) =
        let need = get_there needs found.0 found.1 in
        let one = f.each found.0 need.0 need.1 in
        let there : slice_get (slice_set users p new) (f.to found.0) ≡ Some new =
        ap (slice_get (slice_set users p new)) found.2 ∙ get_set_same users p new (get_below users p set set_is) in
        let same : one.0 ≡ new = cc in
        inr (record {
          target = found.0;
          need = need.0;
          need_is = need.1;
          meets = subst (λ s. MeetsNeed need.0 s) same one.2;
          put = λ before m. (put_target users needs p found.0 set new before set_is f found.1 found.2 m).0;
        })

-- the need itself is met by the old set
pub put_back : (users : List (List ℕ)) (needs : List Need) (set new : List ℕ) (h : AtUser users needs set new) → MeetsNeed h.need set
    → Meets users needs
put_back users needs set new h m = subst (λ n. Meets users n) (set_itself needs h.target h.need h.need_is) (h.put h.need m)

pub before_assign_step : (rules : Rules) → AreSeniors rules.order → (old new : List (List ℕ)) (admin target role : ℕ) (needs : List Need)
    → AssignStep user rules old old admin target role new → Meets new needs
    → Meets old needs ⊎ ((ob : AssignObligation rules needs) × Meets old (assign_pre_image ob))
before_assign_step rules same old new admin target role needs step met =
    by_user (touched old needs target step.set (with_role step.set role) step.set_is (subst (λ n. Meets n needs) step.gives met))
  where
    rule : (r : CanAssign) × IsOneOf rules.assign r × LetsAssign user rules step.by step.set role r
    rule = some_item (LetsAssign user rules step.by step.set role) rules.assign step.lets

    conjunct : (c : Need) × IsOneOf (conjuncts rules.order (term_of rule.0.cond)) c × MeetsNeed c step.set
    conjunct = some_item (λ c. MeetsNeed c step.set) (conjuncts rules.order (term_of rule.0.cond))
        (conjunct_met rules.order same step.set (term_of rule.0.cond) rule.2.meets)

    by_user : Meets old needs ⊎ AtUser old needs step.set (with_role step.set role) → Meets old needs
        ⊎ ((ob : AssignObligation rules needs) × Meets old (assign_pre_image ob))
    by_user (inl m) = inl m
    by_user (inr h) = by_free step.free (cases_wanted role h.need.hits)
      where
        by_free : IsIn step.set role ⊎ (Some_of (Blocks rules.order.edges step.set role) rules.exclusive → ⊥)
            → Some_of (λ hit. IsIn hit role) h.need.hits ⊎ (Some_of (λ hit. IsIn hit role) h.need.hits → ⊥) → Meets old needs
            ⊎ ((ob : AssignObligation rules needs) × Meets old (assign_pre_image ob))
        by_free (inl held) wanted = inl (put_back old needs step.set (with_role step.set role) h (given_kept h.need role step.set (inl held) h.meets))
        by_free (inr free) (inr none) = inl (put_back old needs step.set (with_role step.set role) h (given_kept h.need role step.set (inr none) h.meets))
        by_free (inr free) (inl wanted) =
            let b = before_given rules same conjunct.0 h.need role step.set h.meets conjunct.2 free in
            let a = put_admin old (slice_set needs h.target b.0) (seniors_of rules.order rule.0.admin) h.target admin step.by (h.put b.0 b.2) step.by_is
            (member_common rules.order same step.by rule.0.admin rule.2.by_admin) in
            inr (
              record {
                rule = rule.0;
                is_rule = rule.1;
                conjunct = conjunct.0;
                is_conjunct = conjunct.1;
                role = role;
                in_range = rule.2.in_range;
                target = h.target;
                need = h.need;
                need_is = h.need_is;
                wanted = wanted;
                pick = a.0;
                is_pick = subst (λ n. IsPick a.0 h.target n) (length_set needs h.target b.0) a.1;
                before = b.0;
                before_is = b.1;
              },
              a.2,
            )

pub before_weak_step : (rules : Rules) → AreSeniors rules.order → (old new : List (List ℕ)) (admin target role : ℕ) (needs : List Need)
    → WeakStep user rules old old admin target role new → Meets new needs
    → Meets old needs ⊎ ((ob : WeakObligation rules needs) × Meets old (weak_pre_image ob))
before_weak_step rules same old new admin target role needs step met =
    by_user (touched old needs target step.set (without_role step.set role) step.set_is (subst (λ n. Meets n needs) step.gives met))
  where
    rule : (r : CanRevoke) × IsOneOf rules.revoke r × LetsRevoke rules step.by role r
    rule = some_item (LetsRevoke rules step.by role) rules.revoke step.lets

    by_user : Meets old needs ⊎ AtUser old needs step.set (without_role step.set role) → Meets old needs
        ⊎ ((ob : WeakObligation rules needs) × Meets old (weak_pre_image ob))
    by_user (inl m) = inl m
    by_user (inr h) = by_wanted (cases_in h.need.lacks role)
      where
        by_wanted : IsIn h.need.lacks role ⊎ IsOut h.need.lacks role → Meets old needs
            ⊎ ((ob : WeakObligation rules needs) × Meets old (weak_pre_image ob))
        by_wanted (inr out) = inl (put_back old needs step.set (without_role step.set role) h (taken_kept h.need role step.set out h.meets))
        by_wanted (inl wanted) =
            let b = before_taken h.need role step.set h.meets in
            let a = put_admin old (slice_set needs h.target b.0) (seniors_of rules.order rule.0.admin) h.target admin step.by (h.put b.0 b.2) step.by_is
            (member_common rules.order same step.by rule.0.admin rule.2.by_admin) in
            inr (
              record {
                rule = rule.0;
                is_rule = rule.1;
                role = role;
                in_range = rule.2.in_range;
                target = h.target;
                need = h.need;
                need_is = h.need_is;
                wanted = wanted;
                pick = a.0;
                is_pick = subst (λ n. IsPick a.0 h.target n) (length_set needs h.target b.0) a.1;
                before = b.0;
                before_is = b.1;
              },
              a.2,
            )
