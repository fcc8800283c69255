-- The list of obligations has each, and no other; the laws over it.
use Rattle.std.proofs.Common.{ℕ, ◌≡◌, List, length, map, Some, None, Option, sym, subst, refl, inl, inr}
use Rattle.std.specs.Prelude.{slice_get, slice_set, ◌⊎◌, ◌↔◌}
use Rattle.std.specs.List.{list_any}
use Rattle.list_words.specs.Lists.{IsOneOf, Some_of}
use Rattle.role_order.specs.Ranges.{IsInRange}
use Rattle.role_order.specs.Reach.{seniors_of}
use Rattle.role_order.specs.Roles.{IsIn, has_role}
use Rattle.arbac_policy.specs.Goals.{IsReachable}
use Rattle.arbac_policy.specs.Rules.{Rules}
use Rattle.arbac_policy.specs.Steps.{AssignStep, Step, WeakStep}
use Rattle.arbac_policy.specs.Truth.{Term, term_of, user}
use Rattle.arbac_policy.specs.declared.profile.Profile.{Profile}
use Rattle.arbac_policy.specs.declared.rule.CanAssign.{CanAssign}
use Rattle.arbac_policy.specs.declared.rule.CanRevoke.{CanRevoke}
use Rattle.arbac_laws.specs.Closed.{IsClosed, IsClosedList}
use Rattle.arbac_laws.specs.Conjuncts.{conjuncts}
use Rattle.arbac_laws.specs.Needs.{Meets, Need}
use Rattle.arbac_laws.specs.Obligations.{Obligation, act_of, and_then, assign_obligations, flat, flat_places, if_wanted, obligations, picks, pre_image}
use Rattle.arbac_laws.specs.Obligations.{roles_in, weak_obligations, assigns, revokes}
use Rattle.arbac_laws.specs.PreImages.{AssignObligation, IsPick, Pick, WeakObligation, assign_pre_image, before_assign, before_weak, weak_pre_image}
use Rattle.arbac_laws.specs.PreImages.{with_admin}
use Rattle.arbac_laws.proofs.ClosedLemmas.{not_reachable}
use Rattle.list_words.proofs.EachLemmas.{map_some, one_of_same, same_one_of, some_cases, some_left, some_map, some_right}
use Rattle.arbac_laws.proofs.StepLemmas.{assign_leads, before_assign_step, weak_leads, before_weak_step}
use Rattle.arbac_laws.proofs.ConjunctLemmas.{AreSeniors}
use Rattle.arbac_laws.specs.Obligations.{wanting, barring}
use Rattle.arbac_laws.specs.Listings.{IsAssignOf, IsObligation, IsRevokeOf}
use Rattle.arbac_laws.proofs.FlatLemmas.{some_flat, flat_some, some_places_0, places_some_0, any_some, some_any, some_wanted, wanted_some, some_pick}
use Rattle.arbac_laws.proofs.FlatLemmas.{pick_some, some_role, role_some}
use Rattle.arbac_laws.specs.Needs.{MeetsBy}
use Rattle.arbac_laws.specs.Obligations.{MeetsPreImage}

-- what is an obligation in parts is listed

pub assign_in : (rules : Rules) → AreSeniors rules.order → (needs : List Need) (rule conjunct role target : ℕ) (pick : Pick)
    → IsAssignOf rules needs rule conjunct role target pick → (P : Obligation → Type 0)
    → P (assigns rule conjunct role target pick) → Some_of P (obligations rules needs)
assign_in rules same needs rule conjunct role target pick d P p = some_left P (assign_obligations rules needs) (weak_obligations rules needs)
    (some_places_0 P _ rules.assign rule d.by d.by_is
    (some_places_0 P _ (conjuncts rules.order (term_of d.by.cond)) conjunct d.when d.when_is
    (some_flat P _ (roles_in rules.order d.by.range) role
    (one_of_same (roles_in rules.order d.by.range) role (some_role (λ r. r ≡ role) rules same d.by.range role d.in_range))
    (some_flat P (λ t. map (λ pick. assigns rule conjunct role t pick) (picks t (length needs))) (wanting role needs) target
    (one_of_same (wanting role needs) target
    (some_places_0 (λ t. t ≡ target) (λ t need. if_wanted (list_any (λ hit. has_role hit role) need.hits) t) needs target d.need d.need_is
    (some_wanted (λ t. t ≡ target) (list_any (λ hit. has_role hit role) d.need.hits) target (any_some role d.need.hits d.wanted) refl)))
    (some_map (λ pick. assigns rule conjunct role target pick) P (picks target (length needs))
    (some_pick (λ pick. P (assigns rule conjunct role target pick)) target (length needs) pick d.is_pick p))))))

pub weak_in : (rules : Rules) → AreSeniors rules.order → (needs : List Need) (rule role target : ℕ) (pick : Pick)
    → IsRevokeOf rules needs rule role target pick → (P : Obligation → Type 0)
    → P (revokes rule role target pick) → Some_of P (obligations rules needs)
weak_in rules same needs rule role target pick d P p = some_right P (assign_obligations rules needs) (weak_obligations rules needs)
    (some_places_0 P _ rules.revoke rule d.by d.by_is
    (some_flat P _ (roles_in rules.order d.by.range) role
    (one_of_same (roles_in rules.order d.by.range) role (some_role (λ r. r ≡ role) rules same d.by.range role d.in_range))
    (some_flat P (λ t. map (λ pick. revokes rule role t pick) (picks t (length needs))) (barring role needs) target
    (one_of_same (barring role needs) target
    (some_places_0 (λ t. t ≡ target) (λ t need. if_wanted (has_role need.lacks role) t) needs target d.need d.need_is
    (some_wanted (λ t. t ≡ target) (has_role d.need.lacks role) target d.barred refl)))
    (some_map (λ pick. revokes rule role target pick) P (picks target (length needs))
    (some_pick (λ pick. P (revokes rule role target pick)) target (length needs) pick d.is_pick p)))))

pub assign_listed : (rules : Rules) → AreSeniors rules.order → (needs : List Need) (d : AssignObligation rules needs) (P : Obligation → Type 0)
    → P (assigns d.is_rule.0 d.is_conjunct.0 d.role d.target d.pick) → Some_of P (obligations rules needs)
assign_listed rules same needs d = assign_in rules same needs d.is_rule.0 d.is_conjunct.0 d.role d.target d.pick (record {
  by = d.rule;
  by_is = d.is_rule.1;
  when = d.conjunct;
  when_is = d.is_conjunct.1;
  in_range = d.in_range;
  need = d.need;
  need_is = d.need_is;
  wanted = d.wanted;
  is_pick = d.is_pick;
})

pub weak_listed : (rules : Rules) → AreSeniors rules.order → (needs : List Need) (d : WeakObligation rules needs) (P : Obligation → Type 0)
    → P (revokes d.is_rule.0 d.role d.target d.pick) → Some_of P (obligations rules needs)
weak_listed rules same needs d = weak_in rules same needs d.is_rule.0 d.role d.target d.pick (record {
  by = d.rule;
  by_is = d.is_rule.1;
  in_range = d.in_range;
  need = d.need;
  need_is = d.need_is;
  barred = d.wanted;
  is_pick = d.is_pick;
})

pub assign_image : (rules : Rules) (needs : List Need) (d : AssignObligation rules needs)
    → pre_image rules needs (assigns d.is_rule.0 d.is_conjunct.0 d.role d.target d.pick) ≡ Some (assign_pre_image d)
assign_image rules needs d = rw (d.is_rule.1, d.is_conjunct.1, d.need_is, d.before_is) refl

pub weak_image : (rules : Rules) (needs : List Need) (d : WeakObligation rules needs)
    → pre_image rules needs (revokes d.is_rule.0 d.role d.target d.pick) ≡ Some (weak_pre_image d)
weak_image rules needs d = rw (d.is_rule.1, d.need_is, d.before_is) refl

pub closed_from_list : (rules : Rules) → AreSeniors rules.order → (profiles : List Profile) (goal : List Term) (list : List (List Need))
    → IsClosedList rules profiles goal list → IsClosed rules profiles goal list
closed_from_list rules same profiles goal list closed = record {
  goals = closed.goals;
  assigns = λ needs is d possible. closed.pre_images needs is (assigns d.is_rule.0 d.is_conjunct.0 d.role d.target d.pick)
      (one_of_same (obligations rules needs) (assigns d.is_rule.0 d.is_conjunct.0 d.role d.target d.pick)
      (assign_listed rules same needs d (λ o. o ≡ assigns d.is_rule.0 d.is_conjunct.0 d.role d.target d.pick) refl))
      (assign_pre_image d) (assign_image rules needs d) possible;
  revokes = λ needs is d possible. closed.pre_images needs is (revokes d.is_rule.0 d.role d.target d.pick)
      (one_of_same (obligations rules needs) (revokes d.is_rule.0 d.role d.target d.pick)
      (weak_listed rules same needs d (λ o. o ≡ revokes d.is_rule.0 d.role d.target d.pick) refl))
      (weak_pre_image d) (weak_image rules needs d) possible;
  unmet = closed.unmet;
}

-- what each obligation of the list is made of

pub record AssignFound (rules : Rules) (needs : List Need) (P : Obligation → Type 0) : Type 0 where
  pub rule : CanAssign
  pub is_rule : IsOneOf rules.assign rule
  pub conjunct : Need
  pub is_conjunct : IsOneOf (conjuncts rules.order (term_of rule.cond)) conjunct
  pub role : ℕ
  pub in_range : IsInRange rules.order rule.range role
  pub target : ℕ
  pub need : Need
  pub need_is : slice_get needs target ≡ Some need
  pub wanted : Some_of (λ hit. IsIn hit role) need.hits
  pub pick : Pick
  pub is_pick : IsPick pick target (length needs)
  pub holds : P (assigns is_rule.0 is_conjunct.0 role target pick)

pub record WeakFound (rules : Rules) (needs : List Need) (P : Obligation → Type 0) : Type 0 where
  pub rule : CanRevoke
  pub is_rule : IsOneOf rules.revoke rule
  pub role : ℕ
  pub in_range : IsInRange rules.order rule.range role
  pub target : ℕ
  pub need : Need
  pub need_is : slice_get needs target ≡ Some need
  pub wanted : IsIn need.lacks role
  pub pick : Pick
  pub is_pick : IsPick pick target (length needs)
  pub holds : P (revokes is_rule.0 role target pick)

pub assign_found : (rules : Rules) → AreSeniors rules.order → (needs : List Need) (P : Obligation → Type 0) → Some_of P (assign_obligations rules needs)
    → AssignFound rules needs P
assign_found rules same needs P h =
    let a = places_some_0 P (λ i rule. flat_places (λ j conjunct. flat (λ role. flat (λ t. map (λ pick. assigns i j role t pick) (picks t (length needs)))
    (wanting role needs))
    (roles_in rules.order rule.range)) 0 (conjuncts rules.order (term_of rule.cond))) rules.assign h in
    let b = places_some_0 P (λ j conjunct. flat (λ role. flat (λ t. map (λ pick. assigns a.0 j role t pick) (picks t (length needs)))
    (wanting role needs))
    (roles_in rules.order a.1.range)) (conjuncts rules.order (term_of a.1.cond)) a.3 in
    let c = role_some (λ role. Some_of P (flat (λ t. map (λ pick. assigns a.0 b.0 role t pick) (picks t (length needs))) (wanting role needs)))
    rules same a.1.range
    (flat_some P (λ role. flat (λ t. map (λ pick. assigns a.0 b.0 role t pick) (picks t (length needs))) (wanting role needs))
    (roles_in rules.order a.1.range) b.3) in
    let d = places_some_0 (λ t. Some_of P (map (λ pick. assigns a.0 b.0 c.0 t pick) (picks t (length needs))))
    (λ t need. if_wanted (list_any (λ hit. has_role hit c.0) need.hits) t) needs
    (flat_some P (λ t. map (λ pick. assigns a.0 b.0 c.0 t pick) (picks t (length needs))) (wanting c.0 needs) c.2) in
    let e = wanted_some (λ t. Some_of P (map (λ pick. assigns a.0 b.0 c.0 t pick) (picks t (length needs))))
    (list_any (λ hit. has_role hit c.0) d.1.hits) d.0 d.3 in
    let f = pick_some (λ pick. P (assigns a.0 b.0 c.0 d.0 pick)) d.0 (length needs)
    (map_some (λ pick. assigns a.0 b.0 c.0 d.0 pick) P (picks d.0 (length needs)) e.1) in
    record {
      rule = a.1;
      is_rule = (a.0, a.2);
      conjunct = b.1;
      is_conjunct = (b.0, b.2);
      role = c.0;
      in_range = c.1;
      target = d.0;
      need = d.1;
      need_is = d.2;
      wanted = some_any c.0 d.1.hits e.0;
      pick = f.0;
      is_pick = f.1;
      holds = f.2;
    }

pub weak_found : (rules : Rules) → AreSeniors rules.order → (needs : List Need) (P : Obligation → Type 0) → Some_of P (weak_obligations rules needs)
    → WeakFound rules needs P
weak_found rules same needs P h =
    let a = places_some_0 P (λ i rule. flat (λ role. flat (λ t. map (λ pick. revokes i role t pick) (picks t (length needs)))
    (barring role needs)) (roles_in rules.order rule.range)) rules.revoke h in
    let c = role_some (λ role. Some_of P (flat (λ t. map (λ pick. revokes a.0 role t pick) (picks t (length needs))) (barring role needs)))
    rules same a.1.range
    (flat_some P (λ role. flat (λ t. map (λ pick. revokes a.0 role t pick) (picks t (length needs))) (barring role needs))
    (roles_in rules.order a.1.range) a.3) in
    let d = places_some_0 (λ t. Some_of P (map (λ pick. revokes a.0 c.0 t pick) (picks t (length needs))))
    (λ t need. if_wanted (has_role need.lacks c.0) t) needs
    (flat_some P (λ t. map (λ pick. revokes a.0 c.0 t pick) (picks t (length needs))) (barring c.0 needs) c.2) in
    let e = wanted_some (λ t. Some_of P (map (λ pick. revokes a.0 c.0 t pick) (picks t (length needs)))) (has_role d.1.lacks c.0) d.0 d.3 in
    let f = pick_some (λ pick. P (revokes a.0 c.0 d.0 pick)) d.0 (length needs)
    (map_some (λ pick. revokes a.0 c.0 d.0 pick) P (picks d.0 (length needs)) e.1) in
    record {
      rule = a.1;
      is_rule = (a.0, a.2);
      role = c.0;
      in_range = c.1;
      target = d.0;
      need = d.1;
      need_is = d.2;
      wanted = e.0;
      pick = f.0;
      is_pick = f.1;
      holds = f.2;
    }

-- the list has the obligations, and no other
pub listed_is : (rules : Rules) → AreSeniors rules.order → (needs : List Need) (ob : Obligation) → IsOneOf (obligations rules needs) ob
    → IsObligation rules needs ob
listed_is rules same needs ob is =
    by_side (some_cases (λ o. o ≡ ob) (assign_obligations rules needs) (weak_obligations rules needs) (same_one_of (obligations rules needs) ob is))
  where
    by_side : Some_of (λ o. o ≡ ob) (assign_obligations rules needs) ⊎ Some_of (λ o. o ≡ ob) (weak_obligations rules needs)
        → IsObligation rules needs ob
    by_side (inl h) =
        let g = assign_found rules same needs (λ o. o ≡ ob) h in
        let parts : IsAssignOf rules needs g.is_rule.0 g.is_conjunct.0 g.role g.target g.pick = record {
          by = g.rule;
          by_is = g.is_rule.1;
          when = g.conjunct;
          when_is = g.is_conjunct.1;
          in_range = g.in_range;
          need = g.need;
          need_is = g.need_is;
          wanted = g.wanted;
          is_pick = g.is_pick;
        } in
        subst (IsObligation rules needs) g.holds parts
    by_side (inr h) =
        let g = weak_found rules same needs (λ o. o ≡ ob) h in
        let parts : IsRevokeOf rules needs g.is_rule.0 g.role g.target g.pick = record {
          by = g.rule;
          by_is = g.is_rule.1;
          in_range = g.in_range;
          need = g.need;
          need_is = g.need_is;
          barred = g.wanted;
          is_pick = g.is_pick;
        } in
        subst (IsObligation rules needs) g.holds parts

pub is_listed : (rules : Rules) → AreSeniors rules.order → (needs : List Need) (ob : Obligation) → IsObligation rules needs ob
    → IsOneOf (obligations rules needs) ob
is_listed rules same needs (assigns rule conjunct role target pick) is =
    one_of_same (obligations rules needs) (assigns rule conjunct role target pick)
    (assign_in rules same needs rule conjunct role target pick is (λ o. o ≡ assigns rule conjunct role target pick) refl)
is_listed rules same needs (revokes rule role target pick) is =
    one_of_same (obligations rules needs) (revokes rule role target pick)
    (weak_in rules same needs rule role target pick is (λ o. o ≡ revokes rule role target pick) refl)

pub listed : (rules : Rules) → AreSeniors rules.order → (needs : List Need) (ob : Obligation)
    → IsOneOf (obligations rules needs) ob ↔ IsObligation rules needs ob
listed rules same needs ob = (listed_is rules same needs ob, is_listed rules same needs ob)

pub and_then_some : {A B : Type 0} (o : Option A) (f : A → Option B) (b : B) → and_then o f ≡ Some b → (x : A) × (o ≡ Some x) × (f x ≡ Some b)
and_then_some None f b e = cc
and_then_some (Some x) f b e = (x, refl, e)

-- an act from what is met before leads to what is met after, with the same map
abbrev pub LeadsOn : Rules → List (List ℕ) → List Need → Obligation → List Need → Type 0
LeadsOn rules users needs ob b =
    (before : Meets users b) → (new : List (List ℕ)) × Step rules users (act_of ob (length needs) before.to) new × MeetsBy new needs before.to

-- an obligation of the list that has a pre-image, in parts
pub record IsAssigning (rules : Rules) (needs : List Need) (ob : Obligation) (before : List Need) : Type 0 where
  pub parts : AssignObligation rules needs
  pub named : assigns parts.is_rule.0 parts.is_conjunct.0 parts.role parts.target parts.pick ≡ ob
  pub image : assign_pre_image parts ≡ before

pub record IsRevoking (rules : Rules) (needs : List Need) (ob : Obligation) (before : List Need) : Type 0 where
  pub parts : WeakObligation rules needs
  pub named : revokes parts.is_rule.0 parts.role parts.target parts.pick ≡ ob
  pub image : weak_pre_image parts ≡ before

pub in_parts : (rules : Rules) → AreSeniors rules.order → (needs : List Need) (ob : Obligation) → IsOneOf (obligations rules needs) ob
    → (b : List Need) → pre_image rules needs ob ≡ Some b → IsAssigning rules needs ob b ⊎ IsRevoking rules needs ob b
in_parts rules same needs ob is b e =
    by_side (some_cases (λ o. o ≡ ob) (assign_obligations rules needs) (weak_obligations rules needs) (same_one_of (obligations rules needs) ob is))
  where
    given : (g : AssignFound rules needs (λ o. o ≡ ob)) → pre_image rules needs (assigns g.is_rule.0 g.is_conjunct.0 g.role g.target g.pick) ≡ Some b
        → IsAssigning rules needs ob b
    given g e =
        let r = and_then_some (before_assign rules g.conjunct g.role g.need)
        (λ before. Some (with_admin g.pick g.target (seniors_of rules.order g.rule.admin) (slice_set needs g.target before))) b
        (rw (g.is_rule.1, g.is_conjunct.1, g.need_is) at e) in
        record {
          parts = record {
            rule = g.rule;
            is_rule = g.is_rule;
            conjunct = g.conjunct;
            is_conjunct = g.is_conjunct;
            role = g.role;
            in_range = g.in_range;
            target = g.target;
            need = g.need;
            need_is = g.need_is;
            wanted = g.wanted;
            pick = g.pick;
            is_pick = g.is_pick;
            before = r.0;
            before_is = r.1;
          };
          named = g.holds;
          image = cc r.2;
        }

    taken : (g : WeakFound rules needs (λ o. o ≡ ob)) → pre_image rules needs (revokes g.is_rule.0 g.role g.target g.pick) ≡ Some b
        → IsRevoking rules needs ob b
    taken g e =
        let r = and_then_some (before_weak g.role g.need)
        (λ before. Some (with_admin g.pick g.target (seniors_of rules.order g.rule.admin) (slice_set needs g.target before))) b
        (rw (g.is_rule.1, g.need_is) at e) in
        record {
          parts = record {
            rule = g.rule;
            is_rule = g.is_rule;
            role = g.role;
            in_range = g.in_range;
            target = g.target;
            need = g.need;
            need_is = g.need_is;
            wanted = g.wanted;
            pick = g.pick;
            is_pick = g.is_pick;
            before = r.0;
            before_is = r.1;
          };
          named = g.holds;
          image = cc r.2;
        }

    by_side : Some_of (λ o. o ≡ ob) (assign_obligations rules needs) ⊎ Some_of (λ o. o ≡ ob) (weak_obligations rules needs)
        → IsAssigning rules needs ob b ⊎ IsRevoking rules needs ob b
    by_side (inl h) = let g = assign_found rules same needs (λ o. o ≡ ob) h in
        inl (given g (subst (λ o. pre_image rules needs o ≡ Some b) (sym g.holds) e))
    by_side (inr h) = let g = weak_found rules same needs (λ o. o ≡ ob) h in inr (taken g (subst (λ o. pre_image rules needs o ≡ Some b) (sym g.holds) e))

pub listed_leads : (rules : Rules) → AreSeniors rules.order → (users : List (List ℕ)) (needs : List Need) (ob : Obligation)
    → IsOneOf (obligations rules needs) ob
    → (b : List Need) → pre_image rules needs ob ≡ Some b → LeadsOn rules users needs ob b
listed_leads rules same users needs ob is b e = by_parts (in_parts rules same needs ob is b e)
  where
    by_parts : IsAssigning rules needs ob b ⊎ IsRevoking rules needs ob b → LeadsOn rules users needs ob b
    by_parts (inl p) = subst (λ o. LeadsOn rules users needs o b) p.named
        (subst (LeadsOn rules users needs (assigns p.parts.is_rule.0 p.parts.is_conjunct.0 p.parts.role p.parts.target p.parts.pick)) p.image
        (λ before. let l = assign_leads rules same users needs p.parts before in (l.new, l.step, (l.meets, l.kept))))
    by_parts (inr p) = subst (λ o. LeadsOn rules users needs o b) p.named
        (subst (LeadsOn rules users needs (revokes p.parts.is_rule.0 p.parts.role p.parts.target p.parts.pick)) p.image
        (λ before. let l = weak_leads rules same users needs p.parts before in (l.new, l.step, (l.meets, l.kept))))

-- one of the obligations has what was met before
abbrev pub WasMet : Rules → List (List ℕ) → List Need → Type 0
WasMet rules old needs = Meets old needs ⊎ MeetsPreImage rules old needs

pub assign_was_met : (rules : Rules) → AreSeniors rules.order → (old new : List (List ℕ)) (admin target role : ℕ) (needs : List Need)
    → AssignStep user rules old old admin target role new
    → Meets new needs → WasMet rules old needs
assign_was_met rules same old new admin target role needs step met = by_case (before_assign_step rules same old new admin target role needs step met)
  where
    by_case : Meets old needs ⊎ ((ob : AssignObligation rules needs) × Meets old (assign_pre_image ob)) → WasMet rules old needs
    by_case (inl m) = inl m
    by_case (inr d) = inr (assign_listed rules same needs d.0 (λ ob. (before : List Need) × (pre_image rules needs ob ≡ Some before) × Meets old before)
        (assign_pre_image d.0, assign_image rules needs d.0, d.1))

pub weak_was_met : (rules : Rules) → AreSeniors rules.order → (old new : List (List ℕ)) (admin target role : ℕ) (needs : List Need)
    → WeakStep user rules old old admin target role new
    → Meets new needs → WasMet rules old needs
weak_was_met rules same old new admin target role needs step met = by_case (before_weak_step rules same old new admin target role needs step met)
  where
    by_case : Meets old needs ⊎ ((ob : WeakObligation rules needs) × Meets old (weak_pre_image ob)) → WasMet rules old needs
    by_case (inl m) = inl m
    by_case (inr d) = inr (weak_listed rules same needs d.0 (λ ob. (before : List Need) × (pre_image rules needs ob ≡ Some before) × Meets old before)
        (weak_pre_image d.0, weak_image rules needs d.0, d.1))

pub list_excludes : (rules : Rules) → AreSeniors rules.order → (profiles : List Profile) (goal : List Term) (list : List (List Need))
    → IsClosedList rules profiles goal list → IsReachable rules profiles goal → ⊥
list_excludes rules same profiles goal list closed = not_reachable rules same profiles goal list (closed_from_list rules same profiles goal list closed)
