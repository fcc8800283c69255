-- What a step comes from.
use Rattle.std.proofs.Common.{ℕ, ◌≡◌, ◌∙◌, ◌<◌, ◌≤◌, Bool, List, [], ◌∷◌, length, get_or, Some, None, zero, suc, sym, subst, ap, refl, arith}
use Rattle.std.specs.Prelude.{◌↔◌, IsTrue, IfOk, Result, Ok, Err, slice_get, slice_set}
use Rattle.list_words.specs.Lists.{Some_of}
use Rattle.list_words.proofs.GetLemmas.{get_at, get_map, same_some}
use Rattle.role_order.specs.Graph.{AreEdges, Graph}
use Rattle.role_order.specs.Ranges.{IsInRange}
use Rattle.role_order.specs.Reach.{seniors_of}
use Rattle.role_order.specs.Roles.{IsIn}
use Rattle.arbac_policy.specs.declared.conjunct.Conjunct.{Conjunct}
use Rattle.arbac_policy.specs.declared.rule.CanAssign.{CanAssign}
use Rattle.arbac_policy.specs.Rules.{Rules}
use Rattle.arbac_policy.specs.Truth.{term_of}
use Rattle.arbac_laws.specs.Conjuncts.{conjuncts}
use Rattle.arbac_laws.specs.Listings.{IsAssignOf, IsRevokeOf}
use Rattle.arbac_laws.specs.Needs.{Need}
use Rattle.arbac_laws.specs.NormalForms.{normal_form}
use Rattle.arbac_laws.specs.Obligations.{Obligation, assigns, pre_image, revokes}
use Rattle.arbac_laws.specs.PreImages.{IsPick, Pick, before_assign, before_weak, itself, with_admin}
use Rattle.arbac_laws.specs.Views.{need_of, needs_of}
use Rattle.arbac_laws.specs.Recorded.{Entry, Origin, of_parent}
use Rattle.arbac_laws.proofs.ConjunctLemmas.{are_seniors, AreSeniors}
use Rattle.arbac_laws.proofs.ObligationLemmas.{and_then_some, is_listed, listed_is}
use Rattle.cert_check.specs.Asked.{Asked, IsDerivedEntry}
use Rattle.cert_check.specs.Origins.{IsExchanged, IsFormBefore, IsGiven, IsTaken}
use Rattle.cert_check.specs.Rulebooks.{conjuncts_of}

-- what a slice has at a place, and past its end

pub found_at : {A : Type 0} (xs : List A) (k : ℕ) (x : A) → k < length xs → x ≡ get_or xs k x → slice_get xs k ≡ Some x
found_at xs k x less is = get_at xs k x less ∙ ap Some (sym is)

pub past_end : {A : Type 0} (xs : List A) (k : ℕ) → length xs ≤ k → slice_get xs k ≡ None
past_end [] k less = refl
past_end (x ∷ xs) zero less = absurd (omega (arith, less))
past_end (x ∷ xs) (suc k) less = past_end xs k (omega (arith, less))

-- the same obligation with another administrator

pub assign_by : (rules : Rules) (needs : List Need) (i j role t : ℕ) (one new : Pick) → IsAssignOf rules needs i j role t one
    → IsPick new t (length needs) → IsAssignOf rules needs i j role t new
assign_by rules needs i j role t one new o pick = record {
  by = o.by;
  by_is = o.by_is;
  when = o.when;
  when_is = o.when_is;
  in_range = o.in_range;
  need = o.need;
  need_is = o.need_is;
  wanted = o.wanted;
  is_pick = pick;
}

pub revoke_by : (rules : Rules) (needs : List Need) (i role t : ℕ) (one new : Pick) → IsRevokeOf rules needs i role t one
    → IsPick new t (length needs) → IsRevokeOf rules needs i role t new
revoke_by rules needs i role t one new o pick = record {
  by = o.by;
  by_is = o.by_is;
  in_range = o.in_range;
  need = o.need;
  need_is = o.need_is;
  barred = o.barred;
  is_pick = pick;
}

-- the pre-image by an assignment, in parts
pub given_image : (rules : Rules) (needs : List Need) (i j role t : ℕ) (pick : Pick) (hit : List ℕ) (before : Need)
    → IsGiven rules needs i j role t hit before
    → pre_image rules needs (assigns i j role t pick) ≡ Some (with_admin pick t hit (slice_set needs t before))
given_image rules needs i j role t pick hit before g = rw (g.parts.by_is, g.parts.when_is, g.parts.need_is, g.before_is, g.hit_is) refl

pub given_form : (rules : Rules) → AreSeniors rules.order → (needs : List Need) (i j role t : ℕ) (pick : Pick) (hit : List ℕ) (before : Need)
    (form : List Need) → IsGiven rules needs i j role t hit before → (answer : Bool)
    → IsTrue answer ↔ IsExchanged needs t pick hit before form → IsTrue answer ↔ IsFormBefore rules needs (assigns i j role t pick) form
given_form rules same needs i j role t pick hit before form g answer h = (
  λ yes. let e = h.0 yes in (
    with_admin pick t hit (slice_set needs t before),
    is_listed rules same needs (assigns i j role t pick) (assign_by rules needs i j role t itself pick g.parts e.0),
    given_image rules needs i j role t pick hit before g,
    e.1,
  ),
  λ f.
      let o : IsAssignOf rules needs i j role t pick = listed_is rules same needs (assigns i j role t pick) f.1 in
      let is : f.0 ≡ with_admin pick t hit (slice_set needs t before) =
      same_some f.0 (with_admin pick t hit (slice_set needs t before)) (sym f.2 ∙ given_image rules needs i j role t pick hit before g) in
      h.1 (o.is_pick, subst (λ (b : List Need). normal_form b ≡ Some form) is f.3),
)

pub given_none : (rules : Rules) → AreSeniors rules.order → (needs : List Need) (i j role t : ℕ) (pick : Pick) (form : List Need)
    → ((hit : List ℕ) (before : Need) → IsGiven rules needs i j role t hit before → ⊥) → IsFormBefore rules needs (assigns i j role t pick) form → ⊥
unfolding assign_by
given_none rules same needs i j role t pick form none f =
    let o : IsAssignOf rules needs i j role t pick = listed_is rules same needs (assigns i j role t pick) f.1 in
    let r = and_then_some (before_assign rules o.when role o.need)
    (λ before. Some (with_admin pick t (seniors_of rules.order o.by.admin) (slice_set needs t before))) f.0
    (rw (o.by_is, o.when_is, o.need_is) at f.2) in
    none (seniors_of rules.order o.by.admin) r.0 (record { parts = assign_by rules needs i j role t pick itself o tt; hit_is = refl; before_is = r.1 })

-- a rule, a conjunct of its condition and a user stand at these places
pub record AreAt (rules : Rules) (needs : List Need) (i j t : ℕ) (by : CanAssign) (when need : Need) : Type 0 where
  pub by_is : slice_get rules.assign i ≡ Some by
  pub when_is : slice_get (conjuncts rules.order (term_of by.cond)) j ≡ Some when
  pub need_is : slice_get needs t ≡ Some need

-- as they were looked up
pub are_at : (rules : Rules) (users : List Conjunct) (i j t : ℕ) (by : CanAssign) (list : List Conjunct) (when user : Conjunct)
    → slice_get rules.assign i ≡ Some by
    → (rule : CanAssign) × (slice_get rules.assign i ≡ Some rule) × (needs_of list ≡ conjuncts_of rules rule)
    → slice_get list j ≡ Some when → slice_get users t ≡ Some user
    → AreAt rules (needs_of users) i j t by (need_of when) (need_of user)
are_at rules users i j t by list when user by_is listed when_is user_is =
    let same : listed.0 ≡ by = same_some listed.0 by (sym listed.1 ∙ by_is) in
    let all : needs_of list ≡ conjuncts_of rules by = listed.2 ∙ ap (conjuncts_of rules) same in
    let there : slice_get (needs_of list) j ≡ Some (need_of when) = get_map need_of list j when when_is in
    record { by_is = by_is; when_is = rw all at there; need_is = get_map need_of users t user user_is }

-- they are what an assignment at these places is made of
pub given_same : (rules : Rules) (needs : List Need) (i j role t : ℕ) (hit : List ℕ) (before : Need) → IsGiven rules needs i j role t hit before
    → (by : CanAssign) (when need : Need) → AreAt rules needs i j t by when need
    → IsInRange rules.order by.range role × Some_of (λ hit. IsIn hit role) need.hits × (before_assign rules when role need ≡ Some before)
given_same rules needs i j role t hit before g by when need are =
    let p = g.parts in
    let a : p.by ≡ by = same_some p.by by (sym p.by_is ∙ are.by_is) in
    let there : slice_get (conjuncts rules.order (term_of p.by.cond)) j ≡ Some when =
    subst (λ (r : CanAssign). slice_get (conjuncts rules.order (term_of r.cond)) j ≡ Some when) (sym a) are.when_is in
    let b : p.when ≡ when = same_some p.when when (sym p.when_is ∙ there) in
    let d : p.need ≡ need = same_some p.need need (sym p.need_is ∙ are.need_is) in (
      subst (λ (r : CanAssign). IsInRange rules.order r.range role) a p.in_range,
      subst (λ (n : Need). Some_of (λ hit. IsIn hit role) n.hits) d p.wanted,
      subst (λ (n : Need). before_assign rules when role n ≡ Some before) d
          (subst (λ (w : Need). before_assign rules w role p.need ≡ Some before) b g.before_is),
    )

-- the pre-image by a weak revocation, in parts
pub taken_image : (rules : Rules) (needs : List Need) (i role t : ℕ) (pick : Pick) (hit : List ℕ) (before : Need)
    → IsTaken rules needs i role t hit before
    → pre_image rules needs (revokes i role t pick) ≡ Some (with_admin pick t hit (slice_set needs t before))
taken_image rules needs i role t pick hit before g = rw (g.parts.by_is, g.parts.need_is, g.before_is, g.hit_is) refl

pub taken_form : (rules : Rules) → AreSeniors rules.order → (needs : List Need) (i role t : ℕ) (pick : Pick) (hit : List ℕ) (before : Need)
    (form : List Need) → IsTaken rules needs i role t hit before → (answer : Bool)
    → IsTrue answer ↔ IsExchanged needs t pick hit before form → IsTrue answer ↔ IsFormBefore rules needs (revokes i role t pick) form
taken_form rules same needs i role t pick hit before form g answer h = (
  λ yes. let e = h.0 yes in (
    with_admin pick t hit (slice_set needs t before),
    is_listed rules same needs (revokes i role t pick) (revoke_by rules needs i role t itself pick g.parts e.0),
    taken_image rules needs i role t pick hit before g,
    e.1,
  ),
  λ f.
      let o : IsRevokeOf rules needs i role t pick = listed_is rules same needs (revokes i role t pick) f.1 in
      let is : f.0 ≡ with_admin pick t hit (slice_set needs t before) =
      same_some f.0 (with_admin pick t hit (slice_set needs t before)) (sym f.2 ∙ taken_image rules needs i role t pick hit before g) in
      h.1 (o.is_pick, subst (λ (b : List Need). normal_form b ≡ Some form) is f.3),
)

pub taken_none : (rules : Rules) → AreSeniors rules.order → (needs : List Need) (i role t : ℕ) (pick : Pick) (form : List Need)
    → ((hit : List ℕ) (before : Need) → IsTaken rules needs i role t hit before → ⊥) → IsFormBefore rules needs (revokes i role t pick) form → ⊥
unfolding revoke_by
taken_none rules same needs i role t pick form none f =
    let o : IsRevokeOf rules needs i role t pick = listed_is rules same needs (revokes i role t pick) f.1 in
    let r = and_then_some (before_weak role o.need)
    (λ before. Some (with_admin pick t (seniors_of rules.order o.by.admin) (slice_set needs t before))) f.0
    (rw (o.by_is, o.need_is) at f.2) in
    none (seniors_of rules.order o.by.admin) r.0 (record { parts = revoke_by rules needs i role t pick itself o tt; hit_is = refl; before_is = r.1 })

-- the order of a policy is one
pub own_seniors : (rules : Rules) (order : Graph) → order ≡ rules.order → AreEdges (length order.names) order.edges → AreSeniors rules.order
own_seniors rules order same ends = subst AreSeniors same (are_seniors order ends)

-- a step of an obligation of the parent at the place

pub parent_derived : (asked : Asked) (rules : Rules) → asked.rules ≡ rules → (earlier : List Entry) (p : ℕ) (parent : Entry)
    → slice_get earlier p ≡ Some parent → (ob : Obligation) (form : List Need) (answer : Bool)
    → IsTrue answer ↔ IsFormBefore rules parent.needs ob form → (origin : Origin) → origin ≡ of_parent p ob
    → IsTrue answer ↔ IsDerivedEntry asked earlier (record { origin = origin; needs = form })
parent_derived asked rules same earlier p parent at ob form answer h origin is =
    subst (λ (o : Origin). IsTrue answer ↔ IsDerivedEntry asked earlier (record { origin = o; needs = form })) (sym is) named
  where
    of_rules : IsTrue answer ↔ IsFormBefore asked.rules parent.needs ob form
    of_rules = subst (λ (r : Rules). IsTrue answer ↔ IsFormBefore r parent.needs ob form) (sym same) h

    named : IsTrue answer ↔ IsDerivedEntry asked earlier (record { origin = of_parent p ob; needs = form })
    named = (
      λ yes. let f = of_rules.0 yes in (f.0, (parent, at, f.1, f.2), f.3),
      λ d.
          let one : d.1.0 ≡ parent = same_some d.1.0 parent (sym d.1.1 ∙ at) in
          of_rules.1 (subst (λ (e : Entry). IsFormBefore asked.rules e.needs ob form) one (d.0, d.1.2, d.1.3, d.2)),
    )

pub parent_none : (asked : Asked) (rules : Rules) → asked.rules ≡ rules → (earlier : List Entry) (p : ℕ) (parent : Entry)
    → slice_get earlier p ≡ Some parent → (ob : Obligation) (form : List Need)
    → (IsFormBefore rules parent.needs ob form → ⊥) → (origin : Origin) → origin ≡ of_parent p ob
    → IsDerivedEntry asked earlier (record { origin = origin; needs = form }) → ⊥
parent_none asked rules same earlier p parent at ob form none origin is d =
    let named = subst (λ (o : Origin). IsDerivedEntry asked earlier (record { origin = o; needs = form })) is d in
    let one : named.1.0 ≡ parent = same_some named.1.0 parent (sym named.1.1 ∙ at) in
    none (subst (λ (r : Rules). IsFormBefore r parent.needs ob form) same
    (subst (λ (e : Entry). IsFormBefore asked.rules e.needs ob form) one (named.0, named.1.2, named.1.3, named.2)))

pub orphan_none : (asked : Asked) (earlier : List Entry) (p : ℕ) → slice_get earlier p ≡ None → (ob : Obligation) (form : List Need)
    (origin : Origin) → origin ≡ of_parent p ob → IsDerivedEntry asked earlier (record { origin = origin; needs = form }) → ⊥
orphan_none asked earlier p out ob form origin is d =
    let named = subst (λ (o : Origin). IsDerivedEntry asked earlier (record { origin = o; needs = form })) is d in
    let never : Some named.1.0 ≡ None = sym named.1.1 ∙ out in cc

-- a step of the goal

-- what holds where there is a result
pub ok_weaker : {A E : Type 0} (P Q : A → Type 0) → ((x : A) → P x → Q x) → (result : Result A E) → IfOk result P → IfOk result Q
ok_weaker P Q weaker (Ok x) h = weaker x h
ok_weaker P Q weaker (Err e) h = tt
