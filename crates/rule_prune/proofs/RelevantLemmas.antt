-- What conditions, rules and pairs ask for, and the links that say it.
use Rattle.std.proofs.Common.{ℕ, ◌≡◌, ◌<◌, ◌≤◌, ◌+◌, ◌∙◌, Bool, true, false, cond, List, [], ◌∷◌, ◌++◌, length, map, take, Some}
use Rattle.std.proofs.Common.{refl, sym, subst, arith, zero, suc, inl, inr}
use Rattle.std.specs.Prelude.{◌⊎◌, ◌↔◌, slice_get}
use Rattle.std.proofs.lemmas.Bool.{false≢true}
use Rattle.list_words.specs.Lists.{Each, IsOneOf}
use Rattle.list_words.proofs.EachLemmas.{each_append, each_at, each_left, each_of, each_right}
use Rattle.list_words.proofs.GetLemmas.{get_below, take_one_more}
use Rattle.list_words.proofs.NumberLemmas.{compare}
use Rattle.list_words.proofs.TestLemmas.{and_both, both_true}
use Rattle.role_order.specs.Graph.{Graph}
use Rattle.role_order.specs.Ranges.{IsInRange}
use Rattle.role_order.specs.Reach.{seniors_of}
use Rattle.role_order.specs.Roles.{IsIn, IsWithin, common_roles, has_role, join_roles}
use Rattle.role_order.proofs.SetLemmas.{has_role-filter}
use Rattle.arbac_policy.specs.Rules.{Rules}
use Rattle.arbac_policy.specs.Truth.{term_of}
use Rattle.arbac_policy.specs.declared.cond.Cond.{Cond}
use Rattle.arbac_policy.specs.declared.rule.CanAssign.{CanAssign}
use Rattle.arbac_laws.specs.PreImages.{barred}
use Rattle.arbac_laws.proofs.RoleLemmas.{in_join_left, in_join_right, join_cases}
use Rattle.rule_prune.specs.Relevant.{AreAmong, AreLeast, AsksApart, AsksToAssign, AsksToRevoke, Excludes, HaveAsked, HaveLinked, IsGivable, LeadsOn, Meet}
use Rattle.rule_prune.specs.Relevant.{asked, bars, wants}
use Rattle.rule_prune.specs.Steps.{ByEach, IsClosure, IsStep}
use Rattle.rule_prune.specs.declared.links.Link.{Link}
use Rattle.rule_prune.specs.declared.relevance.Relevance.{Relevance}
use Rattle.rule_prune.proofs.GainLemmas.{join_within}
use Rattle.rule_prune.proofs.StepLemmas.{IsPreorder, Stays, else_step, if_step}

pub among_order : IsPreorder AreAmong
among_order = record {
  same = λ a. record { wanted = λ role h. h; barred = λ role h. h };
  through = λ a b c v w. record {
    wanted = λ role h. w.wanted role (v.wanted role h);
    barred = λ role h. w.barred role (v.barred role h);
  };
}

-- steps

pub among_stays : (roles : Relevance) → Stays AreAmong (λ old new. AreAmong roles new)
among_stays roles less old new more v w has = among_order.through roles new more has w

pub meet_more : (from less more : Relevance) → AreAmong less more → Meet from less → Meet from more
meet_more from less more v (inl common) = inl (common.0, common.1, v.wanted common.0 common.2)
meet_more from less more v (inr common) = inr (common.0, common.1, v.barred common.0 common.2)

pub link_stays : (link : Link) → Stays AreAmong (LeadsOn link)
link_stays link less old new more v w leads meets = among_order.through link.to new more (leads (meet_more link.from less old v meets)) w

pub all_stay : (links : List Link) → Stays AreAmong (ByEach LeadsOn links)
all_stay links less old new more v w leads link is = link_stays link less old new more v w (leads link is)

-- a join is the step to what has the roles
pub joined_step : (roles more new : Relevance) → new.wanted ≡ join_roles roles.wanted more.wanted → new.barred ≡ join_roles roles.barred more.barred
    → IsStep AreAmong (λ old new. AreAmong more new) roles new
joined_step roles more new e f = record {
  kept = record {
    wanted = λ role h. subst (λ s. IsIn s role) (sym e) (in_join_left roles.wanted more.wanted role h);
    barred = λ role h. subst (λ s. IsIn s role) (sym f) (in_join_left roles.barred more.barred role h);
  };
  has = record {
    wanted = λ role h. subst (λ s. IsIn s role) (sym e) (in_join_right roles.wanted more.wanted role h);
    barred = λ role h. subst (λ s. IsIn s role) (sym f) (in_join_right roles.barred more.barred role h);
  };
  least = λ other among closed. record {
    wanted = λ role h. join_within roles.wanted more.wanted other.wanted among.wanted closed.wanted role (subst (λ s. IsIn s role) e h);
    barred = λ role h. join_within roles.barred more.barred other.barred among.barred closed.barred role (subst (λ s. IsIn s role) f h);
  };
}

-- a link that starts from one of the roles
pub link_step : (link : Link) (roles new : Relevance) → Meet link.from roles → new.wanted ≡ join_roles roles.wanted link.to.wanted
    → new.barred ≡ join_roles roles.barred link.to.barred → IsStep AreAmong (LeadsOn link) roles new
link_step link roles new meets e f = if_step AreAmong (λ old new. AreAmong link.to new) (Meet link.from) (λ a b among h. meet_more link.from a b among h)
    roles new meets (joined_step roles link.to new e f)

-- and one that doesn't
pub no_link_step : (link : Link) (roles : Relevance) → (Meet link.from roles → ⊥) → IsStep AreAmong (LeadsOn link) roles roles
no_link_step link roles none = else_step AreAmong (λ old new. AreAmong link.to new) among_order (Meet link.from) roles none

-- what one link says

pub assign_linked : (order : Graph) (rule : CanAssign) (link : Link) → ((role : ℕ) → IsIn link.from.wanted role ↔ IsInRange order rule.range role)
    → link.from.barred ≡ [] → link.to.wanted ≡ join_roles (wants order (term_of rule.cond)) (seniors_of order rule.admin)
    → link.to.barred ≡ bars order (term_of rule.cond) → (roles : Relevance) → LeadsOn link roles roles ↔ AsksToAssign order roles rule
assign_linked order rule link range none to_wanted to_barred roles = (there, back)
  where
    names : List ℕ
    names = wants order (term_of rule.cond)

    above : List ℕ
    above = seniors_of order rule.admin

    there : LeadsOn link roles roles → AsksToAssign order roles rule
    there leads meets =
        let among = leads (inl (meets.0, (range meets.0).1 meets.1, meets.2)) in (
          record {
            wanted = λ role h. among.wanted role (subst (λ s. IsIn s role) (sym to_wanted) (in_join_left names above role h));
            barred = λ role h. among.barred role (subst (λ s. IsIn s role) (sym to_barred) h);
          },
          λ role h. among.wanted role (subst (λ s. IsIn s role) (sym to_wanted) (in_join_right names above role h)),
        )

    back : AsksToAssign order roles rule → LeadsOn link roles roles
    back asks (inl common) =
        let has = asks (common.0, (range common.0).0 common.1, common.2) in
        record {
          wanted = λ role h. join_within names above roles.wanted has.0.wanted has.1 role (subst (λ s. IsIn s role) to_wanted h);
          barred = λ role h. has.0.barred role (subst (λ s. IsIn s role) to_barred h);
        }
    back asks (inr common) = absurd (false≢true (subst (λ s. IsIn s common.0) none common.1))

pub apart_linked : (order : Graph) (givable : List ℕ) (first second : ℕ) (link : Link)
    → link.from.wanted ≡ common_roles (seniors_of order first) givable → link.from.barred ≡ [] → link.to.wanted ≡ []
    → link.to.barred ≡ seniors_of order second → (roles : Relevance) → LeadsOn link roles roles ↔ Excludes order givable roles first second
apart_linked order givable first second link from_wanted none no_more to_barred roles = (there, back)
  where
    above : List ℕ
    above = seniors_of order first

    there : LeadsOn link roles roles → Excludes order givable roles first second
    there leads role given higher wanted =
        let common : IsIn (common_roles above givable) role =
        has_role-filter (has_role givable) above role ∙ both_true (has_role above role) (has_role givable role) higher given in
        let among = leads (inl (role, subst (λ s. IsIn s role) (sym from_wanted) common, wanted)) in
        λ other h. among.barred other (subst (λ s. IsIn s other) (sym to_barred) h)

    back : Excludes order givable roles first second → LeadsOn link roles roles
    back excludes (inl common) =
        let both = and_both (has_role above common.0) (has_role givable common.0)
        (sym (has_role-filter (has_role givable) above common.0) ∙ subst (λ s. IsIn s common.0) from_wanted common.1) in
        record {
          wanted = λ role h. absurd (false≢true (subst (λ s. IsIn s role) no_more h));
          barred = λ role h. excludes common.0 both.1 both.0 common.2 role (subst (λ s. IsIn s role) to_barred h);
        }
    back excludes (inr common) = absurd (false≢true (subst (λ s. IsIn s common.0) none common.1))

-- links that are added for one item after another

abbrev pub AreLinked : {B : Type 0} → (Relevance → B → Type 0) → List B → List Link → List Link → Type 0
AreLinked {B} Asks xs old new = (roles : Relevance) → HaveLinked new roles ↔ (HaveLinked old roles × Each (Asks roles) xs)

pub none_linked : {B : Type 0} (Asks : Relevance → B → Type 0) (old : List Link) → AreLinked Asks [] old old
none_linked Asks old roles = (λ h. (h, tt), λ h. h.0)

-- one item more, whose links are added to those so far
pub more_linked : {B : Type 0} (Asks : Relevance → B → Type 0) (xs : List B) (i : ℕ) (x : B) (old links new : List Link) → slice_get xs i ≡ Some x
    → ((roles : Relevance) → HaveLinked new roles ↔ (HaveLinked links roles × Asks roles x)) → AreLinked Asks (take i xs) old links
    → AreLinked Asks (take (i + 1) xs) old new
more_linked Asks xs i x old links new here step before roles = (
  λ h.
      let last = (step roles).0 h in
      let first = (before roles).0 last.0 in
      (first.0, subst (Each (Asks roles)) (sym (take_one_more xs i x here)) (each_append (Asks roles) (take i xs) (x ∷ []) first.1 (last.1, tt))),
  λ h.
      let all : Each (Asks roles) (take i xs ++ x ∷ []) = subst (Each (Asks roles)) (take_one_more xs i x here) h.1 in
      (step roles).1 ((before roles).1 (h.0, each_left (Asks roles) (take i xs) (x ∷ []) all), (each_right (Asks roles) (take i xs) (x ∷ []) all).0),
)

-- one link that is pushed
pub pushed : {B : Type 0} (Asks : Relevance → B → Type 0) (x : B) (links : List Link) (link : Link) (new : List Link) → new ≡ links ++ link ∷ []
    → ((roles : Relevance) → LeadsOn link roles roles ↔ Asks roles x) → (roles : Relevance) → HaveLinked new roles
    ↔ (HaveLinked links roles × Asks roles x)
pushed Asks x links link new grown same roles = (
  λ h.
      let all : HaveLinked (links ++ link ∷ []) roles = subst (λ (l : List Link). HaveLinked l roles) grown h in
      let one = each_right (λ link. LeadsOn link roles roles) links (link ∷ []) all in
      (each_left (λ link. LeadsOn link roles roles) links (link ∷ []) all, (same roles).0 one.0),
  λ h. subst (λ (l : List Link). HaveLinked l roles) (sym grown)
      (each_append (λ link. LeadsOn link roles roles) links (link ∷ []) h.0 ((same roles).1 h.1, tt)),
)

-- one link for an item
pub one_linked : {B : Type 0} (Asks : Relevance → B → Type 0) (xs : List B) (i : ℕ) (x : B) (old links : List Link) (link : Link) (new : List Link)
    → slice_get xs i ≡ Some x → new ≡ links ++ link ∷ [] → ((roles : Relevance) → LeadsOn link roles roles ↔ Asks roles x)
    → AreLinked Asks (take i xs) old links → AreLinked Asks (take (i + 1) xs) old new
one_linked Asks xs i x old links link new here grown same before =
    more_linked Asks xs i x old links new here (pushed Asks x links link new grown same) before

-- two links for a pair
pub two_linked : (order : Graph) (givable : List ℕ) (pair : ℕ × ℕ) (links : List Link) (first second : Link) (mid new : List Link)
    → mid ≡ links ++ first ∷ [] → new ≡ mid ++ second ∷ []
    → ((roles : Relevance) → LeadsOn first roles roles ↔ Excludes order givable roles pair.0 pair.1)
    → ((roles : Relevance) → LeadsOn second roles roles ↔ Excludes order givable roles pair.1 pair.0)
    → (roles : Relevance) → HaveLinked new roles ↔ (HaveLinked links roles × AsksApart order givable roles pair)
two_linked order givable pair links first second mid new grown again one other roles = (
  λ h. let b = last.0 h in let a = middle.0 b.0 in (a.0, (a.1, b.1)),
  λ h. last.1 (middle.1 (h.0, h.1.0), h.1.1),
)
  where
    middle : HaveLinked mid roles ↔ (HaveLinked links roles × Excludes order givable roles pair.0 pair.1)
    middle = pushed (λ roles pair. Excludes order givable roles pair.0 pair.1) pair links first mid grown one roles

    last : HaveLinked new roles ↔ (HaveLinked mid roles × Excludes order givable roles pair.1 pair.0)
    last = pushed (λ roles pair. Excludes order givable roles pair.1 pair.0) pair mid second new again other roles

-- the roles that rules give

-- one of the first so many rules has the role in its range
abbrev pub IsGivenBefore : Graph → List CanAssign → ℕ → ℕ → Type 0
IsGivenBefore order rules n role = (k : ℕ) × (rule : CanAssign) × (k < n) × (slice_get rules k ≡ Some rule) × IsInRange order rule.range role

pub none_given : (order : Graph) (rules : List CanAssign) (role : ℕ) → IsIn [] role ↔ IsGivenBefore order rules 0 role
none_given order rules role = (λ h. absurd (false≢true h), λ g. let l = g.2 in absurd (omega arith))

pub more_given : (order : Graph) (rules : List CanAssign) (n : ℕ) (rule : CanAssign) (set range : List ℕ) → slice_get rules n ≡ Some rule
    → ((role : ℕ) → IsIn set role ↔ IsGivenBefore order rules n role) → ((role : ℕ) → IsIn range role ↔ IsInRange order rule.range role)
    → (role : ℕ) → IsIn (join_roles set range) role ↔ IsGivenBefore order rules (n + 1) role
more_given order rules n rule set range here before same role = (
  λ h. there (join_cases set range role h),
  λ g. back g.0 g.1 g.2 g.3 g.4 (compare g.0 n),
)
  where
    there : IsIn set role ⊎ IsIn range role → IsGivenBefore order rules (n + 1) role
    there (inl i) = let g = (before role).0 i in let l = g.2 in (g.0, g.1, omega arith, g.3, g.4)
    there (inr i) = (n, rule, omega arith, here, (same role).0 i)

    back : (k : ℕ) (one : CanAssign) → k < n + 1 → slice_get rules k ≡ Some one → IsInRange order one.range role → (k < n) ⊎ ((k ≡ n) ⊎ (n < k))
        → IsIn (join_roles set range) role
    back k one l e is (inl m) = in_join_left set range role ((before role).1 (k, one, m, e, is))
    back k one l e is (inr (inl f)) =
        let at : slice_get rules n ≡ Some one = subst (λ j. slice_get rules j ≡ Some one) f e in
        let item : one ≡ rule = cc in
        in_join_right set range role ((same role).1 (subst (λ (r : CanAssign). IsInRange order r.range role) item is))
    back k one l e is (inr (inr m)) = absurd (omega arith)

pub all_given : (rules : Rules) (n : ℕ) (set : List ℕ) → length rules.assign ≤ n
    → ((role : ℕ) → IsIn set role ↔ IsGivenBefore rules.order rules.assign n role) → (role : ℕ) → IsIn set role ↔ IsGivable rules role
all_given rules n set all before role = (
  λ h. let g = (before role).0 h in (g.1, (g.0, g.3), g.4),
  λ g. let l = get_below rules.assign g.1.0 g.0 g.1.1 in (before role).1 (g.1.0, g.0, omega (arith, l, all), g.1.1, g.2),
)

-- pairs

-- what the pairs bar from whoever is given a wanted role is barred, where each pair asks for that
pub pairs_bar : (order : Graph) (givable : List ℕ) (roles : Relevance) (pairs : List (ℕ × ℕ)) → Each (AsksApart order givable roles) pairs
    → (role : ℕ) → IsIn givable role → IsIn roles.wanted role → IsWithin (barred order role pairs) roles.barred
pairs_bar order givable roles [] h role g w = λ other i. absurd (false≢true i)
pairs_bar order givable roles (pair ∷ pairs) h role g w =
    join_within (part (seniors_of order pair.0) (seniors_of order pair.1))
    (join_roles (part (seniors_of order pair.1) (seniors_of order pair.0)) (barred order role pairs)) roles.barred
    (one (seniors_of order pair.0) (seniors_of order pair.1) (λ a. h.0.0 role g a w))
    (join_within (part (seniors_of order pair.1) (seniors_of order pair.0)) (barred order role pairs) roles.barred
    (one (seniors_of order pair.1) (seniors_of order pair.0) (λ a. h.0.1 role g a w)) (pairs_bar order givable roles pairs h.1 role g w))
  where
    part : List ℕ → List ℕ → List ℕ
    part above others = cond (has_role above role) others []

    one : (above others : List ℕ) → (IsIn above role → IsWithin others roles.barred) → IsWithin (part above others) roles.barred
    one above others asks other i = by_test (has_role above role) refl i
      where
        by_test : (t : Bool) → has_role above role ≡ t → IsIn (cond t others []) other → IsIn roles.barred other
        by_test true e k = asks e other k
        by_test false e k = absurd (false≢true k)

-- and each pair asks for no more
pub bar_pairs : (order : Graph) (givable : List ℕ) (roles : Relevance) (pairs : List (ℕ × ℕ))
    → ((role : ℕ) → IsIn givable role → IsIn roles.wanted role → IsWithin (barred order role pairs) roles.barred)
    → Each (AsksApart order givable roles) pairs
bar_pairs order givable roles [] h = tt
bar_pairs order givable roles (pair ∷ pairs) h = (
  (
    λ role g a w other i. h role g w other (in_join_left (part role x y) (join_roles (part role y x) (barred order role pairs)) other
        (there role x y a other i)),
    λ role g a w other i. h role g w other (in_join_right (part role x y) (join_roles (part role y x) (barred order role pairs)) other
        (in_join_left (part role y x) (barred order role pairs) other (there role y x a other i))),
  ),
  bar_pairs order givable roles pairs (λ role g w other i. h role g w other (in_join_right (part role x y)
      (join_roles (part role y x) (barred order role pairs)) other (in_join_right (part role y x) (barred order role pairs) other i))),
)
  where
    x : List ℕ
    x = seniors_of order pair.0

    y : List ℕ
    y = seniors_of order pair.1

    part : ℕ → List ℕ → List ℕ → List ℕ
    part role above others = cond (has_role above role) others []

    there : (role : ℕ) (above others : List ℕ) → IsIn above role → (other : ℕ) → IsIn others other → IsIn (part role above others) other
    there role above others a other i = rw a i

-- all that is asked for

pub all_linked : (rules : Rules) (givable : List ℕ) (assigns pairs links : List Link) → ((role : ℕ) → IsIn givable role ↔ IsGivable rules role)
    → AreLinked (AsksToAssign rules.order) rules.assign [] assigns → AreLinked (AsksApart rules.order givable) rules.exclusive assigns pairs
    → AreLinked (AsksToRevoke rules.order) rules.revoke pairs links → (roles : Relevance) → HaveLinked links roles ↔ HaveAsked rules roles
all_linked rules givable assigns pairs links known first second third roles = (
  λ h.
      let c = (third roles).0 h in
      let b = (second roles).0 c.0 in
      let a = (first roles).0 b.0 in
      record {
        assigns = a.1;
        pairs = λ role is. pairs_bar rules.order givable roles rules.exclusive b.1 role ((known role).1 is);
        revokes = c.1;
      },
  λ asked. (third roles).1 (
    (second roles).1 (
      (first roles).1 (tt, asked.assigns),
      bar_pairs rules.order givable roles rules.exclusive (λ role g. asked.pairs role ((known role).0 g)),
    ),
    asked.revokes,
  ),
)

-- what the goal asks for, closed under the links
pub least_roles : (rules : Rules) (goal : List Cond) (links : List Link) (start roles : Relevance)
    → IsStep AreAmong (ByEach (λ cond old new. AreAmong (asked rules.order (term_of cond)) new) goal) (record { wanted = []; barred = [] }) start
    → IsClosure AreAmong (ByEach LeadsOn links) start roles → ((roles : Relevance) → HaveLinked links roles ↔ HaveAsked rules roles)
    → AreLeast rules (map term_of goal) roles
least_roles rules goal links start roles first closure same = record {
  goals = each_cond goal (λ one is. among_order.through (asked rules.order (term_of one)) start roles (first.has one is) closure.kept);
  asks = (same roles).0 (each_of (λ link. LeadsOn link roles roles) links (λ k link e. closure.has link (k, e)));
  least = λ other has asks. closure.least other
      (first.least other (record { wanted = λ role h. absurd (false≢true h); barred = λ role h. absurd (false≢true h) })
      (λ one is. cond_at other goal is.0 one has is.1))
      (λ link is. each_at (λ link. LeadsOn link other other) links is.0 link ((same other).1 asks) is.1);
}
  where
    each_cond : (goal : List Cond) → ((one : Cond) → IsOneOf goal one → AreAmong (asked rules.order (term_of one)) roles)
        → Each (λ cond. AreAmong (asked rules.order cond) roles) (map term_of goal)
    each_cond [] h = tt
    each_cond (one ∷ goal) h = (h one (0, refl), each_cond goal (λ next is. h next (suc is.0, is.1)))

    cond_at : (other : Relevance) (goal : List Cond) (k : ℕ) (one : Cond) → Each (λ cond. AreAmong (asked rules.order cond) other) (map term_of goal)
        → slice_get goal k ≡ Some one → AreAmong (asked rules.order (term_of one)) other
    cond_at other [] k one h e = cc
    cond_at other (next ∷ goal) zero one h e =
        let same' : next ≡ one = cc in subst (λ (c : Cond). AreAmong (asked rules.order (term_of c)) other) same' h.0
    cond_at other (next ∷ goal) (suc k) one h e = cond_at other goal k one h.1 e
