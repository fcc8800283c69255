-- Cover is transitive, and who meets the covered meets the covering.
use Rattle.std.proofs.Common.{ℕ, ◌≡◌, List, [], ◌∷◌, Bool, true, false, subst, refl, inl, inr}
use Rattle.std.specs.Prelude.{◌⊎◌}
use Rattle.list_words.specs.Lists.{Each, Some_of}
use Rattle.role_order.specs.Roles.{HaveCommon, IsIn, IsOut, IsWithin, has_role, less_roles}
use Rattle.arbac_laws.specs.Needs.{Covers, CoversNeed, IsCovered, IsPossible, Meets, MeetsNeed, Need}
use Rattle.list_words.proofs.EachLemmas.{each_of, each_weaker, some_each, some_weaker}
use Rattle.list_words.proofs.EmbedLemmas.{compose}
use Rattle.arbac_laws.proofs.RoleLemmas.{cases_in, in_less, less_in, less_out}

pub covered_met : (a b : Need) (set : List ℕ) → CoversNeed a b → MeetsNeed b set → MeetsNeed a set
covered_met a b set c m = record {
  hits = each_weaker (λ hit. Some_of (λ other. IsWithin (less_roles other b.lacks) hit) b.hits) (λ hit. HaveCommon hit set)
      (λ hit some. some_each (λ other. IsWithin (less_roles other b.lacks) hit) (λ other. HaveCommon other set) (HaveCommon hit set)
      (λ other within common. (common.0, within common.0 (in_less other b.lacks common.0 common.1 (apart common.0 common.2)), common.2))
      b.hits some m.hits)
      a.hits c.hits;
  lacks = λ role h. m.lacks role (c.lacks role h);
}
  where
    apart : (role : ℕ) → IsIn set role → IsOut b.lacks role
    apart role held = by_lack (has_role b.lacks role) refl
      where
        by_lack : (t : Bool) → has_role b.lacks role ≡ t → IsOut b.lacks role
        by_lack false e = e
        by_lack true e = absurd (m.lacks role e held)

pub covers_need : (a b c : Need) → CoversNeed a b → CoversNeed b c → CoversNeed a c
covers_need a b c f g = record {
  hits = each_weaker (λ hit. Some_of (λ other. IsWithin (less_roles other b.lacks) hit) b.hits)
      (λ hit. Some_of (λ third. IsWithin (less_roles third c.lacks) hit) c.hits)
      (λ hit some. some_each (λ other. IsWithin (less_roles other b.lacks) hit)
      (λ other. Some_of (λ third. IsWithin (less_roles third c.lacks) other) c.hits)
      (Some_of (λ third. IsWithin (less_roles third c.lacks) hit) c.hits)
      (λ other within thirds. some_weaker (λ third. IsWithin (less_roles third c.lacks) other) (λ third. IsWithin (less_roles third c.lacks) hit)
      (λ third inside role h. within role (in_less other b.lacks role (inside role h) (outside role (less_out third c.lacks role h))))
      c.hits thirds)
      b.hits some g.hits)
      a.hits f.hits;
  lacks = λ role h. g.lacks role (f.lacks role h);
}
  where
    outside : (role : ℕ) → IsOut c.lacks role → IsOut b.lacks role
    outside role out = by_lack (has_role b.lacks role) refl
      where
        by_lack : (t : Bool) → has_role b.lacks role ≡ t → IsOut b.lacks role
        by_lack false e = e
        by_lack true e = let held = g.lacks role e in cc

pub covers_transitive : (a b c : List Need) → Covers a b → Covers b c → Covers a c
covers_transitive a b c f g = compose CoversNeed CoversNeed CoversNeed a b c covers_need f g

pub met_covering : (users : List (List ℕ)) (a b : List Need) → Covers a b → Meets users b → Meets users a
met_covering users a b f g = compose CoversNeed MeetsNeed MeetsNeed a b users covered_met f g

pub covers_itself : (a : Need) → CoversNeed a a
covers_itself a = record { hits = each_own a.hits a.hits (λ hit i. i); lacks = λ role h. h }
  where
    each_own : (some all : List (List ℕ)) → ((hit : List ℕ) → Some_of (λ h. h ≡ hit) some → Some_of (λ h. h ≡ hit) all)
        → Each (λ hit. Some_of (λ other. IsWithin (less_roles other a.lacks) hit) all) some
    each_own [] all f = tt
    each_own (hit ∷ hits) all f = (
      some_weaker (λ h. h ≡ hit) (λ other. IsWithin (less_roles other a.lacks) hit)
          (λ other e role k. subst (λ h. IsIn h role) e (less_in other a.lacks role k)) all (f hit (inl refl)),
      each_own hits all (λ h i. f h (inr i)),
    )

-- what is met is possible
pub met_possible : (users : List (List ℕ)) (needs : List Need) → Meets users needs → IsPossible needs
met_possible users needs f = each_of (λ need. Each (λ hit. (role : ℕ) × IsIn hit role × IsOut need.lacks role) need.hits) needs (λ i need is.
    let one = f.each i need is in
    each_weaker (λ hit. HaveCommon hit one.0) (λ hit. (role : ℕ) × IsIn hit role × IsOut need.lacks role)
    (λ hit common. (common.0, common.1, outside need one.0 one.2 common.0 common.2)) need.hits one.2.hits)
  where
    outside : (need : Need) (set : List ℕ) → MeetsNeed need set → (role : ℕ) → IsIn set role → IsOut need.lacks role
    outside need set m role held = by_case (cases_in need.lacks role)
      where
        by_case : IsIn need.lacks role ⊎ IsOut need.lacks role → IsOut need.lacks role
        by_case (inl k) = absurd (m.lacks role k held)
        by_case (inr n) = n

-- a population that meets what is covered meets one of the list
pub cover_met : (users : List (List ℕ)) (list : List (List Need)) (needs : List Need) → IsCovered list needs → Meets users needs
    → Some_of (λ one. Meets users one) list
cover_met users list needs covered met =
    some_weaker (λ one. Covers one needs) (λ one. Meets users one) (λ one c. met_covering users one needs c met) list covered
