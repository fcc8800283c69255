-- Conditions are their conjuncts: whoever satisfies the one meets some of the others, and back.
use Rattle.std.proofs.Common.{ℕ, List, [], ◌∷◌, inl, inr}
use Rattle.std.specs.Prelude.{◌⊎◌}
use Rattle.role_order.specs.Graph.{Graph}
use Rattle.list_words.specs.Lists.{Some_of}
use Rattle.role_order.specs.Reach.{seniors_of}
use Rattle.role_order.specs.Roles.{HaveCommon}
use Rattle.arbac_policy.specs.Truth.{IsMember, Satisfies, Term, any, has, lacks, both, either, user}
use Rattle.arbac_laws.specs.Conjuncts.{conjuncts, join_all, join_needs, join_with}
use Rattle.arbac_laws.specs.Needs.{MeetsNeed, Need}
use Rattle.list_words.proofs.EachLemmas.{each_append, each_left, each_right, some_cases, some_left, some_right}
use Rattle.arbac_laws.proofs.RoleLemmas.{apart_join, in_join_left, in_join_right}
use Rattle.role_order.specs.Graph.{Graph, Leads, AreEdges}
use Rattle.role_order.specs.Roles.{IsIn}
use Rattle.role_order.proofs.ReachLemmas.{in_seniors}
use Rattle.std.specs.Prelude.{◌↔◌, length}

-- the seniors are the roles from which edges lead down; so they are where the edges are edges
abbrev pub AreSeniors : Graph → Type 0
AreSeniors order = (role senior : ℕ) → IsIn (seniors_of order role) senior ↔ Leads order.edges senior role

pub are_seniors : (order : Graph) → AreEdges (length order.names) order.edges → AreSeniors order
are_seniors order ends role = in_seniors order role ends

pub joined : (a b : Need) (set : List ℕ) → MeetsNeed a set → MeetsNeed b set → MeetsNeed (join_needs a b) set
joined a b set m n =
    record { hits = each_append (λ hit. HaveCommon hit set) a.hits b.hits m.hits n.hits; lacks = apart_join a.lacks b.lacks set m.lacks n.lacks }

pub first_met : (a b : Need) (set : List ℕ) → MeetsNeed (join_needs a b) set → MeetsNeed a set
first_met a b set m =
    record { hits = each_left (λ hit. HaveCommon hit set) a.hits b.hits m.hits; lacks = λ q h. m.lacks q (in_join_left a.lacks b.lacks q h) }

pub second_met : (a b : Need) (set : List ℕ) → MeetsNeed (join_needs a b) set → MeetsNeed b set
second_met a b set m =
    record { hits = each_right (λ hit. HaveCommon hit set) a.hits b.hits m.hits; lacks = λ q h. m.lacks q (in_join_right a.lacks b.lacks q h) }

-- one of the needs is met
abbrev pub SomeMet : List ℕ → List Need → Type 0
SomeMet set needs = Some_of (λ need. MeetsNeed need set) needs

pub with_met : (set : List ℕ) (a : Need) (bs : List Need) → MeetsNeed a set → SomeMet set bs → SomeMet set (join_with a bs)
with_met set a [] m h = h
with_met set a (b ∷ bs) m (inl h) = inl (joined a b set m h)
with_met set a (b ∷ bs) m (inr h) = inr (with_met set a bs m h)

pub with_parts : (set : List ℕ) (a : Need) (bs : List Need) → SomeMet set (join_with a bs) → MeetsNeed a set × SomeMet set bs
with_parts set a [] h = absurd h
with_parts set a (b ∷ bs) (inl h) = (first_met a b set h, inl (second_met a b set h))
with_parts set a (b ∷ bs) (inr h) = let r = with_parts set a bs h in (r.0, inr r.1)

pub all_met : (set : List ℕ) (xs bs : List Need) → SomeMet set xs → SomeMet set bs → SomeMet set (join_all xs bs)
all_met set [] bs h k = absurd h
all_met set (a ∷ xs) bs (inl h) k = some_left (λ need. MeetsNeed need set) (join_with a bs) (join_all xs bs) (with_met set a bs h k)
all_met set (a ∷ xs) bs (inr h) k = some_right (λ need. MeetsNeed need set) (join_with a bs) (join_all xs bs) (all_met set xs bs h k)

pub all_parts : (set : List ℕ) (xs bs : List Need) → SomeMet set (join_all xs bs) → SomeMet set xs × SomeMet set bs
all_parts set [] bs h = absurd h
all_parts set (a ∷ xs) bs h = by_side (some_cases (λ need. MeetsNeed need set) (join_with a bs) (join_all xs bs) h) (all_parts set xs bs)
  where
    by_side : SomeMet set (join_with a bs) ⊎ SomeMet set (join_all xs bs) → (SomeMet set (join_all xs bs) → SomeMet set xs × SomeMet set bs)
        → SomeMet set (a ∷ xs) × SomeMet set bs
    by_side (inl k) rest = let r = with_parts set a bs k in (inl r.0, r.1)
    by_side (inr k) rest = let r = rest k in (inr r.0, r.1)

pub member_common : (order : Graph) → AreSeniors order → (set : List ℕ) (role : ℕ) → IsMember order.edges set role
    → HaveCommon (seniors_of order role) set
member_common order same set role m = (m.0, (same role m.0).1 m.2, m.1)

pub common_member : (order : Graph) → AreSeniors order → (set : List ℕ) (role : ℕ) → HaveCommon (seniors_of order role) set
    → IsMember order.edges set role
common_member order same set role c = (c.0, c.2, (same role c.0).0 c.1)

pub conjunct_met : (order : Graph) → AreSeniors order → (set : List ℕ) (cond : Term) → Satisfies user order.edges set cond
    → SomeMet set (conjuncts order cond)
conjunct_met order same set any h = inl (record { hits = tt; lacks = λ q k held. cc })
conjunct_met order same set (has role) h = inl (record { hits = (member_common order same set role h, tt); lacks = λ q k held. cc })
conjunct_met order same set (lacks role) h = inl (record { hits = tt; lacks = λ q k held. h (common_member order same set role (q, k, held)) })
conjunct_met order same set (both left right) h =
    all_met set (conjuncts order left) (conjuncts order right) (conjunct_met order same set left h.0) (conjunct_met order same set right h.1)
conjunct_met order same set (either left right) (inl h) =
    some_left (λ need. MeetsNeed need set) (conjuncts order left) (conjuncts order right) (conjunct_met order same set left h)
conjunct_met order same set (either left right) (inr h) =
    some_right (λ need. MeetsNeed need set) (conjuncts order left) (conjuncts order right) (conjunct_met order same set right h)

pub met_conjunct : (order : Graph) → AreSeniors order → (set : List ℕ) (cond : Term) → SomeMet set (conjuncts order cond)
    → Satisfies user order.edges set cond
met_conjunct order same set any h = tt
met_conjunct order same set (has role) (inl h) = common_member order same set role h.hits.0
met_conjunct order same set (has role) (inr h) = absurd h
met_conjunct order same set (lacks role) (inl h) = λ m. h.lacks m.0 ((same role m.0).1 m.2) m.1
met_conjunct order same set (lacks role) (inr h) = absurd h
met_conjunct order same set (both left right) h =
    let r = all_parts set (conjuncts order left) (conjuncts order right) h in
    (met_conjunct order same set left r.0, met_conjunct order same set right r.1)
met_conjunct order same set (either left right) h =
    by_side (some_cases (λ need. MeetsNeed need set) (conjuncts order left) (conjuncts order right) h) (met_conjunct order same set left)
    (met_conjunct order same set right)
  where
    by_side : SomeMet set (conjuncts order left) ⊎ SomeMet set (conjuncts order right)
        → (SomeMet set (conjuncts order left) → Satisfies user order.edges set left)
        → (SomeMet set (conjuncts order right) → Satisfies user order.edges set right)
        → Satisfies user order.edges set left ⊎ Satisfies user order.edges set right
    by_side (inl k) f g = inl (f k)
    by_side (inr k) f g = inr (g k)
