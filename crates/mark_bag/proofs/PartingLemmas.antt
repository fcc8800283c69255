-- Parting a node: its parts go one by one, the last first, into two lists.
use Rattle.std.proofs.Common.{ℕ, ◌≡◌, ◌<◌, List, [], ◌∷◌, ◌++◌, Some, length, arith, ◌∙◌, subst, inl, inr}
use Rattle.std.specs.Prelude.{◌⊎◌, slice_get}
use Rattle.list_words.specs.Lists.{IsOneOf}
use Rattle.list_words.proofs.GetLemmas.{get_below, get_append, get_last}
use Rattle.mark_bag.specs.declared.node.Node.{Node}
use Rattle.mark_bag.specs.Nodes.{IsWithinOwn, IsParting}
use Rattle.mark_bag.proofs.OneLemmas.{one_of_front, one_of_last, one_of_more}
use Rattle.mark_bag.proofs.NodeLemmas.{none_of}

-- what is left is a front of the parts; the others went into two lists, each under a mark within theirs
pub record ArePartedTo {M T : Type 0} (within : M → M → Type 0) (parts : List T) (marks : List M)
    (rest one : List T) (common : M) (other : List T) (other_common : M) : Type 0 where
  pub front : (place : ℕ) (part : T) → slice_get rest place ≡ Some part → slice_get parts place ≡ Some part
  pub all : (part : T) → IsOneOf parts part → IsOneOf rest part ⊎ (IsOneOf one part ⊎ IsOneOf other part)
  pub of_one : (part : T) → IsOneOf one part → IsWithinOwn within parts marks common part
  pub of_other : (part : T) → IsOneOf other part → IsWithinOwn within parts marks other_common part

module _ {M T : Type 0} (within : M → M → Type 0) (parts : List T) (marks : List M) where
  pub parted_first : (common other_common : M) → ArePartedTo within parts marks parts [] common [] other_common
  parted_first common other_common = record {
    front = λ place part e. e;
    all = λ part h. inl h;
    of_one = λ part h. absurd (none_of part h);
    of_other = λ part h. absurd (none_of part h);
  }

  pub parted_turned : (rest one : List T) (common : M) (other : List T) (other_common : M)
      → ArePartedTo within parts marks rest one common other other_common → ArePartedTo within parts marks rest other other_common one common
  parted_turned rest one common other other_common so_far = record {
    front = so_far.front;
    all = λ part h. turned part (so_far.all part h);
    of_one = so_far.of_other;
    of_other = so_far.of_one;
  }
    where
      turned : (part : T) → IsOneOf rest part ⊎ (IsOneOf one part ⊎ IsOneOf other part) → IsOneOf rest part ⊎ (IsOneOf other part ⊎ IsOneOf one part)
      turned part (inl h) = inl h
      turned part (inr (inl h)) = inr (inr h)
      turned part (inr (inr h)) = inr (inl h)

  -- the next part goes into the first list
  pub parted_more : (rest one : List T) (common : M) (other : List T) (other_common : M) (last : T) (mark now : M)
      → ((a b c : M) → within a b → within b c → within a c)
      → ArePartedTo within parts marks (rest ++ last ∷ []) one common other other_common
      → slice_get marks (length rest) ≡ Some mark → within now mark → (0 < length one → within now common)
      → ArePartedTo within parts marks rest (one ++ last ∷ []) now other other_common
  parted_more rest one common other other_common last mark now through so_far is_mark lies kept = record {
    front = λ place part e. so_far.front place part (get_append rest last place (get_below rest place part e) ∙ e);
    all = λ part h. all_cases part (so_far.all part h);
    of_one = λ part h. one_cases part (one_of_more one last part h);
    of_other = so_far.of_other;
  }
    where
      rest_cases : (part : T) → IsOneOf rest part ⊎ (last ≡ part) → IsOneOf rest part ⊎ (IsOneOf (one ++ last ∷ []) part ⊎ IsOneOf other part)
      rest_cases part (inl h) = inl h
      rest_cases part (inr same) = inr (inl (subst (λ p. IsOneOf (one ++ last ∷ []) p) same (one_of_last one last)))

      all_cases : (part : T) → IsOneOf (rest ++ last ∷ []) part ⊎ (IsOneOf one part ⊎ IsOneOf other part)
          → IsOneOf rest part ⊎ (IsOneOf (one ++ last ∷ []) part ⊎ IsOneOf other part)
      all_cases part (inl h) = rest_cases part (one_of_more rest last part h)
      all_cases part (inr (inl h)) = inr (inl (one_of_front one last part h))
      all_cases part (inr (inr h)) = inr (inr h)

      one_cases : (part : T) → IsOneOf one part ⊎ (last ≡ part) → IsWithinOwn within parts marks now part
      one_cases part (inl h) =
          let below = get_below one h.0 part h.1 in
          let some : 0 < length one = omega (arith, below) in
          let was = so_far.of_one part h in
          (was.0, was.1, was.2, was.3, through now common was.1 (kept some) was.4)
      one_cases part (inr same) = subst (λ p. IsWithinOwn within parts marks now p) same
          (length rest, mark, so_far.front (length rest) last (get_last rest last), is_mark, lies)

  -- nothing is left
  pub parted_whole : (rest : List T) (one other : Node M T) → rest ≡ []
      → ArePartedTo within parts marks rest one.parts.items one.common other.parts.items other.common → IsParting within parts marks one other
  parted_whole rest one other bare so_far = record {
    all = λ part h. all_cases part (so_far.all part h);
    of_one = so_far.of_one;
    of_other = so_far.of_other;
  }
    where
      all_cases : (part : T) → IsOneOf rest part ⊎ (IsOneOf one.parts.items part ⊎ IsOneOf other.parts.items part)
          → IsOneOf one.parts.items part ⊎ IsOneOf other.parts.items part
      all_cases part (inl h) = absurd (none_of part (subst (λ list. IsOneOf list part) bare h))
      all_cases part (inr h) = h
