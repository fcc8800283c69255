-- What nodes have, where one is replaced or added, and where they are grouped anew.
use Rattle.std.proofs.Common.{ℕ, ◌≡◌, List, [], ◌∷◌, ◌++◌, Some, Result, Ok, Err, refl, sym, subst, inl, inr}
use Rattle.std.specs.Prelude.{◌⊎◌, slice_get, slice_set, OnOk, OnErr}
use Rattle.list_words.specs.Lists.{IsOneOf}
use Rattle.mark_bag.specs.declared.node.Node.{Node}
use Rattle.mark_bag.specs.Nodes.{IsPartOf, HaveSameParts, HaveOneMore, AreBegun, IsWithinOwn, IsPartUnder, IsParting, IsRegrouped}
use Rattle.mark_bag.proofs.OneLemmas.{one_of_set, one_of_old, one_of_new, one_of_front, one_of_last, one_of_more}

pub none_of : {A : Type 0} (x : A) → IsOneOf [] x → ⊥
none_of x (k, e) = cc

pub on_err : {A E P : Type 0} (result : Result A E) → P → OnErr result P
on_err (Ok x) p = tt
on_err (Err e) p = p

pub on_ok_both : {X E A B P : Type 0} (result : Result X E) → (A → B → P) → OnOk result A → OnOk result B → OnOk result P
on_ok_both (Ok x) f a b = f a b
on_ok_both (Err e) f a b = tt

pub on_err_both : {X E A B P : Type 0} (result : Result X E) → (A → B → P) → OnErr result A → OnErr result B → OnErr result P
on_err_both (Ok x) f a b = tt
on_err_both (Err e) f a b = f a b

module _ {M T : Type 0} where
  pub same_itself : (nodes : List (Node M T)) → HaveSameParts nodes nodes
  same_itself nodes part = (λ h. h, λ h. h)

  pub same_through : (a b c : List (Node M T)) → HaveSameParts a b → HaveSameParts b c → HaveSameParts a c
  same_through a b c f g part = (λ h. (g part).0 ((f part).0 h), λ h. (f part).1 ((g part).1 h))

  pub more_through : (a b c : List (Node M T)) (item : T) → HaveSameParts a b → HaveOneMore b item c → HaveOneMore a item c
  more_through a b c item f g part = (λ h. to ((g part).0 h), λ h. (g part).1 (from h))
    where
      to : IsPartOf b part ⊎ (part ≡ item) → IsPartOf a part ⊎ (part ≡ item)
      to (inl h) = inl ((f part).1 h)
      to (inr e) = inr e

      from : IsPartOf a part ⊎ (part ≡ item) → IsPartOf b part ⊎ (part ≡ item)
      from (inl h) = inl ((f part).0 h)
      from (inr e) = inr e

  -- a bare node is none that has the part
  not_bare : (node n : Node M T) (part : T) → node.parts.items ≡ [] → node ≡ n → IsOneOf n.parts.items part → ⊥
  not_bare node n part bare same p =
      none_of part (subst (λ list. IsOneOf list part) bare (subst (λ (m : Node M T). IsOneOf m.parts.items part) (sym same) p))

  same_added : (old : List (Node M T)) (node : Node M T) → node.parts.items ≡ [] → HaveSameParts old (old ++ node ∷ [])
  same_added old node bare part = (to, from)
    where
      to : IsPartOf old part → IsPartOf (old ++ node ∷ []) part
      to (n, o, p) = (n, one_of_front old node n o, p)

      from_cases : (n : Node M T) → IsOneOf n.parts.items part → IsOneOf old n ⊎ (node ≡ n) → IsPartOf old part
      from_cases n p (inl o) = (n, o, p)
      from_cases n p (inr same) = absurd (not_bare node n part bare same p)

      from : IsPartOf (old ++ node ∷ []) part → IsPartOf old part
      from (n, o, p) = from_cases n p (one_of_more old node n o)

  -- with a part more, or as before, the nodes have what they had
  pub all_kept : {X E : Type 0} (result : Result X E) (old new : List (Node M T)) (item : T) → OnOk result (HaveOneMore old item new)
      → OnErr result (HaveSameParts old new) → (part : T) → IsPartOf old part → IsPartOf new part
  all_kept (Ok x) old new item more same part h = (more part).1 (inl h)
  all_kept (Err e) old new item more same part h = (same part).0 h

  pub same_begun : (old new : List (Node M T)) → AreBegun old new → HaveSameParts old new
  same_begun old new (inl e) = subst (λ list. HaveSameParts old list) (sym e) (same_itself old)
  same_begun old new (inr (node, bare, e)) = subst (λ list. HaveSameParts old list) (sym e) (same_added old node bare)

  -- what holds of each part under the common mark of its node
  abbrev pub HoldUnder : (M → T → Type 0) → List (Node M T) → Type 0
  HoldUnder Under nodes = (node : Node M T) → IsOneOf nodes node → (part : T) → IsOneOf node.parts.items part → Under node.common part

  over_added : (Under : M → T → Type 0) (old : List (Node M T)) (node : Node M T) → node.parts.items ≡ [] → HoldUnder Under old
      → HoldUnder Under (old ++ node ∷ [])
  over_added Under old node bare over n o part p = by_cases (one_of_more old node n o)
    where
      by_cases : IsOneOf old n ⊎ (node ≡ n) → Under n.common part
      by_cases (inl h) = over n h part p
      by_cases (inr same) = absurd (not_bare node n part bare same p)

  pub over_begun : (Under : M → T → Type 0) (old new : List (Node M T)) → AreBegun old new → HoldUnder Under old → HoldUnder Under new
  over_begun Under old new (inl e) over = subst (λ list. HoldUnder Under list) (sym e) over
  over_begun Under old new (inr (node, bare, e)) over = subst (λ list. HoldUnder Under list) (sym e) (over_added Under old node bare over)

  -- a node is replaced by one with its parts and its mark
  module _ (old : List (Node M T)) (at : ℕ) (node like : Node M T) (here : slice_get old at ≡ Some node) (same_common : like.common ≡ node.common)
      (same_parts : like.parts.items ≡ node.parts.items) where
    moved : (n : Node M T) (part : T) → n ≡ like → IsOneOf n.parts.items part → IsOneOf node.parts.items part
    moved n part same p = subst (λ list. IsOneOf list part) same_parts (subst (λ (m : Node M T). IsOneOf m.parts.items part) same p)

    pub same_alike : HaveSameParts old (slice_set old at like)
    same_alike part = (to, from)
      where
        to_cases : (n : Node M T) → IsOneOf n.parts.items part → (n ≡ node) ⊎ IsOneOf (slice_set old at like) n → IsPartOf (slice_set old at like) part
        to_cases n p (inr h) = (n, h, p)
        to_cases n p (inl same) = (
          like,
          one_of_new old at node like here,
          subst (λ list. IsOneOf list part) (sym same_parts) (subst (λ (m : Node M T). IsOneOf m.parts.items part) same p),
        )

        to : IsPartOf old part → IsPartOf (slice_set old at like) part
        to (n, o, p) = to_cases n p (one_of_old old at node like n here o)

        from_cases : (n : Node M T) → IsOneOf n.parts.items part → (n ≡ like) ⊎ IsOneOf old n → IsPartOf old part
        from_cases n p (inr h) = (n, h, p)
        from_cases n p (inl same) = (node, (at, here), moved n part same p)

        from : IsPartOf (slice_set old at like) part → IsPartOf old part
        from (n, o, p) = from_cases n p (one_of_set old at like n o)

    pub over_alike : (Under : M → T → Type 0) → HoldUnder Under old → HoldUnder Under (slice_set old at like)
    over_alike Under over n o part p = by_cases (one_of_set old at like n o)
      where
        by_cases : (n ≡ like) ⊎ IsOneOf old n → Under n.common part
        by_cases (inr h) = over n h part p
        by_cases (inl same) = subst (λ (m : Node M T). Under m.common part) (sym same)
            (subst (λ mark. Under mark part) (sym same_common) (over node (at, here) part (moved n part same p)))

    pub part_alike : (n : Node M T) (part : T) → IsOneOf (slice_set old at like) n → IsOneOf n.parts.items part → IsPartUnder old n.common part
    part_alike n part o p = by_cases (one_of_set old at like n o)
      where
        by_cases : (n ≡ like) ⊎ IsOneOf old n → IsPartUnder old n.common part
        by_cases (inr h) = (n, h, refl, p)
        by_cases (inl same) =
            (node, (at, here), subst (λ (m : Node M T). node.common ≡ m.common) (sym same) (sym same_common), moved n part same p)

  module _ (within : M → M → Type 0) (parts : List T) (marks : List M) where
    -- of what holds under a mark it holds under each mark within it; and it holds of each part under its own
    pub over_regrouped : (Under : M → T → Type 0) (old new : List (Node M T))
        → ((a b : M) (part : T) → within a b → Under b part → Under a part)
        → ((place : ℕ) (part : T) (mark : M) → slice_get parts place ≡ Some part → slice_get marks place ≡ Some mark → Under mark part)
        → IsRegrouped within parts marks old new
        → HoldUnder Under old → HoldUnder Under new
    over_regrouped Under old new falls own grouped over n o part p = by_cases (grouped.each n part o p)
      where
        by_cases : IsPartUnder old n.common part ⊎ IsWithinOwn within parts marks n.common part → Under n.common part
        by_cases (inl (m, h, same, q)) = subst (λ mark. Under mark part) same (over m h part q)
        by_cases (inr (place, mark, is_part, is_mark, lies)) = falls n.common mark part lies (own place part mark is_part is_mark)

    pub same_regrouped : (old new : List (Node M T)) (at : ℕ) (node : Node M T) → slice_get old at ≡ Some node → parts ≡ node.parts.items
        → IsRegrouped within parts marks old new → HaveSameParts old new
    same_regrouped old new at node here its grouped part = (grouped.all part, from)
      where
        by_cases : (n : Node M T) → IsPartUnder old n.common part ⊎ IsWithinOwn within parts marks n.common part → IsPartOf old part
        by_cases n (inl (m, h, same, q)) = (m, h, q)
        by_cases n (inr (place, mark, is_part, is_mark, lies)) = (node, (at, here), (place, subst (λ list. slice_get list place ≡ Some part) its is_part))

        from : IsPartOf new part → IsPartOf old part
        from (n, o, p) = by_cases n (grouped.each n part o p)

    pub regrouped_itself : (nodes : List (Node M T)) → IsRegrouped within parts marks nodes nodes
    regrouped_itself nodes = record { all = λ part h. h; each = λ node part o p. inl (node, o, refl, p) }

    pub regrouped_alike : (old : List (Node M T)) (at : ℕ) (node like : Node M T) → slice_get old at ≡ Some node → like.common ≡ node.common
        → like.parts.items ≡ node.parts.items → IsRegrouped within parts marks old (slice_set old at like)
    regrouped_alike old at node like here same_common same_parts = record {
      all = λ part. (same_alike old at node like here same_common same_parts part).0;
      each = λ n part o p. inl (part_alike old at node like here same_common same_parts n part o p);
    }

    -- a node is parted: one half replaces it, the other is added
    pub regrouped_parted : (old : List (Node M T)) (at : ℕ) (node one other : Node M T) → slice_get old at ≡ Some node → parts ≡ node.parts.items
        → IsParting within parts marks one other → IsRegrouped within parts marks old (slice_set old at one ++ other ∷ [])
    regrouped_parted old at node one other here its parting = record { all = all; each = each }
      where
        halves : (part : T) → IsOneOf one.parts.items part ⊎ IsOneOf other.parts.items part → IsPartOf (slice_set old at one ++ other ∷ []) part
        halves part (inl h) = (one, one_of_front (slice_set old at one) other one (one_of_new old at node one here), h)
        halves part (inr h) = (other, one_of_last (slice_set old at one) other, h)

        all_cases : (part : T) (n : Node M T) → IsOneOf n.parts.items part → (n ≡ node) ⊎ IsOneOf (slice_set old at one) n
            → IsPartOf (slice_set old at one ++ other ∷ []) part
        all_cases part n p (inr h) = (n, one_of_front (slice_set old at one) other n h, p)
        all_cases part n p (inl same) = halves part (parting.all part
            (subst (λ list. IsOneOf list part) (sym its) (subst (λ (m : Node M T). IsOneOf m.parts.items part) same p)))

        all : (part : T) → IsPartOf old part → IsPartOf (slice_set old at one ++ other ∷ []) part
        all part (n, o, p) = all_cases part n p (one_of_old old at node one n here o)

        front_cases : (n : Node M T) (part : T) → IsOneOf n.parts.items part → (n ≡ one) ⊎ IsOneOf old n
            → IsPartUnder old n.common part ⊎ IsWithinOwn within parts marks n.common part
        front_cases n part p (inr h) = inl (n, h, refl, p)
        front_cases n part p (inl same) = inr (subst (λ (m : Node M T). IsWithinOwn within parts marks m.common part) (sym same)
            (parting.of_one part (subst (λ (m : Node M T). IsOneOf m.parts.items part) same p)))

        each_cases : (n : Node M T) (part : T) → IsOneOf n.parts.items part → IsOneOf (slice_set old at one) n ⊎ (other ≡ n)
            → IsPartUnder old n.common part ⊎ IsWithinOwn within parts marks n.common part
        each_cases n part p (inl h) = front_cases n part p (one_of_set old at one n h)
        each_cases n part p (inr same) = inr (subst (λ (m : Node M T). IsWithinOwn within parts marks m.common part) same
            (parting.of_other part (subst (λ (m : Node M T). IsOneOf m.parts.items part) (sym same) p)))

        each : (n : Node M T) (part : T) → IsOneOf (slice_set old at one ++ other ∷ []) n → IsOneOf n.parts.items part
            → IsPartUnder old n.common part ⊎ IsWithinOwn within parts marks n.common part
        each n part o p = each_cases n part p (one_of_more (slice_set old at one) other n o)
