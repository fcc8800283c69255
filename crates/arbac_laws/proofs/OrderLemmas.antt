-- The orders of hits, of user requirements and of requirements, and sorted lists that have the same items.
use Rattle.std.proofs.Common.{ℕ, ◌≡◌, List, sym, ◌∙◌, ap, true, subst, inl, inr}
use Rattle.std.specs.Prelude.{◌⊎◌, nat_lt}
use Rattle.arbac_laws.specs.Needs.{Need}
use Rattle.list_words.specs.Orders.{IsTotalOrder, list_before}
use Rattle.role_order.specs.Orders.{set_before}
use Rattle.role_order.proofs.OrderLemmas.{set_order}
use Rattle.list_words.proofs.OrderLemmas.{list_order, number_order, then_first, then_rest, then_view}
use Rattle.arbac_laws.specs.Orders.{hits_before, need_before, requirement_before}
use Rattle.std.specs.Prelude.{length}

pub hits_order : IsTotalOrder hits_before
hits_order = list_order set_before set_order

pub need_order : IsTotalOrder need_before
need_order = record { never = never; through = through; total = total }
  where
    never : (a : Need) → need_before a a ≡ true → ⊥
    never a h = by_view (then_view hits_before hits_order a.hits a.hits (set_before a.lacks a.lacks) h)
      where
        by_view : (hits_before a.hits a.hits ≡ true) ⊎ ((a.hits ≡ a.hits) × (set_before a.lacks a.lacks ≡ true)) → ⊥
        by_view (inl k) = hits_order.never a.hits k
        by_view (inr k) = set_order.never a.lacks k.1

    through : (a b c : Need) → need_before a b ≡ true → need_before b c ≡ true → need_before a c ≡ true
    through a b c h k = by_views (then_view hits_before hits_order a.hits b.hits (set_before a.lacks b.lacks) h)
        (then_view hits_before hits_order b.hits c.hits (set_before b.lacks c.lacks) k)
      where
        by_views : (hits_before a.hits b.hits ≡ true) ⊎ ((a.hits ≡ b.hits) × (set_before a.lacks b.lacks ≡ true))
            → (hits_before b.hits c.hits ≡ true) ⊎ ((b.hits ≡ c.hits) × (set_before b.lacks c.lacks ≡ true)) → need_before a c ≡ true
        by_views (inl x) (inl y) = then_first hits_before a.hits c.hits (set_before a.lacks c.lacks) (hits_order.through a.hits b.hits c.hits x y)
        by_views (inl x) (inr y) = then_first hits_before a.hits c.hits (set_before a.lacks c.lacks) (subst (λ v. hits_before a.hits v ≡ true) y.0 x)
        by_views (inr x) (inl y) = then_first hits_before a.hits c.hits (set_before a.lacks c.lacks) (subst (λ v. hits_before v c.hits ≡ true) (sym x.0) y)
        by_views (inr x) (inr y) =
            then_rest hits_before hits_order a.hits c.hits (set_before a.lacks c.lacks) (x.0 ∙ y.0) (set_order.through a.lacks b.lacks c.lacks x.1 y.1)

    same_need : (a b : Need) → a.hits ≡ b.hits → a.lacks ≡ b.lacks → a ≡ b
    same_need a b e f = ap (λ (h : List (List ℕ)). let n : Need = record { hits = h; lacks = a.lacks } in n) e
        ∙ ap (λ (l : List ℕ). let n : Need = record { hits = b.hits; lacks = l } in n) f

    total : (a b : Need) → (need_before a b ≡ true) ⊎ ((a ≡ b) ⊎ (need_before b a ≡ true))
    total a b = by_hits (hits_order.total a.hits b.hits) (set_order.total a.lacks b.lacks)
      where
        by_hits : (hits_before a.hits b.hits ≡ true) ⊎ ((a.hits ≡ b.hits) ⊎ (hits_before b.hits a.hits ≡ true))
            → (set_before a.lacks b.lacks ≡ true) ⊎ ((a.lacks ≡ b.lacks) ⊎ (set_before b.lacks a.lacks ≡ true)) → (need_before a b ≡ true)
            ⊎ ((a ≡ b) ⊎ (need_before b a ≡ true))
        by_hits (inl x) rest = inl (then_first hits_before a.hits b.hits (set_before a.lacks b.lacks) x)
        by_hits (inr (inr x)) rest = inr (inr (then_first hits_before b.hits a.hits (set_before b.lacks a.lacks) x))
        by_hits (inr (inl e)) (inl y) = inl (then_rest hits_before hits_order a.hits b.hits (set_before a.lacks b.lacks) e y)
        by_hits (inr (inl e)) (inr (inl f)) = inr (inl (same_need a b e f))
        by_hits (inr (inl e)) (inr (inr y)) = inr (inr (then_rest hits_before hits_order b.hits a.hits (set_before b.lacks a.lacks) (sym e) y))

pub requirement_order : IsTotalOrder requirement_before
requirement_order = record { never = never; through = through; total = total }
  where
    rest : IsTotalOrder (list_before need_before)
    rest = list_order need_before need_order

    never : (a : List Need) → requirement_before a a ≡ true → ⊥
    never a h = by_view (then_view nat_lt number_order (length a) (length a) (list_before need_before a a) h)
      where
        by_view : (nat_lt (length a) (length a) ≡ true) ⊎ ((length a ≡ length a) × (list_before need_before a a ≡ true)) → ⊥
        by_view (inl k) = number_order.never (length a) k
        by_view (inr k) = rest.never a k.1

    through : (a b c : List Need) → requirement_before a b ≡ true → requirement_before b c ≡ true → requirement_before a c ≡ true
    through a b c h k = by_views (then_view nat_lt number_order (length a) (length b) (list_before need_before a b) h)
        (then_view nat_lt number_order (length b) (length c) (list_before need_before b c) k)
      where
        by_views : (nat_lt (length a) (length b) ≡ true) ⊎ ((length a ≡ length b) × (list_before need_before a b ≡ true))
            → (nat_lt (length b) (length c) ≡ true) ⊎ ((length b ≡ length c) × (list_before need_before b c ≡ true))
            → requirement_before a c ≡ true
        by_views (inl x) (inl y) =
            then_first nat_lt (length a) (length c) (list_before need_before a c) (number_order.through (length a) (length b) (length c) x y)
        by_views (inl x) (inr y) = then_first nat_lt (length a) (length c) (list_before need_before a c) (subst (λ v. nat_lt (length a) v ≡ true) y.0 x)
        by_views (inr x) (inl y) =
            then_first nat_lt (length a) (length c) (list_before need_before a c) (subst (λ v. nat_lt v (length c) ≡ true) (sym x.0) y)
        by_views (inr x) (inr y) = then_rest nat_lt number_order (length a) (length c) (list_before need_before a c) (x.0 ∙ y.0) (rest.through a b c x.1 y.1)

    total : (a b : List Need) → (requirement_before a b ≡ true) ⊎ ((a ≡ b) ⊎ (requirement_before b a ≡ true))
    total a b = by_length (number_order.total (length a) (length b)) (rest.total a b)
      where
        by_length : (nat_lt (length a) (length b) ≡ true) ⊎ ((length a ≡ length b) ⊎ (nat_lt (length b) (length a) ≡ true))
            → (list_before need_before a b ≡ true) ⊎ ((a ≡ b) ⊎ (list_before need_before b a ≡ true)) → (requirement_before a b ≡ true)
            ⊎ ((a ≡ b) ⊎ (requirement_before b a ≡ true))
        by_length (inl x) r = inl (then_first nat_lt (length a) (length b) (list_before need_before a b) x)
        by_length (inr (inr x)) r = inr (inr (then_first nat_lt (length b) (length a) (list_before need_before b a) x))
        by_length (inr (inl e)) (inl y) = inl (then_rest nat_lt number_order (length a) (length b) (list_before need_before a b) e y)
        by_length (inr (inl e)) (inr (inl same)) = inr (inl same)
        by_length (inr (inl e)) (inr (inr y)) = inr (inr (then_rest nat_lt number_order (length b) (length a) (list_before need_before b a) (sym e) y))

-- rising lists with the same items are one

-- sorted lists with the same counts are one
