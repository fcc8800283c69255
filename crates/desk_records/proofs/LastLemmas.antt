-- Rows of callers that rise by the callers' names.
use Rattle.std.proofs.Common.{ℕ, ◌≡◌, ◌≤◌, ◌+◌, ◌∙◌, ◌⊎◌, Bool, true, false, cond, List, [], ◌∷◌, length, drop, zero, suc, refl, ap, sym, subst}
use Rattle.std.proofs.Common.{arith, inl, inr, Some}
use Rattle.std.specs.Prelude.{slice_get, slice_set, slice_index_or, insert}
use Rattle.std.specs.Cmp.Lexicographic.{slice_cmp}
use Rattle.std.specs.List.Sorted.{IsPartitionedBy, IsPartitionPoint}
use Rattle.std.specs.Ordering.{is_lt, is_eq, nat_cmp, ordering_reverse}
use Rattle.std.specs.declared.cmp.Ordering.{Ordering}
use Rattle.std.specs.declared.cmp.Ordering.TheVariants.{Less, Equal, Greater}
use Rattle.std.proofs.lemmas.Bool.{false≢true}
use Rattle.std.proofs.lemmas.Cmp.{nat_list_cmp_total, tied_itself}
use Rattle.std.proofs.lemmas.Map.Text.{is_eq-slice_cmp}
use Rattle.std.proofs.lemmas.Slice.Eq.{bytes_eq-Decides}
use Rattle.list_words.specs.Lists.{Each}
use Rattle.list_words.specs.Orders.{IsTotalOrder}
use Rattle.list_words.proofs.EachLemmas.{each_at, each_weaker}
use Rattle.list_words.proofs.GetLemmas.{get_at}
use Rattle.desk_records.specs.declared.tables.JournalRow.{JournalRow}
use Rattle.desk_records.specs.declared.tables.LastRow.{LastRow}
use Rattle.desk_records.specs.Records.{name_before, AreLast}
use Rattle.desk_records.specs.Changes.{last_of_row, with_last, last_rows_of}
use Rattle.desk_records.proofs.NumberedLemmas.{drop_at}

is_less : (o : Ordering) → is_lt o ≡ true → o ≡ Less
is_less Less e = refl
is_less Equal e = cc
is_less Greater e = cc

-- names are in a total order
pub name_order : IsTotalOrder name_before
name_order = record {
  never = λ x h. let tied = tied_itself nat_list_cmp_total x in let less = is_less (slice_cmp nat_cmp x x) h in cc;
  through = λ x y z h k. ap is_lt (nat_list_cmp_total.trans x y z (is_less (slice_cmp nat_cmp x y) h) (is_less (slice_cmp nat_cmp y z) k));
  total = λ x y. by_order x y (slice_cmp nat_cmp x y) refl;
}
  where
    by_order : (x y : List ℕ) (o : Ordering) → slice_cmp nat_cmp x y ≡ o → (name_before x y ≡ true) ⊎ ((x ≡ y) ⊎ (name_before y x ≡ true))
    by_order x y Less e = inl (ap is_lt e)
    by_order x y Equal e = inr (inl ((bytes_eq-Decides x y).0 (sym (is_eq-slice_cmp x y) ∙ ap is_eq e)))
    by_order x y Greater e = inr (inr (ap is_lt (nat_list_cmp_total.antisymm y x ∙ ap ordering_reverse e)))

-- names of which neither is before the other are one
same_name : (a b : List ℕ) → name_before a b ≡ false → name_before b a ≡ false → a ≡ b
same_name a b h k = elim (name_order.total a b) [
  | inl x ↦ absurd (false≢true (sym h ∙ x))
  | inr y ↦
      elim y [ inl e ↦ e | inr x ↦ absurd (false≢true (sym k ∙ x)) ]
]

-- the place of a caller

-- the rows whose callers are before a caller come first
pub parted : (caller : List ℕ) (rows : List LastRow) → AreLast rows → IsPartitionedBy (λ r. name_before r.request.caller caller) rows
parted caller [] h i j d le less b = absurd (omega arith)
parted caller (r ∷ rs) h zero zero d le less b = b
parted caller (r ∷ rs) h zero (suc j) d le less b =
    let later = slice_index_or rs j d in
    name_order.through r.request.caller later.request.caller caller
    (each_at (λ q. name_before r.request.caller q.request.caller ≡ true) rs j later h.0 (get_at rs j d (omega arith))) b
parted caller (r ∷ rs) h (suc i) zero d le less b = absurd (omega arith)
parted caller (r ∷ rs) h (suc i) (suc j) d le less b = parted caller rs h.1 i j d (omega arith) (omega arith) b

-- the place before which all callers are before a caller, and from which on none is
abbrev pub IsParting : List ℕ → List LastRow → ℕ → Type 0
IsParting caller rows at =
    IsPartitionPoint (λ r. name_before r.request.caller caller ≡ true) (λ r. name_before r.request.caller caller ≡ false) rows at

rest : (caller : List ℕ) (r : LastRow) (rs : List LastRow) (at : ℕ) → IsParting caller (r ∷ rs) (suc at) → IsParting caller rs at
rest caller r rs at point =
    (λ k d less within. point.0 (suc k) d (omega arith) (omega arith), λ k d less within. point.1 (suc k) d (omega arith) (omega arith))

-- the row at the place, if there is one, is of a later caller
pub add_new : (row : LastRow) (rows : List LastRow) (at : ℕ) → at ≤ length rows → IsParting row.request.caller rows at
    → ((r : LastRow) → slice_get rows at ≡ Some r → name_before row.request.caller r.request.caller ≡ true) → insert rows at row ≡ with_last rows row
add_new row [] zero le point after = refl
add_new row [] (suc at) le point after = absurd (omega arith)
add_new row (r ∷ rs) zero le point after = rw (point.1 0 r (omega arith) (omega arith), after r refl) refl
add_new row (r ∷ rs) (suc at) le point after =
    rw (point.0 0 r (omega arith) (omega arith))
    (ap (λ (t : List LastRow). r ∷ t) (add_new row rs at (omega arith) (rest row.request.caller r rs at point) after))

-- the row at the place isn't of a later caller
pub add_here : (row : LastRow) (rows : List LastRow) (at : ℕ) (r : LastRow) → IsParting row.request.caller rows at
    → slice_get rows at ≡ Some r → name_before row.request.caller r.request.caller ≡ false → slice_set rows at row ≡ with_last rows row
add_here row [] at r point e after = cc
add_here row (q ∷ qs) zero r point e after =
    let same : q ≡ r = cc in rw (same, rw same at point.1 0 q (omega arith) (omega arith), after) refl
add_here row (q ∷ qs) (suc at) r point e after =
    rw (point.0 0 q (omega arith) (omega arith))
    (ap (λ (t : List LastRow). q ∷ t) (add_here row qs at r (rest row.request.caller q qs at point) e after))

-- the callers go on rising

keep : (x : List ℕ) (row : LastRow) (rows : List LastRow) → Each (λ q. name_before x q.request.caller ≡ true) rows
    → name_before x row.request.caller ≡ true → Each (λ q. name_before x q.request.caller ≡ true) (with_last rows row)
keep x row [] h b = (b, tt)
keep x row (r ∷ rs) h b = go (name_before r.request.caller row.request.caller) (name_before row.request.caller r.request.caller) (keep x row rs h.1 b)
  where
    go : (s t : Bool) → Each (λ q. name_before x q.request.caller ≡ true) (with_last rs row)
        → Each (λ q. name_before x q.request.caller ≡ true) (cond s (r ∷ with_last rs row) (cond t (row ∷ r ∷ rs) (row ∷ rs)))
    go true t more = (h.0, more)
    go false true more = (b, h)
    go false false more = (b, h.1)

pub last_with : (row : LastRow) (rows : List LastRow) → AreLast rows → AreLast (with_last rows row)
last_with row [] h = (tt, tt)
last_with row (r ∷ rs) h =
    go (name_before r.request.caller row.request.caller) (name_before row.request.caller r.request.caller) refl refl (last_with row rs h.1)
  where
    go : (s t : Bool) → name_before r.request.caller row.request.caller ≡ s → name_before row.request.caller r.request.caller ≡ t
        → AreLast (with_last rs row) → AreLast (cond s (r ∷ with_last rs row) (cond t (row ∷ r ∷ rs) (row ∷ rs)))
    go true t e f more = (keep r.request.caller row rs h.0 e, more)
    go false true e f more = (
      (
        f,
        each_weaker (λ q. name_before r.request.caller q.request.caller ≡ true) (λ q. name_before row.request.caller q.request.caller ≡ true)
            (λ q b. name_order.through row.request.caller r.request.caller q.request.caller f b) rs h.0,
      ),
      h,
    )
    go false false e f more = (
      subst (λ (x : List ℕ). Each (λ q. name_before x q.request.caller ≡ true) rs) (same_name r.request.caller row.request.caller e f) h.0,
      h.1,
    )

-- the row at the place is the next
pub last_step : (rows : List LastRow) (journal : List JournalRow) (i : ℕ) (row : JournalRow) → slice_get journal i ≡ Some row
    → last_rows_of rows (drop i journal) ≡ last_rows_of (with_last rows (last_of_row row)) (drop (i + 1) journal)
last_step rows journal i row at = ap (λ (t : List JournalRow). last_rows_of rows t) (drop_at journal i row at)

-- each caller's last row of a journal
pub last_of_rows : (last : List LastRow) (journal : List JournalRow) → AreLast last → AreLast (last_rows_of last journal)
last_of_rows last [] h = h
last_of_rows last (row ∷ rows) h = last_of_rows (with_last last (last_of_row row)) rows (last_with (last_of_row row) last h)
