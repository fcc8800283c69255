-- Each caller's last row after one more row.
use Rattle.std.proofs.Common.{ℕ, ◌≡◌, Bool, true, false, cond, List, [], ◌∷◌, Ordering, Some, refl, sym, ◌∙◌, ap, subst}
use Rattle.std.specs.Cmp.Lexicographic.{slice_cmp}
use Rattle.std.specs.Ordering.{is_lt, is_eq, nat_cmp, ordering_reverse}
use Rattle.std.specs.declared.cmp.Ordering.TheVariants.{Less, Equal, Greater}
use Rattle.std.specs.Str.{bytes_eq}
use Rattle.std.proofs.lemmas.Bool.{false≢true}
use Rattle.std.proofs.lemmas.Cmp.{nat_list_cmp_total}
use Rattle.std.proofs.lemmas.Map.Text.{is_eq-slice_cmp}
use Rattle.std.proofs.lemmas.Slice.Eq.{bytes_eq-Decides}
use Rattle.desk_records.specs.declared.tables.LastRow.{LastRow}
use Rattle.desk_records.specs.Records.{name_before}
use Rattle.desk_records.specs.Changes.{with_last, last_of}

pub same_name : (a b : List ℕ) → bytes_eq a b ≡ true → a ≡ b
same_name a b e = (bytes_eq-Decides a b).0 e

pub equal_itself : (a : List ℕ) → bytes_eq a a ≡ true
equal_itself a = (bytes_eq-Decides a a).1 refl

-- no name is before itself
pub never_before : (a : List ℕ) → name_before a a ≡ true → ⊥
never_before a less = by_order (slice_cmp nat_cmp a a) refl
  where
    by_order : (o : Ordering) → slice_cmp nat_cmp a a ≡ o → ⊥
    by_order Less e = false≢true (sym (ap is_eq e) ∙ is_eq-slice_cmp a a ∙ equal_itself a)
    by_order Equal e = false≢true (sym (ap is_lt e) ∙ less)
    by_order Greater e = false≢true (sym (ap is_lt e) ∙ less)

-- two names of which neither is before the other are one
pub neither_before : (a b : List ℕ) → name_before a b ≡ false → name_before b a ≡ false → a ≡ b
neither_before a b below above = same_name a b (sym (is_eq-slice_cmp a b) ∙ by_order (slice_cmp nat_cmp b a) refl)
  where
    turned : (o : Ordering) → slice_cmp nat_cmp b a ≡ o → slice_cmp nat_cmp a b ≡ ordering_reverse o
    turned o e = nat_list_cmp_total.antisymm a b ∙ ap ordering_reverse e

    by_order : (o : Ordering) → slice_cmp nat_cmp b a ≡ o → is_eq (slice_cmp nat_cmp a b) ≡ true
    by_order Less e = absurd (false≢true (sym above ∙ ap is_lt e))
    by_order Equal e = ap is_eq (turned Equal e)
    by_order Greater e = absurd (false≢true (sym below ∙ ap is_lt (turned Greater e)))

-- the row is the last of its caller, and other callers keep theirs
pub last_of-with_last : (rows : List LastRow) (row : LastRow) (caller : List ℕ)
    → last_of (with_last rows row) caller ≡ cond (bytes_eq row.request.caller caller) (Some row) (last_of rows caller)
last_of-with_last [] row caller = refl
last_of-with_last (old ∷ rows) row caller =
    by_order (name_before old.request.caller row.request.caller) refl (name_before row.request.caller old.request.caller) refl
    (last_of-with_last rows row caller)
  where
    passed : (s t : Bool) → bytes_eq old.request.caller caller ≡ s → bytes_eq row.request.caller caller ≡ t
        → name_before old.request.caller row.request.caller ≡ true
        → cond s (Some old) (cond t (Some row) (last_of rows caller)) ≡ cond t (Some row) (cond s (Some old) (last_of rows caller))
    passed true true e f less =
        let one : old.request.caller ≡ row.request.caller =
        same_name old.request.caller caller e ∙ sym (same_name row.request.caller caller f) in
        absurd (never_before row.request.caller (subst (λ a. name_before a row.request.caller ≡ true) one less))
    passed true false e f less = refl
    passed false t e f less = refl

    replaced : (t : Bool) → bytes_eq row.request.caller caller ≡ t → old.request.caller ≡ row.request.caller
        → cond t (Some row) (last_of rows caller)
        ≡ cond t (Some row) (cond (bytes_eq old.request.caller caller) (Some old) (last_of rows caller))
    replaced true e one = refl
    replaced false e one = rw (one, e) refl

    by_order : (s : Bool) → name_before old.request.caller row.request.caller ≡ s → (t : Bool) → name_before row.request.caller old.request.caller ≡ t
        → last_of (with_last rows row) caller ≡ cond (bytes_eq row.request.caller caller) (Some row) (last_of rows caller)
        → last_of (cond s (old ∷ with_last rows row) (cond t (row ∷ old ∷ rows) (row ∷ rows))) caller
        ≡ cond (bytes_eq row.request.caller caller) (Some row) (last_of (old ∷ rows) caller)
    by_order true e t f more =
        ap (λ o. cond (bytes_eq old.request.caller caller) (Some old) o) more
        ∙ passed (bytes_eq old.request.caller caller) (bytes_eq row.request.caller caller) refl refl e
    by_order false e true f more = refl
    by_order false e false f more =
        replaced (bytes_eq row.request.caller caller) refl (neither_before old.request.caller row.request.caller e f)
