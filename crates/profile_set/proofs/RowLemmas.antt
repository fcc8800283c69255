-- Records that stand for rows, and the first fault of a text.
use Rattle.std.proofs.Common.{ℕ, ◌≡◌, ◌≤◌, ◌+◌, ◌∙◌, Bool, true, false, cond, List, [], ◌∷◌, ◌++◌, append_assoc, length}
use Rattle.std.proofs.Common.{Option, Some, None, Result, Ok, refl, ap, sym, subst, arith, inl, inr, suc}
use Rattle.csv.specs.Records.{AllText, Row, fields_of}
use Rattle.csv.specs.Reading.{stops_reader}
use Rattle.csv.specs.declared.error.Error.{Error}
use Rattle.csv.specs.declared.iter.StringRecordsIntoIter.{StringRecordsIntoIter}
use Rattle.std.specs.Prelude.{codes, nat_lt}
use Rattle.std.specs.List.{list_all}
use Rattle.std.specs.Str.{IsUtf8, IsAscii}
use Rattle.std.proofs.lemmas.Bool.{and_parts}
use Rattle.std.proofs.lemmas.Bool.Decides.{nat_tests}
use Rattle.std.proofs.lemmas.Str.{IsUtf8-from_ascii}
use Rattle.std.proofs.lemmas.Str.Ascii.{IsAscii-nil, IsAscii-cons}
use Rattle.profile_set.specs.declared.member_row.MemberRow.{MemberRow}
use Rattle.profile_set.specs.declared.members_error.MembersError.{MembersError}
use Rattle.profile_set.specs.declared.members_error.MembersError.TheVariants.{BadRow, UnknownRole, Memory}
use Rattle.profile_set.specs.Members.{Fields, records_of, header, AreRows, IsRow, IsMembers, IsRefused}
use Rattle.profile_set.specs.Reader.{HasRead}
use Rattle.profile_set.specs.Rows.{IsRowRefused, IsToldFor}
use Rattle.profile_set.proofs.ReaderLemmas.{Steps, has_records, step_more, step_end, step_refused, few_read}

-- behind the header the reader has read records that stand for the rows
pub record IsReadTo {R : Type 0} (rem : R → Option (List ℕ)) (names : List (List ℕ)) (bytes : List ℕ) (it : StringRecordsIntoIter R)
    (rows : List MemberRow) : Type 0 where
  pub before : List Fields
  pub read : HasRead rem bytes it (header ∷ before)
  pub right : AreRows names before rows

rows_length : (names : List (List ℕ)) (fields : List Fields) (rows : List MemberRow) → AreRows names fields rows → length fields ≡ length rows
rows_length names [] rows h = sym (ap length h)
rows_length names (f ∷ fs) rows h = ap suc (rows_length names fs h.1 h.3) ∙ sym (ap length h.4)

rows_more : (names : List (List ℕ)) (fields : List Fields) (rows : List MemberRow) (f : Fields) (row : MemberRow) → AreRows names fields rows
    → IsRow names f row
    → AreRows names (fields ++ f ∷ []) (rows ++ row ∷ [])
rows_more names [] rows f row h r = (row, [], r, refl, ap (λ (t : List MemberRow). t ++ row ∷ []) h)
rows_more names (g ∷ gs) rows f row h r = (h.0, h.1 ++ row ∷ [], h.2, rows_more names gs h.1 f row h.3 r, ap (λ (t : List MemberRow). t ++ row ∷ []) h.4)

ascii_is_text : (bytes : List ℕ) → list_all (λ b. nat_lt b 128) bytes ≡ true → IsUtf8 bytes
ascii_is_text bytes h = IsUtf8-from_ascii bytes (go bytes h)
  where
    go : (bytes : List ℕ) → list_all (λ b. nat_lt b 128) bytes ≡ true → IsAscii bytes
    go [] h = IsAscii-nil
    go (b ∷ bs) h = let (here, more) = and_parts (nat_lt b 128) (list_all (λ b. nat_lt b 128) bs) h in
        IsAscii-cons b bs (grind (arith, nat_tests)) (go bs more)

header_is_text : AllText header
unfolding AllText
header_is_text = (ascii_is_text (codes "kind") refl, (ascii_is_text (codes "name") refl, (ascii_is_text (codes "role") refl, tt)))

-- the numbers of records fit
pub few : {R : Type 0} (rem : R → Option (List ℕ)) (names : List (List ℕ)) (bytes : List ℕ) (it : StringRecordsIntoIter R) (rows : List MemberRow)
    → IsReadTo rem names bytes it rows
    → 12 + length rows ≤ length bytes
few rem names bytes it rows h =
    let most = few_read rem bytes it h.before h.read in
    let same = rows_length names h.before rows h.right in
    omega (arith, most, same)

-- the header

pub no_record : {R : Type 0} (rem : R → Option (List ℕ)) (names : List (List ℕ)) (bytes : List ℕ) (a b : StringRecordsIntoIter R)
    → HasRead rem bytes a []
    → Steps rem a None b
    → IsRefused names bytes (BadRow 1)
no_record rem names bytes a b h steps = inl (refl, λ later e. let none = step_end rem bytes a b [] h steps in cc)

pub first_refused : {R : Type 0} (rem : R → Option (List ℕ)) (names : List (List ℕ)) (bytes : List ℕ) (a b : StringRecordsIntoIter R)
    (given : Result Row Error)
    (told : MembersError)
    → HasRead rem bytes a [] → Steps rem a (Some given) b → IsToldFor given 1 told → IsRefused names bytes told
first_refused {R} rem names bytes a b given told h steps t =
    subst (IsRefused names bytes) (sym t.told_is) (go (stops_reader t.refusal.kind) refl)
  where
    go : (stops : Bool) → stops_reader t.refusal.kind ≡ stops → IsRefused names bytes (cond stops Memory (BadRow 1))
    go true e = tt
    go false e =
        let (fields, later, all, none) =
        step_refused rem bytes a b [] t.refusal h (subst (λ (g : Result Row Error). Steps rem a (Some g) b) t.given_is steps) e in
        inl (refl, λ more is. let same : fields ≡ header = cc in none (subst AllText (sym same) header_is_text))

pub other_first : {R : Type 0} (rem : R → Option (List ℕ)) (names : List (List ℕ)) (bytes : List ℕ) (a b : StringRecordsIntoIter R) (x : Row)
    → HasRead rem bytes a [] → Steps rem a (Some (Ok x)) b
    → (fields_of x ≡ header → ⊥) → IsRefused names bytes (BadRow 1)
other_first rem names bytes a b x h steps other =
    let (later, all) = has_records rem bytes b (fields_of x ∷ []) (step_more rem bytes a b [] x h steps).0 in
    inl (refl, λ more is. other (let same : fields_of x ≡ header = cc in same))

pub header_read : {R : Type 0} (rem : R → Option (List ℕ)) (names : List (List ℕ)) (bytes : List ℕ) (a b : StringRecordsIntoIter R) (x : Row)
    → HasRead rem bytes a [] → Steps rem a (Some (Ok x)) b
    → fields_of x ≡ header → IsReadTo rem names bytes b []
header_read rem names bytes a b x h steps same = record {
  before = [];
  read = subst (λ (f : List (List ℕ)). HasRead rem bytes b (f ∷ [])) same (step_more rem bytes a b [] x h steps).0;
  right = refl;
}

-- the records behind it

pub row_read : {R : Type 0} (rem : R → Option (List ℕ)) (names : List (List ℕ)) (bytes : List ℕ) (a b : StringRecordsIntoIter R) (rows : List MemberRow)
    (x : Row) (row : MemberRow)
    → IsReadTo rem names bytes a rows → Steps rem a (Some (Ok x)) b → IsRow names (fields_of x) row → IsReadTo rem names bytes b (rows ++ row ∷ [])
row_read rem names bytes a b rows x row h steps is = record {
  before = h.before ++ fields_of x ∷ [];
  read = (step_more rem bytes a b (header ∷ h.before) x h.read steps).0;
  right = rows_more names h.before rows (fields_of x) row h.right is;
}

pub is_text : {R : Type 0} (rem : R → Option (List ℕ)) (names : List (List ℕ)) (bytes : List ℕ) (a b : StringRecordsIntoIter R) (rows : List MemberRow)
    (x : Row)
    → IsReadTo rem names bytes a rows → Steps rem a (Some (Ok x)) b → AllText (fields_of x)
is_text rem names bytes a b rows x h steps = (step_more rem bytes a b (header ∷ h.before) x h.read steps).1

pub all_read : {R : Type 0} (rem : R → Option (List ℕ)) (names : List (List ℕ)) (bytes : List ℕ) (a b : StringRecordsIntoIter R) (rows : List MemberRow)
    → IsReadTo rem names bytes a rows → Steps rem a None b → IsMembers names bytes rows
all_read rem names bytes a b rows h steps = record { later = h.before; records = step_end rem bytes a b (header ∷ h.before) h.read steps; right = h.right }

-- a fault of the record behind those that were read
fault_behind : (names : List (List ℕ)) (bytes : List ℕ) (before : List Fields) (rows : List MemberRow) (fields : Fields) (later : List Fields)
    (told : MembersError)
    → AreRows names before rows → records_of bytes ≡ header ∷ (before ++ fields ∷ later) → IsRowRefused names fields (length rows + 2) told
    → IsRefused names bytes told
fault_behind names bytes before rows fields later (BadRow at) right all f =
    inr (record {
      before = before;
      rows = rows;
      fields = fields;
      later = later;
      records = all;
      right = right;
      fault_is =
          (f.0 ∙ let same = rows_length names before rows right in omega (arith, same), f.1);
    })
fault_behind names bytes before rows fields later (UnknownRole at) right all f =
    record {
      before = before;
      rows = rows;
      fields = fields;
      later = later;
      records = all;
      right = right;
      fault_is =
          (f.0 ∙ let same = rows_length names before rows right in omega (arith, same), f.1, f.2, f.3, f.4, f.5, f.6);
    }
fault_behind names bytes before rows fields later Memory right all f = tt

pub row_refused : {R : Type 0} (rem : R → Option (List ℕ)) (names : List (List ℕ)) (bytes : List ℕ) (a b : StringRecordsIntoIter R)
    (rows : List MemberRow)
    (x : Row) (number : ℕ) (told : MembersError)
    → IsReadTo rem names bytes a rows → Steps rem a (Some (Ok x)) b → number ≡ length rows + 2 → IsRowRefused names (fields_of x) number told
    → IsRefused names bytes told
row_refused rem names bytes a b rows x number told h steps n f =
    let (later, all) = has_records rem bytes b (header ∷ (h.before ++ fields_of x ∷ [])) (step_more rem bytes a b (header ∷ h.before) x h.read steps).0 in
    fault_behind names bytes h.before rows (fields_of x) later told h.right
    (all ∙ ap (λ (t : List (List (List ℕ))). header ∷ t) (append_assoc h.before (fields_of x ∷ []) later))
    (subst (λ (k : ℕ). IsRowRefused names (fields_of x) k told) n f)

pub record_refused : {R : Type 0} (rem : R → Option (List ℕ)) (names : List (List ℕ)) (bytes : List ℕ) (a b : StringRecordsIntoIter R)
    (rows : List MemberRow)
    (given : Result Row Error) (number : ℕ) (told : MembersError)
    → IsReadTo rem names bytes a rows → Steps rem a (Some given) b → number ≡ length rows + 2 → IsToldFor given number told
    → IsRefused names bytes told
record_refused {R} rem names bytes a b rows given number told h steps n t =
    subst (IsRefused names bytes) (sym t.told_is) (go (stops_reader t.refusal.kind) refl)
  where
    go : (stops : Bool) → stops_reader t.refusal.kind ≡ stops → IsRefused names bytes (cond stops Memory (BadRow number))
    go true e = tt
    go false e =
        let (fields, later, all, none) =
        step_refused rem bytes a b (header ∷ h.before) t.refusal h.read (subst (λ (g : Result Row Error). Steps rem a (Some g) b) t.given_is steps) e in
        fault_behind names bytes h.before rows fields later (BadRow number) h.right all (n, λ on name role formed. none formed.text)
