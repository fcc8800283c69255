-- A text stands for one list of rows, or has one first fault, and not both.
use Rattle.std.proofs.Common.{ℕ, Global, ◌≡◌, ◌+◌, ◌∙◌, ◌⊎◌, List, [], ◌∷◌, ◌++◌, length, Option, Some, None, Result, Ok}
use Rattle.std.proofs.Common.{Err, refl, ap, sym, subst, inl, inr}
use Rattle.std.specs.Prelude.{IfOk, IfErr, Vec}
use Rattle.arbac_policy.specs.declared.holder.On.{On}
use Rattle.arbac_policy.specs.declared.holder.On.TheVariants.{User, Permission}
use Rattle.profile_set.specs.declared.member_row.MemberRow.{MemberRow}
use Rattle.profile_set.specs.declared.members_error.MembersError.{MembersError}
use Rattle.profile_set.specs.declared.members_error.MembersError.TheVariants.{BadRow, UnknownRole, Memory}
use Rattle.profile_set.specs.Members.{Fields, kind_text, Gives, AreRows, IsRow, IsFormed, IsMembers, IsFaultBehind, IsFirstFault, IsRefused, IsRecordFault}
use Rattle.profile_set.specs.Members.{Tells, Reads}

kind_one : (a b : On) → kind_text a ≡ kind_text b → a ≡ b
kind_one User User e = refl
kind_one User Permission e = cc
kind_one Permission User e = cc
kind_one Permission Permission e = refl

gives_one : (names : List (List ℕ)) (text : List ℕ) (a b : Option ℕ) → Gives names text a → Gives names text b → a ≡ b
gives_one names text None None h k = refl
gives_one names text None (Some y) h k = absurd (k.0 h)
gives_one names text (Some x) None h k = absurd (h.0 k)
gives_one names text (Some x) (Some y) h k = sym h.1 ∙ k.1

-- what two forms of one record say is the same
form_kind : (fields : Fields) (a b : On) (n m r s : List ℕ) → IsFormed fields a n r → IsFormed fields b m s → a ≡ b
form_kind fields a b n m r s h k = kind_one a b (let e = sym h.fields_are ∙ k.fields_are in let same : kind_text a ≡ kind_text b = cc in same)

form_name : (fields : Fields) (a b : On) (n m r s : List ℕ) → IsFormed fields a n r → IsFormed fields b m s → n ≡ m
form_name fields a b n m r s h k = let e = sym h.fields_are ∙ k.fields_are in let same : n ≡ m = cc in same

form_role : (fields : Fields) (a b : On) (n m r s : List ℕ) → IsFormed fields a n r → IsFormed fields b m s → r ≡ s
form_role fields a b n m r s h k = let e = sym h.fields_are ∙ k.fields_are in let same : r ≡ s = cc in same

row_same : (a b : MemberRow) → a.on ≡ b.on → a.name ≡ b.name → a.role ≡ b.role → a ≡ b
row_same a b on name role =
    ap (λ (o : On). let r : MemberRow = record { on = o; name = a.name; role = a.role } in r) on
    ∙ ap (λ (n : List ℕ). let r : MemberRow = record { on = b.on; name = n; role = a.role } in r) name
    ∙ ap (λ (o : Option ℕ). let r : MemberRow = record { on = b.on; name = b.name; role = o } in r) role

row_one : (names : List (List ℕ)) (fields : Fields) (a b : MemberRow) → IsRow names fields a → IsRow names fields b → a ≡ b
row_one names fields a b h k =
    row_same a b (form_kind fields a.on b.on a.name b.name h.text k.text h.formed k.formed)
    (form_name fields a.on b.on a.name b.name h.text k.text h.formed k.formed)
    (gives_one names h.text a.role b.role h.role
    (subst (λ (t : List ℕ). Gives names t b.role) (sym (form_role fields a.on b.on a.name b.name h.text k.text h.formed k.formed)) k.role))

rows_one : (names : List (List ℕ)) (fields : List Fields) (left right : List MemberRow) → AreRows names fields left → AreRows names fields right
    → left ≡ right
rows_one names [] left right h k = h ∙ sym k
rows_one names (f ∷ fs) left right h k =
    let here = row_one names f h.0 k.0 h.2 k.2 in
    let more = rows_one names fs h.1 k.1 h.3 k.3 in
    h.4 ∙ ap (λ (r : MemberRow). r ∷ h.1) here ∙ ap (λ (t : List MemberRow). k.0 ∷ t) more ∙ sym k.4

-- a text stands for one list of rows
pub one_list : (names : List (List ℕ)) (bytes : List ℕ) (left right : List MemberRow) → IsMembers names bytes left → IsMembers names bytes right
    → left ≡ right
one_list names bytes left right h k =
    let e = sym h.records ∙ k.records in
    let same : k.later ≡ h.later = cc in
    rows_one names h.later left right h.right (subst (λ (f : List (List (List ℕ))). AreRows names f right) same k.right)

-- a record at fault stands for no row
no_row : (names : List (List ℕ)) (fields : Fields) (number : ℕ) (fault : MembersError) → IsRecordFault names fields number fault → (row : MemberRow)
    → IsRow names fields row → ⊥
no_row names fields number (BadRow at) f row r = f.1 row.on row.name r.text r.formed
no_row names fields number (UnknownRole at) f row r =
    let same = form_role fields row.on f.1 row.name f.2 r.text f.3 r.formed f.4 in
    go row.role (subst (λ (t : List ℕ). Gives names t row.role) same r.role)
  where
    go : (role : Option ℕ) → Gives names f.3 role → ⊥
    go None g = f.5 g
    go (Some x) g = let none = sym f.6 ∙ g.1 in cc
no_row names fields number Memory f row r = f

-- the records ahead of one that stands for no row are determined
ahead_one : (names : List (List ℕ)) (b c : List Fields) (rows more : List MemberRow) (f g : Fields) (l m : List Fields) → AreRows names b rows
    → AreRows names c more
    → ((row : MemberRow) → IsRow names f row → ⊥) → ((row : MemberRow) → IsRow names g row → ⊥) → b ++ f ∷ l ≡ c ++ g ∷ m → (b ≡ c)
    × (f ≡ g)
ahead_one names [] [] rows more f g l m h k nf ng e = (refl, let same : f ≡ g = cc in same)
ahead_one names [] (c ∷ cs) rows more f g l m h k nf ng e = let same : f ≡ c = cc in
    absurd (nf k.0 (subst (λ (x : List (List ℕ)). IsRow names x k.0) (sym same) k.2))
ahead_one names (b ∷ bs) [] rows more f g l m h k nf ng e =
    let same : b ≡ g = cc in absurd (ng h.0 (subst (λ (x : List (List ℕ)). IsRow names x h.0) same h.2))
ahead_one names (b ∷ bs) (c ∷ cs) rows more f g l m h k nf ng e =
    let here : b ≡ c = cc in
    let behind : bs ++ f ∷ l ≡ cs ++ g ∷ m = cc in
    let (all, same) = ahead_one names bs cs h.1 k.1 f g l m h.3 k.3 nf ng behind in
    (ap (λ (x : List (List ℕ)). x ∷ bs) here ∙ ap (λ (t : List (List (List ℕ))). c ∷ t) all, same)

fault_one : (names : List (List ℕ)) (fields : Fields) (number : ℕ) (a b : MembersError) → IsRecordFault names fields number a
    → IsRecordFault names fields number b → a ≡ b
fault_one names fields number (BadRow x) (BadRow y) h k = ap BadRow (h.0 ∙ sym k.0)
fault_one names fields number (BadRow x) (UnknownRole y) h k = absurd (h.1 k.1 k.2 k.3 k.4)
fault_one names fields number (UnknownRole x) (BadRow y) h k = absurd (k.1 h.1 h.2 h.3 h.4)
fault_one names fields number (UnknownRole x) (UnknownRole y) h k = ap UnknownRole (h.0 ∙ sym k.0)
fault_one names fields number Memory b h k = absurd h
fault_one names fields number a Memory h k = absurd k

behind_one : (names : List (List ℕ)) (bytes : List ℕ) (a b : MembersError) → IsFaultBehind names bytes a → IsFaultBehind names bytes b → a ≡ b
behind_one names bytes a b h k =
    let e = sym h.records ∙ k.records in
    let all : h.before ++ h.fields ∷ h.later ≡ k.before ++ k.fields ∷ k.later = cc in
    let (ahead, same) = ahead_one names h.before k.before h.rows k.rows h.fields k.fields h.later k.later h.right k.right
    (no_row names h.fields _ a h.fault_is)
    (no_row names k.fields _ b k.fault_is) all in
    fault_one names h.fields (2 + length h.before) a b h.fault_is
    (subst (λ (f : List (List ℕ)). IsRecordFault names f (2 + length h.before) b) (sym same)
    (subst (λ (t : List (List (List ℕ))). IsRecordFault names k.fields (2 + length t) b) (sym ahead) k.fault_is))

-- a text has one first fault
first_one : (names : List (List ℕ)) (bytes : List ℕ) (a b : MembersError) → IsFirstFault names bytes a → IsFirstFault names bytes b → a ≡ b
first_one names bytes (BadRow x) (BadRow y) (inl h) (inl k) = ap BadRow (h.0 ∙ sym k.0)
first_one names bytes (BadRow x) (BadRow y) (inl h) (inr k) = absurd (h.1 _ k.records)
first_one names bytes (BadRow x) (BadRow y) (inr h) (inl k) = absurd (k.1 _ h.records)
first_one names bytes (BadRow x) (BadRow y) (inr h) (inr k) = behind_one names bytes (BadRow x) (BadRow y) h k
first_one names bytes (BadRow x) (UnknownRole y) (inl h) k = absurd (h.1 _ k.records)
first_one names bytes (BadRow x) (UnknownRole y) (inr h) k = behind_one names bytes (BadRow x) (UnknownRole y) h k
first_one names bytes (UnknownRole x) (BadRow y) h (inl k) = absurd (k.1 _ h.records)
first_one names bytes (UnknownRole x) (BadRow y) h (inr k) = behind_one names bytes (UnknownRole x) (BadRow y) h k
first_one names bytes (UnknownRole x) (UnknownRole y) h k = behind_one names bytes (UnknownRole x) (UnknownRole y) h k
first_one names bytes Memory b h k = absurd h
first_one names bytes a Memory h k = absurd k

-- a record among those that stand for rows stands for one
row_among : (names : List (List ℕ)) (b : List Fields) (f : Fields) (l : List Fields) (rows : List MemberRow) → AreRows names (b ++ f ∷ l) rows
    → (row : MemberRow) × IsRow names f row
row_among names [] f l rows h = (h.0, h.2)
row_among names (b ∷ bs) f l rows h = row_among names bs f l h.1 h.3

behind_clash : (names : List (List ℕ)) (bytes : List ℕ) (rows : List MemberRow) (fault : MembersError) → IsMembers names bytes rows
    → IsFaultBehind names bytes fault → ⊥
behind_clash names bytes rows fault h k =
    let e = sym h.records ∙ k.records in
    let all : h.later ≡ k.before ++ k.fields ∷ k.later = cc in
    let (row, is) = row_among names k.before k.fields k.later rows (subst (λ (t : List (List (List ℕ))). AreRows names t rows) all h.right) in
    no_row names k.fields _ fault k.fault_is row is

-- a text that stands for rows has no fault
clash : (names : List (List ℕ)) (bytes : List ℕ) (rows : List MemberRow) (fault : MembersError) → IsMembers names bytes rows
    → IsFirstFault names bytes fault
    → ⊥
clash names bytes rows (BadRow at) h (inl k) = k.1 h.later h.records
clash names bytes rows (BadRow at) h (inr k) = behind_clash names bytes rows (BadRow at) h k
clash names bytes rows (UnknownRole at) h k = behind_clash names bytes rows (UnknownRole at) h k
clash names bytes rows Memory h k = k

-- a refusal is the first fault, or want of memory
refusal : (names : List (List ℕ)) (bytes : List ℕ) (error : MembersError) → IsRefused names bytes error → IsFirstFault names bytes error
    ⊎ (error ≡ Memory)
refusal names bytes (BadRow at) h = inl h
refusal names bytes (UnknownRole at) h = inl h
refusal names bytes Memory h = inr refl

pub only_of : (names : List (List ℕ)) (bytes : List ℕ) (result : Result (Vec MemberRow Global) MembersError)
    → IfOk result (λ read. IsMembers names bytes read.items) → IfErr result (IsRefused names bytes)
    → (rows : List MemberRow) → IsMembers names bytes rows → Reads result rows
only_of names bytes (Ok read) ok err rows h = one_list names bytes read.items rows ok h
only_of names bytes (Err error) ok err rows h = elim (refusal names bytes error err) [ inl f ↦ absurd (clash names bytes rows error h f) | inr m ↦ m ]

pub told_of : (names : List (List ℕ)) (bytes : List ℕ) (result : Result (Vec MemberRow Global) MembersError)
    → IfOk result (λ read. IsMembers names bytes read.items) → IfErr result (IsRefused names bytes)
    → (fault : MembersError) → IsFirstFault names bytes fault → Tells result fault
told_of names bytes (Ok read) ok err fault h = clash names bytes read.items fault ok h
told_of names bytes (Err error) ok err fault h =
    elim (refusal names bytes error err) [ inl f ↦ inl (first_one names bytes error fault f h) | inr m ↦ inr m ]
