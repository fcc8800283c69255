-- What was read can be written: its roles are known, and its hits have roles.
use Rattle.std.proofs.Common.{ℕ, ◌≡◌, ◌<◌, ◌≤◌, ◌||◌, Bool, true, false, cond, List, [], ◌∷◌, ◌++◌, length, refl, arith, suc, sym, ◌∙◌, ap, subst}
use Rattle.std.proofs.Common.{Some, None, inl, inr, fold, eqb}
use Rattle.std.specs.Prelude.{◌⊎◌, nat_lt}
use Rattle.std.specs.List.{position_or_len}
use Rattle.std.specs.Str.{bytes_eq}
use Rattle.std.proofs.lemmas.Bool.{eq-eqb, eqb-true}
use Rattle.std.proofs.lemmas.Bool.Decides.{nat_tests}
use Rattle.list_words.specs.Lists.{Each}
use Rattle.list_words.proofs.EachLemmas.{each_append}
use Rattle.list_words.proofs.GetLemmas.{same_some}
use Rattle.list_words.proofs.TestLemmas.{or_cases, or_right}
use Rattle.role_order.specs.Roles.{has_role, with_role, IsIn, AreBelow}
use Rattle.role_order.proofs.SetLemmas.{has_role-with_role}
use Rattle.arbac_policy.specs.declared.act.Act.{Act}
use Rattle.arbac_laws.specs.Needs.{Need}
use Rattle.arbac_laws.specs.Recorded.{Origin, Entry}
use Rattle.cond_text.specs.Named.{Names, NameEach, NamesSet}
use Rattle.cert_text.specs.declared.TheConstants.{MOST_LIMIT}
use Rattle.cert_text.specs.Certificates.{Certificate, IsWritten, IsKnownOrigin, IsWrittenEntry, IsCertificate}
use Rattle.cert_text.specs.LineForms.{WrittenOrigin, a_goal, an_assign, a_weak, LineForm, IsNameList, IsWellFormed}
use Rattle.cert_text.specs.LineForms.{a_reachable, an_unreachable, an_undecided, a_start, an_act, a_need, a_step, a_next, a_user}
use Rattle.cert_text.specs.Drafts.{Draft, nothing, plan, list, steps, last, NamesOrigin, NameSets, NamesNeed, in_last, with_user, with_step_user}
use Rattle.cert_text.specs.Drafts.{new_step, Adds, AddAll, IsWhole, StandsFor}

-- sets of named roles

-- a name's role is one of as many as there are names
place_within : (names : List (List ℕ)) (name : List ℕ) (role : ℕ) → Names names name role → role < length names
place_within names name role h =
    by_test (position_or_len (λ other. bytes_eq other name) names) (nat_lt (position_or_len (λ other. bytes_eq other name) names) (length names)) refl h
  where
    by_test : (n : ℕ) (t : Bool) → nat_lt n (length names) ≡ t → cond t (Some n) None ≡ Some role → role < length names
    by_test n true t e =
        let same = same_some n role e in let less : n < length names = grind (arith, nat_tests) in subst (λ (k : ℕ). k < length names) same less
    by_test n false t e = absurd (cc)

each_within : (names words : List (List ℕ)) (roles : List ℕ) → NameEach names words roles → Each (λ role. role < length names) roles
each_within names [] roles h = subst (Each (λ role. role < length names)) (sym h) tt
each_within names (word ∷ words) roles h =
    subst (Each (λ role. role < length names)) (sym h.4) (place_within names word h.0 h.2, each_within names words h.1 h.3)

-- a set with one more role
in_with : (set : List ℕ) (more role : ℕ) → IsIn (with_role set more) role → (more ≡ role) ⊎ IsIn set role
in_with set more role h = by_case (or_cases (eqb more role) (has_role set role) (sym (has_role-with_role set more role) ∙ h))
  where
    by_case : (eqb more role ≡ true) ⊎ IsIn set role → (more ≡ role) ⊎ IsIn set role
    by_case (inl e) = inl (eqb-true more role e)
    by_case (inr i) = inr i

below_all : (count : ℕ) (set roles : List ℕ) → AreBelow count set → Each (λ role. role < count) roles → AreBelow count (fold with_role set roles)
below_all count set [] h k = h
below_all count set (more ∷ roles) h k = below_all count (with_role set more) roles (λ role i. by_case role (in_with set more role i)) k.1
  where
    by_case : (role : ℕ) → (more ≡ role) ⊎ IsIn set role → role < count
    by_case role (inl e) = subst (λ (n : ℕ). n < count) e k.0
    by_case role (inr i) = h role i

still_in : (set roles : List ℕ) (role : ℕ) → IsIn set role → IsIn (fold with_role set roles) role
still_in set [] role i = i
still_in set (more ∷ roles) role i =
    still_in (with_role set more) roles role (has_role-with_role set more role ∙ or_right (eqb more role) (has_role set role) i)

set_below : (names words : List (List ℕ)) (set : List ℕ) → NamesSet names words set → AreBelow (length names) set
set_below names words set h =
    subst (AreBelow (length names)) (sym h.set_is)
    (below_all (length names) [] h.roles (λ role i. absurd (cc)) (each_within names words h.roles h.named))

set_filled : (names words : List (List ℕ)) (set : List ℕ) → 1 ≤ length words → NamesSet names words set → (role : ℕ) × IsIn set role
set_filled names [] set l h = absurd (omega arith)
set_filled names (word ∷ words) set l h = (
  h.named.0,
  subst (λ (s : List ℕ). IsIn s h.named.0) (sym (h.set_is ∙ ap (λ (r : List ℕ). fold with_role [] r) h.named.4))
      (still_in (h.named.0 ∷ []) h.named.1 h.named.0 (here h.named.0)),
)
  where
    here : (role : ℕ) → IsIn (role ∷ []) role
    here role = ap (λ (t : Bool). t || false) (eq-eqb role role refl)

sets_below : (names : List (List ℕ)) (lists : List (List (List ℕ))) (sets : List (List ℕ)) → NameSets names lists sets
    → Each (AreBelow (length names)) sets
sets_below names [] sets h = subst (Each (AreBelow (length names))) (sym h) tt
sets_below names (words ∷ lists) sets h =
    subst (Each (AreBelow (length names))) (sym h.4) (set_below names words h.0 h.2, sets_below names lists h.1 h.3)

sets_filled : (names : List (List ℕ)) (lists : List (List (List ℕ))) (sets : List (List ℕ)) → Each IsNameList lists → NameSets names lists sets
    → Each (λ hit. (role : ℕ) × IsIn hit role) sets
sets_filled names [] sets w h = subst (Each (λ hit. (role : ℕ) × IsIn hit role)) (sym h) tt
sets_filled names (words ∷ lists) sets w h =
    subst (Each (λ hit. (role : ℕ) × IsIn hit role)) (sym h.4) (set_filled names words h.0 w.0.some h.2, sets_filled names lists h.1 w.1 h.3)

need_written : (names : List (List ℕ)) (hits : List (List (List ℕ))) (lacks : List (List ℕ)) (need : Need) → Each IsNameList hits
    → NamesNeed names hits lacks need → IsWritten (length names) need
need_written names hits lacks need w h = record {
  hits = sets_below names hits need.hits h.hits_are;
  lacks = set_below names lacks need.lacks h.lacks_are;
  filled = sets_filled names hits need.hits w h.hits_are;
}

origin_known : (names : List (List ℕ)) (written : WrittenOrigin) (origin : Origin) → NamesOrigin names written origin
    → IsKnownOrigin (length names) origin
origin_known names (a_goal place) origin h = subst (IsKnownOrigin (length names)) (sym h) tt
origin_known names (an_assign parent rule conjunct role target admin) origin h =
    subst (IsKnownOrigin (length names)) (sym h.2) (place_within names role h.0 h.1)
origin_known names (a_weak parent rule role target admin) origin h =
    subst (IsKnownOrigin (length names)) (sym h.2) (place_within names role h.0 h.1)

-- lists whose last item changes

each_last : {A : Type 0} (P : A → Type 0) (change : A → A) (xs : List A) → ((x : A) → P x → P (change x)) → Each P xs → Each P (in_last change xs)
each_last P change [] f h = tt
each_last P change (x ∷ []) f h = (f x h.0, tt)
each_last P change (x ∷ y ∷ ys) f h = (h.0, each_last P change (y ∷ ys) f h.1)

pub length_last : {A : Type 0} (change : A → A) (xs : List A) → length (in_last change xs) ≡ length xs
length_last change [] = refl
length_last change (x ∷ []) = refl
length_last change (x ∷ y ∷ ys) = ap suc (length_last change (y ∷ ys))

each_more : {A : Type 0} (P : A → Type 0) (xs : List A) (x : A) → Each P xs → P x → Each P (xs ++ x ∷ [])
each_more P xs x h p = each_append P xs (x ∷ []) h (p, tt)

-- drafts

-- the roles of the draft are known, its hits have roles, its limit may be told
abbrev AreKnown : ℕ → Draft → Type 0
AreKnown count nothing = Unit {0}
AreKnown count (plan start acts) = Each (λ (act : Act). act.role < count) acts
AreKnown count (list needs) = Each (Each (IsWritten count)) needs
AreKnown count (steps limit recorded) = (1 ≤ limit) × (limit ≤ MOST_LIMIT) × Each (IsWrittenEntry count) recorded
AreKnown count (last limit recorded next) =
    (1 ≤ limit) × (limit ≤ MOST_LIMIT) × (1 ≤ length recorded) × Each (IsWrittenEntry count) recorded × IsWrittenEntry count next

entry_more : (count : ℕ) (need : Need) (entry : Entry) → IsWritten count need → IsWrittenEntry count entry
    → IsWrittenEntry count (with_step_user need entry)
entry_more count need entry w h = record { origin = h.origin; needs = each_more (IsWritten count) entry.needs need h.needs w }

known_more : (names : List (List ℕ)) (draft next : Draft) (form : LineForm) → IsWellFormed form → AreKnown (length names) draft
    → Adds names draft form next → AreKnown (length names) next
known_more names nothing next a_reachable w k a = subst (AreKnown (length names)) (sym a.extends) tt
known_more names nothing next an_unreachable w k a = subst (AreKnown (length names)) (sym a.extends) tt
known_more names nothing next (an_undecided limit) w k a = subst (AreKnown (length names)) (sym a.extends) (w.0, w.1, tt)
known_more names (plan start acts) next (a_start profile) w k a = subst (AreKnown (length names)) (sym a.extends) k
known_more names (plan start acts) next (an_act written) w k a =
    let act = a.extends.0 in
    subst (AreKnown (length names)) (sym a.extends.2)
    (each_more (λ (act : Act). act.role < length names) acts act k (place_within names written.role act.role a.extends.1.role))
known_more names (list needs) next a_need w k a =
    subst (AreKnown (length names)) (sym a.extends) (each_more (Each (IsWritten (length names))) needs [] k tt)
known_more names (list needs) next (a_user hits lacks) w k a =
    let need = a.extends.0 in
    let written = need_written names hits lacks need w.0 a.extends.1 in
    subst (AreKnown (length names)) (sym a.extends.2)
    (each_last (Each (IsWritten (length names))) (with_user need) needs
    (λ users h. each_more (IsWritten (length names)) users need h written) k)
known_more names (steps limit recorded) next (a_step written) w k a =
    let origin = a.extends.0 in
    subst (AreKnown (length names)) (sym a.extends.2) (
      k.0,
      k.1,
      each_more (IsWrittenEntry (length names)) recorded (new_step origin) k.2
          (record { origin = origin_known names written origin a.extends.1; needs = tt }),
    )
known_more names (steps limit recorded) next (a_user hits lacks) w k a =
    let need = a.extends.0 in
    let written = need_written names hits lacks need w.0 a.extends.1 in
    subst (AreKnown (length names)) (sym a.extends.2) (
      k.0,
      k.1,
      each_last (IsWrittenEntry (length names)) (with_step_user need) recorded
          (λ entry h. entry_more (length names) need entry written h) k.2,
    )
known_more names (steps limit recorded) next (a_next written) w k a =
    let origin = a.extends.0 in
    subst (AreKnown (length names)) (sym a.extends.2)
    (k.0, k.1, a.place, k.2, record { origin = origin_known names written origin a.extends.1; needs = tt })
known_more names (last limit recorded entry) next (a_user hits lacks) w k a =
    let need = a.extends.0 in
    let written = need_written names hits lacks need w.0 a.extends.1 in
    subst (AreKnown (length names)) (sym a.extends.2)
    (k.0, k.1, k.2, k.3, entry_more (length names) need entry written k.4)
known_more names draft next form w k a = absurd a.place

known_all : (names : List (List ℕ)) (draft end : Draft) (lines : List LineForm) → Each IsWellFormed lines → AreKnown (length names) draft
    → AddAll names draft lines end → AreKnown (length names) end
known_all names draft end [] w k a = subst (AreKnown (length names)) (sym a) k
known_all names draft end (line ∷ lines) w k a = known_all names a.0 end lines w.1 (known_more names draft a.0 line w.0 k a.1) a.2

known_whole : (count : ℕ) (draft : Draft) (cert : Certificate) → AreKnown count draft → IsWhole draft cert → IsCertificate count cert
known_whole count nothing cert k w = absurd w
known_whole count (plan start acts) cert k w = subst (IsCertificate count) (sym w) k
known_whole count (list needs) cert k w = subst (IsCertificate count) (sym w) k
known_whole count (steps limit recorded) cert k w = absurd w
known_whole count (last limit recorded next) cert k w = subst (IsCertificate count) (sym w) k

-- what a text stands for can be written
pub known_of : (names : List (List ℕ)) (bytes : List ℕ) (cert : Certificate) → StandsFor names bytes cert → IsCertificate (length names) cert
known_of names bytes cert h =
    known_whole (length names) h.draft cert (known_all names nothing h.draft h.read.lines h.read.formed tt h.read.added) h.whole
