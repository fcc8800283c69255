-- What a line says is one thing.
use Rattle.std.proofs.Common.{ℕ, ◌≡◌, List, [], ◌∷◌, ◌++◌, sym, ◌∙◌, ap, inl, inr}
use Rattle.std.specs.Prelude.{◌⊎◌}
use Rattle.list_words.specs.Lists.{Some_of}
use Rattle.list_words.proofs.GetLemmas.{same_some}
use Rattle.arbac_policy.specs.declared.act.Act.{Act}
use Rattle.arbac_laws.specs.Needs.{Need}
use Rattle.arbac_laws.specs.Obligations.{assigns, revokes}
use Rattle.arbac_laws.specs.Recorded.{Origin, of_parent}
use Rattle.cond_text.specs.Named.{Names, NameEach, NamesSet, IsUnknown, set_of}
use Rattle.text_lines.specs.Acts.{WrittenAct}
use Rattle.cert_text.specs.Certificates.{Certificate}
use Rattle.cert_text.specs.LineForms.{WrittenOrigin, a_goal, an_assign, a_weak, LineForm}
use Rattle.cert_text.specs.LineForms.{a_reachable, an_unreachable, an_undecided, a_start, an_act, a_need, a_step, a_next, a_user}
use Rattle.cert_text.specs.Drafts.{Draft, nothing, plan, list, steps, last, NamesAct, NamesOrigin, NameSets, NamesNeed, in_last, with_user}
use Rattle.cert_text.specs.Drafts.{with_step_user, new_step, Extends, IsWhole}
use Rattle.cert_text.specs.Faults.{HasUnknownRole, HasUnknown}

-- names

role_one : (names : List (List ℕ)) (name : List ℕ) (a b : ℕ) → Names names name a → Names names name b → a ≡ b
role_one names name a b h k = same_some a b (sym h ∙ k)

roles_one : (names wanted : List (List ℕ)) (a b : List ℕ) → NameEach names wanted a → NameEach names wanted b → a ≡ b
roles_one names [] a b h k = h ∙ sym k
roles_one names (word ∷ wanted) a b h k =
    h.4 ∙ ap (λ (r : ℕ). r ∷ h.1) (role_one names word h.0 k.0 h.2 k.2) ∙ ap (λ (r : List ℕ). k.0 ∷ r) (roles_one names wanted h.1 k.1 h.3 k.3)
    ∙ sym k.4

set_one : (names wanted : List (List ℕ)) (a b : List ℕ) → NamesSet names wanted a → NamesSet names wanted b → a ≡ b
set_one names wanted a b h k = h.set_is ∙ ap set_of (roles_one names wanted h.roles k.roles h.named k.named) ∙ sym k.set_is

sets_one : (names : List (List ℕ)) (lists : List (List (List ℕ))) (a b : List (List ℕ)) → NameSets names lists a → NameSets names lists b → a ≡ b
sets_one names [] a b h k = h ∙ sym k
sets_one names (words ∷ lists) a b h k =
    h.4 ∙ ap (λ (s : List ℕ). s ∷ h.1) (set_one names words h.0 k.0 h.2 k.2)
    ∙ ap (λ (s : List (List ℕ)). k.0 ∷ s) (sets_one names lists h.1 k.1 h.3 k.3) ∙ sym k.4

act_one : (names : List (List ℕ)) (written : WrittenAct) (a b : Act) → NamesAct names written a → NamesAct names written b → a ≡ b
act_one names written a b h k =
    ap (λ x. record { kind = x; admin = a.admin; target = a.target; role = a.role }) (h.kind ∙ sym k.kind)
    ∙ ap (λ (x : ℕ). record { kind = b.kind; admin = x; target = a.target; role = a.role }) (h.admin ∙ sym k.admin)
    ∙ ap (λ (x : ℕ). record { kind = b.kind; admin = b.admin; target = x; role = a.role }) (h.target ∙ sym k.target)
    ∙ ap (λ (x : ℕ). record { kind = b.kind; admin = b.admin; target = b.target; role = x }) (role_one names written.role a.role b.role h.role k.role)

origin_one : (names : List (List ℕ)) (written : WrittenOrigin) (a b : Origin) → NamesOrigin names written a → NamesOrigin names written b → a ≡ b
origin_one names (a_goal place) a b h k = h ∙ sym k
origin_one names (an_assign parent rule conjunct role target admin) a b h k =
    h.2 ∙ ap (λ (r : ℕ). of_parent parent (assigns rule conjunct r target admin)) (role_one names role h.0 k.0 h.1 k.1) ∙ sym k.2
origin_one names (a_weak parent rule role target admin) a b h k =
    h.2 ∙ ap (λ (r : ℕ). of_parent parent (revokes rule r target admin)) (role_one names role h.0 k.0 h.1 k.1) ∙ sym k.2

need_one : (names : List (List ℕ)) (hits : List (List (List ℕ))) (lacks : List (List ℕ)) (a b : Need) → NamesNeed names hits lacks a
    → NamesNeed names hits lacks b → a ≡ b
need_one names hits lacks a b h k =
    ap (λ (x : List (List ℕ)). record { hits = x; lacks = a.lacks }) (sets_one names hits a.hits b.hits h.hits_are k.hits_are)
    ∙ ap (λ (x : List ℕ). record { hits = b.hits; lacks = x }) (set_one names lacks a.lacks b.lacks h.lacks_are k.lacks_are)

-- with one line a draft becomes one draft
pub extends_one : (names : List (List ℕ)) (draft : Draft) (form : LineForm) (a b : Draft) → Extends names draft form a → Extends names draft form b
    → a ≡ b
extends_one names nothing a_reachable a b h k = h ∙ sym k
extends_one names nothing an_unreachable a b h k = h ∙ sym k
extends_one names nothing (an_undecided limit) a b h k = h ∙ sym k
extends_one names (plan start acts) (a_start profile) a b h k = h ∙ sym k
extends_one names (plan start acts) (an_act written) a b h k =
    h.2 ∙ ap (λ (act : Act). plan start (acts ++ act ∷ [])) (act_one names written h.0 k.0 h.1 k.1) ∙ sym k.2
extends_one names (list needs) a_need a b h k = h ∙ sym k
extends_one names (list needs) (a_user hits lacks) a b h k =
    h.2 ∙ ap (λ (need : Need). list (in_last (with_user need) needs)) (need_one names hits lacks h.0 k.0 h.1 k.1) ∙ sym k.2
extends_one names (steps limit recorded) (a_step written) a b h k =
    h.2 ∙ ap (λ (origin : Origin). steps limit (recorded ++ new_step origin ∷ [])) (origin_one names written h.0 k.0 h.1 k.1) ∙ sym k.2
extends_one names (steps limit recorded) (a_user hits lacks) a b h k =
    h.2 ∙ ap (λ (need : Need). steps limit (in_last (with_step_user need) recorded)) (need_one names hits lacks h.0 k.0 h.1 k.1) ∙ sym k.2
extends_one names (steps limit recorded) (a_next written) a b h k =
    h.2 ∙ ap (λ (origin : Origin). last limit recorded (new_step origin)) (origin_one names written h.0 k.0 h.1 k.1) ∙ sym k.2
extends_one names (last limit recorded entry) (a_user hits lacks) a b h k =
    h.2 ∙ ap (λ (need : Need). last limit recorded (with_step_user need entry)) (need_one names hits lacks h.0 k.0 h.1 k.1) ∙ sym k.2
extends_one names draft form a b h k = absurd h

-- a draft is one certificate
pub whole_one : (draft : Draft) (a b : Certificate) → IsWhole draft a → IsWhole draft b → a ≡ b
whole_one nothing a b h k = absurd h
whole_one (plan start acts) a b h k = h ∙ sym k
whole_one (list needs) a b h k = h ∙ sym k
whole_one (steps limit recorded) a b h k = absurd h
whole_one (last limit recorded entry) a b h k = h ∙ sym k

-- unknown names

named_clash : (names : List (List ℕ)) (name : List ℕ) (role : ℕ) → Names names name role → IsUnknown names name → ⊥
named_clash names name role h k = absurd (cc)

each_clash : (names words : List (List ℕ)) (roles : List ℕ) → NameEach names words roles → Some_of (IsUnknown names) words → ⊥
each_clash names [] roles h u = u
each_clash names (word ∷ words) roles h (inl u) = named_clash names word h.0 h.2 u
each_clash names (word ∷ words) roles h (inr u) = each_clash names words h.1 h.3 u

sets_clash : (names : List (List ℕ)) (lists : List (List (List ℕ))) (sets : List (List ℕ)) → NameSets names lists sets
    → Some_of (Some_of (IsUnknown names)) lists → ⊥
sets_clash names [] sets h u = u
sets_clash names (words ∷ lists) sets h (inl u) = each_clash names words h.2.roles h.2.named u
sets_clash names (words ∷ lists) sets h (inr u) = sets_clash names lists h.1 h.3 u

origin_clash : (names : List (List ℕ)) (written : WrittenOrigin) (origin : Origin) → NamesOrigin names written origin → HasUnknownRole names written → ⊥
origin_clash names (a_goal place) origin h u = u
origin_clash names (an_assign parent rule conjunct role target admin) origin h u = named_clash names role h.0 h.1 u
origin_clash names (a_weak parent rule role target admin) origin h u = named_clash names role h.0 h.1 u

need_clash : (names : List (List ℕ)) (hits : List (List (List ℕ))) (lacks : List (List ℕ)) (need : Need) → NamesNeed names hits lacks need
    → Some_of (Some_of (IsUnknown names)) hits ⊎ Some_of (IsUnknown names) lacks → ⊥
need_clash names hits lacks need h (inl u) = sets_clash names hits need.hits h.hits_are u
need_clash names hits lacks need h (inr u) = each_clash names lacks h.lacks_are.roles h.lacks_are.named u

-- a right line has no unknown name
pub known_clash : (names : List (List ℕ)) (draft : Draft) (form : LineForm) (next : Draft) → Extends names draft form next → HasUnknown names form → ⊥
known_clash names (plan start acts) (an_act written) next h u = named_clash names written.role h.0.role h.1.role u
known_clash names (list needs) (a_user hits lacks) next h u = need_clash names hits lacks h.0 h.1 u
known_clash names (steps limit recorded) (a_step written) next h u = origin_clash names written h.0 h.1 u
known_clash names (steps limit recorded) (a_user hits lacks) next h u = need_clash names hits lacks h.0 h.1 u
known_clash names (steps limit recorded) (a_next written) next h u = origin_clash names written h.0 h.1 u
known_clash names (last limit recorded entry) (a_user hits lacks) next h u = need_clash names hits lacks h.0 h.1 u
known_clash names (plan start acts) (a_start profile) next h u = u
known_clash names (list needs) a_need next h u = u
known_clash names nothing a_reachable next h u = u
known_clash names nothing an_unreachable next h u = u
known_clash names nothing (an_undecided limit) next h u = u
known_clash names draft form next h u = absurd h
