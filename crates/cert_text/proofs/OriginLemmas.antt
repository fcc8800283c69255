-- An origin is read from its spelling, and from that alone.
use Rattle.std.proofs.Common.{ℕ, ◌≡◌, ◌<◌, ◌^◌, Bool, true, false, List, ◌∷◌, ◌++◌, refl, sym, ◌∙◌, ap, subst, Option, Some, None, option_map, cond}
use Rattle.std.specs.Prelude.{codes}
use Rattle.std.specs.Fmt.{decimal}
use Rattle.std.specs.Str.{bytes_eq}
use Rattle.std.proofs.lemmas.Slice.Eq.{bytes_eq-Decides}
use Rattle.arbac_laws.specs.PreImages.{Pick, itself, other, fresh}
use Rattle.cond_text.specs.Cuts.{IsName, cut, name_in}
use Rattle.text_lines.specs.Numbers.{is_numeral, number_in}
use Rattle.cert_text.specs.LineForms.{WrittenOrigin, a_goal, an_assign, a_weak, IsWrittenPick, IsWrittenOrigin, spell_pick, spell_origin}
use Rattle.cert_text.specs.Spelling.{number_before, name_before, pick_in, goal_in, assign_in, weak_in, act_behind, pre_in, origin_in}
use Rattle.list_words.proofs.GetLemmas.{same_some}
use Rattle.cond_text.proofs.CutLemmas.{step_of, cut_behind, cut_is}
use Rattle.cond_text.proofs.NamedLemmas.{name_lacks, name_found, named}
use Rattle.text_lines.proofs.NumberLemmas.{number_found, decimal_lacks, number_is}

number_first : (n : ℕ) (rest : List ℕ) → n < 2 ^ 32 → number_before (decimal n ++ (32 ∷ rest)) ≡ Some (n, rest)
unfolding number_before
number_first n rest h = rw (cut_behind 32 (decimal n) rest (decimal_lacks 32 n refl h), number_found n h) refl

name_first : (name rest : List ℕ) → IsName name → name_before (name ++ (32 ∷ rest)) ≡ Some (name, rest)
unfolding name_before
name_first name rest h = rw (cut_behind 32 name rest (name_lacks 32 name refl h), name_found name h) refl

differ : (n : ℕ) → None ≡ Some n → ⊥
differ n same = cc

-- a word that is no number isn't the digits of one
no_digits : (word : List ℕ) (n : ℕ) → number_in word ≡ None → n < 2 ^ 32 → bytes_eq (decimal n) word ≡ false
no_digits word n none h = by_test (bytes_eq (decimal n) word) refl
  where
    by_test : (t : Bool) → bytes_eq (decimal n) word ≡ t → t ≡ false
    by_test true e =
        let same : decimal n ≡ word = (bytes_eq-Decides (decimal n) word).0 e in
        absurd (differ n (sym none ∙ ap number_in (sym same) ∙ number_found n h))
    by_test false e = refl

self_unread : number_in (codes "self") ≡ None
unfolding number_in is_numeral
self_unread = refl

new_unread : number_in (codes "new") ≡ None
unfolding number_in is_numeral
new_unread = refl

pick_found : (pick : Pick) → IsWrittenPick pick → pick_in (spell_pick pick) ≡ Some pick
unfolding pick_in
pick_found itself h = refl
pick_found (other place) h = rw (no_digits (codes "self") place self_unread h, no_digits (codes "new") place new_unread h, number_found place h) refl
pick_found fresh h = refl

goal_found : (place : ℕ) → place < 2 ^ 32 → goal_in (decimal place) ≡ Some (a_goal place)
unfolding goal_in
goal_found place h = rw (number_found place h) refl

assign_found : (parent rule conjunct : ℕ) (role : List ℕ) (target : ℕ) (admin : Pick) → rule < 2 ^ 32 → conjunct < 2 ^ 32 → IsName role
    → target < 2 ^ 32 → IsWrittenPick admin
    → assign_in parent (decimal rule ++ (32 ∷ (decimal conjunct ++ (32 ∷ (role ++ (32 ∷ (decimal target ++ (32 ∷ spell_pick admin))))))))
    ≡ Some (an_assign parent rule conjunct role target admin)
unfolding assign_in
assign_found parent rule conjunct role target admin r c n t a =
    rw (
      number_first rule (decimal conjunct ++ (32 ∷ (role ++ (32 ∷ (decimal target ++ (32 ∷ spell_pick admin)))))) r,
      number_first conjunct (role ++ (32 ∷ (decimal target ++ (32 ∷ spell_pick admin)))) c,
      name_first role (decimal target ++ (32 ∷ spell_pick admin)) n,
      number_first target (spell_pick admin) t,
      pick_found admin a,
    ) refl

weak_found : (parent rule : ℕ) (role : List ℕ) (target : ℕ) (admin : Pick) → rule < 2 ^ 32 → IsName role → target < 2 ^ 32 → IsWrittenPick admin
    → weak_in parent (decimal rule ++ (32 ∷ (role ++ (32 ∷ (decimal target ++ (32 ∷ spell_pick admin)))))) ≡ Some (a_weak parent rule role target admin)
unfolding weak_in
weak_found parent rule role target admin r n t a =
    rw (
      number_first rule (role ++ (32 ∷ (decimal target ++ (32 ∷ spell_pick admin)))) r,
      name_first role (decimal target ++ (32 ∷ spell_pick admin)) n,
      number_first target (spell_pick admin) t,
      pick_found admin a,
    ) refl

cut_assign : (rest : List ℕ) → cut 32 (codes "assign " ++ rest) ≡ Some (codes "assign", rest)
unfolding cut
cut_assign rest = refl

cut_weak : (rest : List ℕ) → cut 32 (codes "weak " ++ rest) ≡ Some (codes "weak", rest)
unfolding cut
cut_weak rest = refl

at_assign : (parent : ℕ) (rest : List ℕ) → parent < 2 ^ 32 → pre_in (decimal parent ++ (codes " assign " ++ rest)) ≡ assign_in parent rest
unfolding pre_in
at_assign parent rest h = rw (number_first parent (codes "assign " ++ rest) h, cut_assign rest) refl

at_weak : (parent : ℕ) (rest : List ℕ) → parent < 2 ^ 32 → pre_in (decimal parent ++ (codes " weak " ++ rest)) ≡ weak_in parent rest
unfolding pre_in
at_weak parent rest h = rw (number_first parent (codes "weak " ++ rest) h, cut_weak rest) refl

at_goal : (rest : List ℕ) → origin_in (codes "goal " ++ rest) ≡ goal_in rest
unfolding origin_in cut
at_goal rest = refl

at_pre : (rest : List ℕ) → origin_in (codes "pre " ++ rest) ≡ pre_in rest
unfolding origin_in cut
at_pre rest = refl

-- an origin is read from its spelling
pub origin_found : (origin : WrittenOrigin) → IsWrittenOrigin origin → origin_in (spell_origin origin) ≡ Some origin
origin_found (a_goal place) h = at_goal (decimal place) ∙ goal_found place h
origin_found (an_assign parent rule conjunct role target admin) h =
    let rest = decimal rule ++ (32 ∷ (decimal conjunct ++ (32 ∷ (role ++ (32 ∷ (decimal target ++ (32 ∷ spell_pick admin))))))) in
    at_pre (decimal parent ++ (codes " assign " ++ rest)) ∙ at_assign parent rest h.0
    ∙ assign_found parent rule conjunct role target admin h.1 h.2 h.3 h.4 h.5
origin_found (a_weak parent rule role target admin) h =
    let rest = decimal rule ++ (32 ∷ (role ++ (32 ∷ (decimal target ++ (32 ∷ spell_pick admin))))) in
    at_pre (decimal parent ++ (codes " weak " ++ rest)) ∙ at_weak parent rest h.0 ∙ weak_found parent rule role target admin h.1 h.2 h.3 h.4

number_first_is : (text : List ℕ) (p : ℕ × List ℕ) → number_before text ≡ Some p → (p.0 < 2 ^ 32) × (decimal p.0 ++ (32 ∷ p.1) ≡ text)
unfolding number_before
number_first_is text p e =
    let first = step_of (cut 32 text) _ p e in
    let number = step_of (number_in first.0.0) _ p first.2 in
    let n = number_is first.0.0 number.0 number.1 in
    let same = same_some (number.0, first.0.1) p number.2 in
    let P : ℕ × List ℕ → Type 0 = λ q. (q.0 < 2 ^ 32) × (decimal q.0 ++ (32 ∷ q.1) ≡ text) in
    subst P same (n.0, ap (λ t. t ++ (32 ∷ first.0.1)) n.1 ∙ cut_is 32 text first.0 first.1)

name_first_is : (text : List ℕ) (p : List ℕ × List ℕ) → name_before text ≡ Some p → IsName p.0 × (p.0 ++ (32 ∷ p.1) ≡ text)
unfolding name_before
name_first_is text p e =
    let first = step_of (cut 32 text) _ p e in
    let name = step_of (name_in first.0.0) _ p first.2 in
    let n = named first.0.0 name.0 name.1 in
    let same = same_some (name.0, first.0.1) p name.2 in
    let P : List ℕ × List ℕ → Type 0 = λ q. IsName q.0 × (q.0 ++ (32 ∷ q.1) ≡ text) in
    subst P same (n.0, ap (λ t. t ++ (32 ∷ first.0.1)) n.1 ∙ cut_is 32 text first.0 first.1)

pick_is : (word : List ℕ) (pick : Pick) → pick_in word ≡ Some pick → IsWrittenPick pick × (spell_pick pick ≡ word)
unfolding pick_in
pick_is word pick e = by_self (bytes_eq word (codes "self")) refl e
  where
    by_place : (o : Option ℕ) → number_in word ≡ o → option_map other o ≡ Some pick → IsWrittenPick pick × (spell_pick pick ≡ word)
    by_place None f e = absurd (cc)
    by_place (Some place) f e =
        let P : Pick → Type 0 = λ it. IsWrittenPick it × (spell_pick it ≡ word) in
        subst P (same_some (other place) pick e) (number_is word place f)

    by_new : (t : Bool) → bytes_eq word (codes "new") ≡ t → cond t (Some fresh) (option_map other (number_in word)) ≡ Some pick
        → IsWrittenPick pick × (spell_pick pick ≡ word)
    by_new true t e =
        let P : Pick → Type 0 = λ it. IsWrittenPick it × (spell_pick it ≡ word) in
        subst P (same_some fresh pick e) (tt, sym ((bytes_eq-Decides word (codes "new")).0 t))
    by_new false t e = by_place (number_in word) refl e

    by_self : (t : Bool) → bytes_eq word (codes "self") ≡ t
        → cond t (Some itself) (cond (bytes_eq word (codes "new")) (Some fresh) (option_map other (number_in word))) ≡ Some pick
        → IsWrittenPick pick × (spell_pick pick ≡ word)
    by_self true t e =
        let P : Pick → Type 0 = λ it. IsWrittenPick it × (spell_pick it ≡ word) in
        subst P (same_some itself pick e) (tt, sym ((bytes_eq-Decides word (codes "self")).0 t))
    by_self false t e = by_new (bytes_eq word (codes "new")) refl e

-- the origin is one, and the text is its spelling
abbrev Spells : List ℕ → WrittenOrigin → Type 0
Spells text origin = IsWrittenOrigin origin × (spell_origin origin ≡ text)

goal_is : (rest : List ℕ) (origin : WrittenOrigin) → goal_in rest ≡ Some origin → Spells (codes "goal " ++ rest) origin
unfolding goal_in
goal_is rest origin e =
    let place = step_of (number_in rest) _ origin e in
    let n = number_is rest place.0 place.1 in
    subst (Spells (codes "goal " ++ rest)) (same_some (a_goal place.0) origin place.2) (n.0, ap (λ t. codes "goal " ++ t) n.1)

-- the pieces of an assignment's origin, put together
assign_spelled : (parent rule conjunct : ℕ) (role : List ℕ) (target : ℕ) (admin : Pick) (text behind_rule behind_conjunct behind_role word : List ℕ)
    → decimal rule ++ (32 ∷ behind_rule) ≡ text → decimal conjunct ++ (32 ∷ behind_conjunct) ≡ behind_rule
    → role ++ (32 ∷ behind_role) ≡ behind_conjunct → decimal target ++ (32 ∷ word) ≡ behind_role → spell_pick admin ≡ word
    → spell_origin (an_assign parent rule conjunct role target admin) ≡ codes "pre " ++ (decimal parent ++ (codes " assign " ++ text))
assign_spelled parent rule conjunct role target admin text behind_rule behind_conjunct behind_role word r c n t a = rw (a, t, n, c, r) refl

assign_is : (parent : ℕ) (rest : List ℕ) (origin : WrittenOrigin) → parent < 2 ^ 32 → assign_in parent rest ≡ Some origin
    → Spells (codes "pre " ++ (decimal parent ++ (codes " assign " ++ rest))) origin
unfolding assign_in
assign_is parent rest origin h e =
    let rule = step_of (number_before rest) _ origin e in
    let conjunct = step_of (number_before rule.0.1) _ origin rule.2 in
    let role = step_of (name_before conjunct.0.1) _ origin conjunct.2 in
    let target = step_of (number_before role.0.1) _ origin role.2 in
    let admin = step_of (pick_in target.0.1) _ origin target.2 in
    let r = number_first_is rest rule.0 rule.1 in
    let c = number_first_is rule.0.1 conjunct.0 conjunct.1 in
    let n = name_first_is conjunct.0.1 role.0 role.1 in
    let t = number_first_is role.0.1 target.0 target.1 in
    let a = pick_is target.0.1 admin.0 admin.1 in
    let made : WrittenOrigin = an_assign parent rule.0.0 conjunct.0.0 role.0.0 target.0.0 admin.0 in
    subst (Spells (codes "pre " ++ (decimal parent ++ (codes " assign " ++ rest)))) {x = made} (same_some made origin admin.2) (
      (h, r.0, c.0, n.0, t.0, a.0),
      assign_spelled parent rule.0.0 conjunct.0.0 role.0.0 target.0.0 admin.0 rest rule.0.1 conjunct.0.1 role.0.1 target.0.1 r.1 c.1 n.1 t.1 a.1,
    )

-- the pieces of a weak revocation's origin, put together
weak_spelled : (parent rule : ℕ) (role : List ℕ) (target : ℕ) (admin : Pick) (text behind_rule behind_role word : List ℕ)
    → decimal rule ++ (32 ∷ behind_rule) ≡ text → role ++ (32 ∷ behind_role) ≡ behind_rule → decimal target ++ (32 ∷ word) ≡ behind_role
    → spell_pick admin ≡ word → spell_origin (a_weak parent rule role target admin) ≡ codes "pre " ++ (decimal parent ++ (codes " weak " ++ text))
weak_spelled parent rule role target admin text behind_rule behind_role word r n t a = rw (a, t, n, r) refl

weak_is : (parent : ℕ) (rest : List ℕ) (origin : WrittenOrigin) → parent < 2 ^ 32 → weak_in parent rest ≡ Some origin
    → Spells (codes "pre " ++ (decimal parent ++ (codes " weak " ++ rest))) origin
unfolding weak_in
weak_is parent rest origin h e =
    let rule = step_of (number_before rest) _ origin e in
    let role = step_of (name_before rule.0.1) _ origin rule.2 in
    let target = step_of (number_before role.0.1) _ origin role.2 in
    let admin = step_of (pick_in target.0.1) _ origin target.2 in
    let r = number_first_is rest rule.0 rule.1 in
    let n = name_first_is rule.0.1 role.0 role.1 in
    let t = number_first_is role.0.1 target.0 target.1 in
    let a = pick_is target.0.1 admin.0 admin.1 in
    let made : WrittenOrigin = a_weak parent rule.0.0 role.0.0 target.0.0 admin.0 in
    subst (Spells (codes "pre " ++ (decimal parent ++ (codes " weak " ++ rest)))) {x = made} (same_some made origin admin.2) (
      (h, r.0, n.0, t.0, a.0),
      weak_spelled parent rule.0.0 role.0.0 target.0.0 admin.0 rest rule.0.1 role.0.1 target.0.1 r.1 n.1 t.1 a.1,
    )

act_is : (parent : ℕ) (found : List ℕ × List ℕ) (origin : WrittenOrigin) → parent < 2 ^ 32 → act_behind parent found ≡ Some origin
    → Spells (codes "pre " ++ (decimal parent ++ (32 ∷ (found.0 ++ (32 ∷ found.1))))) origin
act_is parent found origin h e = by_assign (bytes_eq found.0 (codes "assign")) refl e
  where
    by_weak : (t : Bool) → bytes_eq found.0 (codes "weak") ≡ t → cond t (weak_in parent found.1) None ≡ Some origin
        → Spells (codes "pre " ++ (decimal parent ++ (32 ∷ (found.0 ++ (32 ∷ found.1))))) origin
    by_weak true t e =
        let P : List ℕ → Type 0 = λ word. Spells (codes "pre " ++ (decimal parent ++ (32 ∷ (word ++ (32 ∷ found.1))))) origin in
        subst P (sym ((bytes_eq-Decides found.0 (codes "weak")).0 t)) (weak_is parent found.1 origin h e)
    by_weak false t e = absurd (cc)

    by_assign : (t : Bool) → bytes_eq found.0 (codes "assign") ≡ t
        → cond t (assign_in parent found.1) (cond (bytes_eq found.0 (codes "weak")) (weak_in parent found.1) None) ≡ Some origin
        → Spells (codes "pre " ++ (decimal parent ++ (32 ∷ (found.0 ++ (32 ∷ found.1))))) origin
    by_assign true t e =
        let P : List ℕ → Type 0 = λ word. Spells (codes "pre " ++ (decimal parent ++ (32 ∷ (word ++ (32 ∷ found.1))))) origin in
        subst P (sym ((bytes_eq-Decides found.0 (codes "assign")).0 t)) (assign_is parent found.1 origin h e)
    by_assign false t e = by_weak (bytes_eq found.0 (codes "weak")) refl e

pre_is : (rest : List ℕ) (origin : WrittenOrigin) → pre_in rest ≡ Some origin → Spells (codes "pre " ++ rest) origin
unfolding pre_in
pre_is rest origin e =
    let parent = step_of (number_before rest) _ origin e in
    let act = step_of (cut 32 parent.0.1) _ origin parent.2 in
    let p = number_first_is rest parent.0 parent.1 in
    let P : List ℕ → Type 0 = λ text. Spells text origin in
    subst P (ap (λ x. codes "pre " ++ (decimal parent.0.0 ++ (32 ∷ x))) (cut_is 32 parent.0.1 act.0 act.1) ∙ ap (λ x. codes "pre " ++ x) p.1)
    (act_is parent.0.0 act.0 origin p.0 act.2)

-- what is read as an origin is its spelling
pub origin_is : (text : List ℕ) (origin : WrittenOrigin) → origin_in text ≡ Some origin → IsWrittenOrigin origin × (spell_origin origin ≡ text)
unfolding origin_in
origin_is text origin e =
    let first = step_of (cut 32 text) _ origin e in
    let P : List ℕ → Type 0 = λ whole. Spells whole origin in
    subst P (cut_is 32 text first.0 first.1) (by_goal first.0 (bytes_eq first.0.0 (codes "goal")) refl first.2)
  where
    by_pre : (found : List ℕ × List ℕ) (t : Bool) → bytes_eq found.0 (codes "pre") ≡ t → cond t (pre_in found.1) None ≡ Some origin
        → Spells (found.0 ++ (32 ∷ found.1)) origin
    by_pre found true t e =
        let P : List ℕ → Type 0 = λ word. Spells (word ++ (32 ∷ found.1)) origin in
        subst P (sym ((bytes_eq-Decides found.0 (codes "pre")).0 t)) (pre_is found.1 origin e)
    by_pre found false t e = absurd (cc)

    by_goal : (found : List ℕ × List ℕ) (t : Bool) → bytes_eq found.0 (codes "goal") ≡ t
        → cond t (goal_in found.1) (cond (bytes_eq found.0 (codes "pre")) (pre_in found.1) None) ≡ Some origin
        → Spells (found.0 ++ (32 ∷ found.1)) origin
    by_goal found true t e =
        let P : List ℕ → Type 0 = λ word. Spells (word ++ (32 ∷ found.1)) origin in
        subst P (sym ((bytes_eq-Decides found.0 (codes "goal")).0 t)) (goal_is found.1 origin e)
    by_goal found false t e = by_pre found (bytes_eq found.0 (codes "pre")) refl e
