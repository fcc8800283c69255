-- An act is read from its spelling, and from that alone.
use Rattle.std.proofs.Common.{ℕ, ◌≡◌, List, ◌∷◌, ◌++◌, refl, sym, ◌∙◌, ap, subst, Some}
use Rattle.std.specs.Prelude.{codes}
use Rattle.std.specs.Fmt.{decimal}
use Rattle.arbac_policy.specs.declared.act.ActKind.{ActKind}
use Rattle.arbac_policy.specs.declared.act.ActKind.TheVariants.{Assign, Weak, Strong}
use Rattle.cond_text.specs.Cuts.{cut, name_in}
use Rattle.text_lines.specs.Numbers.{number_in}
use Rattle.text_lines.specs.Acts.{WrittenAct, IsWrittenAct, spell_kind, spell_act, kind_in, act_in}
use Rattle.cond_text.proofs.CutLemmas.{step_of, Lacks, cut_behind, cut_is}
use Rattle.cond_text.proofs.NamedLemmas.{name_found, named}
use Rattle.text_lines.proofs.WordLemmas.{pick}
use Rattle.text_lines.proofs.NumberLemmas.{number_found, decimal_lacks, number_is}
use Rattle.list_words.proofs.GetLemmas.{same_some}

kind_found : (kind : ActKind) → kind_in (spell_kind kind) ≡ Some kind
unfolding kind_in
kind_found Assign = refl
kind_found Weak = refl
kind_found Strong = refl

kind_lacks : (kind : ActKind) → Lacks 32 (spell_kind kind)
kind_lacks Assign = (refl, (refl, (refl, (refl, (refl, (refl, tt))))))
kind_lacks Weak = (refl, (refl, (refl, (refl, tt))))
kind_lacks Strong = (refl, (refl, (refl, (refl, (refl, (refl, tt))))))

kind_is : (word : List ℕ) (kind : ActKind) → kind_in word ≡ Some kind → word ≡ spell_kind kind
unfolding kind_in
kind_is word kind e =
    pick word (codes "assign") Assign kind _ spell_kind refl e
    (λ f. pick word (codes "weak") Weak kind _ spell_kind refl f
    (λ g. pick word (codes "strong") Strong kind _ spell_kind refl g (λ h. absurd (cc))))

-- an act is read from its spelling
pub act_found : (act : WrittenAct) → IsWrittenAct act → act_in (spell_act act) ≡ Some act
unfolding act_in
act_found act h =
    rw (
      cut_behind 32 (spell_kind act.kind) (decimal act.admin ++ (32 ∷ (decimal act.target ++ (32 ∷ act.role)))) (kind_lacks act.kind),
      kind_found act.kind,
      cut_behind 32 (decimal act.admin) (decimal act.target ++ (32 ∷ act.role)) (decimal_lacks 32 act.admin refl h.0),
      number_found act.admin h.0,
      cut_behind 32 (decimal act.target) act.role (decimal_lacks 32 act.target refl h.1),
      number_found act.target h.1,
      name_found act.role h.2,
    ) refl

-- what is read as an act is its spelling
pub act_is : (text : List ℕ) (act : WrittenAct) → act_in text ≡ Some act → IsWrittenAct act × (spell_act act ≡ text)
unfolding act_in
act_is text act e =
    let first = step_of (cut 32 text) _ act e in
    let kind = step_of (kind_in first.0.0) _ act first.2 in
    let second = step_of (cut 32 first.0.1) _ act kind.2 in
    let admin = step_of (number_in second.0.0) _ act second.2 in
    let third = step_of (cut 32 second.0.1) _ act admin.2 in
    let target = step_of (number_in third.0.0) _ act third.2 in
    let role = step_of (name_in third.0.1) _ act target.2 in
    let a = number_is second.0.0 admin.0 admin.1 in
    let t = number_is third.0.0 target.0 target.1 in
    let r = named third.0.1 role.0 role.1 in
    let made : WrittenAct = record { kind = kind.0; admin = admin.0; target = target.0; role = role.0 } in
    let same = same_some made act role.2 in
    let spelled : spell_act made ≡ text =
    ap (λ x. x ++ (32 ∷ (decimal admin.0 ++ (32 ∷ (decimal target.0 ++ (32 ∷ role.0)))))) (sym (kind_is first.0.0 kind.0 kind.1))
    ∙ ap (λ x. first.0.0 ++ (32 ∷ (x ++ (32 ∷ (decimal target.0 ++ (32 ∷ role.0)))))) a.1
    ∙ ap (λ x. first.0.0 ++ (32 ∷ (second.0.0 ++ (32 ∷ (x ++ (32 ∷ role.0)))))) t.1
    ∙ ap (λ x. first.0.0 ++ (32 ∷ (second.0.0 ++ (32 ∷ (third.0.0 ++ (32 ∷ x)))))) r.1
    ∙ ap (λ x. first.0.0 ++ (32 ∷ (second.0.0 ++ (32 ∷ x)))) (cut_is 32 second.0.1 third.0 third.1)
    ∙ ap (λ x. first.0.0 ++ (32 ∷ x)) (cut_is 32 first.0.1 second.0 second.1) ∙ cut_is 32 text first.0 first.1 in
    let P : WrittenAct → Type 0 = λ it. IsWrittenAct it × (spell_act it ≡ text) in
    subst P same ((a.0, t.0, r.0), spelled)
