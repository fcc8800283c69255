-- What the machine accepts stands for its term: each state is drawn with phrases in place of terms.
use Rattle.std.proofs.Common.{◌≡◌, ◌∙◌, ap, subst, refl, List, [], ◌∷◌, map, Option, Some, None}
use Rattle.std.specs.Prelude.{option_map}
use Rattle.std.proofs.lemmas.Option.{option_and_then_some}
use Rattle.std.proofs.lemmas.Bool.{false≢true}
use Rattle.cond_text.specs.declared.word.Word.{Word}
use Rattle.cond_text.specs.declared.word.Word.TheVariants.{Any, Name, Not, And, Or, Open, Close, Stray}
use Rattle.cond_text.specs.declared.level.Level.{Level}
use Rattle.cond_text.specs.declared.level.Level.TheVariants.{Operand, Conjunction, Condition}
use Rattle.arbac_policy.specs.Truth.{Term}
use Rattle.cond_text.specs.Grammar.{Phrase, an_any, a_name, a_not, enclosed, an_and, an_or, IsAt, spell, value, Stands}
use Rattle.cond_text.specs.Machine.{Frame, State, wants_operand, wants_name, has_conjunction, and_with, or_with, step, go, finish, start, accept}
use Rattle.list_words.proofs.GetLemmas.{same_some}

-- a phrase of the level, where there is one
abbrev IsMaybe : Level → Option Phrase → Type 0
IsMaybe level None = Unit {0}
IsMaybe level (Some p) = IsAt level p

abbrev spell_ors : Option Phrase → List Word → List Word
spell_ors None rest = rest
spell_ors (Some p) rest = spell p (Or ∷ rest)

abbrev spell_ands : Option Phrase → List Word → List Word
spell_ands None rest = rest
spell_ands (Some p) rest = spell p (And ∷ rest)

abbrev or_phrase : Option Phrase → Phrase → Phrase
or_phrase None q = q
or_phrase (Some p) q = an_or p q

-- a frame with phrases in place of terms
record Draft : Type 0 where
  ors : Option Phrase
  ands : Option Phrase
  ors_at : IsMaybe Condition ors
  ands_at : IsMaybe Conjunction ands

abbrev frame_of : Draft → Frame
frame_of d = record { ors = option_map value d.ors; ands = option_map value d.ands }

abbrev spell_draft : Draft → List Word → List Word
spell_draft d rest = spell_ors d.ors (spell_ands d.ands rest)

abbrev spell_drafts : List Draft → List Word → List Word
spell_drafts [] rest = rest
spell_drafts (d ∷ ds) rest = spell_drafts ds (spell_draft d (Open ∷ rest))

data Draw : Type 0 where
  drawn_operand : List Draft → Draft → Draw
  drawn_name : List Draft → Draft → Draw
  drawn_conjunction : List Draft → (ors : Option Phrase) → (p : Phrase) → IsMaybe Condition ors → IsAt Conjunction p → Draw

abbrev state_of : Draw → State
state_of (drawn_operand ds d) = wants_operand (map frame_of ds) (frame_of d)
state_of (drawn_name ds d) = wants_name (map frame_of ds) (frame_of d)
state_of (drawn_conjunction ds ors p h k) = has_conjunction (map frame_of ds) (option_map value ors) (value p)

abbrev spell_draw : Draw → List Word → List Word
spell_draw (drawn_operand ds d) rest = spell_drafts ds (spell_draft d rest)
spell_draw (drawn_name ds d) rest = spell_drafts ds (spell_draft d (Not ∷ rest))
spell_draw (drawn_conjunction ds ors p h k) rest = spell_drafts ds (spell_ors ors (spell p rest))

-- the next state, with its phrases
record Next (draw : Draw) (w : Word) (next : State) : Type 0 where
  drawn : Draw
  same : state_of drawn ≡ next
  spelled : (rest : List Word) → spell_draw drawn rest ≡ spell_draw draw (w ∷ rest)

operand_next : (draw : Draw) (w : Word) (ds : List Draft) (ors ands : Option Phrase) (q : Phrase) (next : State) → IsMaybe Condition ors
    → IsMaybe Conjunction ands → IsAt Operand q → IsAt Conjunction q
    → ((rest : List Word) → spell_drafts ds (spell_ors ors (spell_ands ands (spell q rest))) ≡ spell_draw draw (w ∷ rest))
    → has_conjunction (map frame_of ds) (option_map value ors) (and_with (option_map value ands) (value q)) ≡ next
    → Next draw w next
operand_next draw w ds ors None q next h k i j spelled e = record { drawn = drawn_conjunction ds ors q h j; same = e; spelled = spelled }
operand_next draw w ds ors (Some p) q next h k i j spelled e =
    record { drawn = drawn_conjunction ds ors (an_and p q) h (refl, k, i); same = e; spelled = spelled }

wanting_next : (ds : List Draft) (d : Draft) (w : Word) (next : State) → step (state_of (drawn_operand ds d)) w ≡ Some next
    → Next (drawn_operand ds d) w next
wanting_next ds d Any next e = operand_next (drawn_operand ds d) Any ds d.ors d.ands an_any next d.ors_at d.ands_at tt tt (λ rest. refl) (same_some _ _ e)
wanting_next ds d (Name role) next e =
    operand_next (drawn_operand ds d) (Name role) ds d.ors d.ands (a_name role) next d.ors_at d.ands_at tt tt (λ rest. refl) (same_some _ _ e)
wanting_next ds d Not next e = record { drawn = drawn_name ds d; same = same_some _ _ e; spelled = λ rest. refl }
wanting_next ds d Open next e =
    record { drawn = drawn_operand (d ∷ ds) (record { ors = None; ands = None; ors_at = tt; ands_at = tt }); same = same_some _ _ e; spelled = λ rest. refl }
wanting_next ds d And next e = absurd (cc)
wanting_next ds d Or next e = absurd (cc)
wanting_next ds d Close next e = absurd (cc)
wanting_next ds d Stray next e = absurd (cc)

naming_next : (ds : List Draft) (d : Draft) (w : Word) (next : State) → step (state_of (drawn_name ds d)) w ≡ Some next → Next (drawn_name ds d) w next
naming_next ds d (Name role) next e =
    operand_next (drawn_name ds d) (Name role) ds d.ors d.ands (a_not role) next d.ors_at d.ands_at tt tt (λ rest. refl) (same_some _ _ e)
naming_next ds d Any next e = absurd (cc)
naming_next ds d Not next e = absurd (cc)
naming_next ds d Open next e = absurd (cc)
naming_next ds d And next e = absurd (cc)
naming_next ds d Or next e = absurd (cc)
naming_next ds d Close next e = absurd (cc)
naming_next ds d Stray next e = absurd (cc)

conjunction_is_condition : (p : Phrase) → IsAt Conjunction p → IsAt Condition p
conjunction_is_condition an_any h = tt
conjunction_is_condition (a_name role) h = tt
conjunction_is_condition (a_not role) h = tt
conjunction_is_condition (enclosed p) h = h
conjunction_is_condition (an_and p q) h = (refl, h.1, h.2)
conjunction_is_condition (an_or p q) h = absurd (false≢true h.0)

or_phrase_at : (ors : Option Phrase) (p : Phrase) → IsMaybe Condition ors → IsAt Conjunction p → IsAt Condition (or_phrase ors p)
or_phrase_at None p h k = conjunction_is_condition p k
or_phrase_at (Some q) p h k = (refl, h, k)

or_phrase_value : (ors : Option Phrase) (p : Phrase) → value (or_phrase ors p) ≡ or_with (option_map value ors) (value p)
or_phrase_value None p = refl
or_phrase_value (Some q) p = refl

or_phrase_spelled : (ors : Option Phrase) (p : Phrase) (rest : List Word) → spell (or_phrase ors p) rest ≡ spell_ors ors (spell p rest)
or_phrase_spelled None p rest = refl
or_phrase_spelled (Some q) p rest = refl

having_next : (ds : List Draft) (ors : Option Phrase) (p : Phrase) (h : IsMaybe Condition ors) (k : IsAt Conjunction p) (w : Word) (next : State)
    → step (state_of (drawn_conjunction ds ors p h k)) w ≡ Some next → Next (drawn_conjunction ds ors p h k) w next
having_next ds ors p h k And next e =
    record { drawn = drawn_operand ds (record { ors = ors; ands = Some p; ors_at = h; ands_at = k }); same = same_some _ _ e; spelled = λ rest. refl }
having_next ds ors p h k Or next e = record {
  drawn = drawn_operand ds (record { ors = Some (or_phrase ors p); ands = None; ors_at = or_phrase_at ors p h k; ands_at = tt });
  same = ap (λ t. wants_operand (map frame_of ds) (record { ors = Some t; ands = None })) (or_phrase_value ors p) ∙ same_some _ _ e;
  spelled = λ rest. ap (spell_drafts ds) (or_phrase_spelled ors p (Or ∷ rest));
}
having_next [] ors p h k Close next e = absurd (cc)
having_next (d ∷ ds) ors p h k Close next e =
    operand_next (drawn_conjunction (d ∷ ds) ors p h k) Close ds d.ors d.ands (enclosed (or_phrase ors p)) next d.ors_at d.ands_at
    (or_phrase_at ors p h k) (or_phrase_at ors p h k)
    (λ rest. ap (λ words. spell_drafts ds (spell_draft d (Open ∷ words))) (or_phrase_spelled ors p (Close ∷ rest)))
    (ap (λ t. has_conjunction (map frame_of ds) (option_map value d.ors) (and_with (option_map value d.ands) t)) (or_phrase_value ors p) ∙ same_some _ _ e)
having_next ds ors p h k Any next e = absurd (cc)
having_next ds ors p h k (Name role) next e = absurd (cc)
having_next ds ors p h k Not next e = absurd (cc)
having_next ds ors p h k Open next e = absurd (cc)
having_next ds ors p h k Stray next e = absurd (cc)

drawn_next : (draw : Draw) (w : Word) (next : State) → step (state_of draw) w ≡ Some next → Next draw w next
drawn_next (drawn_operand ds d) w next e = wanting_next ds d w next e
drawn_next (drawn_name ds d) w next e = naming_next ds d w next e
drawn_next (drawn_conjunction ds ors p h k) w next e = having_next ds ors p h k w next e

-- the state at the end, with its phrases
record Ended (whole : List Word) (last : State) : Type 0 where
  drawn : Draw
  same : state_of drawn ≡ last
  spelled : spell_draw drawn [] ≡ whole

drawn_go : (draw : Draw) (ws : List Word) (last : State) → go (state_of draw) ws ≡ Some last → Ended (spell_draw draw ws) last
drawn_go draw [] last e = record { drawn = draw; same = same_some _ _ e; spelled = refl }
drawn_go draw (w ∷ ws) last e = option_and_then_some (λ next. go next ws) (step (state_of draw) w) last e
    (λ next stepped went.
    let n = drawn_next draw w next stepped in
    let r = drawn_go n.drawn ws last (ap (λ s. go s ws) n.same ∙ went) in
    record { drawn = r.drawn; same = r.same; spelled = r.spelled ∙ n.spelled ws })

finished : (draw : Draw) (t : Term) → finish (state_of draw) ≡ Some t → Stands (spell_draw draw []) t
finished (drawn_operand ds d) t e = absurd (cc)
finished (drawn_name ds d) t e = absurd (cc)
finished (drawn_conjunction [] ors p h k) t e = record {
  phrase = or_phrase ors p;
  whole = or_phrase_at ors p h k;
  spelled = or_phrase_spelled ors p [];
  valued = or_phrase_value ors p ∙ (let s : or_with (option_map value ors) (value p) ≡ t = cc in s);
}
finished (drawn_conjunction (d ∷ ds) ors p h k) t e = absurd (cc)

-- what is accepted as a term stands for it
pub accepted : (ws : List Word) (t : Term) → accept ws ≡ Some t → Stands ws t
accepted ws t e = option_and_then_some finish (go start ws) t e
    (λ last went ends.
    let r = drawn_go (drawn_operand [] (record { ors = None; ands = None; ors_at = tt; ands_at = tt })) ws last went in
    subst (λ (words : List Word). Stands words t) r.spelled (finished r.drawn t (ap finish r.same ∙ ends)))
