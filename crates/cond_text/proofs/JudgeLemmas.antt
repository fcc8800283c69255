-- The machine with limits tells the term, or the first fault.
use Rattle.std.proofs.Common.{◌≡◌, ℕ, ◌≤◌, ◌<◌, ◌+◌, ◌∙◌, ap, subst, sym, refl, inl, inr, ◌⊎◌, arith, Bool, true, false}
use Rattle.std.proofs.Common.{cond, ◌&&◌, nat_le, List, [], ◌∷◌, ◌++◌, append_assoc, append-nil, Option, Some, None, Result, Ok, Err}
use Rattle.std.specs.Prelude.{option_and_then}
use Rattle.std.proofs.lemmas.Bool.Decides.{nat_tests}
use Rattle.list_words.proofs.TestLemmas.{and_both}
use Rattle.cond_text.specs.declared.word.Word.{Word}
use Rattle.cond_text.specs.declared.word.Word.TheVariants.{Any, Name, Not, And, Or, Open, Close, Stray}
use Rattle.cond_text.specs.declared.word.Placed.{Placed}
use Rattle.arbac_policy.specs.Truth.{Term}
use Rattle.cond_text.specs.Grammar.{Stands, CanBegin}
use Rattle.cond_text.specs.Machine.{State, step, go, finish, start}
use Rattle.cond_text.specs.declared.cond_error.CondError.{CondError}
use Rattle.cond_text.specs.declared.cond_error.CondError.TheVariants.{Unexpected, TooDeep, UnknownRole, Memory}
use Rattle.cond_text.specs.declared.TheConstants.{MOST_TERMS, MOST_OPEN}
use Rattle.cond_text.specs.Words.{plain}
use Rattle.cond_text.specs.Faults.{weight, terms_in, open_behind, open_after, BeginsWithName, IsTooDeep, IsNoRole, IsFaultAt, IsFine, IsFirstFault, AreFine}
use Rattle.cond_text.specs.Judge.{◌>>=◌, open_in, is_name, begins_with_name, limit, or_fault, unless, advance, ending, judge}
use Rattle.cond_text.proofs.CompleteLemmas.{accepts, one_term}
use Rattle.cond_text.proofs.SoundLemmas.{accepted}
use Rattle.cond_text.proofs.PrefixLemmas.{can_begin, cannot_begin, go_one_more, open_step}

chosen : {A : Type 0} (b : Bool) (x y z : A) → cond b x y ≡ z → ((b ≡ true) × (x ≡ z)) ⊎ ((b ≡ false) × (y ≡ z))
chosen true x y z e = inl (refl, e)
chosen false x y z e = inr (refl, e)

le_true : (a b : ℕ) → nat_le a b ≡ true → a ≤ b
le_true a b e = grind (arith, nat_tests)

le_false : (a b : ℕ) → nat_le a b ≡ false → b < a
le_false a b e = grind (arith, nat_tests)

true_le : (a b : ℕ) → a ≤ b → nat_le a b ≡ true
true_le a b h = grind (arith, nat_tests)

is_name_true : (w : Word) → is_name w ≡ true → (role : ℕ) × (w ≡ Name role)
is_name_true (Name role) e = (role, refl)
is_name_true Any e = absurd (cc)
is_name_true Not e = absurd (cc)
is_name_true And e = absurd (cc)
is_name_true Or e = absurd (cc)
is_name_true Open e = absurd (cc)
is_name_true Close e = absurd (cc)
is_name_true Stray e = absurd (cc)

begins_true : (rest : List Placed) → begins_with_name rest ≡ true → BeginsWithName rest
begins_true [] e = absurd (cc)
begins_true (x ∷ xs) e = is_name_true x.word e

true_begins : (rest : List Placed) → BeginsWithName rest → begins_with_name rest ≡ true
true_begins [] h = absurd h
true_begins (x ∷ xs) h = ap is_name h.1

-- what the machine knows behind these words
record Behind (before : List Word) (s : State) (terms : ℕ) : Type 0 where
  gone : go start before ≡ Some s
  counted : terms ≡ terms_in before
  nested : open_in s ≡ open_after 0 before

-- what no limit at a word says
record Passes (count : ℕ) (before : List Word) (w : Word) (rest : List Placed) : Type 0 where
  shallow : IsTooDeep before w rest → ⊥
  known : IsNoRole count w → ⊥

deep_passes : (most here counted place : ℕ) → here ≡ counted → cond (nat_le most here) (Some (TooDeep place)) None ≡ None → most ≤ counted → ⊥
deep_passes most here counted place e h k = elim (chosen (nat_le most here) (Some (TooDeep place)) None None h) [
  | inl p ↦ let q = p.1 in cc
  | inr p ↦ absurd (omega (arith, le_false most here p.0))
]

passes : (count : ℕ) (before : List Word) (terms nested place : ℕ) (rest : List Placed) (w : Word) → terms ≡ terms_in before
    → nested ≡ open_after 0 before
    → limit count terms nested place (begins_with_name rest) w ≡ None → Passes count before w rest
passes count before terms nested place rest Any e n h = record { shallow = deep_passes MOST_TERMS terms (terms_in before) place e h; known = λ k. k }
passes count before terms nested place rest (Name role) e n h =
    elim (chosen (nat_le MOST_TERMS terms) (Some (TooDeep place)) (cond (nat_le count role) (Some (UnknownRole place)) None) None h) [
      | inl p ↦ let q = p.1 in absurd (cc)
      | inr p ↦ elim (chosen (nat_le count role) (Some (UnknownRole place)) None None p.1) [
        | inl q ↦ let r = q.1 in absurd (cc)
        | inr q ↦ record { shallow = λ k. absurd (omega (arith, le_false MOST_TERMS terms p.0)); known = λ k. absurd (omega (arith, le_false count role q.0)) }
      ]
    ]
passes count before terms nested place rest Not e n h = elim (chosen (nat_le MOST_TERMS terms && begins_with_name rest) (Some (TooDeep place)) None None h) [
  | inl p ↦ let q = p.1 in absurd (cc)
  | inr p ↦ record {
    shallow = λ k. (
        let a = true_le MOST_TERMS terms (omega (arith, k.0)) in let b = true_begins rest k.1 in let c = p.0 in
        let d : (nat_le MOST_TERMS terms && begins_with_name rest) ≡ true = rw (a, b) refl in cc);
    known = λ k. k;
  }
]
passes count before terms nested place rest Open e n h = record { shallow = deep_passes MOST_OPEN nested (open_after 0 before) place n h; known = λ k. k }
passes count before terms nested place rest And e n h = record { shallow = λ k. k; known = λ k. k }
passes count before terms nested place rest Or e n h = record { shallow = λ k. k; known = λ k. k }
passes count before terms nested place rest Close e n h = record { shallow = λ k. k; known = λ k. k }
passes count before terms nested place rest Stray e n h = record { shallow = λ k. k; known = λ k. k }

-- what a limit at a word says
abbrev IsLimited : ℕ → List Word → ℕ → List Placed → Word → CondError → Type 0
IsLimited count before place rest w fault =
    ((TooDeep place ≡ fault) × IsTooDeep before w rest) ⊎ ((UnknownRole place ≡ fault) × (IsTooDeep before w rest → ⊥) × IsNoRole count w)

deep_limited : (most here place : ℕ) (fault : CondError) → cond (nat_le most here) (Some (TooDeep place)) None ≡ Some fault → (most ≤ here)
    × (TooDeep place ≡ fault)
deep_limited most here place fault h = elim (chosen (nat_le most here) (Some (TooDeep place)) None (Some fault) h) [
  | inl p ↦ (le_true most here p.0, (let q = p.1 in let r : TooDeep place ≡ fault = cc in r))
  | inr p ↦ let q = p.1 in absurd (cc)
]

limited : (count : ℕ) (before : List Word) (terms nested place : ℕ) (rest : List Placed) (w : Word) (fault : CondError) → terms ≡ terms_in before
    → nested ≡ open_after 0 before
    → limit count terms nested place (begins_with_name rest) w ≡ Some fault → IsLimited count before place rest w fault
limited count before terms nested place rest Any fault e n h = let d = deep_limited MOST_TERMS terms place fault h in inl (d.1, omega (arith, d.0))
limited count before terms nested place rest (Name role) fault e n h =
    elim (chosen (nat_le MOST_TERMS terms) (Some (TooDeep place)) (cond (nat_le count role) (Some (UnknownRole place)) None) (Some fault) h) [
      | inl p ↦ inl ((let q = p.1 in let r : TooDeep place ≡ fault = cc in r), omega (arith, le_true MOST_TERMS terms p.0))
      | inr p ↦ elim (chosen (nat_le count role) (Some (UnknownRole place)) None (Some fault) p.1) [
        | inl q ↦ inr (
          (let r = q.1 in let s : UnknownRole place ≡ fault = cc in s),
          (λ k. absurd (omega (arith, le_false MOST_TERMS terms p.0))),
          le_true count role q.0,
        )
        | inr q ↦ let r = q.1 in absurd (cc)
      ]
    ]
limited count before terms nested place rest Not fault e n h =
    elim (chosen (nat_le MOST_TERMS terms && begins_with_name rest) (Some (TooDeep place)) None (Some fault) h) [
      | inl p ↦ let b = and_both (nat_le MOST_TERMS terms) (begins_with_name rest) p.0 in
          inl ((let q = p.1 in let r : TooDeep place ≡ fault = cc in r), (omega (arith, le_true MOST_TERMS terms b.0), begins_true rest b.1))
      | inr p ↦ let q = p.1 in absurd (cc)
    ]
limited count before terms nested place rest Open fault e n h = let d = deep_limited MOST_OPEN nested place fault h in inl (d.1, omega (arith, d.0))
limited count before terms nested place rest And fault e n h = absurd (cc)
limited count before terms nested place rest Or fault e n h = absurd (cc)
limited count before terms nested place rest Close fault e n h = absurd (cc)
limited count before terms nested place rest Stray fault e n h = absurd (cc)

split_ok : (o : Option State) (l : Option CondError) (e : CondError) (next : State) → (or_fault o e >>= λ n. unless l n) ≡ Ok next
    → (o ≡ Some next) × (l ≡ None)
split_ok None l e next h = absurd (cc)
split_ok (Some n) None e next h = ((let r : n ≡ next = cc in ap Some r), refl)
split_ok (Some n) (Some f) e next h = absurd (cc)

split_err : (o : Option State) (l : Option CondError) (e f : CondError) → (or_fault o e >>= λ n. unless l n) ≡ Err f
    → ((o ≡ None) × (e ≡ f)) ⊎ ((n : State) × (o ≡ Some n) × (l ≡ Some f))
split_err None l e f h = inl (refl, (let r : e ≡ f = cc in r))
split_err (Some n) None e f h = absurd (cc)
split_err (Some n) (Some g) e f h = inr (n, refl, (let r : g ≡ f = cc in ap Some r))

bind_ok : {A B : Type 0} (r : Result A CondError) (f : A → Result B CondError) (y : B) → (r >>= f) ≡ Ok y → (x : A) × (r ≡ Ok x) × (f x ≡ Ok y)
bind_ok (Ok x) f y h = (x, refl, h)
bind_ok (Err e) f y h = absurd (cc)

bind_err : {A B : Type 0} (r : Result A CondError) (f : A → Result B CondError) (e : CondError) → (r >>= f) ≡ Err e → (r ≡ Err e)
    ⊎ ((x : A) × (r ≡ Ok x) × (f x ≡ Err e))
bind_err (Ok x) f e h = inr (x, refl, h)
bind_err (Err d) f e h = inl (let r : d ≡ e = cc in ap Err r)

ending_ok : (size : ℕ) (o : Option Term) (t : Term) → ending size o ≡ Ok t → o ≡ Some t
ending_ok size None t h = absurd (cc)
ending_ok size (Some u) t h = let r : u ≡ t = cc in ap Some r

ending_err : (size : ℕ) (o : Option Term) (f : CondError) → ending size o ≡ Err f → (o ≡ None) × (f ≡ Unexpected size)
ending_err size None f h = (refl, (let r : Unexpected size ≡ f = cc in sym r))
ending_err size (Some u) f h = absurd (cc)

-- counts with one word more
pub terms_more : (before : List Word) (w : Word) → terms_in (before ++ (w ∷ [])) ≡ terms_in before + weight w
terms_more [] w = omega arith
terms_more (v ∷ before) w = omega (arith, terms_more before w)

pub open_more : (n : ℕ) (before : List Word) (w : Word) → open_after n (before ++ (w ∷ [])) ≡ open_behind (open_after n before) w
open_more n [] w = refl
open_more n (v ∷ before) w = open_more (open_behind n v) before w

behind_next : (before : List Word) (s next : State) (terms : ℕ) (w : Word) → Behind before s terms → step s w ≡ Some next
    → Behind (before ++ (w ∷ [])) next (terms + weight w)
behind_next before s next terms w b e = record {
  gone = go_one_more s before w b.gone ∙ e;
  counted = omega (arith, terms_more before w, b.counted);
  nested = open_step s next w e ∙ ap (λ n. open_behind n w) b.nested ∙ sym (open_more 0 before w);
}

fine : (count : ℕ) (before : List Word) (s next : State) (terms : ℕ) (x : Placed) (rest : List Placed) → Behind before s terms
    → step s x.word ≡ Some next
    → limit count terms (open_in s) x.place (begins_with_name rest) x.word ≡ None → IsFine count before x rest
fine count before s next terms x rest b e l =
    let p = passes count before terms (open_in s) x.place rest x.word b.counted b.nested l in
    record { expected = can_begin next (before ++ (x.word ∷ [])) (go_one_more s before x.word b.gone ∙ e); shallow = p.shallow; known = p.known }

-- a term told is what the words stand for, and no word is at fault
judge_ok : (count size : ℕ) (ws : List Placed) (before : List Word) (s : State) (terms : ℕ) (t : Term) → Behind before s terms
    → judge count size s terms ws ≡ Ok t
    → AreFine count before ws × (option_and_then finish (go s (plain ws)) ≡ Some t)
judge_ok count size [] before s terms t b h = (tt, ending_ok size (finish s) t h)
judge_ok count size (x ∷ xs) before s terms t b h =
    let k = bind_ok (advance count s terms x.place (begins_with_name xs) x.word) (λ next. judge count size next (terms + weight x.word) xs) t h in
    let a = split_ok (step s x.word) (limit count terms (open_in s) x.place (begins_with_name xs) x.word) (Unexpected x.place) k.0 k.1 in
    let r = judge_ok count size xs (before ++ (x.word ∷ [])) k.0 (terms + weight x.word) t (behind_next before s k.0 terms x.word b a.0) k.2 in
    ((fine count before s k.0 terms x xs b a.0 a.1, r.0), ap (λ o. option_and_then finish (option_and_then (λ n. go n (plain xs)) o)) a.0 ∙ r.1)

fault_here : (count : ℕ) (before : List Word) (x : Placed) (rest : List Placed) (f : CondError) → CanBegin (before ++ (x.word ∷ []))
    → IsLimited count before x.place rest x.word f → IsFaultAt count before x rest f
fault_here count before x rest f can l = elim l [
  | inl d ↦ subst (λ (g : CondError). IsFaultAt count before x rest g) d.0 (refl, can, d.1)
  | inr d ↦ subst (λ (g : CondError). IsFaultAt count before x rest g) d.0 (refl, can, d.1, d.2)
]

-- a fault told is the first one
judge_err : (count size : ℕ) (ws : List Placed) (before : List Word) (s : State) (terms : ℕ) (f : CondError) → Behind before s terms
    → judge count size s terms ws ≡ Err f
    → IsFirstFault count size before ws f
judge_err count size [] before s terms f b h =
    let e = ending_err size (finish s) f h in
    (e.1, λ t st. let a = accepts before t st in let c = ap (option_and_then finish) b.gone ∙ e.0 in let d : None ≡ Some t = sym c ∙ a in cc)
judge_err count size (x ∷ xs) before s terms f b h =
    elim (bind_err (advance count s terms x.place (begins_with_name xs) x.word) (λ next. judge count size next (terms + weight x.word) xs) f h) [
      | inl k ↦ inl (elim (split_err (step s x.word) (limit count terms (open_in s) x.place (begins_with_name xs) x.word) (Unexpected x.place) f k) [
        | inl a ↦ subst (λ (g : CondError). IsFaultAt count before x xs g) a.1
            (refl, cannot_begin (before ++ (x.word ∷ [])) (go_one_more s before x.word b.gone ∙ a.0))
        | inr a ↦ fault_here count before x xs f (can_begin a.0 (before ++ (x.word ∷ [])) (go_one_more s before x.word b.gone ∙ a.1))
            (limited count before terms (open_in s) x.place xs x.word f b.counted b.nested a.2)
      ])
      | inr k ↦ (let a = split_ok (step s x.word) (limit count terms (open_in s) x.place (begins_with_name xs) x.word) (Unexpected x.place) k.0 k.1 in
          inr (
            fine count before s k.0 terms x xs b a.0 a.1,
            judge_err count size xs (before ++ (x.word ∷ [])) k.0 (terms + weight x.word) f (behind_next before s k.0 terms x.word b a.0) k.2,
          ))
    ]

-- where no word is at fault, the end alone can be
pub clash_at : (count : ℕ) (before : List Word) (x : Placed) (rest : List Placed) (f : CondError) → IsFaultAt count before x rest f
    → IsFine count before x rest → ⊥
clash_at count before x rest (Unexpected place) h k = h.1 k.expected
clash_at count before x rest (TooDeep place) h k = k.shallow h.2
clash_at count before x rest (UnknownRole place) h k = k.known h.3
clash_at count before x rest Memory h k = h

pub clash : (count size : ℕ) (ws : List Placed) (before : List Word) (f : CondError) (t : Term) → IsFirstFault count size before ws f
    → AreFine count before ws → Stands (before ++ plain ws) t → ⊥
clash count size [] before f t h k st = h.1 t (subst (λ (ws : List Word). Stands ws t) (append-nil before) st)
clash count size (x ∷ xs) before f t h k st = elim h [
  | inl a ↦ clash_at count before x xs f a k.0
  | inr a ↦ clash count size xs (before ++ (x.word ∷ [])) f t a.1 k.1
      (subst (λ (ws : List Word). Stands ws t) (sym (append_assoc before (x.word ∷ []) (plain xs))) st)
]

at_start : Behind [] start 0
at_start = record { gone = refl; counted = refl; nested = refl }

pub told_ok : (count size : ℕ) (ws : List Placed) (t : Term) → judge count size start 0 ws ≡ Ok t → Stands (plain ws) t × AreFine count [] ws
told_ok count size ws t h = let r = judge_ok count size ws [] start 0 t at_start h in (accepted (plain ws) t r.1, r.0)

pub told_err : (count size : ℕ) (ws : List Placed) (f : CondError) → judge count size start 0 ws ≡ Err f → IsFirstFault count size [] ws f
told_err count size ws f h = judge_err count size ws [] start 0 f at_start h

told_at : (count size : ℕ) (ws : List Placed) (t : Term) (r : Result Term CondError) → judge count size start 0 ws ≡ r → Stands (plain ws) t
    → AreFine count [] ws → r ≡ Ok t
told_at count size ws t (Ok u) e st h = ap Ok (one_term (plain ws) u t (told_ok count size ws u e).0 st)
told_at count size ws t (Err f) e st h = absurd (clash count size ws [] f t (told_err count size ws f e) h st)

pub told_only : (count size : ℕ) (ws : List Placed) (t : Term) → Stands (plain ws) t → AreFine count [] ws → judge count size start 0 ws ≡ Ok t
told_only count size ws t st h = told_at count size ws t (judge count size start 0 ws) refl st h
