-- Outcomes one behind another, and outcomes that are one.
use Rattle.std.proofs.Common.{ℕ, drop, get_or, ◌≡◌, ◌+◌, ◌≤◌, Bool, true, false, List, [], ◌∷◌, ◌++◌, length, take, Option, Some}
use Rattle.std.proofs.Common.{None, Result, Ok, Err, refl, sym, ap, subst, ◌∙◌, arith, inl, inr}
use Rattle.std.specs.Prelude.{slice_get}
use Rattle.std.specs.Result.{IsErrAnd}
use Rattle.std.proofs.lemmas.Grind.{common_steps}
use Rattle.std.proofs.lemmas.List.{drop_more, take_more, take-append-drop}
use Rattle.std.proofs.lemmas.Option.{slice_get_within, get_or_from_slice_get}
use Rattle.toml.specs.Data.{Data}
use Rattle.question_text.specs.declared.question_error.QuestionError.{QuestionError}
use Rattle.question_text.specs.Outcomes.{Fault, Outcome, gives, fails, fails_if, ◌>>=◌, in_turn}
use Rattle.question_text.specs.Keys.{entries, entry_of, of_kind}
use Rattle.question_text.specs.Answers.{fault_of, IsToldBy, Answers}

-- the first one's fault is the chain's
pub passes : {A B : Type 0} (first : Outcome A) (second : A → Outcome B) (told : Option Fault) → IsToldBy first told → IsToldBy (first >>= second) told
passes first second None h = tt
passes first second (Some fault) h = inl (fault, h, refl)

-- behind the first one's value, what the second comes to is what the chain does
pub goes_on : {A B : Type 0} (first : Outcome A) (second : A → Outcome B) (value : A) (result : Result B Fault)
    → first (Ok value) → second value result → (first >>= second) result
goes_on first second value result h k = inr (value, h, k)

pub tells_on : {A B : Type 0} (first : Outcome A) (second : A → Outcome B) (value : A) (told : Option Fault)
    → first (Ok value) → IsToldBy (second value) told → IsToldBy (first >>= second) told
tells_on first second value None h k = tt
tells_on first second value (Some fault) h k = inr (value, h, k)

-- behind the first one's value, what answers the second answers the chain
pub answers_on : {A B C : Type 0} (view : C → B) (first : Outcome A) (second : A → Outcome B) (value : A) (result : Result C QuestionError)
    → first (Ok value) → Answers view (second value) result → Answers view (first >>= second) result
answers_on view first second value (Ok got) h k = inr (value, h, k)
answers_on view first second value (Err error) h k = tells_on first second value (fault_of error) h k

-- an error that is passed on answers the outcome that tells its fault
pub answers_exit : {A B : Type 0} (view : A → B) (outcome : Outcome B) (error : QuestionError) (result : Result A QuestionError)
    → IsErrAnd result (λ other. other ≡ error) → IsToldBy outcome (fault_of error) → Answers view outcome result
answers_exit view outcome error (Ok value) exit h = absurd exit
answers_exit view outcome error (Err other) exit h = rw exit h

-- an outcome of which two results can't both be
abbrev pub Sole : {A : Type 0} → Outcome A → Type 0
Sole outcome = (r s : _) → outcome r → outcome s → r ≡ s

pub sole_gives : {A : Type 0} (value : A) → Sole (gives value)
sole_gives value r s h k = h ∙ sym k

pub sole_fails : {A : Type 0} (fault : Fault) → Sole (fails {A = A} fault)
sole_fails fault r s h k = h ∙ sym k

pub sole_fails_if : (test : Bool) (fault : Fault) → Sole (fails_if test fault)
sole_fails_if true fault = sole_fails fault
sole_fails_if false fault = sole_gives tt

pub same_ok : {A : Type 0} (x y : A) → let r : Result A Fault = Ok x in r ≡ Ok y → x ≡ y
same_ok x y e = cc

pub same_err : {A : Type 0} (x y : Fault) → let r : Result A Fault = Err x in r ≡ Err y → x ≡ y
same_err x y e = cc

pub no_ok_err : {A E : Type 0} (x : A) (y : E) → Ok x ≡ Err y → ⊥
no_ok_err x y e = cc

pub sole_chain : {A B : Type 0} (first : Outcome A) (second : A → Outcome B) → Sole first → ((value : A) → Sole (second value))
    → Sole (first >>= second)
sole_chain first second one each r s (inl h) (inl k) =
    h.2 ∙ ap (λ (f : Fault). Err f) (same_err h.0 k.0 (one (Err h.0) (Err k.0) h.1 k.1)) ∙ sym k.2
sole_chain first second one each r s (inl h) (inr k) = absurd (no_ok_err k.0 h.0 (one (Ok k.0) (Err h.0) k.1 h.1))
sole_chain first second one each r s (inr h) (inl k) = absurd (no_ok_err h.0 k.0 (one (Ok h.0) (Err k.0) h.1 k.1))
sole_chain first second one each r s (inr h) (inr k) =
    let same = same_ok h.0 k.0 (one (Ok h.0) (Ok k.0) h.1 k.1) in
    each k.0 r s (subst (λ (v : _). second v r) same h.2) k.2

pub sole_in_turn : {A B : Type 0} (read : ℕ → A → Outcome B) (each : (place : ℕ) (x : A) → Sole (read place x)) (place : ℕ) (xs : List A)
    → Sole (in_turn read place xs)
sole_in_turn read each place [] = sole_gives []
sole_in_turn read each place (x ∷ xs) =
    sole_chain (read place x) _ (each place x)
    (λ value. sole_chain (in_turn read (place + 1) xs) _ (sole_in_turn read each (place + 1) xs) (λ values. sole_gives (value ∷ values)))

pub sole_entries : {A : Type 0} (read : List ℕ → Data → Outcome A) (path : List ℕ) (list : List Data)
    → ((place : List ℕ) (d : Data) → Sole (read place d)) → Sole (entries read path list)
sole_entries read path list each = sole_in_turn (λ place d. read (entry_of path place) d) (λ place d. each (entry_of path place) d) 0 list

pub sole_of_kind : {A : Type 0} (value : Option A) (path : List ℕ) → Sole (of_kind value path)
sole_of_kind None path = sole_fails _
sole_of_kind (Some value) path = sole_gives value

-- what an item tells behind others that have values, the list tells
turn_stops : {A B : Type 0} (read : ℕ → A → Outcome B) (place : ℕ) (before : List A) (x : A) (after : List A) (values : List B) (fault : Fault)
    → in_turn read place before (Ok values) → read (place + length before) x (Err fault) → in_turn read place (before ++ x ∷ after) (Err fault)
turn_stops read place [] x after values fault h k =
    let here : read place x (Err fault) = subst (λ (n : ℕ). read n x (Err fault)) (omega arith) k in
    inl (fault, here, refl)
turn_stops read place (y ∷ ys) x after values fault (inl h) k = absurd (no_ok_err values h.0 h.2)
turn_stops read place (y ∷ ys) x after values fault (inr (value, first, inl more)) k = absurd (no_ok_err values more.0 more.2)
turn_stops read place (y ∷ ys) x after values fault (inr (value, first, inr more)) k =
    let here : read (place + 1 + length ys) x (Err fault) = subst (λ (n : ℕ). read n x (Err fault)) (omega arith) k in
    inr (value, first, inl (fault, turn_stops read (place + 1) ys x after more.0 fault more.1 here, refl))

-- one item more
turn_more : {A B : Type 0} (read : ℕ → A → Outcome B) (place : ℕ) (before : List A) (x : A) (values : List B) (value : B)
    → in_turn read place before (Ok values) → read (place + length before) x (Ok value)
    → in_turn read place (before ++ x ∷ []) (Ok (values ++ value ∷ []))
turn_more read place [] x values value h k =
    let here : read place x (Ok value) = subst (λ (n : ℕ). read n x (Ok value)) (omega arith) k in
    inr (value, here, inr ([], refl, ap (λ (vs : List _). Ok (vs ++ value ∷ [])) (same_ok values [] h)))
turn_more read place (y ∷ ys) x values value (inl h) k = absurd (no_ok_err values h.0 h.2)
turn_more read place (y ∷ ys) x values value (inr (v, first, inl more)) k = absurd (no_ok_err values more.0 more.2)
turn_more read place (y ∷ ys) x values value (inr (v, first, inr more)) k =
    let here : read (place + 1 + length ys) x (Ok value) = subst (λ (n : ℕ). read n x (Ok value)) (omega arith) k in
    inr (
      v,
      first,
      inr (
        more.0 ++ value ∷ [],
        turn_more read (place + 1) ys x more.0 value more.1 here,
        ap (λ (vs : List _). Ok (vs ++ value ∷ [])) (same_ok values (v ∷ more.0) more.2),
      ),
    )

cut_at : {A : Type 0} (xs : List A) (i : ℕ) (x : A) → slice_get xs i ≡ Some x
    → (xs ≡ take i xs ++ x ∷ drop (i + 1) xs) × (length (take i xs) ≡ i) × (take (i + 1) xs ≡ take i xs ++ x ∷ [])
cut_at xs i x at =
    let within = slice_get_within xs i x at in
    let is : get_or xs i x ≡ x = get_or_from_slice_get xs i x x at in
    let behind : drop i xs ≡ x ∷ drop (i + 1) xs = drop_more xs i x within ∙ ap (λ (y : _). y ∷ drop (i + 1) xs) is in (
      sym (take-append-drop i xs) ∙ ap (λ (ys : List _). take i xs ++ ys) behind,
      grind (arith, common_steps, within),
      take_more xs i x within ∙ ap (λ (y : _). take i xs ++ y ∷ []) is,
    )

-- the entry at the place tells a fault, and those before it have values: the list's first fault
pub entries_stop : {A : Type 0} (read : List ℕ → Data → Outcome A) (path : List ℕ) (list : List Data) (i : ℕ) (d : Data) (values : List A)
    (told : Option Fault)
    → entries read path (take i list) (Ok values) → slice_get list i ≡ Some d → IsToldBy (read (entry_of path i) d) told
    → IsToldBy (entries read path list) told
entries_stop read path list i d values None h at k = tt
entries_stop read path list i d values (Some fault) h at k =
    let (whole, long, more) = cut_at list i d at in
    subst (λ (ds : List Data). entries read path ds (Err fault)) (sym whole)
    (turn_stops (λ place d. read (entry_of path place) d) 0 (take i list) d (drop (i + 1) list) values fault h
    (subst (λ (n : ℕ). read (entry_of path n) d (Err fault)) (omega (arith, long)) k))

-- one entry more
pub entries_more : {A : Type 0} (read : List ℕ → Data → Outcome A) (path : List ℕ) (list : List Data) (i : ℕ) (d : Data) (values : List A) (value : A)
    → entries read path (take i list) (Ok values) → slice_get list i ≡ Some d → read (entry_of path i) d (Ok value)
    → entries read path (take (i + 1) list) (Ok (values ++ value ∷ []))
entries_more read path list i d values value h at k =
    let (whole, long, more) = cut_at list i d at in
    subst (λ (ds : List Data). entries read path ds (Ok (values ++ value ∷ []))) (sym more)
    (turn_more (λ place d. read (entry_of path place) d) 0 (take i list) d values value h
    (subst (λ (n : ℕ). read (entry_of path n) d (Ok value)) (omega (arith, long)) k))

-- all entries
pub entries_all : {A : Type 0} (read : List ℕ → Data → Outcome A) (path : List ℕ) (list : List Data) (i : ℕ) (values : List A)
    → entries read path (take i list) (Ok values) → length list ≤ i → entries read path list (Ok values)
entries_all read path list i values h past = subst (λ (ds : List Data). entries read path ds (Ok values)) (grind (arith, common_steps)) h
