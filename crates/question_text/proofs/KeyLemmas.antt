-- Lists and tables of values as lists of data and members, and the tests on them.
use Rattle.std.proofs.Common.{ℕ, zero, suc, ◌≡◌, ◌+◌, ◌≤◌, ◌<◌, Bool, true, false, List, [], ◌∷◌, ◌++◌, length, take, get_or}
use Rattle.std.proofs.Common.{map, Option, Some, None, Ok, Err, Bor, refl, sym, ap, ◌∙◌, arith}
use Rattle.std.specs.Prelude.{slice_get, nat_lt, ◌||◌, option_map, option_copied}
use Rattle.std.specs.List.{list_any}
use Rattle.std.specs.Str.{bytes_eq}
use Rattle.std.proofs.lemmas.Bool.Decides.{nat_tests}
use Rattle.toml.specs.Data.{Data, Members, member}
use Rattle.toml.specs.View.{view, items_view}
use Rattle.toml.specs.declared.value.Value.{Value}
use Rattle.list_words.proofs.GetLemmas.{get_at}
use Rattle.question_text.specs.Outcomes.{Fault, Outcome, too_many}
use Rattle.question_text.specs.Answers.{IsToldBy}
use Rattle.question_text.proofs.OutcomeLemmas.{same_ok, entries_stop, entries_more, entries_all}
use Rattle.question_text.specs.Keys.{entries, entry_of, of_kind, list_of, filled, both_texts, first_unknown, at_most}

-- the entries of a list are its values, as they are seen
pub listed_each : (xs : List Value) → list_of (items_view xs) ≡ map view xs
listed_each [] = refl
listed_each (x ∷ xs) = ap (λ (ds : List Data). view x ∷ ds) (listed_each xs)

pub listed_long : (xs : List Value) → length (list_of (items_view xs)) ≡ length xs
listed_long [] = refl
listed_long (x ∷ xs) = let more = listed_long xs in omega arith

pub listed_at : (xs : List Value) (i : ℕ) (x : Value) → slice_get xs i ≡ Some x → slice_get (list_of (items_view xs)) i ≡ Some (view x)
listed_at [] i x at = absurd (cc)
listed_at (y ∷ ys) zero x at = ap (option_map view) at
listed_at (y ∷ ys) (suc i) x at = listed_at ys i x at

pub few_enough : (most : ℕ) (path : List ℕ) (list : List Data) (long : ℕ) → long ≡ length list → long ≤ most → at_most most path list (Ok tt)
few_enough most path list long is few =
    let test : nat_lt most (length list) ≡ false = grind (arith, nat_tests) in
    rw test refl

pub too_long : (most : ℕ) (path : List ℕ) (list : List Data) (long : ℕ) → long ≡ length list → most < long
    → at_most most path list (Err (too_many path long))
too_long most path list long is many =
    let test : nat_lt most (length list) ≡ true = grind (arith, nat_tests) in
    rw (test, is) refl

pub some_filled : (xs : List Value) (long : ℕ) → long ≡ length xs → (long ≡ 0 → ⊥)
    → filled (list_of (items_view xs)) ≡ Some (list_of (items_view xs))
some_filled [] long is some = absurd (some is)
some_filled (x ∷ xs) long is some = refl

pub not_two : (xs : List Value) (long : ℕ) → long ≡ length xs → (long ≡ 2 → ⊥) → both_texts (list_of (items_view xs)) ≡ None
not_two [] long is other = refl
not_two (x ∷ []) long is other = refl
not_two (x ∷ y ∷ []) long is other = absurd (other is)
not_two (x ∷ y ∷ z ∷ more) long is other = refl

pub any_mapped : {A B : Type 0} (test : B → Bool) (f : A → B) (xs : List A) → list_any test (map f xs) ≡ list_any (λ x. test (f x)) xs
any_mapped test f [] = refl
any_mapped test f (x ∷ xs) = ap (λ (found : Bool). test (f x) || found) (any_mapped test f xs)

pub passes_known : (known : List (List ℕ)) (key : List ℕ) (d : Data) (more : Members) → list_any (bytes_eq key) known ≡ true
    → first_unknown known (member key d more) ≡ first_unknown known more
passes_known known key d more is = rw is refl

pub stops_unknown : (known : List (List ℕ)) (key : List ℕ) (d : Data) (more : Members) → list_any (bytes_eq key) known ≡ false
    → first_unknown known (member key d more) ≡ Some key
stops_unknown known key d more is = rw is refl

-- a value of the kind, as it is seen
pub kind_seen : {A B : Type 0} (seen : A → B) (value : Option A) (wanted : Option B) (path : List ℕ) (got : A)
    → option_map seen value ≡ wanted → of_kind value path (Ok got) → of_kind wanted path (Ok (seen got))
kind_seen seen None wanted path got is h = absurd (cc)
kind_seen seen (Some value) wanted path got is h =
    rw (← is) (ap (λ (x : _). Ok (seen x)) (same_ok got value h))

pub kind_text : (value : Option (Bor (List ℕ))) (wanted : Option (List ℕ)) (path : List ℕ) (got : Bor (List ℕ))
    → option_copied value ≡ wanted → of_kind value path (Ok got) → of_kind wanted path (Ok got.now)
kind_text None wanted path got is h = absurd (cc)
kind_text (Some value) wanted path got is h =
    rw (← is) (ap (λ (x : Bor (List ℕ)). Ok x.now) (same_ok got value h))

entry_at : (items slice : List Value) (place : ℕ) (x : Value) → slice ≡ items → place < length slice → x ≡ get_or slice place x
    → slice_get (list_of (items_view items)) place ≡ Some (view x)
entry_at items slice place x same within is =
    listed_at items place x (get_at items place x (omega (arith, ap length same)) ∙ ap Some (rw (← same) (sym is)))

-- a loop over a list stops at the entry at its place, which tells a fault
pub stops_at : {A : Type 0} (read : List ℕ → Data → Outcome A) (path : List ℕ) (items slice : List Value) (place : ℕ) (x : Value) (at : List ℕ)
    (values : List A) (told : Option Fault)
    → slice ≡ items → place < length slice → x ≡ get_or slice place x → at ≡ entry_of path place
    → entries read path (take place (list_of (items_view items))) (Ok values) → IsToldBy (read at (view x)) told
    → IsToldBy (entries read path (list_of (items_view items))) told
stops_at read path items slice place x at values told same within is where_is before h =
    entries_stop read path (list_of (items_view items)) place (view x) values told before (entry_at items slice place x same within is) (rw (← where_is) h)

-- it goes on behind an entry that has a value
pub goes_past : {A : Type 0} (read : List ℕ → Data → Outcome A) (path : List ℕ) (items slice : List Value) (place : ℕ) (x : Value) (at : List ℕ)
    (values : List A) (value : A)
    → slice ≡ items → place < length slice → x ≡ get_or slice place x → at ≡ entry_of path place
    → entries read path (take place (list_of (items_view items))) (Ok values) → read at (view x) (Ok value)
    → entries read path (take (place + 1) (list_of (items_view items))) (Ok (values ++ value ∷ []))
goes_past read path items slice place x at values value same within is where_is before h =
    entries_more read path (list_of (items_view items)) place (view x) values value before (entry_at items slice place x same within is) (rw (← where_is) h)

-- and ends behind the last
pub ends_at : {A : Type 0} (read : List ℕ → Data → Outcome A) (path : List ℕ) (items slice : List Value) (place : ℕ) (values : List A)
    → slice ≡ items → length slice ≤ place → entries read path (take place (list_of (items_view items))) (Ok values)
    → entries read path (list_of (items_view items)) (Ok values)
ends_at read path items slice place values same past before =
    entries_all read path (list_of (items_view items)) place values before (omega (arith, listed_long items, ap length same))
