-- The names of a sample are those of an order.
use Rattle.std.proofs.Common.{ℕ, zero, suc, ◌≡◌, ◌<◌, ◌≤◌, ◌+◌, ◌*◌, ◌^◌, true, false, nat_le, List, [], ◌∷◌, ◌++◌, length, get_or, drop}
use Rattle.std.proofs.Common.{◌-◌, ◌%◌, refl, sym, ap, arith, codes, String, Global}
use Rattle.std.specs.String.{string_bytes}
use Rattle.std.specs.List.{list_all}
use Rattle.std.specs.Fmt.{decimal}
use Rattle.std.proofs.lemmas.Bool.Decides.{nat_tests}
use Rattle.std.proofs.lemmas.Fmt.{decimal_by_steps, length-decimal-le, decimal_injective}
use Rattle.std.proofs.lemmas.List.Folds.{list_all-append}
use Rattle.std.proofs.lemmas.Option.{none-some}
use Rattle.list_words.specs.Lists.{AreDifferent}
use Rattle.list_words.proofs.EachLemmas.{different_more}
use Rattle.role_order.specs.Names.{texts, is_name_byte, is_name, is_reserved, is_role_name}
use Rattle.role_order.specs.declared.TheConstants.{MOST_NAME_BYTES}
use Rattle.role_order.specs.Graph.{AreAcyclic}
use Rattle.role_order.specs.Reach.{count_up}
use Rattle.role_order.specs.Refusals.{AreNames, IsOrder, IsRefused}
use Rattle.role_order.specs.declared.order.OrderError.{OrderError}
use Rattle.role_order.specs.declared.order.OrderError.TheVariants.{NoRoles, TooManyRoles, BadName, SameName, EdgeOutOfRange, Cycle, Memory}
use Rattle.role_order.proofs.NameLemmas.{texts-push}
use Rattle.cond_text.proofs.OrderLemmas.{order_clash}
use Rattle.arbac_laws.specs.Obligations.{flat}
use Rattle.sample_question.specs.Samples.{role_names}
use Rattle.sample_question.specs.declared.TheConstants.{MOST_SIZE}
use Rattle.sample_question.proofs.PairLemmas.{two_more, two_each, each_flat}

-- the names of a place
abbrev pub names_at : ℕ → List (List ℕ)
names_at at = (codes "k" ++ decimal at) ∷ (codes "x" ++ decimal at) ∷ []

pub names_long : (size : ℕ) → length (role_names size) ≡ 1 + 2 * size
names_long size = let pairs = two_each names_at (λ at. refl) 0 size in omega (arith, pairs)

-- ---- one after another

-- `a` is there, and all pairs are left
pub names_first : (size : ℕ) (names : List (String Global)) (admin : String Global) → names ≡ admin ∷ [] → string_bytes admin ≡ codes "a"
    → texts names ++ flat names_at (count_up 0 (size - 0)) ≡ role_names size
names_first size names admin e h =
    let all : size - 0 ≡ size = omega arith in rw (e, h) (ap (λ (n : ℕ). codes "a" ∷ flat names_at (count_up 0 n)) all)

-- the names of one place more
pub names_more : (size at : ℕ) (names : List (String Global)) (key extra : String Global) → at < size → string_bytes key ≡ codes "k" ++ decimal at
    → string_bytes extra ≡ codes "x" ++ decimal at → texts names ++ flat names_at (count_up at (size - at)) ≡ role_names size
    → texts ((names ++ key ∷ []) ++ extra ∷ []) ++ flat names_at (count_up (at + 1) (size - (at + 1))) ≡ role_names size
names_more size at names key extra l k x h =
    rw (texts-push (names ++ key ∷ []) extra, texts-push names key, k, x)
    (two_more names_at (texts names) (codes "k" ++ decimal at) (codes "x" ++ decimal at) (role_names size) size at l refl h)

-- ---- each is a role name

digit_byte : (d : ℕ) → d < 10 → is_name_byte (48 + d) ≡ true
digit_byte d l =
    let upper : nat_le 65 (48 + d) ≡ false = grind (arith, nat_tests) in
    let lower : nat_le 97 (48 + d) ≡ false = grind (arith, nat_tests) in
    let from : nat_le 48 (48 + d) ≡ true = grind (arith, nat_tests) in
    let to : nat_le (48 + d) 57 ≡ true = grind (arith, nat_tests) in rw (upper, lower, from, to) refl

number_bytes : (n : ℕ) → n < 2 ^ 64 → list_all is_name_byte (decimal n) ≡ true
number_bytes n l = decimal_by_steps (λ n ds. list_all is_name_byte ds ≡ true) one more n l
  where
    one : (n : ℕ) → n < 10 → list_all is_name_byte ((48 + n) ∷ []) ≡ true
    one n l = rw (digit_byte n l) refl

    more : (n : ℕ) (ds : List ℕ) → 10 ≤ n → list_all is_name_byte ds ≡ true → list_all is_name_byte (ds ++ ((48 + n % 10) ∷ [])) ≡ true
    more n ds l h = rw (list_all-append is_name_byte ds ((48 + n % 10) ∷ []), h) (one (n % 10) (omega arith))

role_name : (text : List ℕ) → 1 ≤ length text → length text ≤ MOST_NAME_BYTES → list_all is_name_byte text ≡ true → is_reserved text ≡ false
    → is_role_name text ≡ true
unfolding is_role_name is_name
role_name text l m bytes free =
    let some : nat_le 1 (length text) ≡ true = grind (arith, nat_tests) in
    let few : nat_le (length text) MOST_NAME_BYTES ≡ true = grind (arith, nat_tests) in rw (some, few, bytes, free) refl

number_short : (n : ℕ) → n < MOST_SIZE → length (decimal n) ≤ 2
number_short n l = length-decimal-le 2 n (omega arith) (omega arith) (omega arith)

key_name : (n : ℕ) → n < MOST_SIZE → is_role_name (codes "k" ++ decimal n) ≡ true
unfolding is_reserved
key_name n l =
    let short = number_short n l in
    role_name (codes "k" ++ decimal n) (omega arith) (omega (arith, short)) (number_bytes n (omega arith)) refl

extra_name : (n : ℕ) → n < MOST_SIZE → is_role_name (codes "x" ++ decimal n) ≡ true
unfolding is_reserved
extra_name n l =
    let short = number_short n l in
    role_name (codes "x" ++ decimal n) (omega arith) (omega (arith, short)) (number_bytes n (omega arith)) refl

admin_name : is_role_name (codes "a") ≡ true
unfolding is_role_name is_name is_reserved
admin_name = refl

-- ---- they differ

number_apart : (c m n : ℕ) → m < n → n < MOST_SIZE → c ∷ decimal m ≡ c ∷ decimal n → ⊥
number_apart c m n l k e =
    let same : m ≡ n = decimal_injective m n (omega arith) (omega arith) (ap (λ (text : List ℕ). drop 1 text) e) in absurd (omega arith)

-- texts with different first bytes
first_apart : (b c : ℕ) (xs ys : List ℕ) → b < c → b ∷ xs ≡ c ∷ ys → ⊥
first_apart b c xs ys l e = let same : b ≡ c = ap (λ (text : List ℕ). get_or text 0 0) e in absurd (omega arith)

pairs_differ : (at n : ℕ) → at + n ≤ MOST_SIZE → AreDifferent (flat names_at (count_up at n))
pairs_differ at zero l = λ i j x e f. cc
pairs_differ at (suc n) l =
    let rest = flat names_at (count_up (at + 1) n) in
    different_more (codes "k" ++ decimal at) ((codes "x" ++ decimal at) ∷ rest) (
      first_apart 107 120 (decimal at) (decimal at) (omega arith),
      each_flat (λ y. codes "k" ++ decimal at ≡ y → ⊥) names_at (at + 1) MOST_SIZE
          (λ k h m. (number_apart 107 at k (omega arith) m, (first_apart 107 120 (decimal at) (decimal k) (omega arith), tt)))
          (at + 1) n (omega arith) (omega arith),
    )
    (different_more (codes "x" ++ decimal at) rest
    (each_flat (λ y. codes "x" ++ decimal at ≡ y → ⊥) names_at (at + 1) MOST_SIZE
    (λ k h m. ((λ e. first_apart 107 120 (decimal k) (decimal at) (omega arith) (sym e)), (number_apart 120 at k (omega arith) m, tt)))
    (at + 1) n (omega arith) (omega arith))
    (pairs_differ (at + 1) n (omega arith)))

pub are_names : (size : ℕ) → size ≤ MOST_SIZE → AreNames (role_names size)
are_names size few = record {
  counted = (let long = names_long size in omega (arith, long), let long = names_long size in omega (arith, long));
  named = (
    admin_name,
    each_flat (λ name. is_role_name name ≡ true) names_at 0 MOST_SIZE (λ at l m. (key_name at m, (extra_name at m, tt)))
        0 size (omega arith) (omega arith),
  );
  different = different_more (codes "a") (flat names_at (count_up 0 size))
      (each_flat (λ y. codes "a" ≡ y → ⊥) names_at 0 MOST_SIZE
      (λ at l m. (first_apart 97 107 [] (decimal at) (omega arith), (first_apart 97 120 [] (decimal at) (omega arith), tt)))
      0 size (omega arith) (omega arith))
      (pairs_differ 0 size (omega arith));
}

pub is_order : (size : ℕ) → size ≤ MOST_SIZE → IsOrder (role_names size) []
is_order size few = record { are_names = are_names size few; ends = tt; acyclic = none }
  where
    none : AreAcyclic []
    none place edge e back = none-some edge e

-- nothing but want of memory speaks against the order
pub memory_alone : (size : ℕ) (error : OrderError) → size ≤ MOST_SIZE → IsRefused (role_names size) [] error → error ≡ Memory
memory_alone size error few refused = by_case error (order_clash (role_names size) [] error (is_order size few) refused)
  where
    by_case : (error : OrderError) → ((error ≡ Memory → ⊥) → ⊥) → error ≡ Memory
    by_case Memory n = refl
    by_case NoRoles n = absurd (n (λ e. cc))
    by_case (TooManyRoles count) n = absurd (n (λ e. cc))
    by_case (BadName place) n = absurd (n (λ e. cc))
    by_case (SameName first second) n = absurd (n (λ e. cc))
    by_case (EdgeOutOfRange place) n = absurd (n (λ e. cc))
    by_case (Cycle place) n = absurd (n (λ e. cc))
