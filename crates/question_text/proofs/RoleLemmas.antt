-- The steps of reading the lists of roles, edges and pairs.
use Rattle.std.proofs.Common.{ℕ, ◌≡◌, Bool, true, false, List, [], ◌∷◌, ◌++◌, fold, Option, Result, Ok, Err, refl, sym, ap, ◌∙◌, arith}
use Rattle.std.specs.Prelude.{codes, IfOk}
use Rattle.toml.specs.Data.{Data, Members}
use Rattle.role_order.specs.Roles.{with_role}
use Rattle.arbac_policy.specs.declared.TheConstants.{MOST_EDGES}
use Rattle.cond_text.specs.Named.{set_of}
use Rattle.question_text.specs.declared.question_error.QuestionError.{QuestionError}
use Rattle.question_text.specs.Outcomes.{Fault, Outcome, gives, ◌>>=◌}
use Rattle.question_text.specs.Keys.{as_list, required, optional, at_most, entries}
use Rattle.question_text.specs.Roles.{a_text, is_order, an_edge, role_names, not_mixed, listed_roles, role_edges}
use Rattle.question_text.specs.Answers.{fault_of, IsToldBy, Answers}
use Rattle.question_text.proofs.KeyLemmas.{few_enough}
use Rattle.question_text.proofs.OutcomeLemmas.{passes, goes_on, tells_on}
use Rattle.std.proofs.lemmas.List.Sums.{fold-append}

-- the set with one role more
pub set_more : (set next roles : List ℕ) (role : ℕ) → set ≡ set_of roles → next ≡ with_role set role → next ≡ set_of (roles ++ role ∷ [])
set_more set next roles role is more = more ∙ ap (λ (s : List ℕ). with_role s role) is ∙ sym (fold-append with_role [] roles (role ∷ []))

-- the names were read: the order speaks
pub order_speaks : {A : Type 0} (names_of : A → List (List ℕ)) (table : Members) (list : List Data) (names : List (List ℕ))
    (result : Result A QuestionError)
    → required as_list table [] (codes "roles") (Ok list) → entries a_text (codes "roles") list (Ok names)
    → Answers (λ _. tt) (is_order names []) result → IfOk result (λ order. names_of order ≡ names) → Answers names_of (role_names table) result
order_speaks names_of table list names (Ok order) h k answer is =
    goes_on (required as_list table [] (codes "roles"))
    (λ list. entries a_text (codes "roles") list >>= λ names. is_order names [] >>= λ done. gives names) list (Ok (names_of order)) h
    (goes_on (entries a_text (codes "roles") list) (λ names. is_order names [] >>= λ done. gives names) names (Ok (names_of order)) k
    (goes_on (is_order names []) (λ done. gives names) tt (Ok (names_of order)) answer (ap (λ (ns : List (List ℕ)). Ok ns) is)))
order_speaks names_of table list names (Err error) h k answer is =
    tells_on (required as_list table [] (codes "roles"))
    (λ list. entries a_text (codes "roles") list >>= λ names. is_order names [] >>= λ done. gives names) list (fault_of error) h
    (tells_on (entries a_text (codes "roles") list) (λ names. is_order names [] >>= λ done. gives names) names (fault_of error) k
    (passes (is_order names []) (λ done. gives names) (fault_of error) answer))

pub name_told : (table : Members) (list : List Data) (told : Option Fault)
    → required as_list table [] (codes "roles") (Ok list) → IsToldBy (entries a_text (codes "roles") list) told → IsToldBy (role_names table) told
name_told table list told h k =
    tells_on (required as_list table [] (codes "roles"))
    (λ list. entries a_text (codes "roles") list >>= λ names. is_order names [] >>= λ done. gives names) list told h
    (passes (entries a_text (codes "roles") list) (λ names. is_order names [] >>= λ done. gives names) told k)

abbrev behind_entries : Bool → List ℕ → List ℕ → List (ℕ × ℕ) → Outcome (List (ℕ × ℕ))
behind_entries separate admins key roles = not_mixed separate admins key roles >>= λ apart. gives roles

abbrev behind_count : (List ℕ → Data → Outcome (ℕ × ℕ)) → Bool → List ℕ → List ℕ → List Data → Outcome (List (ℕ × ℕ))
behind_count read separate admins key list = entries read key list >>= behind_entries separate admins key

abbrev behind_list : ℕ → (List ℕ → Data → Outcome (ℕ × ℕ)) → Bool → List ℕ → List ℕ → List Data → Outcome (List (ℕ × ℕ))
behind_list most read separate admins key list = at_most most key list >>= λ few. behind_count read separate admins key list

pub many_told : (most : ℕ) (read : List ℕ → Data → Outcome (ℕ × ℕ)) (separate : Bool) (admins key : List ℕ) (table : Members) (list : List Data)
    (told : Option Fault)
    → optional as_list [] table [] key (Ok list) → IsToldBy (at_most most key list) told
    → IsToldBy (listed_roles most read separate admins key table) told
many_told most read separate admins key table list told h k =
    tells_on (optional as_list [] table [] key) (behind_list most read separate admins key) list told h
    (passes (at_most most key list) (λ few. behind_count read separate admins key list) told k)

pub entry_told : (most : ℕ) (read : List ℕ → Data → Outcome (ℕ × ℕ)) (separate : Bool) (admins key : List ℕ) (table : Members) (list : List Data)
    (told : Option Fault)
    → optional as_list [] table [] key (Ok list) → at_most most key list (Ok tt) → IsToldBy (entries read key list) told
    → IsToldBy (listed_roles most read separate admins key table) told
entry_told most read separate admins key table list told h few k =
    tells_on (optional as_list [] table [] key) (behind_list most read separate admins key) list told h
    (tells_on (at_most most key list) (λ few. behind_count read separate admins key list) tt told few
    (passes (entries read key list) (behind_entries separate admins key) told k))

pub mixed_told : (most : ℕ) (read : List ℕ → Data → Outcome (ℕ × ℕ)) (separate : Bool) (admins key : List ℕ) (table : Members) (list : List Data)
    (roles : List (ℕ × ℕ)) (told : Option Fault)
    → optional as_list [] table [] key (Ok list) → at_most most key list (Ok tt) → entries read key list (Ok roles)
    → IsToldBy (not_mixed separate admins key roles) told
    → IsToldBy (listed_roles most read separate admins key table) told
mixed_told most read separate admins key table list roles told h few each k =
    tells_on (optional as_list [] table [] key) (behind_list most read separate admins key) list told h
    (tells_on (at_most most key list) (λ few. behind_count read separate admins key list) tt told few
    (tells_on (entries read key list) (behind_entries separate admins key) roles told each
    (passes (not_mixed separate admins key roles) (λ apart. gives roles) told k)))

pub all_listed : (most : ℕ) (read : List ℕ → Data → Outcome (ℕ × ℕ)) (separate : Bool) (admins key : List ℕ) (table : Members) (list : List Data)
    (roles : List (ℕ × ℕ))
    → optional as_list [] table [] key (Ok list) → at_most most key list (Ok tt) → entries read key list (Ok roles)
    → not_mixed separate admins key roles (Ok tt)
    → listed_roles most read separate admins key table (Ok roles)
all_listed most read separate admins key table list roles h few each apart =
    goes_on (optional as_list [] table [] key) (behind_list most read separate admins key) list (Ok roles) h
    (goes_on (at_most most key list) (λ few. behind_count read separate admins key list) tt (Ok roles) few
    (goes_on (entries read key list) (behind_entries separate admins key) roles (Ok roles) each
    (goes_on (not_mixed separate admins key roles) (λ apart. gives roles) tt (Ok roles) apart refl)))

none_apart : (separate : Bool) (admins key : List ℕ) → not_mixed separate admins key [] (Ok tt)
none_apart true admins key = refl
none_apart false admins key = refl

-- an absent list has no entries
pub none_listed : (most : ℕ) (read : List ℕ → Data → Outcome (ℕ × ℕ)) (separate : Bool) (admins key : List ℕ) (table : Members)
    → optional as_list [] table [] key (Ok []) → listed_roles most read separate admins key table (Ok [])
none_listed most read separate admins key table h =
    all_listed most read separate admins key table [] [] h (few_enough most key [] 0 refl (omega arith)) refl (none_apart separate admins key)

-- the edges were read: the order speaks
pub edges_speak : {A : Type 0} (edges_of : A → List (ℕ × ℕ)) (separate : Bool) (admins : List ℕ) (names : List (List ℕ)) (table : Members)
    (edges : List (ℕ × ℕ)) (result : Result A QuestionError)
    → listed_roles MOST_EDGES (an_edge names) separate admins (codes "edges") table (Ok edges) → Answers (λ _. tt) (is_order names edges) result
    → IfOk result (λ order. edges_of order ≡ edges)
    → Answers edges_of (role_edges separate admins names table) result
edges_speak edges_of separate admins names table edges (Ok order) h answer is =
    goes_on (listed_roles MOST_EDGES (an_edge names) separate admins (codes "edges") table)
    (λ edges. is_order names edges >>= λ done. gives edges) edges (Ok (edges_of order)) h
    (goes_on (is_order names edges) (λ done. gives edges) tt (Ok (edges_of order)) answer (ap (λ (es : List (ℕ × ℕ)). Ok es) is))
edges_speak edges_of separate admins names table edges (Err error) h answer is =
    tells_on (listed_roles MOST_EDGES (an_edge names) separate admins (codes "edges") table)
    (λ edges. is_order names edges >>= λ done. gives edges) edges (fault_of error) h
    (passes (is_order names edges) (λ done. gives edges) (fault_of error) answer)
