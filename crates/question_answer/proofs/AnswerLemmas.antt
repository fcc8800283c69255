-- A question has one certificate for each limit, and it shows what it says.
use Rattle.std.proofs.Common.{ℕ, ◌≡◌, ◌∙◌, List, [], ◌∷◌, ◌++◌, length, Bool, not, refl, ap, sym, subst}
use Rattle.std.specs.Prelude.{if◌then◌else◌, filter}
use Rattle.list_words.specs.Lists.{IsOneOf}
use Rattle.list_words.proofs.TestLemmas.{same_test}
use Rattle.role_order.specs.Graph.{AreEdges}
use Rattle.role_order.specs.Reach.{count_up}
use Rattle.role_order.specs.Roles.{IsWithin, has_role}
use Rattle.arbac_policy.specs.Rules.{IsPolicy}
use Rattle.arbac_laws.specs.Barriers.{barriers, outside}
use Rattle.arbac_laws.specs.Closed.{IsClosedList, IsUnmet}
use Rattle.arbac_laws.specs.Needs.{Need}
use Rattle.arbac_laws.specs.PreImages.{is_empty}
use Rattle.arbac_laws.specs.Recorded.{Entry}
use Rattle.arbac_laws.specs.Serving.{ServesLeast}
use Rattle.arbac_laws.proofs.BarrierLemmas.{barriers_closed, barriers_unmet}
use Rattle.arbac_laws.proofs.ConjunctLemmas.{are_seniors}
use Rattle.arbac_laws.proofs.ServeLemmas.{one_least, serves_users}
use Rattle.search_laws.specs.Candidates.{needs_in}
use Rattle.search_laws.specs.Plans.{Plans}
use Rattle.search_laws.specs.Rounds.{Search, found, closed, full}
use Rattle.search_laws.proofs.OutcomeLemmas.{AreClosed, closed_list, full_limit, full_list}
use Rattle.search_laws.proofs.PlanLemmas.{found_runs, one_plan}
use Rattle.search_laws.proofs.RoundLemmas.{one_outcome}
use Rattle.cert_text.specs.Certificates.{Certificate, reachable, unreachable, undecided}
use Rattle.cert_check.specs.Asked.{Asked, HasProperty}
use Rattle.back_search.specs.declared.outcome.Outcome.{Outcome}
use Rattle.back_search.specs.declared.outcome.Outcome.TheVariants.{Found, Closed, Limit}
use Rattle.question_answer.specs.Answers.{IsAnswerTo, TellsEnd}
use Rattle.question_answer.specs.Outcomes.{IsOutcomeOf, certificate_of, search_under}

-- barriers of two ceilings

-- one test passes as another does
pub filter_same : {A : Type 0} (p q : A → Bool) → ((x : A) → p x ≡ q x) → (xs : List A) → filter p xs ≡ filter q xs
filter_same p q same [] = refl
filter_same p q same (x ∷ xs) = rw (same x, filter_same p q same xs) refl

-- outside sets that have the same roles lie the same roles
pub same_outside : (count : ℕ) (a b : List ℕ) → IsWithin a b → IsWithin b a → outside count a ≡ outside count b
same_outside count a b into back =
    filter_same (λ role. not (has_role a role)) (λ role. not (has_role b role))
    (λ role. ap not (same_test (has_role a role) (has_role b role) (into role) (back role))) (count_up 0 count)

-- the barriers where these roles lie outside
abbrev pub barriers_by : List ℕ → List (List Need)
barriers_by hit = if is_empty hit then [] else (record { hits = hit ∷ []; lacks = [] } ∷ []) ∷ []

-- so they have the same barriers
pub same_barriers : (count : ℕ) (a b : List ℕ) → IsWithin a b → IsWithin b a → barriers count a ≡ barriers count b
same_barriers count a b into back = ap barriers_by (same_outside count a b into back)

-- the search over these barriers
abbrev pub search_over : Asked → ℕ → List (List Need) → Search
search_over asked limit list = record { rules = asked.rules; profiles = asked.profiles; goal = asked.goal; barriers = list; limit = limit }

-- under two ceilings there is one search
pub same_search : (asked : Asked) (limit : ℕ) (first second : Certificate) (a : IsAnswerTo asked limit first) (b : IsAnswerTo asked limit second)
    → search_under asked limit a.ceiling ≡ search_under asked limit b.ceiling
same_search asked limit first second a b =
    ap (search_over asked limit)
    (same_barriers (length asked.rules.order.names) a.ceiling b.ceiling (a.is_ceiling.least b.ceiling b.is_ceiling.gains)
    (b.is_ceiling.least a.ceiling a.is_ceiling.gains))

-- one certificate

-- a search that found one entry found no other
pub same_found : (xs ys : List Entry) (x y : Entry) → found xs x ≡ found ys y → (xs ≡ ys) × (x ≡ y)
same_found xs ys x y e = (cc, cc)

-- a closed search recorded one list
pub same_closed : (xs ys : List Entry) → closed xs ≡ closed ys → xs ≡ ys
same_closed xs ys e = cc

-- a full search recorded one list, and one entry comes next
pub same_full : (xs ys : List Entry) (x y : Entry) → full xs x ≡ full ys y → (xs ≡ ys) × (x ≡ y)
same_full xs ys x y e = (cc, cc)

-- how a search ends is told by one certificate
pub one_told : (s : Search) (first second : Certificate) → TellsEnd s first → TellsEnd s second → first ≡ second
one_told s (reachable xs acts) (reachable ys more) f g =
    ap (λ start. reachable start acts) start ∙ ap (reachable ys) plan
  where
    same : (f.0 ≡ g.0) × (f.1 ≡ g.1)
    same = same_found f.0 g.0 f.1 g.1 (one_outcome s (found f.0 f.1) (found g.0 g.1) f.2 g.2)

    start : xs ≡ ys
    start = one_least s.profiles g.1.needs xs ys (subst (λ (entry : Entry). ServesLeast s.profiles entry.needs xs) same.1 f.3) g.3

    plan : acts ≡ more
    plan = one_plan s.rules g.0 acts more g.1 (λ user. user)
        (subst (λ recorded. Plans s.rules recorded g.1 (λ user. user) acts) same.0
        (subst (λ entry. Plans s.rules f.0 entry (λ user. user) acts) same.1 f.4)) g.4
one_told s (reachable xs acts) (unreachable needs) f g = let e = one_outcome s (found f.0 f.1) (closed g.0) f.2 g.1 in cc
one_told s (reachable xs acts) (undecided limit recorded next) f g = let e = one_outcome s (found f.0 f.1) (full recorded next) f.2 g.0 in cc
one_told s (unreachable needs) (reachable xs acts) f g = let e = one_outcome s (closed f.0) (found g.0 g.1) f.1 g.2 in cc
one_told s (unreachable needs) (unreachable others) f g =
    let same = same_closed f.0 g.0 (one_outcome s (closed f.0) (closed g.0) f.1 g.1) in
    ap unreachable (f.2 ∙ ap (λ recorded. s.barriers ++ needs_in recorded) same ∙ sym g.2)
one_told s (unreachable needs) (undecided limit recorded next) f g = let e = one_outcome s (closed f.0) (full recorded next) f.1 g.0 in cc
one_told s (undecided limit recorded next) (reachable xs acts) f g = let e = one_outcome s (full recorded next) (found g.0 g.1) f.0 g.2 in cc
one_told s (undecided limit recorded next) (unreachable needs) f g = let e = one_outcome s (full recorded next) (closed g.0) f.0 g.1 in cc
one_told s (undecided limit recorded next) (undecided other more last) f g =
    let same = same_full recorded more next last (one_outcome s (full recorded next) (full more last) f.0 g.0) in
    let limits : limit ≡ other = f.1 ∙ sym g.1 in
    ap (λ l. undecided l recorded next) limits ∙ ap (λ list. undecided other list next) same.0 ∙ ap (undecided other more) same.1

-- a question has one certificate
pub one_answer : (asked : Asked) (limit : ℕ) (first second : Certificate) → IsAnswerTo asked limit first → IsAnswerTo asked limit second
    → first ≡ second
one_answer asked limit first second a b =
    one_told (search_under asked limit b.ceiling) first second
    (subst (λ s. TellsEnd s first) (same_search asked limit first second a b) a.tells) b.tells

-- what it shows

-- the plan is a run of drawn users; with the barriers what was recorded is a closed list; or what was recorded is a recorded list
pub answer_has : (asked : Asked) → AreEdges (length asked.rules.order.names) asked.rules.order.edges → IsPolicy asked.rules
    → (limit : ℕ) (cert : Certificate) → IsAnswerTo asked limit cert → HasProperty asked cert
answer_has asked ends policy limit (reachable start acts) answer =
    let s = search_under asked limit answer.ceiling in
    let told = answer.tells in
    let served = serves_users asked.profiles told.1.needs start told.3.serves in
    let run = found_runs s (are_seniors asked.rules.order ends) told.0 told.1 told.2 served.0 (λ user. user) served.2 acts told.4 in
    record { drawn = told.3.serves.drawn; users = served.0; are_users = served.1; end = run.0; run = run.1; met = run.2 }
answer_has asked ends policy limit (unreachable needs) answer =
    let s = search_under asked limit answer.ceiling in
    let told = answer.tells in
    subst (IsClosedList asked.rules asked.profiles asked.goal) (sym told.2) (closed_list s (are_seniors asked.rules.order ends) before unmet told.0 told.1)
  where
    before : AreClosed (search_under asked limit answer.ceiling)
    before = λ needs is ob listed raw e possible.
        barriers_closed asked.rules (are_seniors asked.rules.order ends) ends policy asked.profiles answer.ceiling answer.is_ceiling.gains
        needs is ob listed raw e

    unmet : (needs : List Need) → IsOneOf (barriers (length asked.rules.order.names) answer.ceiling) needs → IsUnmet asked.profiles needs
    unmet = barriers_unmet asked.rules asked.profiles answer.ceiling answer.is_ceiling.gains
answer_has asked ends policy limit (undecided most recorded next) answer =
    let s = search_under asked limit answer.ceiling in
    let told = answer.tells in
    (full_limit s recorded next told.0 ∙ sym told.1, full_list s (are_seniors asked.rules.order ends) recorded next told.0)

-- the certificate of an outcome

pub outcome_answers : (asked : Asked) (limit : ℕ) (outcome : Outcome) → IsOutcomeOf asked limit outcome
    → IsAnswerTo asked limit (certificate_of limit outcome)
outcome_answers asked limit (Found choice acts count) of =
    let a = of.is_answer in record { ceiling = of.ceiling; is_ceiling = of.is_ceiling; tells = (a.0, a.1, a.2, a.3, a.4) }
outcome_answers asked limit (Closed needs count) of =
    let a = of.is_answer in record { ceiling = of.ceiling; is_ceiling = of.is_ceiling; tells = (a.0, a.1, a.2) }
outcome_answers asked limit (Limit recorded next) of =
    record { ceiling = of.ceiling; is_ceiling = of.is_ceiling; tells = (of.is_answer, refl) }
