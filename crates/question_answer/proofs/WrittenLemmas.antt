-- What a search records, its barriers and the acts of its plans can be written.
use Rattle.std.proofs.Common.{ℕ, ◌≡◌, ◌<◌, ◌≤◌, ◌+◌, ◌||◌, List, [], ◌∷◌, ◌++◌, length, take, Some, zero, suc, sym, subst, refl, arith}
use Rattle.std.proofs.Common.{eqb, Bool, true, false, not, cond}
use Rattle.std.specs.Prelude.{slice_get}
use Rattle.std.proofs.lemmas.Bool.{eqb-true, eq-eqb}
use Rattle.list_words.specs.Lists.{Each}
use Rattle.list_words.proofs.EachLemmas.{each_append, each_at, each_left, each_of, each_right}
use Rattle.list_words.proofs.GetLemmas.{get_taken}
use Rattle.role_order.specs.Graph.{AreEdges}
use Rattle.role_order.specs.Reach.{count_up}
use Rattle.role_order.specs.Roles.{AreBelow, IsIn, has_role}
use Rattle.arbac_policy.specs.Rules.{IsPolicy, Rules}
use Rattle.arbac_policy.specs.Truth.{IsKnown, Term}
use Rattle.arbac_policy.specs.declared.act.Act.{Act}
use Rattle.arbac_policy.specs.declared.profile.Profile.{Profile}
use Rattle.arbac_laws.specs.Barriers.{barrier, barriers, outside}
use Rattle.arbac_laws.specs.Goals.{goal_requirements}
use Rattle.arbac_laws.specs.Needs.{Need}
use Rattle.arbac_laws.specs.PreImages.{is_empty}
use Rattle.arbac_laws.specs.Recorded.{Entry, IsOrigin, IsRecordedList, Origin, of_goal, of_parent}
use Rattle.arbac_laws.proofs.ConjunctLemmas.{AreSeniors, are_seniors}
use Rattle.search_laws.specs.Candidates.{needs_in}
use Rattle.search_laws.specs.Plans.{Plans}
use Rattle.search_laws.proofs.CandidateLemmas.{IsDerived}
use Rattle.search_laws.proofs.OutcomeLemmas.{closed_stands, full_limit, full_list}
use Rattle.search_laws.proofs.PlanLemmas.{AreDerived, are_derived, found_shows, is_listed, onward}
use Rattle.cert_text.specs.Certificates.{Certificate, reachable, unreachable, undecided, IsCertificate, IsKnownOrigin, IsWritten, IsWrittenEntry}
use Rattle.cert_text.specs.declared.TheConstants.{MOST_LIMIT}
use Rattle.cert_check.specs.Asked.{Asked}
use Rattle.question_answer.specs.Answers.{IsAnswerTo}
use Rattle.question_answer.specs.Outcomes.{search_under}
use Rattle.question_answer.proofs.KnownLemmas.{AreKnown, filter_below, form_written, goals_known, kept_known, none_below, role_known, written_known}

-- recorded entries

-- the requirement that an origin names has known roles, and so has the origin
pub origin_known : (rules : Rules) → AreSeniors rules.order → AreEdges (length rules.order.names) rules.order.edges → IsPolicy rules
    → (goal : List Term) → Each (IsKnown (length rules.order.names)) goal → (earlier : List Entry)
    → ((place : ℕ) (parent : Entry) → slice_get earlier place ≡ Some parent → Each (IsWritten (length rules.order.names)) parent.needs)
    → (origin : Origin) (needs : List Need) → IsOrigin rules goal earlier origin needs
    → IsKnownOrigin (length rules.order.names) origin × Each (AreKnown (length rules.order.names)) needs
origin_known rules same ends policy goal known earlier written (of_goal number) needs named = (
  tt,
  each_at (Each (AreKnown (length rules.order.names))) (goal_requirements rules.order goal) number needs (goals_known rules.order same ends goal known) named,
)
origin_known rules same ends policy goal known earlier written (of_parent parent ob) needs named = (
  role_known rules same named.0.needs ob named.2 needs named.3,
  kept_known rules same ends policy named.0.needs (written_known (length rules.order.names) named.0.needs (written parent named.0 named.1)) ob named.2 needs
      named.3,
)

-- an entry that is derived from entries that can be written can be written
pub derived_written : (rules : Rules) → AreSeniors rules.order → AreEdges (length rules.order.names) rules.order.edges → IsPolicy rules
    → (goal : List Term) → Each (IsKnown (length rules.order.names)) goal → (earlier : List Entry)
    → ((place : ℕ) (parent : Entry) → slice_get earlier place ≡ Some parent → Each (IsWritten (length rules.order.names)) parent.needs)
    → (entry : Entry) → IsDerived rules goal earlier entry → IsWrittenEntry (length rules.order.names) entry
derived_written rules same ends policy goal known earlier written entry derived =
    let named = origin_known rules same ends policy goal known earlier written entry.origin derived.0 derived.1 in
    record { origin = named.0; needs = form_written (length rules.order.names) derived.0 entry.needs named.1 derived.2 }

-- each entry of a recorded list, by its parents before it
pub entry_written : (rules : Rules) → AreSeniors rules.order → AreEdges (length rules.order.names) rules.order.edges → IsPolicy rules
    → (profiles : List Profile) (goal : List Term) → Each (IsKnown (length rules.order.names)) goal
    → (list : List Entry) → IsRecordedList rules profiles goal list
    → (n place : ℕ) (entry : Entry) → place < n → slice_get list place ≡ Some entry → IsWrittenEntry (length rules.order.names) entry
entry_written rules same ends policy profiles goal known list recorded zero place entry l at = absurd (omega arith)
entry_written rules same ends policy profiles goal known list recorded (suc n) place entry l at =
    derived_written rules same ends policy goal known (take place list)
    (λ p parent there.
    let before = get_taken list place p parent there in
    let less = before.0 in
    (entry_written rules same ends policy profiles goal known list recorded n p parent (omega (arith, less, l)) before.1).needs)
    entry (recorded place entry at).derived

-- all of them
pub list_written : (rules : Rules) → AreSeniors rules.order → AreEdges (length rules.order.names) rules.order.edges → IsPolicy rules
    → (profiles : List Profile) (goal : List Term) → Each (IsKnown (length rules.order.names)) goal
    → (list : List Entry) → IsRecordedList rules profiles goal list → Each (IsWrittenEntry (length rules.order.names)) list
list_written rules same ends policy profiles goal known list recorded =
    each_of (IsWrittenEntry (length rules.order.names)) list (λ place entry at.
    entry_written rules same ends policy profiles goal known list recorded (suc place) place entry (omega arith) at)

-- their requirements alone
pub needs_in_written : (count : ℕ) (list : List Entry) → Each (IsWrittenEntry count) list → Each (Each (IsWritten count)) (needs_in list)
needs_in_written count [] written = tt
needs_in_written count (entry ∷ list) written = (written.0.needs, needs_in_written count list written.1)

-- barriers

-- what is counted up is below the end
pub counted_below : (at n role : ℕ) → IsIn (count_up at n) role → role < at + n
counted_below at zero role h = cc
counted_below at (suc n) role h = by_test (eqb at role) refl h (counted_below (at + 1) n role)
  where
    by_test : (t : Bool) → eqb at role ≡ t → (t || has_role (count_up (at + 1) n) role) ≡ true
        → (IsIn (count_up (at + 1) n) role → role < (at + 1) + n) → role < at + suc n
    by_test true e h rest = let same = eqb-true at role e in omega (arith, same)
    by_test false e h rest = let l = rest h in omega (arith, l)

-- a set with a role has one
pub first_role : (xs : List ℕ) → is_empty xs ≡ false → (role : ℕ) × IsIn xs role
first_role [] e = cc
first_role (x ∷ xs) e = (x, rw (eq-eqb x x refl) refl)

-- the one hit of a barrier has roles of the order, and at least one
pub barriers_written : (count : ℕ) (set : List ℕ) → Each (Each (IsWritten count)) (barriers count set)
barriers_written count set = by_test (is_empty (outside count set)) refl
  where
    below : AreBelow count (outside count set)
    below = filter_below count (λ role. not (has_role set role)) (count_up 0 count) (λ role h. let l = counted_below 0 count role h in omega (arith, l))

    by_test : (t : Bool) → is_empty (outside count set) ≡ t → Each (Each (IsWritten count)) (cond t [] (barrier count set ∷ []))
    by_test true e = tt
    by_test false e = ((record { hits = (below, tt); lacks = none_below count; filled = (first_role (outside count set) e, tt) }, tt), tt)

-- plans

-- each act has the role of an obligation
pub plan_known : (rules : Rules) → AreSeniors rules.order → (goal : List Term) (recorded : List Entry) → AreDerived rules goal recorded
    → (acts : List Act) (entry : Entry) → IsDerived rules goal recorded entry → (to : ℕ → ℕ) → Plans rules recorded entry to acts
    → Each (λ (act : Act). act.role < length rules.order.names) acts
plan_known rules same goal recorded each [] entry derived to plan = tt
plan_known rules same goal recorded each (act ∷ acts) entry derived to plan = (
  subst (λ (a : Act). a.role < length rules.order.names) (sym plan.4)
      (role_known rules same plan.0.needs plan.1 (is_listed rules goal recorded entry plan.0 plan.1 plan.2 derived plan.3) plan.3.raw plan.3.raw_is),
  plan_known rules same goal recorded each acts plan.0 (each plan.3.number plan.0 plan.3.parent_is) (onward to plan.2) plan.5,
)

-- certificates

-- the certificate of what is asked can be written
pub answer_written : (asked : Asked) → AreEdges (length asked.rules.order.names) asked.rules.order.edges → IsPolicy asked.rules
    → Each (IsKnown (length asked.rules.order.names)) asked.goal → (limit : ℕ) → 1 ≤ limit → limit ≤ MOST_LIMIT
    → (cert : Certificate) → IsAnswerTo asked limit cert → IsCertificate (length asked.rules.order.names) cert
answer_written asked ends policy known limit some few (reachable start acts) answer =
    let s = search_under asked limit answer.ceiling in
    let same = are_seniors asked.rules.order ends in
    let told = answer.tells in
    let shown = found_shows s same told.0 told.1 told.2 in
    plan_known asked.rules same asked.goal told.0 (are_derived asked.rules asked.profiles asked.goal told.0 shown.0) acts told.1 shown.1 (λ user. user) told.4
answer_written asked ends policy known limit some few (unreachable needs) answer =
    let count = length asked.rules.order.names in
    let s = search_under asked limit answer.ceiling in
    let same = are_seniors asked.rules.order ends in
    let told = answer.tells in
    subst (Each (Each (IsWritten count))) (sym told.2)
    (each_append (Each (IsWritten count)) s.barriers (needs_in told.0) (barriers_written count answer.ceiling)
    (needs_in_written count told.0
    (list_written asked.rules same ends policy asked.profiles asked.goal known told.0 (closed_stands s same told.0 told.1).list)))
answer_written asked ends policy known limit some few (undecided most recorded next) answer =
    let count = length asked.rules.order.names in
    let s = search_under asked limit answer.ceiling in
    let same = are_seniors asked.rules.order ends in
    let told = answer.tells in
    let is : most ≡ limit = told.1 in
    let long : length recorded ≡ limit = full_limit s recorded next told.0 in
    let each = list_written asked.rules same ends policy asked.profiles asked.goal known (recorded ++ next ∷ []) (full_list s same recorded next told.0) in (
      omega (arith, is, some),
      omega (arith, is, few),
      omega (arith, long, some),
      each_left (IsWrittenEntry count) recorded (next ∷ []) each,
      (each_right (IsWrittenEntry count) recorded (next ∷ []) each).0,
    )
