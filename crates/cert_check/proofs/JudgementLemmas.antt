-- A certificate that has its property fails for no reason, and one that hasn't fails first for one reason at most.
use Rattle.std.proofs.Common.{ℕ, ◌≡◌, ◌<◌, ◌∙◌, List, [], ◌∷◌, ◌++◌, length, take, refl, sym, subst, ap, inl, inr, Some}
use Rattle.std.specs.Prelude.{◌⊎◌, slice_get}
use Rattle.list_words.specs.Lists.{Each, IsFirst}
use Rattle.list_words.proofs.GetLemmas.{get_take}
use Rattle.list_words.proofs.NumberLemmas.{compare}
use Rattle.arbac_policy.specs.declared.act.Act.{Act}
use Rattle.arbac_policy.specs.declared.profile.Profile.{Profile}
use Rattle.arbac_policy.specs.Steps.{Run}
use Rattle.arbac_policy.specs.Goals.{GoalMet}
use Rattle.plan_replay.specs.Replays.{StopsAt}
use Rattle.arbac_laws.specs.Needs.{Covers, Need}
use Rattle.arbac_laws.specs.Closed.{IsClosedList, IsUnmet}
use Rattle.arbac_laws.specs.Goals.{goal_requirements}
use Rattle.arbac_laws.specs.Obligations.{obligations}
use Rattle.arbac_laws.specs.Recorded.{Entry, IsEntry}
use Rattle.arbac_laws.specs.Serving.{ServesLeast}
use Rattle.arbac_laws.proofs.ServeLemmas.{one_least, unmet_unserved}
use Rattle.cert_text.specs.Certificates.{Certificate, reachable, unreachable, undecided}
use Rattle.cert_check.specs.Asked.{AreRightUntil, Asked, FailsFirst, HasOpen, HasProperty, HasStart, IsDerivedEntry, IsFirstMet, IsFirstOpen}
use Rattle.cert_check.specs.Asked.{IsMetStep, IsOpen, IsPlan, IsRefusedAct, IsRepeated, IsUncovered, IsUnderived, MissesGoal, Reason, goal_not_met}
use Rattle.cert_check.specs.Asked.{goal_uncovered, left_open, needs_in, not_derived, not_drawn, reason_of, repeated, starts_met, step_refused}
use Rattle.cert_check.specs.Asked.{wrong_count}
use Rattle.cert_check.specs.Judgements.{IfAccepted, IfRefused, IsRefusal}
use Rattle.cert_check.specs.declared.judgement.Judgement.{Judgement}
use Rattle.cert_check.specs.declared.judgement.Judgement.TheVariants.{Accepted, Refused}
use Rattle.cert_check.proofs.FirstLemmas.{first_none, first_one, first_some, take_before}
use Rattle.cert_check.proofs.PlanLemmas.{run_one, stops_no, stops_part, stops_place, undrawn_no, undrawn_one, users_one}

-- no drawn users serve what no drawn users meet
unmet_no : (profiles : List Profile) (needs : List Need) (choice : List ℕ) → IsUnmet profiles needs → ServesLeast profiles needs choice → ⊥
unmet_no profiles needs choice unmet least = (unmet_unserved profiles needs).0 unmet choice least.serves

-- plans

plan_stops_no : (asked : Asked) (start : List ℕ) (acts : List Act) (place : ℕ) (part : _) → IsPlan asked start acts
    → IsRefusedAct asked start acts place part → ⊥
plan_stops_no asked start acts place part plan stops =
    let same = users_one asked.profiles start plan.users stops.users plan.are_users stops.are_users in
    stops_no asked.rules stops.users acts place part stops.stops plan.end (subst (λ users. Run asked.rules users acts plan.end) same plan.run)

plan_meets : (asked : Asked) (start : List ℕ) (acts : List Act) → IsPlan asked start acts → MissesGoal asked start acts → ⊥
plan_meets asked start acts plan misses =
    let same = users_one asked.profiles start plan.users misses.users plan.are_users misses.are_users in
    let end = run_one asked.rules misses.users acts plan.end misses.end (subst (λ users. Run asked.rules users acts plan.end) same plan.run) misses.run in
    misses.unmet (subst (λ sets. GoalMet asked.rules.order.edges asked.goal sets) end plan.met)

stops_misses_no : (asked : Asked) (start : List ℕ) (acts : List Act) (place : ℕ) (part : _) → IsRefusedAct asked start acts place part
    → MissesGoal asked start acts → ⊥
stops_misses_no asked start acts place part stops misses =
    let same = users_one asked.profiles start misses.users stops.users misses.are_users stops.are_users in
    stops_no asked.rules stops.users acts place part stops.stops misses.end (subst (λ users. Run asked.rules users acts misses.end) same misses.run)

refused_one : (asked : Asked) (start : List ℕ) (acts : List Act) (p q : ℕ) (a b : _) → IsRefusedAct asked start acts p a
    → IsRefusedAct asked start acts q b → step_refused p a ≡ step_refused q b
refused_one asked start acts p q a b h k =
    let users = users_one asked.profiles start k.users h.users k.are_users h.are_users in
    let stops : StopsAt asked.rules h.users acts q b = subst (λ old. StopsAt asked.rules old acts q b) users k.stops in
    let place : p ≡ q = stops_place asked.rules h.users acts p q a b h.stops stops in
    let part = stops_part asked.rules h.users acts q a b (subst (λ n. StopsAt asked.rules h.users acts n a) place h.stops) stops in
    ap (λ n. step_refused n a) place ∙ ap (step_refused q) part

plan_one : (asked : Asked) (start : List ℕ) (acts : List Act) (a b : Reason) → FailsFirst asked (reachable start acts) a
    → FailsFirst asked (reachable start acts) b → a ≡ b
plan_one asked start acts (not_drawn p) (not_drawn q) h k = ap not_drawn (undrawn_one asked.profiles start p q h k)
plan_one asked start acts (not_drawn p) (step_refused q part) h k = absurd (undrawn_no asked.profiles start p h k.drawn)
plan_one asked start acts (not_drawn p) goal_not_met h k = absurd (undrawn_no asked.profiles start p h k.drawn)
plan_one asked start acts (step_refused p part) (not_drawn q) h k = absurd (undrawn_no asked.profiles start q k h.drawn)
plan_one asked start acts (step_refused p a) (step_refused q b) h k = refused_one asked start acts p q a b h k
plan_one asked start acts (step_refused p part) goal_not_met h k = absurd (stops_misses_no asked start acts p part h k)
plan_one asked start acts goal_not_met (not_drawn q) h k = absurd (undrawn_no asked.profiles start q k h.drawn)
plan_one asked start acts goal_not_met (step_refused q part) h k = absurd (stops_misses_no asked start acts q part k h)
plan_one asked start acts goal_not_met goal_not_met h k = refl
plan_one asked start acts (goal_uncovered p) b h k = absurd h
plan_one asked start acts (left_open p o) b h k = absurd h
plan_one asked start acts (starts_met p c) b h k = absurd h
plan_one asked start acts (not_derived p) b h k = absurd h
plan_one asked start acts (repeated p e) b h k = absurd h
plan_one asked start acts (wrong_count n) b h k = absurd h
plan_one asked start acts a (goal_uncovered p) h k = absurd k
plan_one asked start acts a (left_open p o) h k = absurd k
plan_one asked start acts a (starts_met p c) h k = absurd k
plan_one asked start acts a (not_derived p) h k = absurd k
plan_one asked start acts a (repeated p e) h k = absurd k
plan_one asked start acts a (wrong_count n) h k = absurd k

-- closed lists

closed_open_no : (asked : Asked) (list : List (List Need)) (place obligation : ℕ)
    → IsClosedList asked.rules asked.profiles asked.goal list → IsFirstOpen asked list place obligation → ⊥
closed_open_no asked list place obligation closed left =
    let image = left.first.holds in
    image.2.1
    (closed.pre_images left.member.item (place, left.member.at) left.first.item (obligation, left.first.at) image.0 image.1 image.2.0)

open_one : (asked : Asked) (list : List (List Need)) (p q o r : ℕ) → IsFirstOpen asked list p o → IsFirstOpen asked list q r
    → left_open p o ≡ left_open q r
open_one asked list p q o r h k =
    let place : p ≡ q = first_one (HasOpen asked.rules list) list p q h.member k.member in
    let at : slice_get list q ≡ Some h.member.item = subst (λ n. slice_get list n ≡ Some h.member.item) place h.member.at in
    let there : slice_get list q ≡ Some k.member.item = k.member.at in
    let item : k.member.item ≡ h.member.item = cc (at, there) in
    let other = subst (λ needs. IsFirst (IsOpen asked.rules list needs) (obligations asked.rules needs) r) item k.first in
    let obligation = first_one (IsOpen asked.rules list h.member.item) (obligations asked.rules h.member.item) o r h.first other in
    ap (λ n. left_open n o) place ∙ ap (left_open q) obligation

open_met_no : (asked : Asked) (list : List (List Need)) (p q o : ℕ) (choice : List ℕ) → IsFirstOpen asked list p o
    → IsFirstMet asked list q choice → ⊥
open_met_no asked list p q o choice h k = first_none (HasOpen asked.rules list) list p h.member k.none_open

met_one : (asked : Asked) (list : List (List Need)) (p q : ℕ) (c d : List ℕ) → IsFirstMet asked list p c → IsFirstMet asked list q d
    → starts_met p c ≡ starts_met q d
met_one asked list p q c d h k =
    let place : p ≡ q = first_one (HasStart asked.profiles) list p q h.member k.member in
    let at : slice_get list q ≡ Some h.member.item = subst (λ n. slice_get list n ≡ Some h.member.item) place h.member.at in
    let there : slice_get list q ≡ Some k.member.item = k.member.at in
    let item : k.member.item ≡ h.member.item = cc (at, there) in
    let choice = one_least asked.profiles h.member.item c d h.least (subst (λ needs. ServesLeast asked.profiles needs d) item k.least) in
    ap (λ n. starts_met n c) place ∙ ap (starts_met q) choice

goals_no : (asked : Asked) (list : List (List Need)) (goal : ℕ) → IsFirst (IsUncovered list) (goal_requirements asked.rules.order asked.goal) goal
    → Each (λ needs. ¬ IsUncovered list needs) (goal_requirements asked.rules.order asked.goal) → ⊥
goals_no asked list goal = first_none (IsUncovered list) (goal_requirements asked.rules.order asked.goal) goal

needs_one : (asked : Asked) (list : List (List Need)) (a b : Reason) → FailsFirst asked (unreachable list) a
    → FailsFirst asked (unreachable list) b → a ≡ b
needs_one asked list (goal_uncovered p) (goal_uncovered q) h k =
    ap goal_uncovered (first_one (IsUncovered list) (goal_requirements asked.rules.order asked.goal) p q h k)
needs_one asked list (goal_uncovered p) (left_open q o) h k = absurd (goals_no asked list p h k.goals)
needs_one asked list (goal_uncovered p) (starts_met q c) h k = absurd (goals_no asked list p h k.goals)
needs_one asked list (left_open p o) (goal_uncovered q) h k = absurd (goals_no asked list q k h.goals)
needs_one asked list (left_open p o) (left_open q r) h k = open_one asked list p q o r h k
needs_one asked list (left_open p o) (starts_met q c) h k = absurd (open_met_no asked list p q o c h k)
needs_one asked list (starts_met p c) (goal_uncovered q) h k = absurd (goals_no asked list q k h.goals)
needs_one asked list (starts_met p c) (left_open q o) h k = absurd (open_met_no asked list q p o c k h)
needs_one asked list (starts_met p c) (starts_met q d) h k = met_one asked list p q c d h k
needs_one asked list (not_drawn p) b h k = absurd h
needs_one asked list (step_refused p part) b h k = absurd h
needs_one asked list goal_not_met b h k = absurd h
needs_one asked list (not_derived p) b h k = absurd h
needs_one asked list (repeated p e) b h k = absurd h
needs_one asked list (wrong_count n) b h k = absurd h
needs_one asked list a (not_drawn p) h k = absurd k
needs_one asked list a (step_refused p part) h k = absurd k
needs_one asked list a goal_not_met h k = absurd k
needs_one asked list a (not_derived p) h k = absurd k
needs_one asked list a (repeated p e) h k = absurd k
needs_one asked list a (wrong_count n) h k = absurd k

-- recorded lists

-- the steps before the place are right, and the one at it isn't
record IsWrongAt (asked : Asked) (list : List Entry) (place : ℕ) : Type 0 where
  before : AreRightUntil asked list place
  entry : Entry
  at : slice_get list place ≡ Some entry
  wrong : IsEntry asked.rules asked.profiles asked.goal (take place list) entry → ⊥

underived_wrong : (asked : Asked) (list : List Entry) (place : ℕ) → IsUnderived asked list place → IsWrongAt asked list place
underived_wrong asked list place h = record { before = h.before; entry = h.entry; at = h.at; wrong = λ right. h.wrong right.derived }

repeated_wrong : (asked : Asked) (list : List Entry) (place earlier : ℕ) → IsRepeated asked list place earlier → IsWrongAt asked list place
repeated_wrong asked list place earlier h = record {
  before = h.before;
  entry = h.entry;
  at = h.at;
  wrong = λ right. right.uncovered (first_some (λ needs. Covers needs h.entry.needs) (needs_in (take place list)) earlier h.covered);
}

met_wrong : (asked : Asked) (list : List Entry) (place : ℕ) (choice : List ℕ) → IsMetStep asked list place choice → IsWrongAt asked list place
met_wrong asked list place choice h = record {
  before = h.before;
  entry = h.entry;
  at = h.at;
  wrong = λ right. unmet_no asked.profiles h.entry.needs choice right.unmet h.least;
}

wrong_earlier : (asked : Asked) (list : List Entry) (p q : ℕ) → IsWrongAt asked list p → IsWrongAt asked list q → p < q → ⊥
wrong_earlier asked list p q h k l =
    h.wrong (subst (λ earlier. IsEntry asked.rules asked.profiles asked.goal earlier h.entry) (take_before list p q l)
    (k.before p h.entry (get_take list q p l ∙ h.at)))

wrong_one : (asked : Asked) (list : List Entry) (p q : ℕ) → IsWrongAt asked list p → IsWrongAt asked list q → p ≡ q
wrong_one asked list p q h k = by_order (compare p q)
  where
    by_order : (p < q) ⊎ ((p ≡ q) ⊎ (q < p)) → p ≡ q
    by_order (inl l) = absurd (wrong_earlier asked list p q h k l)
    by_order (inr (inl e)) = e
    by_order (inr (inr l)) = absurd (wrong_earlier asked list q p k h l)

entry_one : (list : List Entry) (place : ℕ) (a b : Entry) → slice_get list place ≡ Some a → slice_get list place ≡ Some b → a ≡ b
entry_one list place a b h k = cc

underived_no : (asked : Asked) (list : List Entry) (p q : ℕ) → IsUnderived asked list p → IsWrongAt asked list q
    → ((entry : Entry) → slice_get list q ≡ Some entry → IsDerivedEntry asked (take q list) entry) → ⊥
underived_no asked list p q h k derived =
    let place = wrong_one asked list p q (underived_wrong asked list p h) k in
    let there = subst (IsUnderived asked list) place h in
    there.wrong (derived there.entry there.at)

derived_at : (asked : Asked) (list : List Entry) (place : ℕ) (entry other : Entry) → slice_get list place ≡ Some entry
    → IsDerivedEntry asked (take place list) entry → slice_get list place ≡ Some other → IsDerivedEntry asked (take place list) other
derived_at asked list place entry other at derived there =
    subst (IsDerivedEntry asked (take place list)) (entry_one list place entry other at there) derived

repeated_met_no : (asked : Asked) (list : List Entry) (p q e : ℕ) (choice : List ℕ) → IsRepeated asked list p e → IsMetStep asked list q choice → ⊥
repeated_met_no asked list p q e choice h k =
    let place = wrong_one asked list p q (repeated_wrong asked list p e h) (met_wrong asked list q choice k) in
    let there = subst (λ n. IsRepeated asked list n e) place h in
    let entry = entry_one list q there.entry k.entry there.at k.at in
    let first = subst (λ (x : Entry). IsFirst (λ needs. Covers needs x.needs) (needs_in (take q list)) e) entry there.covered in
    k.new (first_some (λ needs. Covers needs k.entry.needs) (needs_in (take q list)) e first)

repeated_one : (asked : Asked) (list : List Entry) (p q e f : ℕ) → IsRepeated asked list p e → IsRepeated asked list q f
    → repeated p e ≡ repeated q f
repeated_one asked list p q e f h k =
    let place = wrong_one asked list p q (repeated_wrong asked list p e h) (repeated_wrong asked list q f k) in
    let there = subst (λ n. IsRepeated asked list n e) place h in
    let entry = entry_one list q there.entry k.entry there.at k.at in
    let first = subst (λ (x : Entry). IsFirst (λ needs. Covers needs x.needs) (needs_in (take q list)) e) entry there.covered in
    let earlier = first_one (λ needs. Covers needs k.entry.needs) (needs_in (take q list)) e f first k.covered in
    ap (λ n. repeated n e) place ∙ ap (repeated q) earlier

met_step_one : (asked : Asked) (list : List Entry) (p q : ℕ) (c d : List ℕ) → IsMetStep asked list p c → IsMetStep asked list q d
    → starts_met p c ≡ starts_met q d
met_step_one asked list p q c d h k =
    let place = wrong_one asked list p q (met_wrong asked list p c h) (met_wrong asked list q d k) in
    let there = subst (λ n. IsMetStep asked list n c) place h in
    let entry = entry_one list q there.entry k.entry there.at k.at in
    let least = subst (λ (x : Entry). ServesLeast asked.profiles x.needs c) entry there.least in
    let choice = one_least asked.profiles k.entry.needs c d least k.least in
    ap (λ n. starts_met n c) place ∙ ap (starts_met q) choice

underived_repeated_no : (asked : Asked) (list : List Entry) (p q e : ℕ) → IsUnderived asked list p → IsRepeated asked list q e → ⊥
underived_repeated_no asked list p q e h k =
    underived_no asked list p q h (repeated_wrong asked list q e k) (λ other there. derived_at asked list q k.entry other k.at k.derived there)

underived_met_no : (asked : Asked) (list : List Entry) (p q : ℕ) (c : List ℕ) → IsUnderived asked list p → IsMetStep asked list q c → ⊥
underived_met_no asked list p q c h k =
    underived_no asked list p q h (met_wrong asked list q c k) (λ other there. derived_at asked list q k.entry other k.at k.derived there)

count_no : (recorded : List Entry) (limit count : ℕ) → (count ≡ length recorded) × (count ≡ limit → ⊥) → length recorded ≡ limit → ⊥
count_no recorded limit count h same = h.1 (h.0 ∙ same)

steps_one : (asked : Asked) (limit : ℕ) (steps : List Entry) (next : Entry) (a b : Reason) → FailsFirst asked (undecided limit steps next) a
    → FailsFirst asked (undecided limit steps next) b → a ≡ b
steps_one asked limit steps next (wrong_count m) (wrong_count n) h k = ap wrong_count (h.0 ∙ sym k.0)
steps_one asked limit steps next (wrong_count m) (not_derived q) h k = absurd (count_no steps limit m h k.0)
steps_one asked limit steps next (wrong_count m) (repeated q e) h k = absurd (count_no steps limit m h k.0)
steps_one asked limit steps next (wrong_count m) (starts_met q c) h k = absurd (count_no steps limit m h k.0)
steps_one asked limit steps next (not_derived p) (wrong_count n) h k = absurd (count_no steps limit n k h.0)
steps_one asked limit steps next (not_derived p) (not_derived q) h k = let list = steps ++ next ∷ [] in
    ap not_derived (wrong_one asked list p q (underived_wrong asked list p h.1) (underived_wrong asked list q k.1))
steps_one asked limit steps next (not_derived p) (repeated q e) h k = absurd (underived_repeated_no asked (steps ++ next ∷ []) p q e h.1 k.1)
steps_one asked limit steps next (not_derived p) (starts_met q c) h k = absurd (underived_met_no asked (steps ++ next ∷ []) p q c h.1 k.1)
steps_one asked limit steps next (repeated p e) (wrong_count n) h k = absurd (count_no steps limit n k h.0)
steps_one asked limit steps next (repeated p e) (not_derived q) h k = absurd (underived_repeated_no asked (steps ++ next ∷ []) q p e k.1 h.1)
steps_one asked limit steps next (repeated p e) (repeated q f) h k = repeated_one asked (steps ++ next ∷ []) p q e f h.1 k.1
steps_one asked limit steps next (repeated p e) (starts_met q c) h k = absurd (repeated_met_no asked (steps ++ next ∷ []) p q e c h.1 k.1)
steps_one asked limit steps next (starts_met p c) (wrong_count n) h k = absurd (count_no steps limit n k h.0)
steps_one asked limit steps next (starts_met p c) (not_derived q) h k = absurd (underived_met_no asked (steps ++ next ∷ []) q p c k.1 h.1)
steps_one asked limit steps next (starts_met p c) (repeated q e) h k = absurd (repeated_met_no asked (steps ++ next ∷ []) q p e c k.1 h.1)
steps_one asked limit steps next (starts_met p c) (starts_met q d) h k = met_step_one asked (steps ++ next ∷ []) p q c d h.1 k.1
steps_one asked limit steps next (not_drawn p) b h k = absurd h
steps_one asked limit steps next (step_refused p part) b h k = absurd h
steps_one asked limit steps next goal_not_met b h k = absurd h
steps_one asked limit steps next (goal_uncovered p) b h k = absurd h
steps_one asked limit steps next (left_open p o) b h k = absurd h
steps_one asked limit steps next a (not_drawn p) h k = absurd k
steps_one asked limit steps next a (step_refused p part) h k = absurd k
steps_one asked limit steps next a goal_not_met h k = absurd k
steps_one asked limit steps next a (goal_uncovered p) h k = absurd k
steps_one asked limit steps next a (left_open p o) h k = absurd k

-- a certificate fails first for one reason at most
pub reason_one : (asked : Asked) (cert : Certificate) (first second : Reason) → FailsFirst asked cert first → FailsFirst asked cert second
    → first ≡ second
reason_one asked (reachable start acts) first second h k = plan_one asked start acts first second h k
reason_one asked (unreachable needs) first second h k = needs_one asked needs first second h k
reason_one asked (undecided limit steps next) first second h k = steps_one asked limit steps next first second h k

right_no : (asked : Asked) (list : List Entry) (place : ℕ)
    → ((k : ℕ) (entry : Entry) → slice_get list k ≡ Some entry → IsEntry asked.rules asked.profiles asked.goal (take k list) entry)
    → IsWrongAt asked list place → ⊥
right_no asked list place right wrong = wrong.wrong (right place wrong.entry wrong.at)

-- one that has its property fails for none
pub reason_none : (asked : Asked) (cert : Certificate) (reason : Reason) → HasProperty asked cert → FailsFirst asked cert reason → ⊥
reason_none asked (reachable start acts) (not_drawn p) has h = undrawn_no asked.profiles start p h has.drawn
reason_none asked (reachable start acts) (step_refused p part) has h = plan_stops_no asked start acts p part has h
reason_none asked (reachable start acts) goal_not_met has h = plan_meets asked start acts has h
reason_none asked (reachable start acts) (goal_uncovered p) has h = h
reason_none asked (reachable start acts) (left_open p o) has h = h
reason_none asked (reachable start acts) (starts_met p c) has h = h
reason_none asked (reachable start acts) (not_derived p) has h = h
reason_none asked (reachable start acts) (repeated p e) has h = h
reason_none asked (reachable start acts) (wrong_count n) has h = h
reason_none asked (unreachable needs) (goal_uncovered p) has h = h.holds.1 (has.goals h.item (p, h.at) h.holds.0)
reason_none asked (unreachable needs) (left_open p o) has h = closed_open_no asked needs p o has h
reason_none asked (unreachable needs) (starts_met p c) has h = unmet_no asked.profiles h.member.item c (has.unmet h.member.item (p, h.member.at)) h.least
reason_none asked (unreachable needs) (not_drawn p) has h = h
reason_none asked (unreachable needs) (step_refused p part) has h = h
reason_none asked (unreachable needs) goal_not_met has h = h
reason_none asked (unreachable needs) (not_derived p) has h = h
reason_none asked (unreachable needs) (repeated p e) has h = h
reason_none asked (unreachable needs) (wrong_count n) has h = h
reason_none asked (undecided limit steps next) (wrong_count n) has h = count_no steps limit n h has.0
reason_none asked (undecided limit steps next) (not_derived p) has h =
    right_no asked (steps ++ next ∷ []) p has.1 (underived_wrong asked (steps ++ next ∷ []) p h.1)
reason_none asked (undecided limit steps next) (repeated p e) has h =
    right_no asked (steps ++ next ∷ []) p has.1 (repeated_wrong asked (steps ++ next ∷ []) p e h.1)
reason_none asked (undecided limit steps next) (starts_met p c) has h =
    right_no asked (steps ++ next ∷ []) p has.1 (met_wrong asked (steps ++ next ∷ []) p c h.1)
reason_none asked (undecided limit steps next) (not_drawn p) has h = h
reason_none asked (undecided limit steps next) (step_refused p part) has h = h
reason_none asked (undecided limit steps next) goal_not_met has h = h
reason_none asked (undecided limit steps next) (goal_uncovered p) has h = h
reason_none asked (undecided limit steps next) (left_open p o) has h = h

-- a judgement that refuses for the first reason alone accepts what has its property
pub is_accepted : (asked : Asked) (cert : Certificate) (judgement : Judgement) → IfRefused judgement (FailsFirst asked cert) → HasProperty asked cert
    → judgement ≡ Accepted
is_accepted asked cert Accepted refused has = refl
is_accepted asked cert (Refused why) refused has = absurd (reason_none asked cert (reason_of why) has refused)

-- and refuses what fails first for a reason
pub is_refused : (asked : Asked) (cert : Certificate) (judgement : Judgement) → IfAccepted judgement (HasProperty asked cert)
    → IfRefused judgement (FailsFirst asked cert) → (reason : Reason) → FailsFirst asked cert reason → IsRefusal judgement reason
is_refused asked cert Accepted accepted refused reason fails = reason_none asked cert reason accepted fails
is_refused asked cert (Refused why) accepted refused reason fails = reason_one asked cert (reason_of why) reason refused fails
