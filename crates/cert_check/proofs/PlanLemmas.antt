-- Plans: their users, runs and refused acts are determined.
use Rattle.std.proofs.Common.{ℕ, ◌≡◌, ◌<◌, ◌+◌, ◌∙◌, Bool, List, [], ◌∷◌, ◌++◌, length, get_or, take, suc, refl, sym, subst, ap, inl, inr, None, Some}
use Rattle.std.specs.Prelude.{◌⊎◌, ◌↔◌, IfNone, IfSome, IsTrue, Option, Vec, is_some, slice_get}
use Rattle.std.specs.declared.alloc.Global.{Global}
use Rattle.list_words.proofs.PlaceLemmas.{from_places}
use Rattle.plan_replay.specs.GoalLists.{AreLeast}
use Rattle.list_words.proofs.GetLemmas.{get_at, get_below, get_take, take_one_more}
use Rattle.list_words.proofs.NumberLemmas.{compare}
use Rattle.arbac_policy.specs.declared.act.Act.{Act}
use Rattle.arbac_policy.specs.declared.profile.Profile.{Profile}
use Rattle.arbac_policy.specs.declared.verdict.Part.{Part}
use Rattle.arbac_policy.specs.Truth.{Satisfies, Term, user}
use Rattle.arbac_policy.specs.Rules.{Rules}
use Rattle.arbac_policy.specs.Steps.{Run, Step}
use Rattle.arbac_policy.specs.Goals.{AreUsers, GoalMet, IsDrawnChoice, times}
use Rattle.arbac_policy.specs.Verdicts.{Denies}
use Rattle.profile_set.specs.Draws.{IsFirstUndrawn, IsSpent, IsSpentAt}
use Rattle.profile_set.proofs.DrawLemmas.{spent_refused}
use Rattle.plan_replay.specs.Replays.{StopsAt}
use Rattle.plan_replay.proofs.RunLemmas.{no_run, step_one}
use Rattle.ura_core.proofs.DenialLemmas.{kind_denied_no}
use Rattle.cert_check.proofs.DenialLemmas.{denied_one}
use Rattle.cert_check.proofs.FirstLemmas.{take_before}

-- a choice of profiles has one list of users
pub users_one : (profiles : List Profile) (choice : List ℕ) (a b : List (List ℕ)) → AreUsers profiles choice a → AreUsers profiles choice b → a ≡ b
users_one profiles [] [] [] h k = refl
users_one profiles [] (s ∷ a) b h k = absurd h
users_one profiles [] a (t ∷ b) h k = absurd k
users_one profiles (p ∷ choice) [] b h k = absurd h
users_one profiles (p ∷ choice) a [] h k = absurd k
users_one profiles (p ∷ choice) (s ∷ a) (t ∷ b) h k =
    let same : h.0.0 ≡ k.0.0 = cc (h.0.1, k.0.1) in
    let set : s ≡ t = h.0.2 ∙ ap (λ (profile : Profile). profile.set) same ∙ sym k.0.2 in
    ap (λ x. x ∷ a) set ∙ ap (λ xs. t ∷ xs) (users_one profiles choice a b h.1 k.1)

-- one more user
pub users_more : (profiles : List Profile) (choice : List ℕ) (users : List (List ℕ)) (place : ℕ) (profile : Profile) → AreUsers profiles choice users
    → slice_get profiles place ≡ Some profile → AreUsers profiles (choice ++ place ∷ []) (users ++ profile.set ∷ [])
users_more profiles [] [] place profile h at = ((profile, at, refl), tt)
users_more profiles [] (s ∷ users) place profile h at = absurd h
users_more profiles (p ∷ choice) [] place profile h at = absurd h
users_more profiles (p ∷ choice) (s ∷ users) place profile h at = (h.0, users_more profiles choice users place profile h.1 at)

-- the user at the next place of a drawn choice
pub user_pushed : (profiles : List Profile) (choice : List ℕ) (users new : List (List ℕ)) (at : ℕ) (d : Profile) → IsDrawnChoice profiles choice
    → at < length choice → AreUsers profiles (take at choice) users → new ≡ users ++ (get_or profiles (get_or choice at 0) d).set ∷ []
    → AreUsers profiles (take (at + 1) choice) new
user_pushed profiles choice users new at d drawn l before grown =
    let place = get_or choice at 0 in
    let here : slice_get choice at ≡ Some place = get_at choice at 0 l in
    let one = drawn.places at place here in
    let there = get_at profiles place d (get_below profiles place one.0 one.1) in
    let whole = users_more profiles (take at choice) users place (get_or profiles place d) before there in
    subst (AreUsers profiles (take (at + 1) choice)) (sym grown)
    (subst (λ front. AreUsers profiles front (users ++ (get_or profiles place d).set ∷ [])) (sym (take_one_more choice at place here)) whole)

pub users_long : (profiles : List Profile) (choice : List ℕ) (users : List (List ℕ)) → AreUsers profiles choice users → length users ≡ length choice
users_long profiles [] [] h = refl
users_long profiles [] (s ∷ users) h = absurd h
users_long profiles (p ∷ choice) [] h = absurd h
users_long profiles (p ∷ choice) (s ∷ users) h = ap suc (users_long profiles choice users h.1)

-- some users meet the goal exactly where the least ones are found
pub met_goal : (edges : List (ℕ × ℕ)) (goal : List Term) (sets : List (List ℕ)) (met : Option (Vec ℕ Global)) (t : Bool) → t ≡ is_some met
    → IfSome met (λ users. AreLeast edges goal sets users.items) → IfNone met (¬ GoalMet edges goal sets) → IsTrue t ↔ GoalMet edges goal sets
met_goal edges goal sets (Some users) t same least none =
    (λ h. from_places (λ cond set. Satisfies user edges set cond) goal sets users.items least.meet, λ h. same)
met_goal edges goal sets None t same least none = (λ h. cc (same, h), λ h. absurd (none h))

-- acts have one end
pub run_one : (rules : Rules) (old : List (List ℕ)) (acts : List Act) (a b : List (List ℕ)) → Run rules old acts a → Run rules old acts b → a ≡ b
run_one rules old [] a b h k = h ∙ sym k
run_one rules old (act ∷ acts) a b h k =
    let same = step_one rules old act k.0 h.0 k.1 h.1 in run_one rules h.0 acts a b h.2 (subst (λ m. Run rules m acts b) same k.2)

denied_no : (rules : Rules) (old : List (List ℕ)) (act : Act) (part : Part) → Denies rules old act part → (new : List (List ℕ)) → Step rules old act new
    → ⊥
denied_no rules old act part denied new step = kind_denied_no act.kind user rules old old act.admin act.target act.role part new refl denied step

-- acts that stop are no run
pub stops_no : (rules : Rules) (start : List (List ℕ)) (acts : List Act) (place : ℕ) (part : Part) → StopsAt rules start acts place part
    → (end : List (List ℕ)) → Run rules start acts end → ⊥
stops_no rules start acts place part stops =
    no_run rules start stops.state acts place stops.act stops.at stops.run (denied_no rules stops.state stops.act part stops.denied)

stops_earlier : (rules : Rules) (start : List (List ℕ)) (acts : List Act) (p q : ℕ) (a b : Part) → StopsAt rules start acts p a
    → StopsAt rules start acts q b → p < q → ⊥
stops_earlier rules start acts p q a b h k l =
    no_run rules start h.state (take q acts) p h.act (get_take acts q p l ∙ h.at)
    (subst (λ front. Run rules start front h.state) (sym (take_before acts p q l)) h.run) (denied_no rules h.state h.act a h.denied) k.state k.run

-- acts stop at one place
pub stops_place : (rules : Rules) (start : List (List ℕ)) (acts : List Act) (p q : ℕ) (a b : Part) → StopsAt rules start acts p a
    → StopsAt rules start acts q b → p ≡ q
stops_place rules start acts p q a b h k = by_order (compare p q)
  where
    by_order : (p < q) ⊎ ((p ≡ q) ⊎ (q < p)) → p ≡ q
    by_order (inl l) = absurd (stops_earlier rules start acts p q a b h k l)
    by_order (inr (inl e)) = e
    by_order (inr (inr l)) = absurd (stops_earlier rules start acts q p b a k h l)

-- for one part
pub stops_part : (rules : Rules) (start : List (List ℕ)) (acts : List Act) (place : ℕ) (a b : Part) → StopsAt rules start acts place a
    → StopsAt rules start acts place b → a ≡ b
stops_part rules start acts place a b h k =
    let same : k.act ≡ h.act = cc (h.at, k.at) in
    let state : k.state ≡ h.state = run_one rules start (take place acts) k.state h.state k.run h.run in
    denied_one rules h.state h.act a b h.denied
    (subst (λ act. Denies rules h.state act b) same (subst (λ old. Denies rules old k.act b) state k.denied))

-- a choice that has a first place that isn't drawn is no drawn one
pub undrawn_no : (profiles : List Profile) (choice : List ℕ) (place : ℕ) → IsFirstUndrawn profiles choice place → IsDrawnChoice profiles choice → ⊥
undrawn_no profiles choice place first drawn = spent_refused profiles choice place (first.number, first.here, first.spent) drawn

undrawn_earlier : (profiles : List Profile) (choice : List ℕ) (p q : ℕ) → IsFirstUndrawn profiles choice p → IsFirstUndrawn profiles choice q → p < q
    → ⊥
undrawn_earlier profiles choice p q a b l =
    let spent : IsSpentAt profiles (take q choice) p = (
      a.number,
      get_take choice q p l ∙ a.here,
      subst (λ front. IsSpent profiles a.number (times a.number front)) (sym (take_before choice p q l)) a.spent,
    ) in
    spent_refused profiles (take q choice) p spent b.before

pub undrawn_one : (profiles : List Profile) (choice : List ℕ) (p q : ℕ) → IsFirstUndrawn profiles choice p → IsFirstUndrawn profiles choice q → p ≡ q
undrawn_one profiles choice p q a b = by_order (compare p q)
  where
    by_order : (p < q) ⊎ ((p ≡ q) ⊎ (q < p)) → p ≡ q
    by_order (inl l) = absurd (undrawn_earlier profiles choice p q a b l)
    by_order (inr (inl e)) = e
    by_order (inr (inr l)) = absurd (undrawn_earlier profiles choice q p b a l)
