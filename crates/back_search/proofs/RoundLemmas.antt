-- What a round gathers that begins with nothing, and which of it is unbeaten.
use Rattle.std.proofs.Common.{ℕ, ◌≡◌, ◌∙◌, List, [], ◌++◌, ap, subst, sym}
use Rattle.list_words.specs.Lists.{Each}
use Rattle.role_order.specs.Graph.{Graph}
use Rattle.role_order.specs.Refusals.{IsOrder}
use Rattle.arbac_policy.specs.Rules.{Rules}
use Rattle.arbac_laws.specs.Needs.{IsCovered, Need}
use Rattle.arbac_laws.specs.NormalForms.{IsNormal}
use Rattle.arbac_laws.specs.Recorded.{Entry}
use Rattle.arbac_laws.proofs.ConjunctLemmas.{are_seniors}
use Rattle.search_laws.specs.Beats.{AreUnbeaten}
use Rattle.search_laws.specs.Candidates.{needs_in, next_candidates}
use Rattle.search_laws.proofs.BeatLemmas.{part_list}
use Rattle.search_laws.proofs.CandidateLemmas.{next_normal}
use Rattle.search_rounds.specs.Keeping.{Gathered, Gathers, IsGathered, Keeps}

-- of no candidates none are kept
pub keeps_none : (known : List (List Need)) → Keeps known [] []
keeps_none known = record {
  part = record { to = λ i. i; rises = λ i j l m. l; each = λ i entry at. at };
  left_out = λ place entry at. cc;
}

-- so much is known, and nothing was made
abbrev pub nothing_made : Graph → List (List Need) → Gathered
nothing_made order known = record { order = order; known = known; seen = []; kept = [] }

-- what is unbeaten of what was kept is unbeaten of all candidates
pub round_unbeaten : (rules : Rules) → IsOrder rules.order.names rules.order.edges → (known : List (List Need)) (recorded : List Entry) (taken : ℕ)
    → Each (λ (entry : Entry). IsNormal entry.needs) recorded
    → (new : Gathered) → Gathers (nothing_made rules.order known) new (next_candidates rules recorded taken)
    → (list : List Entry) → AreUnbeaten known new.kept list
    → AreUnbeaten known (next_candidates rules recorded taken) list
round_unbeaten rules order known recorded taken normal new made list ranked =
    let keeps : Keeps known (next_candidates rules recorded taken) new.kept =
    made.kept (record { new = tt; seen = tt }) [] (keeps_none known) in
    part_list known (next_candidates rules recorded taken) new.kept list
    (next_normal rules (are_seniors rules.order order.ends) recorded taken normal) keeps.part keeps.left_out ranked

-- what was kept is new
pub kept_new : (order : Graph) (known : List (List Need)) (new : Gathered) (made : List Entry) → Gathers (nothing_made order known) new made
    → Each (λ (entry : Entry). ¬ IsCovered known entry.needs) new.kept
kept_new order known new made gathers =
    let still : IsGathered new = gathers.still (record { new = tt; seen = tt }) in
    subst (λ known. Each (λ (entry : Entry). ¬ IsCovered known entry.needs) new.kept) gathers.known still.new

-- the same as the round comes to it, call by call
pub round_told : (rules policy : Rules) → policy ≡ rules
    → (order : Graph) → order ≡ policy.order → IsOrder order.names order.edges
    → (recorded parents : List Entry) → parents ≡ recorded → Each (λ (entry : Entry). IsNormal entry.needs) recorded
    → (barriers : List (List Need)) (start : Gathered) → start ≡ nothing_made order barriers
    → (known : Gathered)
    → known ≡ record { order = start.order; known = start.known ++ needs_in parents; seen = start.seen; kept = start.kept }
    → (taken : ℕ) (new : Gathered) → Gathers known new (next_candidates rules parents taken)
    → (kept : List Entry) → kept ≡ new.kept
    → (list : List Entry)
    → ((known : List (List Need)) → Each (λ (entry : Entry). ¬ IsCovered known entry.needs) kept → AreUnbeaten known kept list)
    → (answer : List Entry) → answer ≡ list
    → AreUnbeaten (barriers ++ needs_in recorded) (next_candidates rules recorded taken) answer
round_told rules policy e order f is recorded parents g normal barriers start h known i taken new made kept j list ranked answer k =
    subst (λ answer. AreUnbeaten (barriers ++ needs_in recorded) (next_candidates rules recorded taken) answer) (sym k)
    (round_unbeaten rules rules_is (barriers ++ needs_in recorded) recorded taken normal new gathers list
    (subst (λ kept. AreUnbeaten (barriers ++ needs_in recorded) kept list) j
    (ranked (barriers ++ needs_in recorded)
    (subst (λ kept. Each (λ (entry : Entry). ¬ IsCovered (barriers ++ needs_in recorded) entry.needs) kept) (sym j)
    (kept_new rules.order (barriers ++ needs_in recorded) new (next_candidates rules recorded taken) gathers)))))
  where
    order_is : order ≡ rules.order
    order_is = f ∙ ap (λ (p : Rules). p.order) e

    rules_is : IsOrder rules.order.names rules.order.edges
    rules_is = subst (λ (o : Graph). IsOrder o.names o.edges) order_is is

    known_is : known ≡ nothing_made rules.order (barriers ++ needs_in recorded)
    known_is =
        i
        ∙ ap (λ (s : Gathered). let v : Gathered = record { order = s.order; known = s.known ++ needs_in parents; seen = s.seen; kept = s.kept } in v) h
        ∙ ap (λ es. nothing_made order (barriers ++ needs_in es)) g
        ∙ ap (λ o. nothing_made o (barriers ++ needs_in recorded)) order_is

    gathers : Gathers (nothing_made rules.order (barriers ++ needs_in recorded)) new (next_candidates rules recorded taken)
    gathers =
        subst (λ es. Gathers (nothing_made rules.order (barriers ++ needs_in recorded)) new (next_candidates rules es taken)) g
        (subst (λ v. Gathers v new (next_candidates rules parents taken)) known_is made)
