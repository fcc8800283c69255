-- A round that was ranked and walked, and what lies between two rounds.
use Rattle.std.proofs.Common.{◌≡◌, ◌∙◌, List, [], ◌++◌, Option, Some, None, sym, ap, subst, inl, inr}
use Rattle.std.specs.Prelude.{◌⊎◌}
use Rattle.std.proofs.lemmas.List.{append_assoc}
use Rattle.list_words.specs.Lists.{Each, IsOneOf}
use Rattle.list_words.proofs.EachLemmas.{each_at, each_weaker, map_some, some_item, some_left}
use Rattle.arbac_laws.specs.Needs.{Covers, IsCovered, Need}
use Rattle.arbac_laws.specs.Recorded.{Entry}
use Rattle.search_laws.specs.Beats.{AreUnbeaten}
use Rattle.search_laws.specs.Candidates.{needs_in}
use Rattle.search_laws.specs.Rounds.{Round, Search, Walk, Walks, goes_on}
use Rattle.search_laws.proofs.BeatLemmas.{AreNormal, covered_through, part_list}
use Rattle.search_laws.proofs.RoundLemmas.{needs_append, round_covered}
use Rattle.search_rounds.specs.Keeping.{Gathered, IsGathered, Keeps}
use Rattle.back_search.specs.declared.walk.Stop.{Stop}
use Rattle.back_search.specs.Stops.{IfGoesOn, IsBetween, Records, walk_of}

-- the unbeaten ones of those kept are those of all candidates, and they were walked
pub settled_round : (s : Search) (known : List (List Need)) (recorded all kept list : List Entry) (walk : Walk)
    → known ≡ s.barriers ++ needs_in recorded → AreNormal all → Keeps known all kept → AreUnbeaten known kept list → Walks s recorded list walk
    → Round s recorded all walk
settled_round s known recorded all kept list walk is normal keeps unbeaten walked = record {
  list = list;
  unbeaten = subst (λ (k : List (List Need)). AreUnbeaten k all list) is (part_list known all kept list normal keeps.part keeps.left_out unbeaten);
  walked = walked;
}

-- what was kept has left
abbrev pub taken : Gathered → Gathered
taken g = record { order = g.order; known = g.known; seen = g.seen; kept = [] }

-- whatever a kept one covers is covered where all candidates are
kept_covers : (known list : List (List Need)) (all kept : List Entry) → Keeps known all kept
    → Each (λ (entry : Entry). IsCovered list entry.needs) all → (needs : List Need) → IsCovered (needs_in kept) needs → IsCovered list needs
kept_covers known list all kept keeps covered needs by =
    by_item (some_item (λ (entry : Entry). Covers entry.needs needs) kept (map_some (λ (entry : Entry). entry.needs) (λ one. Covers one needs) kept by))
  where
    by_item : ((entry : Entry) × IsOneOf kept entry × Covers entry.needs needs) → IsCovered list needs
    by_item one =
        covered_through list one.0.needs needs one.2
        (each_at (λ (entry : Entry). IsCovered list entry.needs) all (keeps.part.to one.1.0) one.0 covered (keeps.part.each one.1.0 one.0 one.1.1))

-- after a round that goes on, all that was made is covered by what is known then
pub between_rounds : (s : Search) (old new : Gathered) (before after all : List Entry) → old.order ≡ s.rules.order
    → old.known ≡ s.barriers ++ needs_in before → IsGathered old → AreNormal all → Keeps old.known all old.kept
    → Round s before all (goes_on after) → Records (taken old) new before after
    → IsBetween s new after
between_rounds s old new before after all order known gathered normal keeps round records = record {
  order = ap (λ (g : Gathered). g.order) records.gathered ∙ order;
  known = is_known;
  kept = ap (λ (g : Gathered). g.kept) records.gathered;
  seen = subst (λ (list : List (List Need)). Each (IsCovered new.known) list) (sym (ap (λ (g : Gathered). g.seen) records.gathered))
      (each_weaker (λ needs. IsCovered old.known needs ⊎ IsCovered (needs_in old.kept) needs) (IsCovered new.known) by_side old.seen gathered.seen);
}
  where
    grown : new.known ≡ old.known ++ needs_in records.more
    grown = ap (λ (g : Gathered). g.known) records.gathered

    is_known : new.known ≡ s.barriers ++ needs_in after
    is_known = grown ∙ ap (λ (list : List (List Need)). list ++ needs_in records.more) known
        ∙ append_assoc s.barriers (needs_in before) (needs_in records.more)
        ∙ ap (λ (list : List (List Need)). s.barriers ++ list) (sym (needs_append before records.more))
        ∙ ap (λ (list : List Entry). s.barriers ++ needs_in list) (sym records.recorded)

    covered : Each (λ (entry : Entry). IsCovered new.known entry.needs) all
    covered = subst (λ (list : List (List Need)). Each (λ (entry : Entry). IsCovered list entry.needs) all) (sym is_known)
        (round_covered s before all after normal round)

    by_side : (needs : List Need) → IsCovered old.known needs ⊎ IsCovered (needs_in old.kept) needs → IsCovered new.known needs
    by_side needs (inl h) = subst (λ (list : List (List Need)). IsCovered list needs) (sym grown)
        (some_left (λ one. Covers one needs) old.known (needs_in records.more) h)
    by_side needs (inr h) = kept_covers old.known new.known all old.kept keeps covered needs h

-- the same, where the round may have ended the search
pub between_by : (s : Search) (old new : Gathered) (before after all : List Entry) (stop : Option Stop) → old.order ≡ s.rules.order
    → old.known ≡ s.barriers ++ needs_in before → IsGathered old → AreNormal all → Keeps old.known all old.kept
    → Round s before all (walk_of stop after) → Records (taken old) new before after
    → IfGoesOn stop (IsBetween s new after)
between_by s old new before after all None order known gathered normal keeps round records =
    between_rounds s old new before after all order known gathered normal keeps round records
between_by s old new before after all (Some stop) order known gathered normal keeps round records = tt
