-- One requirement more is made, and kept or left out.
use Rattle.std.proofs.Common.{ℕ, ◌≡◌, List, [], ◌∷◌, ◌++◌, length, Some, zero, suc, refl, subst, inl, inr}
use Rattle.std.proofs.Common.{append-nil, arith}
use Rattle.std.specs.Prelude.{◌⊎◌, slice_get}
use Rattle.list_words.specs.Lists.{IsOneOf}
use Rattle.list_words.proofs.GetLemmas.{get_below, get_last_cases}
use Rattle.list_words.proofs.EachLemmas.{each_append, each_at, each_weaker, some_item, map_some}
use Rattle.list_words.proofs.EmbedLemmas.{embeds_itself}
use Rattle.arbac_laws.specs.Needs.{Need, Covers, CoversNeed, IsCovered}
use Rattle.arbac_laws.specs.Recorded.{Entry}
use Rattle.arbac_laws.proofs.CoverLemmas.{covers_itself}
use Rattle.search_laws.specs.Candidates.{needs_in}
use Rattle.search_rounds.specs.Keeping.{Keeps, Gathered, Gathers}
use Rattle.search_rounds.proofs.KeepingLemmas.{MayMiss, beats_over, get_left, keeps_all, keeps_append}

-- a candidate that is covered by what was known is left out
pub keeps_known : (known : List (List Need)) (all kept : List Entry) (entry : Entry) → Keeps known all kept → IsCovered known entry.needs
    → Keeps known (all ++ entry ∷ []) kept
keeps_known known all kept entry k covered =
    subst (Keeps known (all ++ entry ∷ [])) (append-nil kept) (keeps_append known all (entry ∷ []) kept [] k none)
  where
    by_place : (place : ℕ) (one : Entry) → slice_get (entry ∷ []) place ≡ Some one → MayMiss known (entry ∷ []) 0 (λ i. i) place one.needs
    by_place zero one at = let same : entry ≡ one = cc in inr (inl (subst (λ (e : Entry). IsCovered known e.needs) same covered))
    by_place (suc place) one at = cc

    none : Keeps known (entry ∷ []) []
    none = record {
      part = record { to = λ i. i; rises = λ i j l m. l; each = λ i one at. cc };
      left_out = by_place;
    }

-- so is one that is covered by a candidate that is kept, which beats it
pub keeps_beaten : (known : List (List Need)) (all kept : List Entry) (entry : Entry) → Keeps known all kept → IsCovered (needs_in kept) entry.needs
    → Keeps known (all ++ entry ∷ []) kept
keeps_beaten known all kept entry k covered = record {
  part = record {
    to = k.part.to;
    rises = k.part.rises;
    each = λ i one at. get_left all (entry ∷ []) (k.part.to i) one (k.part.each i one at);
  };
  left_out = λ place one at. by_place place one at (get_last_cases all entry one place at);
}
  where
    beats : (by : Entry) × IsOneOf kept by × Covers by.needs entry.needs
    beats = some_item (λ (one : Entry). Covers one.needs entry.needs) kept
        (map_some (λ (one : Entry). one.needs) (λ one. Covers one entry.needs) kept covered)

    first : slice_get all (k.part.to beats.1.0) ≡ Some beats.0
    first = k.part.each beats.1.0 beats.0 beats.1.1

    by_place : (place : ℕ) (one : Entry) → slice_get (all ++ entry ∷ []) place ≡ Some one
        → (slice_get all place ≡ Some one) ⊎ ((place ≡ length all) × (entry ≡ one))
        → MayMiss known (all ++ entry ∷ []) (length kept) k.part.to place one.needs
    by_place place one at (inl before) = by_left (k.left_out place one before)
      where
        by_left : MayMiss known all (length kept) k.part.to place one.needs
            → MayMiss known (all ++ entry ∷ []) (length kept) k.part.to place one.needs
        by_left (inl h) = inl h
        by_left (inr (inl c)) = inr (inl c)
        by_left (inr (inr b)) = inr (inr (b.0, beats_over (all ++ entry ∷ []) all (λ i. i) (get_left all (entry ∷ [])) b.0 place (λ less. less) b.1))
    by_place place one at (inr last) =
        let l = get_below all (k.part.to beats.1.0) beats.0 first in let e = last.0 in
        inr (inr (
          k.part.to beats.1.0,
          record {
            by = beats.0;
            by_is = get_left all (entry ∷ []) (k.part.to beats.1.0) beats.0 first;
            beaten = one;
            beaten_is = at;
            covers = subst (λ (e : Entry). Covers beats.0.needs e.needs) last.1 beats.2;
            apart = inr (omega (arith, l, e));
          },
        ))

-- what was seen before was made already: nothing changes
pub gathers_seen : (g : Gathered) (entry : Entry) → IsOneOf g.seen entry.needs → Gathers g g (entry ∷ [])
gathers_seen g entry seen = record {
  order = refl;
  known = refl;
  still = λ gathered. gathered;
  kept = λ gathered all k. by_side all k
      (each_at (λ needs. IsCovered g.known needs ⊎ IsCovered (needs_in g.kept) needs) g.seen seen.0 entry.needs gathered.seen seen.1);
}
  where
    by_side : (all : List Entry) → Keeps g.known all g.kept → IsCovered g.known entry.needs ⊎ IsCovered (needs_in g.kept) entry.needs
        → Keeps g.known (all ++ entry ∷ []) g.kept
    by_side all k (inl c) = keeps_known g.known all g.kept entry k c
    by_side all k (inr c) = keeps_beaten g.known all g.kept entry k c

-- what was known to be covered is seen from now on
abbrev pub with_seen : Gathered → List Need → Gathered
with_seen g needs = record { order = g.order; known = g.known; seen = g.seen ++ needs ∷ []; kept = g.kept }

pub gathers_covered : (g : Gathered) (entry : Entry) → IsCovered g.known entry.needs → Gathers g (with_seen g entry.needs) (entry ∷ [])
gathers_covered g entry covered = record {
  order = refl;
  known = refl;
  still = λ gathered. record {
    new = gathered.new;
    seen = each_append (λ needs. IsCovered g.known needs ⊎ IsCovered (needs_in g.kept) needs) g.seen (entry.needs ∷ []) gathered.seen (inl covered, tt);
  };
  kept = λ gathered all k. keeps_known g.known all g.kept entry k covered;
}

-- what is new is kept, and seen from now on
abbrev pub with_kept : Gathered → Entry → Gathered
with_kept g entry = record { order = g.order; known = g.known; seen = g.seen ++ entry.needs ∷ []; kept = g.kept ++ entry ∷ [] }

pub gathers_new : (g : Gathered) (entry : Entry) → ¬ IsCovered g.known entry.needs → Gathers g (with_kept g entry) (entry ∷ [])
gathers_new g entry new = record {
  order = refl;
  known = refl;
  still = λ gathered. record {
    new = each_append (λ (one : Entry). ¬ IsCovered g.known one.needs) g.kept (entry ∷ []) gathered.new (new, tt);
    seen = each_append (λ needs. IsCovered g.known needs ⊎ IsCovered (needs_in (g.kept ++ entry ∷ [])) needs) g.seen (entry.needs ∷ [])
        (each_weaker (λ needs. IsCovered g.known needs ⊎ IsCovered (needs_in g.kept) needs)
        (λ needs. IsCovered g.known needs ⊎ IsCovered (needs_in (g.kept ++ entry ∷ [])) needs) still g.seen gathered.seen)
        (inr (by_last g.kept), tt);
  };
  kept = λ gathered all k. keeps_append g.known all (entry ∷ []) g.kept (entry ∷ []) k (keeps_all g.known (entry ∷ []));
}
  where
    more : (kept : List Entry) (needs : List Need) → IsCovered (needs_in kept) needs → IsCovered (needs_in (kept ++ entry ∷ [])) needs
    more [] needs c = absurd c
    more (x ∷ kept) needs (inl c) = inl c
    more (x ∷ kept) needs (inr c) = inr (more kept needs c)

    by_last : (kept : List Entry) → IsCovered (needs_in (kept ++ entry ∷ [])) entry.needs
    by_last [] = inl (embeds_itself CoversNeed covers_itself entry.needs)
    by_last (x ∷ kept) = inr (by_last kept)

    still : (needs : List Need) → IsCovered g.known needs ⊎ IsCovered (needs_in g.kept) needs
        → IsCovered g.known needs ⊎ IsCovered (needs_in (g.kept ++ entry ∷ [])) needs
    still needs (inl c) = inl c
    still needs (inr c) = inr (more g.kept needs c)
