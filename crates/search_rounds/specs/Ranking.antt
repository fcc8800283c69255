-- The candidates that no other one beats, before they are sorted.
use Rattle.std.specs.Prelude.{ℕ, ◌≡◌, ◌<◌, Bool, List, [], ◌∷◌, slice_get, Some}
use Rattle.list_words.specs.Lists.{Each, Some_of}
use Rattle.arbac_laws.specs.Recorded.{Entry}
use Rattle.search_laws.specs.Beats.{Beats, entry_before}
use Rattle.search_rounds.specs.declared.candidate.Candidate.{Candidate}
use Rattle.search_rounds.specs.Views.{entry_of}

-- candidates by the order of their requirements
abbrev pub candidate_before : Candidate → Candidate → Bool
candidate_before a b = entry_before (entry_of a) (entry_of b)

-- the candidate at the place, which no other one beats
pub record IsBest (candidates : List Entry) (place : ℕ) (entry : Entry) : Type 0 where
  pub at : slice_get candidates place ≡ Some entry
  pub unbeaten : (other : ℕ) → ¬ Beats candidates other place

-- no two want the same
abbrev pub AreApart : List Entry → Type 0
AreApart [] = Unit {0}
AreApart (x ∷ xs) = Each (λ (y : Entry). ¬ (x.needs ≡ y.needs)) xs × AreApart xs

-- the unbeaten ones of the first so many candidates
pub record AreBest (candidates : List Entry) (count : ℕ) (list : List Entry) : Type 0 where
  pub each : Each (λ entry. (place : ℕ) × (place < count) × IsBest candidates place entry) list
  pub all : (place : ℕ) (entry : Entry) → place < count → IsBest candidates place entry → Some_of (λ (one : Entry). one ≡ entry) list
  pub apart : AreApart list
