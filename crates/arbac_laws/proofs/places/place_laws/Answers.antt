use Rattle.arbac_laws.specs.Needs.{MeetsNeed, CoversNeed}
use Rattle.list_words.proofs.PlaceLemmas.{from_places, to_places}
use Rattle.arbac_laws.proofs.places.place_laws.Goals as goal

pub returns : goal.returns
returns c = record {
  meets = λ users needs. (to_places MeetsNeed needs users, λ p. from_places MeetsNeed needs users p.0 p.1);
  covers = λ a b. (to_places CoversNeed a b, λ p. from_places CoversNeed a b p.0 p.1);
}
