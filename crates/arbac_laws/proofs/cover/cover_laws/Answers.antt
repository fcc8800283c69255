use Rattle.arbac_laws.specs.Needs.{CoversNeed}
use Rattle.list_words.proofs.EmbedLemmas.{embeds_itself}
use Rattle.arbac_laws.proofs.CoverLemmas.{covers_itself, covers_transitive, met_covering, cover_met, met_possible}
use Rattle.arbac_laws.proofs.cover.cover_laws.Goals as goal

pub returns : goal.returns
returns c = record {
  itself = embeds_itself CoversNeed covers_itself;
  transitive = covers_transitive;
  met = met_covering;
  list = cover_met;
  possible = met_possible;
}
