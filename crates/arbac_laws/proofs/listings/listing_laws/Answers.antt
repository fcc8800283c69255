use Rattle.arbac_laws.specs.Listings.{obligation_before}
use Rattle.arbac_laws.specs.Obligations.{obligations}
use Rattle.arbac_laws.proofs.ConjunctLemmas.{are_seniors}
use Rattle.arbac_laws.proofs.ListingLemmas.{before_place, obligation_order, obligations_rise, rising_different}
use Rattle.arbac_laws.proofs.ObligationLemmas.{listed}
use Rattle.arbac_laws.proofs.listings.listing_laws.Goals as goal

pub returns : goal.returns
returns c = record {
  listed = λ rules ends. listed rules (are_seniors rules.order ends);
  different = λ rules needs. rising_different obligation_before obligation_order (obligations rules needs) (obligations_rise rules needs);
  order = obligation_order;
  rising = obligations_rise;
  places = λ rules needs. before_place obligation_before obligation_order (obligations rules needs) (obligations_rise rules needs);
}
