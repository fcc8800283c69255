use Rattle.std.proofs.Common.{◌≡◌, true, refl}
use Rattle.mask_match.proofs.PlacedLemmas.{placed_embeds}
use Rattle.mask_match.proofs.laws.placed_laws.Goals as goal

pub returns : goal.returns
returns c = record { limit = refl; embeds = λ joins. placed_embeds (λ x y. joins x y ≡ true) }
