use Rattle.std.proofs.Common.{◌≡◌, length, take}
use Rattle.list_words.specs.Places.{ArePlaces}
use Rattle.cert_needs.specs.Cover.{IsPartner}
use Rattle.cert_needs.proofs.cover.find_free_partners.Given as goal

abbrev pub invariant-loop-at : goal.invariant-loop-at
invariant-loop-at l = (length l.taken ≡ 16) × ArePlaces IsPartner (take l.at l.users) l.others (take l.at l.taken)
