use Rattle.hall_match.specs.Holding.{given_at}
use Rattle.hall_match.proofs.SettlingLemmas.{is_something}
use Rattle.hall_match.proofs.outcome.places_of.Goals as goal

pub unwrap-requires : goal.unwrap-requires
unwrap-requires c =
    let had = c.requires c.loop-item.item c.loop-item-test.true in is_something
    (given_at c.args.given.now c.loop-item.item) had.0 had.1
