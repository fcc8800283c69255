use Rattle.std.proofs.Common.{◌≡◌, rules}
use Rattle.search_rounds.proofs.PickLemmas.{free_there}
use Rattle.search_rounds.proofs.picks.is_free.Goals as goal

pub returns-then-place-deed : goal.returns-then-place-deed
returns-then-place-deed c = λ order l e own.
    let apart : ¬ (c.args.place ≡ c.args.deed.now.target) = search rules in
    free_there order c.args.deed.now.hit c.args.parent.now.req.now c.args.deed.now.target c.args.place c.user_at.result.now c.is_admin.result
    c.user_at.ensures apart own (λ one. c.is_admin.ensures order l e one)
