use Rattle.std.proofs.Common.{rules}
use borrow.Author.Tests.{tests}
use Rattle.std.proofs.lemmas.Iterator.{cases_from_any, YieldsList-from_slice}
use Rattle.arbac_policy.specs.declared.profile.Profile.{Profile}
use Rattle.back_search.specs.Stops.{MayServe}
use Rattle.back_search.proofs.WalkLemmas.{some_by_any}
use Rattle.back_search.proofs.walk.is_served.Goals as goal

pub returns : goal.returns
returns c =
    some_by_any (MayServe c.args.user.now) c.any.result c.args.profiles.now
    (cases_from_any _ _ _ (MayServe c.args.user.now) (λ (profile : Profile). MayServe c.args.user.now profile → ⊥) c.any.ensures.ran
    (YieldsList-from_slice c.args.profiles.now cc) (λ x q k. search (rules, tests)) (λ x q k. search (rules, tests)))
