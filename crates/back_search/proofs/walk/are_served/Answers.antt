use Rattle.std.proofs.Common.{rules}
use borrow.Author.Tests.{tests}
use Rattle.std.specs.declared.alloc.Global.{Global}
use Rattle.std.specs.declared.sync.Arc.{Arc}
use Rattle.std.proofs.lemmas.Iterator.{cases_from_all, YieldsList-from_slice}
use Rattle.list_words.specs.Lists.{Some_of}
use Rattle.arbac_laws.specs.Needs.{Need}
use Rattle.shared_reqs.specs.Shared.{MarkedNeed, marked_of}
use Rattle.back_search.specs.Stops.{MayServe}
use Rattle.back_search.proofs.WalkLemmas.{each_by_all, each_map, map_each}
use Rattle.back_search.proofs.walk.are_served.Goals as goal

pub returns : goal.returns
returns c =
    let users = c.args.users.now in
    let served = λ (need : Need). Some_of (MayServe need) c.args.profiles.now in
    let value = λ (user : Arc MarkedNeed Global). user.value in
    let need = λ (user : MarkedNeed). user.need in
    let by_call = each_by_all (λ (user : Arc MarkedNeed Global). served user.value.need) c.all.result users
    (cases_from_all _ _ _ (λ (user : Arc MarkedNeed Global). served user.value.need) (λ (user : Arc MarkedNeed Global). served user.value.need → ⊥)
    c.all.ensures.ran (YieldsList-from_slice users cc) (λ x q k. search (rules, tests)) (λ x q k. search (rules, tests))) in (
      λ passes. each_map need served (marked_of users) (each_map value (λ (user : MarkedNeed). served user.need) users (by_call.0 passes)),
      λ each. by_call.1 (map_each value (λ (user : MarkedNeed). served user.need) users (map_each need served (marked_of users) each)),
    )
