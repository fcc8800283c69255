use Rattle.std.proofs.Common.{◌≡◌, true, sym, ◌∙◌}
use Rattle.std.specs.List.{list_all}
use Rattle.role_order.specs.Roles.{have_common}
use Rattle.req_core.proofs.MeetLemmas.{met_by, met_hits, met_lacks, is_false, is_not}
use Rattle.req_core.proofs.req.meets.Goals as goal

pub returns-then-has_hits : goal.returns-then-has_hits
returns-then-has_hits c =
    let hits : c.has_hits.result ≡ list_all (λ hit. have_common hit c.args.set.now) c.args.user.now.hits = rw c.hits.ensures.hits at c.has_hits.ensures in
    let lacks : c.meets.result ≡ have_common c.args.user.now.lacks c.args.set.now = rw c.lacks.ensures at c.meets.ensures in (
      λ is. met_by c.args.user.now c.args.set.now (sym hits ∙ c.if-has_hits.true) (sym lacks ∙ is_false c.meets.result is),
      λ met. is_not c.meets.result (lacks ∙ met_lacks c.args.user.now c.args.set.now met),
    )

pub returns-else-has_hits : goal.returns-else-has_hits
returns-else-has_hits c =
    let hits : c.has_hits.result ≡ list_all (λ hit. have_common hit c.args.set.now) c.args.user.now.hits = rw c.hits.ensures.hits at c.has_hits.ensures in (
      λ is. let no = c.if-has_hits.false in cc,
      λ met. let yes : c.has_hits.result ≡ true = hits ∙ met_hits c.args.user.now c.args.set.now met in let no = c.if-has_hits.false in cc,
    )
