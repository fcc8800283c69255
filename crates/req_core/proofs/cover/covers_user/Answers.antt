use Rattle.std.proofs.Common.{◌≡◌, sym, ◌∙◌}
use Rattle.role_order.specs.Roles.{is_within}
use Rattle.req_core.proofs.CoverLemmas.{hits_test, covers_both, covers_first}
use Rattle.req_core.proofs.cover.covers_user.Goals as goal

-- the lacks are so, and the hits decide
pub returns-then-within : goal.returns-then-within
returns-then-within c =
    let lacks : c.within.result ≡ is_within c.args.a.now.lacks c.args.b.now.lacks = rw (c.lacks.ensures, c.lacks-2.ensures) at c.within.ensures in
    let hits : c.covers_hits.result ≡ hits_test c.args.a.now c.args.b.now =
    rw (c.hits.ensures.hits, c.hits-then-within.ensures.hits, c.lacks-then-within.ensures) at c.covers_hits.ensures in
    covers_both c.args.a.now c.args.b.now c.covers_hits.result (sym lacks ∙ c.if-within.true) hits

-- the lacks decide
pub returns-else-within : goal.returns-else-within
returns-else-within c =
    let lacks : c.within.result ≡ is_within c.args.a.now.lacks c.args.b.now.lacks = rw (c.lacks.ensures, c.lacks-2.ensures) at c.within.ensures in
    covers_first c.args.a.now c.args.b.now c.within.result lacks c.if-within.false
