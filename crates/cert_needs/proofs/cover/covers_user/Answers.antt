use Rattle.std.proofs.Common.{◌≡◌, ◌∙◌, true, false, sym}
use Rattle.role_order.specs.Roles.{is_within}
use Rattle.arbac_laws.specs.Views.{need_of}
use Rattle.cert_needs.specs.Wanted.{need_wanted}
use Rattle.cert_needs.specs.Cover.{covers_need}
use Rattle.cert_needs.proofs.CoverLemmas.{covers_by}
use Rattle.cert_needs.proofs.cover.covers_user.Goals as goal

-- the lacks are within, and the hits decide
pub returns-then-within-clause-covers : goal.returns-then-within-clause-covers
returns-then-within-clause-covers c =
    let a = need_of c.args.user.now in
    let b = need_wanted c.args.other.now in
    let lacks : is_within a.lacks b.lacks ≡ true = sym c.within.ensures ∙ c.if-within.true in
    let is : c.wants_within_each.result ≡ covers_need a b = rw lacks (rw c.deref.ensures.value at c.wants_within_each.ensures) in
    covers_by a b c.wants_within_each.result is

-- the lacks aren't within
pub returns-else-within-clause-covers : goal.returns-else-within-clause-covers
returns-else-within-clause-covers c =
    let a = need_of c.args.user.now in
    let b = need_wanted c.args.other.now in
    let lacks : is_within a.lacks b.lacks ≡ false = sym c.within.ensures ∙ c.if-within.false in
    let is : c.within.result ≡ covers_need a b = rw lacks c.if-within.false in
    covers_by a b c.within.result is
