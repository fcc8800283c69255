use Rattle.std.proofs.Common.{◌≡◌, ◌∙◌, sym, ap}
use Rattle.std.specs.Cmp.Lexicographic.{pointwise}
use Rattle.std.specs.Prelude.{nat_eq}
use Rattle.std.proofs.lemmas.Slice.Eq.{bytes_eq-Decides, slice_eq-Decides}
use Rattle.arbac_laws.specs.Needs.{Need}
use Rattle.req_core.proofs.FormLemmas.{same_user}
use Rattle.req_core.proofs.req.UserReq.is_same.Goals as goal

-- the lacks are the same, and the hits decide
pub returns-then-eq : goal.returns-then-eq
returns-then-eq c =
    let a = c.self.inside in
    let b = c.other.inside in
    let lacks : a.lacks ≡ b.lacks = (bytes_eq-Decides a.lacks b.lacks).0 (sym c.eq.ensures ∙ c.if-eq.true) in
    let hits = slice_eq-Decides bytes_eq-Decides a.hits.items b.hits.items c.eq-then-eq.result c.eq-then-eq.ensures in
    rw (← c.self.view_is, ← c.other.view_is)
    (λ passes. same_user _ _ (hits.0 passes) lacks, λ same. hits.1 (ap (λ (need : Need). need.hits) same))
