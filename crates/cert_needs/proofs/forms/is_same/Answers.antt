use Rattle.std.proofs.Common.{◌≡◌, ◌∙◌, sym, ap}
use Rattle.std.specs.Cmp.Lexicographic.{pointwise}
use Rattle.std.specs.Prelude.{nat_eq}
use Rattle.std.proofs.lemmas.Slice.Eq.{bytes_eq-Decides, slice_eq-Decides}
use Rattle.arbac_laws.specs.Needs.{Need}
use Rattle.cert_needs.proofs.FormLemmas.{same_user}
use Rattle.cert_needs.proofs.forms.is_same.Goals as goal

-- the lacks are the same, and the hits decide
pub returns-then-eq : goal.returns-then-eq
returns-then-eq c =
    let a = c.args.user.now in
    let b = c.args.other.now in
    let lacks : a.lacks ≡ b.lacks = (bytes_eq-Decides a.lacks b.lacks).0 (sym c.eq.ensures ∙ c.if-eq.true) in
    let tested : c.eq-then-eq.result ≡ pointwise (pointwise nat_eq) a.hits.items b.hits.items =
    rw (c.as_slice.ensures.value, c.as_slice-then-eq.ensures.value) at c.eq-then-eq.ensures in
    let hits = slice_eq-Decides bytes_eq-Decides a.hits.items b.hits.items c.eq-then-eq.result tested in
    (λ passes. same_user a b lacks (hits.0 passes), λ same. hits.1 (ap (λ (need : Need). need.hits) same))
