use Rattle.std.proofs.Common.{◌≡◌, true, false}
use Rattle.std.specs.Prelude.{◌↔◌, IsTrue}
use Rattle.arbac_laws.specs.Views.{needs_of}
use Rattle.cert_needs.proofs.FormLemmas.{form_same, no_form}
use Rattle.cert_needs.proofs.forms.has_form.Goals as goal

-- what is impossible has no normal form
pub returns-then-not-is_possible : goal.returns-then-not-is_possible
returns-then-not-is_possible c = (
  λ e. absurd (let never : false ≡ true = e in cc),
  λ is. absurd (no_form c.args.raw.now (needs_of c.args.form.now) c.is_possible.result c.is_possible.ensures c.if-not-is_possible.true is),
)

-- the sorted users are the normal form
pub returns : goal.returns
returns c =
    let users = needs_of c.in_ok-users.users.items in
    let form = needs_of c.args.form.now in
    let same : IsTrue c.are_same.result ↔ (users ≡ form) = rw c.deref.ensures.value at c.are_same.ensures in
    form_same c.args.raw.now users form c.is_possible.result c.are_same.result c.is_possible.ensures c.if-not-is_possible.false c.in_ok-users.ensures same
