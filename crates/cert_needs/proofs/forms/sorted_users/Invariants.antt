use Rattle.std.proofs.Common.{◌≡◌, map, drop}
use Rattle.arbac_laws.specs.Orders.{need_before}
use Rattle.arbac_laws.specs.NormalForms.{normal_need, sort_by}
use Rattle.arbac_laws.specs.Views.{needs_of}
use Rattle.cert_needs.specs.Wanted.{needs_wanted}
use Rattle.cert_needs.proofs.forms.sorted_users.Given as goal

abbrev pub invariant-loop-at : goal.invariant-loop-at
invariant-loop-at l = needs_of l.form.items ≡ sort_by need_before (map normal_need (needs_wanted (drop l.at l.users)))
