use Rattle.std.proofs.Common.{◌≡◌, not, drop}
use Rattle.std.specs.Prelude.{filter}
use Rattle.std.specs.List.{list_any}
use Rattle.role_order.specs.Orders.{set_before}
use Rattle.arbac_laws.specs.NormalForms.{is_less, sort_once}
use Rattle.cert_needs.proofs.forms.least_sorted.Given as goal

abbrev pub invariant-loop-at : goal.invariant-loop-at
invariant-loop-at l = l.list.items ≡ sort_once set_before (filter (λ hit. not (list_any (λ other. is_less other hit) l.hits)) (drop l.at l.hits))
