-- Normal forms of what is wanted, part by part.
use Rattle.std.specs.Prelude.{Bool, []}
use Rattle.std.specs.List.{list_any}
use Rattle.role_order.specs.Roles.{is_within}
use Rattle.arbac_policy.specs.declared.conjunct.Conjunct.{Conjunct}
use Rattle.arbac_laws.specs.Needs.{Need}
use Rattle.arbac_laws.specs.Orders.{need_before}
use Rattle.arbac_laws.specs.Views.{need_of}
use Rattle.cert_needs.specs.declared.wanted.Wanted.{Wanted}
use Rattle.cert_needs.specs.Wanted.{and_admin}

-- one of the hits lies within the lacks
abbrev pub wants_barred : Need → Bool
wants_barred need = list_any (λ hit. is_within hit need.lacks) need.hits

-- what is wanted of the user as an administrator alone
abbrev pub admin_need : Wanted → Need
admin_need user = record { hits = and_admin user.admin []; lacks = user.lacks }

-- the user comes before the other, by the hits and then by the lacks
abbrev pub user_before : Conjunct → Conjunct → Bool
user_before a b = need_before (need_of a) (need_of b)
