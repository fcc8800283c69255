-- No exclusive pair keeps a role from a permission.
use Rattle.std.proofs.Common.{ℕ, ◌≡◌, ◌<◌, ◌≤◌, List, [], ◌∷◌, length, inl, inr}
use Rattle.std.specs.Prelude.{◌⊎◌}
use Rattle.arbac_policy.specs.declared.act.ActKind.{ActKind}
use Rattle.arbac_policy.specs.declared.act.ActKind.TheVariants.{Assign, Weak, Strong}
use Rattle.arbac_policy.specs.declared.verdict.Part.TheVariants.{NoRole, Exclusive}
use Rattle.arbac_policy.specs.Truth.{permission}
use Rattle.arbac_policy.specs.Rules.{Rules}
use Rattle.arbac_policy.specs.Holders.{falling}
use Rattle.arbac_policy.specs.Verdicts.{WeakDenied, WeaksDenied, KindDenied}

weak_no_pair : (rules : Rules) (users old : List (List ℕ)) (admin target role r pair : ℕ)
    → WeakDenied permission rules users old admin target role (Exclusive r pair) → ⊥
weak_no_pair rules users old admin target role r pair (inl h) = h
weak_no_pair rules users old admin target role r pair (inr h) = h.4

weaks_no_pair : (rules : Rules) (users old : List (List ℕ)) (admin target : ℕ) (roles : List ℕ) (r pair : ℕ)
    → WeaksDenied permission rules users old admin target roles (Exclusive r pair) → ⊥
weaks_no_pair rules users old admin target [] r pair h = h
weaks_no_pair rules users old admin target (role ∷ roles) r pair (inl h) = weak_no_pair rules users old admin target role r pair h
weaks_no_pair rules users old admin target (role ∷ roles) r pair (inr h) = weaks_no_pair rules users h.0 admin target roles r pair h.2

pub kind_no_pair : (kind : ActKind) (rules : Rules) (users old : List (List ℕ)) (admin target role r pair : ℕ)
    → KindDenied kind permission rules users old admin target role (Exclusive r pair) → ⊥
kind_no_pair Assign rules users old admin target role r pair (inl h) = h
kind_no_pair Assign rules users old admin target role r pair (inr h) = cc h.4.3.at
kind_no_pair Weak rules users old admin target role r pair h = weak_no_pair rules users old admin target role r pair h
kind_no_pair Strong rules users old admin target role r pair (inl h) = h
kind_no_pair Strong rules users old admin target role r pair (inr h) = by_case h.4
  where
    by_case : (Exclusive r pair ≡ NoRole role) × (length rules.order.names ≤ role)
        ⊎ ((role < length rules.order.names) × WeaksDenied permission rules users old admin target (falling permission rules.order h.1 role)
        (Exclusive r pair))
        → ⊥
    by_case (inl k) = let e : Exclusive r pair ≡ NoRole role = k.0 in cc
    by_case (inr k) = weaks_no_pair rules users old admin target (falling permission rules.order h.1 role) r pair k.1
