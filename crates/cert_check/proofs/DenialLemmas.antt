-- An act is denied for one first part.
use Rattle.std.proofs.Common.{ℕ, ◌≡◌, ◌<◌, ◌≤◌, ◌∙◌, List, [], ◌∷◌, length, arith, sym, subst, ap, inl, inr, Some}
use Rattle.std.specs.Prelude.{◌⊎◌, slice_get}
use Rattle.list_words.specs.Lists.{Some_of}
use Rattle.list_words.proofs.EachLemmas.{some_item, some_weaker}
use Rattle.role_order.specs.Ranges.{IsInRange}
use Rattle.arbac_policy.specs.declared.act.Act.{Act}
use Rattle.arbac_policy.specs.declared.act.ActKind.{ActKind}
use Rattle.arbac_policy.specs.declared.act.ActKind.TheVariants.{Assign, Weak, Strong}
use Rattle.arbac_policy.specs.declared.rule.CanAssign.{CanAssign}
use Rattle.arbac_policy.specs.declared.rule.CanRevoke.{CanRevoke}
use Rattle.arbac_policy.specs.declared.verdict.Part.{Part}
use Rattle.arbac_policy.specs.declared.verdict.Part.TheVariants.{NoUser, NoRole, NoRange, NoAdmin, NoCondition, Exclusive}
use Rattle.arbac_policy.specs.declared.verdict.Side.TheVariants.{Admin, Target}
use Rattle.arbac_policy.specs.Truth.{Holder, user}
use Rattle.arbac_policy.specs.Rules.{Rules}
use Rattle.arbac_policy.specs.Holders.{admins_of, assign_rules, falling, pairs_of, revoke_rules}
use Rattle.arbac_policy.specs.Steps.{Blocks, LetsAssign}
use Rattle.arbac_policy.specs.Verdicts.{AssignDenied, AssignFails, Denies, FitsRule, KindDenied, PlaceFails, RevokeFails, StrongDenied, WeakDenied}
use Rattle.arbac_policy.specs.Verdicts.{WeaksDenied}
use Rattle.ura_core.proofs.DenialLemmas.{places_no, weak_denied_no, weak_step_one}
use Rattle.cert_check.proofs.FirstLemmas.{first_one, first_some}

both_one : (part : ℕ → ℕ → Part) (r s p q : ℕ) → r ≡ s → p ≡ q → part r p ≡ part s q
both_one part r s p q role place = ap (λ x. part x p) role ∙ ap (part s) place

places_one : (users old : List (List ℕ)) (admin target : ℕ) (a b : Part) → PlaceFails users old admin target a → PlaceFails users old admin target b
    → a ≡ b
places_one users old admin target (NoUser Admin x) (NoUser Admin y) h k = ap (NoUser Admin) (h.0 ∙ sym k.0)
places_one users old admin target (NoUser Admin x) (NoUser Target y) h k = let there : slice_get users admin ≡ Some k.1.0 = k.1.1 in cc (h.1, there)
places_one users old admin target (NoUser Target x) (NoUser Admin y) h k = let there : slice_get users admin ≡ Some h.1.0 = h.1.1 in cc (k.1, there)
places_one users old admin target (NoUser Target x) (NoUser Target y) h k = ap (NoUser Target) (h.0 ∙ sym k.0)
places_one users old admin target (NoRole r) b h k = absurd h
places_one users old admin target (NoRange r) b h k = absurd h
places_one users old admin target (NoAdmin r p) b h k = absurd h
places_one users old admin target (NoCondition r p) b h k = absurd h
places_one users old admin target (Exclusive r p) b h k = absurd h
places_one users old admin target a (NoRole r) h k = absurd k
places_one users old admin target a (NoRange r) h k = absurd k
places_one users old admin target a (NoAdmin r p) h k = absurd k
places_one users old admin target a (NoCondition r p) h k = absurd k
places_one users old admin target a (Exclusive r p) h k = absurd k

-- a range that has the role is one of a role
range_role : (rules : Rules) (role : ℕ) (list : List CanAssign) → Some_of (λ rule. IsInRange rules.order rule.range role) list
    → role < length rules.order.names
range_role rules role list some = let one = some_item (λ rule. IsInRange rules.order rule.range role) list some in one.2.is_role

fit_range : (rules : Rules) (by : List ℕ) (role : ℕ) (list : List CanAssign) → Some_of (λ rule. FitsRule rules by role rule.range rule.admin) list
    → Some_of (λ rule. IsInRange rules.order rule.range role) list
fit_range rules by role list =
    some_weaker (λ rule. FitsRule rules by role rule.range rule.admin) (λ rule. IsInRange rules.order rule.range role) (λ rule fits. fits.0) list

let_fit : (holder : Holder) (rules : Rules) (by set : List ℕ) (role : ℕ) (list : List CanAssign) → Some_of (LetsAssign holder rules by set role) list
    → Some_of (λ rule. FitsRule rules by role rule.range rule.admin) list
let_fit holder rules by set role list =
    some_weaker (LetsAssign holder rules by set role) (λ rule. FitsRule rules by role rule.range rule.admin)
    (λ rule lets. (lets.in_range, lets.by_admin)) list

-- assignments

assign_one : (holder : Holder) (rules : Rules) (by set : List ℕ) (role : ℕ) (a b : Part) → AssignFails holder rules by set role a
    → AssignFails holder rules by set role b → a ≡ b
assign_one holder rules by set role = go
  where
    list : List CanAssign
    list = assign_rules holder rules

    InRange : CanAssign → Type 0
    InRange = λ rule. IsInRange rules.order rule.range role

    Fits : CanAssign → Type 0
    Fits = λ rule. FitsRule rules by role rule.range rule.admin

    known : Some_of InRange list → role < length rules.order.names
    known = range_role rules role list

    from_fit : Some_of Fits list → Some_of InRange list
    from_fit = fit_range rules by role list

    from_let : Some_of (LetsAssign holder rules by set role) list → Some_of Fits list
    from_let = let_fit holder rules by set role list

    go : (a b : Part) → AssignFails holder rules by set role a → AssignFails holder rules by set role b → a ≡ b
    go (NoUser s x) b h k = absurd h
    go a (NoUser s x) h k = absurd k
    go (NoRole r) (NoRole s) h k = ap NoRole (h.0 ∙ sym k.0)
    go (NoRole r) (NoRange s) h k = absurd (omega (arith, h.1, k.1))
    go (NoRole r) (NoAdmin s q) h k = let l = known (first_some InRange list q k.1) in absurd (omega (arith, h.1, l))
    go (NoRole r) (NoCondition s q) h k = let l = known (from_fit (first_some Fits list q k.1)) in absurd (omega (arith, h.1, l))
    go (NoRole r) (Exclusive s q) h k = let l = known (from_fit (from_let k.1)) in absurd (omega (arith, h.1, l))
    go (NoRange r) (NoRole s) h k = absurd (omega (arith, h.1, k.1))
    go (NoRange r) (NoRange s) h k = ap NoRange (h.0 ∙ sym k.0)
    go (NoRange r) (NoAdmin s q) h k = absurd (h.2 (first_some InRange list q k.1))
    go (NoRange r) (NoCondition s q) h k = absurd (h.2 (from_fit (first_some Fits list q k.1)))
    go (NoRange r) (Exclusive s q) h k = absurd (h.2 (from_fit (from_let k.1)))
    go (NoAdmin r p) (NoRole s) h k = let l = known (first_some InRange list p h.1) in absurd (omega (arith, k.1, l))
    go (NoAdmin r p) (NoRange s) h k = absurd (k.2 (first_some InRange list p h.1))
    go (NoAdmin r p) (NoAdmin s q) h k = both_one NoAdmin r s p q (h.0 ∙ sym k.0) (first_one InRange list p q h.1 k.1)
    go (NoAdmin r p) (NoCondition s q) h k = absurd (h.2 (first_some Fits list q k.1))
    go (NoAdmin r p) (Exclusive s q) h k = absurd (h.2 (from_let k.1))
    go (NoCondition r p) (NoRole s) h k = let l = known (from_fit (first_some Fits list p h.1)) in absurd (omega (arith, k.1, l))
    go (NoCondition r p) (NoRange s) h k = absurd (k.2 (from_fit (first_some Fits list p h.1)))
    go (NoCondition r p) (NoAdmin s q) h k = absurd (k.2 (first_some Fits list p h.1))
    go (NoCondition r p) (NoCondition s q) h k = both_one NoCondition r s p q (h.0 ∙ sym k.0) (first_one Fits list p q h.1 k.1)
    go (NoCondition r p) (Exclusive s q) h k = absurd (h.2 k.1)
    go (Exclusive r p) (NoRole s) h k = let l = known (from_fit (from_let h.1)) in absurd (omega (arith, k.1, l))
    go (Exclusive r p) (NoRange s) h k = absurd (k.2 (from_fit (from_let h.1)))
    go (Exclusive r p) (NoAdmin s q) h k = absurd (k.2 (from_let h.1))
    go (Exclusive r p) (NoCondition s q) h k = absurd (k.2 h.1)
    go (Exclusive r p) (Exclusive s q) h k =
        both_one Exclusive r s p q (h.0 ∙ sym k.0) (first_one (Blocks rules.order.edges set role) (pairs_of holder rules) p q h.3 k.3)

assign_denied_one : (holder : Holder) (rules : Rules) (users old : List (List ℕ)) (admin target role : ℕ) (a b : Part)
    → AssignDenied holder rules users old admin target role a → AssignDenied holder rules users old admin target role b → a ≡ b
assign_denied_one holder rules users old admin target role a b (inl h) (inl k) = places_one users old admin target a b h k
assign_denied_one holder rules users old admin target role a b (inl h) (inr k) = absurd (places_no users old admin target a k.0 k.1 h k.2 k.3)
assign_denied_one holder rules users old admin target role a b (inr h) (inl k) = absurd (places_no users old admin target b h.0 h.1 k h.2 h.3)
assign_denied_one holder rules users old admin target role a b (inr h) (inr k) =
    let same_by : k.0 ≡ h.0 = cc (h.2, k.2) in
    let same_set : k.1 ≡ h.1 = cc (h.3, k.3) in
    assign_one holder rules h.0 h.1 role a b h.4
    (subst (λ s. AssignFails holder rules h.0 s role b) same_set (subst (λ y. AssignFails holder rules y k.1 role b) same_by k.4))

-- revocations

revoke_range : (rules : Rules) (role : ℕ) (list : List CanRevoke) → Some_of (λ rule. IsInRange rules.order rule.range role) list
    → role < length rules.order.names
revoke_range rules role list some = let one = some_item (λ rule. IsInRange rules.order rule.range role) list some in one.2.is_role

revoke_one : (holder : Holder) (rules : Rules) (by : List ℕ) (role : ℕ) (a b : Part) → RevokeFails holder rules by role a
    → RevokeFails holder rules by role b → a ≡ b
revoke_one holder rules by role = go
  where
    list : List CanRevoke
    list = revoke_rules holder rules

    InRange : CanRevoke → Type 0
    InRange = λ rule. IsInRange rules.order rule.range role

    go : (a b : Part) → RevokeFails holder rules by role a → RevokeFails holder rules by role b → a ≡ b
    go (NoUser s x) b h k = absurd h
    go (NoCondition r p) b h k = absurd h
    go (Exclusive r p) b h k = absurd h
    go a (NoUser s x) h k = absurd k
    go a (NoCondition s q) h k = absurd k
    go a (Exclusive s q) h k = absurd k
    go (NoRole r) (NoRole s) h k = ap NoRole (h.0 ∙ sym k.0)
    go (NoRole r) (NoRange s) h k = absurd (omega (arith, h.1, k.1))
    go (NoRole r) (NoAdmin s q) h k = let l = revoke_range rules role list (first_some InRange list q k.1) in absurd (omega (arith, h.1, l))
    go (NoRange r) (NoRole s) h k = absurd (omega (arith, h.1, k.1))
    go (NoRange r) (NoRange s) h k = ap NoRange (h.0 ∙ sym k.0)
    go (NoRange r) (NoAdmin s q) h k = absurd (h.2 (first_some InRange list q k.1))
    go (NoAdmin r p) (NoRole s) h k = let l = revoke_range rules role list (first_some InRange list p h.1) in absurd (omega (arith, k.1, l))
    go (NoAdmin r p) (NoRange s) h k = absurd (k.2 (first_some InRange list p h.1))
    go (NoAdmin r p) (NoAdmin s q) h k = both_one NoAdmin r s p q (h.0 ∙ sym k.0) (first_one InRange list p q h.1 k.1)

weak_denied_one : (holder : Holder) (rules : Rules) (users old : List (List ℕ)) (admin target role : ℕ) (a b : Part)
    → WeakDenied holder rules users old admin target role a → WeakDenied holder rules users old admin target role b → a ≡ b
weak_denied_one holder rules users old admin target role a b (inl h) (inl k) = places_one users old admin target a b h k
weak_denied_one holder rules users old admin target role a b (inl h) (inr k) = absurd (places_no users old admin target a k.0 k.1 h k.2 k.3)
weak_denied_one holder rules users old admin target role a b (inr h) (inl k) = absurd (places_no users old admin target b h.0 h.1 k h.2 h.3)
weak_denied_one holder rules users old admin target role a b (inr h) (inr k) =
    let same_by : k.0 ≡ h.0 = cc (h.2, k.2) in
    revoke_one holder rules h.0 role a b h.4 (subst (λ y. RevokeFails holder rules y role b) same_by k.4)

weaks_denied_one : (holder : Holder) (rules : Rules) (users old : List (List ℕ)) (admin target : ℕ) (roles : List ℕ) (a b : Part)
    → WeaksDenied holder rules users old admin target roles a → WeaksDenied holder rules users old admin target roles b → a ≡ b
weaks_denied_one holder rules users old admin target [] a b h k = absurd h
weaks_denied_one holder rules users old admin target (role ∷ roles) a b (inl h) (inl k) =
    weak_denied_one holder rules (admins_of holder users old) old admin target role a b h k
weaks_denied_one holder rules users old admin target (role ∷ roles) a b (inl h) (inr k) =
    absurd (weak_denied_no holder rules (admins_of holder users old) old admin target role a k.0 h k.1)
weaks_denied_one holder rules users old admin target (role ∷ roles) a b (inr h) (inl k) =
    absurd (weak_denied_no holder rules (admins_of holder users old) old admin target role b h.0 k h.1)
weaks_denied_one holder rules users old admin target (role ∷ roles) a b (inr h) (inr k) =
    let same = weak_step_one holder rules (admins_of holder users old) old admin target role k.0 h.0 k.1 h.1 in
    weaks_denied_one holder rules users h.0 admin target roles a b h.2 (subst (λ m. WeaksDenied holder rules users m admin target roles b) same k.2)

strong_denied_one : (holder : Holder) (rules : Rules) (users old : List (List ℕ)) (admin target role : ℕ) (a b : Part)
    → StrongDenied holder rules users old admin target role a → StrongDenied holder rules users old admin target role b → a ≡ b
strong_denied_one holder rules users old admin target role a b (inl h) (inl k) = places_one users old admin target a b h k
strong_denied_one holder rules users old admin target role a b (inl h) (inr k) = absurd (places_no users old admin target a k.0 k.1 h k.2 k.3)
strong_denied_one holder rules users old admin target role a b (inr h) (inl k) = absurd (places_no users old admin target b h.0 h.1 k h.2 h.3)
strong_denied_one holder rules users old admin target role a b (inr h) (inr k) = by_case h.4 k.4
  where
    same : k.1 ≡ h.1
    same = cc (h.3, k.3)

    Last : List ℕ → Part → Type 0
    Last set part = ((part ≡ NoRole role) × (length rules.order.names ≤ role))
        ⊎ ((role < length rules.order.names) × WeaksDenied holder rules users old admin target (falling holder rules.order set role) part)

    by_case : Last h.1 a → Last k.1 b → a ≡ b
    by_case (inl f) (inl g) = f.0 ∙ sym g.0
    by_case (inl f) (inr g) = absurd (omega (arith, f.1, g.0))
    by_case (inr f) (inl g) = absurd (omega (arith, g.1, f.0))
    by_case (inr f) (inr g) =
        weaks_denied_one holder rules users old admin target (falling holder rules.order h.1 role) a b f.1
        (subst (λ s. WeaksDenied holder rules users old admin target (falling holder rules.order s role) b) same g.1)

kind_denied_one : (kind : ActKind) (holder : Holder) (rules : Rules) (users old : List (List ℕ)) (admin target role : ℕ) (a b : Part)
    → KindDenied kind holder rules users old admin target role a → KindDenied kind holder rules users old admin target role b → a ≡ b
kind_denied_one Assign holder rules users old admin target role a b h k = assign_denied_one holder rules users old admin target role a b h k
kind_denied_one Weak holder rules users old admin target role a b h k = weak_denied_one holder rules users old admin target role a b h k
kind_denied_one Strong holder rules users old admin target role a b h k = strong_denied_one holder rules users old admin target role a b h k

-- an act on users is denied for one first part
pub denied_one : (rules : Rules) (old : List (List ℕ)) (act : Act) (a b : Part) → Denies rules old act a → Denies rules old act b → a ≡ b
denied_one rules old act a b h k = kind_denied_one act.kind user rules old old act.admin act.target act.role a b h k
