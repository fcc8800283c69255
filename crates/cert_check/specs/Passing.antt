-- Going through what must hold before acts, in the order of obligations, with a place that is counted on.
use Rattle.std.specs.Prelude.{ℕ, ◌≡◌, ◌+◌, ◌==◌, Bool, true, false, not, List, [], ◌∷◌, map, length, slice_set, Option, Some, None}
use Rattle.std.specs.List.{list_any}
use Rattle.list_words.specs.Lists.{Each, IsFirst}
use Rattle.role_order.specs.Roles.{has_role}
use Rattle.role_order.specs.Reach.{count_up, seniors_of}
use Rattle.role_order.specs.declared.range.Range.{Range}
use Rattle.arbac_policy.specs.declared.rule.CanAssign.{CanAssign}
use Rattle.arbac_policy.specs.declared.rule.CanRevoke.{CanRevoke}
use Rattle.arbac_policy.specs.Rules.{Rules}
use Rattle.arbac_laws.specs.Needs.{Need}
use Rattle.arbac_laws.specs.PreImages.{itself, other, with_admin, before_assign, before_weak}
use Rattle.arbac_laws.specs.Obligations.{and_then, flat, flat_places, picks, roles_in}
use Rattle.arbac_laws.specs.Views.{need_of, needs_of}
use Rattle.need_marks.specs.Marks.{AreUserMarks}
use Rattle.cert_check.specs.declared.picks.Member.{Member}
use Rattle.cert_check.specs.declared.picks.Change.{Change}
use Rattle.cert_check.specs.declared.picks.Change.TheVariants.{Give, Take}
use Rattle.cert_check.specs.Asked.{IsUncovered}
use Rattle.cert_check.specs.Rulebooks.{conjuncts_of}

-- what must hold before is something, and it is possible, and no member covers it
abbrev pub IsMissed : List (List Need) → Option (List Need) → Type 0
IsMissed members image = (before : List Need) × (image ≡ Some before) × IsUncovered members before

-- counted on through the list, the second place is that of the first item of which P holds, or where there is none it lies
-- behind the list
abbrev pub Counts : {A : Type 0} → (A → Type 0) → List A → ℕ → Bool → ℕ → Type 0
Counts P list from true to = (k : ℕ) × (to ≡ from + k) × IsFirst P list k
Counts P list from false to = (to ≡ from + length list) × Each (λ x. ¬ P x) list

-- what is counted through the rest, from now on, is counted through the whole
abbrev pub GoesOn : {A : Type 0} → (A → Type 0) → List A → ℕ → List A → ℕ → Type 0
GoesOn P whole from rest now = (found : Bool) (to : ℕ) → Counts P rest now found to → Counts P whole from found to

-- the list where the test is true, and nothing otherwise
abbrev pub only_if : {A : Type 0} → Bool → List A → List A
only_if true list = list
only_if false list = []

-- the users have these marks, and those of the index are by the same order
pub record IsMarked (member : Member) : Type 0 where
  pub order : member.index.now.order ≡ member.book.now.order
  pub marks : AreUserMarks member.book.now.order (needs_of member.users.now) member.marks.now

-- the conjunct by which a role is given, and none where it is taken
abbrev pub given_by : Change → Option Need
given_by (Give conjunct) = Some (need_of conjunct.now)
given_by Take = None

-- the act is of use to the user: it gives what one of the hits wants, or takes a lack
abbrev pub is_of_use : Option Need → ℕ → Need → Bool
is_of_use (Some conjunct) role need = list_any (λ hit. has_role hit role) need.hits
is_of_use None role need = has_role need.lacks role

-- what the target must meet before the act
abbrev pub before_by : Rules → Option Need → ℕ → Need → Option Need
before_by rules (Some conjunct) role need = before_assign rules conjunct role need
before_by rules None role need = before_weak role need

-- before the act that the user at the place administers, unless that is the target
abbrev pub by_other : List ℕ → List Need → ℕ → ℕ → List (Option (List Need))
by_other hit users target place = only_if (not (place == target)) (Some (with_admin (other place) target hit users) ∷ [])

-- before the act that the target itself or another user administers
abbrev pub by_users : List ℕ → List Need → ℕ → List (Option (List Need))
by_users hit users target = Some (with_admin itself target hit users) ∷ flat (by_other hit users target) (count_up 0 (length users))

-- before the act on the target by each administrator, where all users but the administrator must meet so much
abbrev pub by_picks : List ℕ → List Need → ℕ → List (Option (List Need))
by_picks hit users target = map (λ pick. Some (with_admin pick target hit users)) (picks target (length users))

-- the same, where the target must meet so much of its own, or nothing will do
abbrev pub by_before : List ℕ → List Need → ℕ → Option Need → List (Option (List Need))
by_before hit needs target before =
    map (λ pick. and_then before (λ one. Some (with_admin pick target hit (slice_set needs target one)))) (picks target (length needs))

-- before the acts on the user at the place, if they are of use to it
abbrev pub by_target : Rules → Option Need → List ℕ → List Need → ℕ → ℕ → Need → List (Option (List Need))
by_target rules given hit needs role target need = only_if (is_of_use given role need) (by_before hit needs target (before_by rules given role need))

-- before the acts with the role, by target
abbrev pub by_role : Rules → Option Need → List ℕ → List Need → ℕ → List (Option (List Need))
by_role rules given hit needs role = flat_places (by_target rules given hit needs role) 0 needs

-- before the acts with a role of the range, by role
abbrev pub by_range : Rules → Option Need → List ℕ → Range → List Need → List (Option (List Need))
by_range rules given hit range needs = flat (by_role rules given hit needs) (roles_in rules.order range)

-- before the acts of the rule to assign, by conjunct
abbrev pub by_assign : Rules → List Need → CanAssign → List (Option (List Need))
by_assign rules needs rule =
    flat (λ conjunct. by_range rules (Some conjunct) (seniors_of rules.order rule.admin) rule.range needs) (conjuncts_of rules rule)

-- before the acts of the rule to revoke
abbrev pub by_revoke : Rules → List Need → CanRevoke → List (Option (List Need))
by_revoke rules needs rule = by_range rules None (seniors_of rules.order rule.admin) rule.range needs
