use Rattle.std.proofs.Common.{◌≡◌, ◌<◌, sym, ap, arith, rules, ◌∙◌, subst, length, Some, true, false}
use Rattle.std.proofs.lemmas.List.Sorted.{IsPartitionPoint-from_clause}
use Rattle.std.specs.List.Sorted.{IsPartitionedBy}
use Rattle.std.specs.Prelude.{slice_get}
use Rattle.arbac_policy.specs.declared.profile.Profile.{Profile}
use Rattle.role_order.specs.Orders.{set_before}
use Rattle.list_words.proofs.GetLemmas.{get_at, get_within}
use Rattle.profile_set.proofs.GroupLemmas.{IsParting, parted, add_new, add_here}
use Rattle.profile_set.proofs.groups.add_member.Goals as goal
use Rattle.profile_set.proofs.groups.add_member.Goals.{else-at-len-via-then-at-len+else-not-before, else-at-len-via-else-at-len}

-- neither set is before the other, so the profile at the place has this one
pub returns-then-not-before : goal.returns-then-not-before
returns-then-not-before c =
    let set = c.args.set.now in
    let ps = c.args.profiles.now.items in
    let at = c.partition_point-at.result in
    let less : at < length ps = omega (arith, c.if-at-len.true, c.len.ensures) in
    let one = c.index.result.now in
    let two = c.index-then-not-before.result.now in
    let here : slice_get ps at ≡ Some two = get_at ps at two less ∙ ap Some (sym c.index-then-not-before.ensures) in
    let also : slice_get ps at ≡ Some one = get_at ps at one less ∙ ap Some (sym c.index.ensures) in
    let same : one ≡ two = cc in
    let after : set_before set one.set ≡ false = sym c.before-then-at-len.ensures.value ∙ c.if-not-before.true in
    let sets = c.deref.result.now in
    let parts : IsPartitionedBy (λ p. set_before p.set set) sets = rw c.deref.ensures.value (parted set ps c.requires.rise) in
    let point : IsParting set ps at = subst (λ xs. IsParting set xs at) c.deref.ensures.value
    (IsPartitionPoint-from_clause (λ p. set_before p.set set) sets at c.partition_point-at.ensures.partitioned parts (λ a r q k. search rules)) in
    rw c.with_one.ensures (add_here set ps at two point here (subst (λ (p : Profile). set_before set p.set ≡ false) same after))

-- the profile at the place, if there is one, has a later set
pub returns-in_ok-insert : goal.returns-in_ok-insert
returns-in_ok-insert c =
    let set = c.args.set.now in
    let ps = c.args.profiles.now.items in
    let at = c.partition_point-at.result in
    let sets = c.deref.result.now in
    let parts : IsPartitionedBy (λ p. set_before p.set set) sets = rw c.deref.ensures.value (parted set ps c.requires.rise) in
    let point : IsParting set ps at = subst (λ xs. IsParting set xs at) c.deref.ensures.value
    (IsPartitionPoint-from_clause (λ p. set_before p.set set) sets at c.partition_point-at.ensures.partitioned parts (λ a r q k. search rules)) in
    let added = add_new set ps at (omega arith) point in
    c.in_ok-insert.ensures.items ∙ elim c.else-at-len.branch [
      | else-at-len-via-then-at-len+else-not-before w ↦ added (λ p e.
          let less = (get_within ps at p e).0 in
          let one = w.index.result.now in
          let also : slice_get ps at ≡ Some one = get_at ps at one less ∙ ap Some (sym w.index.ensures) in
          let same : one ≡ p = cc in
          subst (λ (q : Profile). set_before set q.set ≡ true) same (sym w.before-then-at-len.ensures.value ∙ w.if-not-before.false))
      | else-at-len-via-else-at-len w ↦ added (λ p e. let less = (get_within ps at p e).0 in absurd (omega (arith, less, w.if-at-len.false, c.len.ensures)))
    ]
