use Rattle.std.proofs.Common.{◌≡◌, ◌<◌, ◌∙◌, ap, sym, refl, length, arith, Some, false, true}
use Rattle.std.specs.Prelude.{slice_get}
use Rattle.list_words.proofs.GetLemmas.{get_at, get_below}
use Rattle.arbac_laws.specs.Needs.{Covers}
use Rattle.shared_reqs.specs.Shared.{needs_marked}
use Rattle.shared_reqs.specs.Indexes.{Indexed, CoversAt}
use Rattle.shared_reqs.proofs.IndexLemmas.{members_of, members_long, member_read, covers_here, none_more}
use Rattle.shared_reqs.proofs.index.Index.has_covering.Goals.{else-counts-via-then-counts+in_ok-covers+else-branch, else-counts-via-else-counts}
use Rattle.shared_reqs.proofs.index.Index.has_covering.Goals as goal

-- this member covers and counts
pub returns-then-branch : goal.returns-then-branch
returns-then-branch c =
    let members = c.self.inside.members.items in
    let place = c.loop-place.place in
    let seen : members_of members ≡ c.args.self.now.members = ap (λ (i : Indexed). i.members) c.self.view_is in
    let less : place < length members = omega (arith, c.loop-place-test.true, c.len-place-end.ensures, c.self.invariant.long, members_long members) in
    let at : slice_get members place ≡ Some c.index-member.result.now = get_at members place _ less ∙ ap Some (sym c.index-member.ensures) in
    let there : slice_get c.args.self.now.members place ≡ Some (needs_marked c.deref.result.now) =
    rw seen at (member_read members place c.index-member.result.now c.deref.result.now at c.deref.ensures) in
    let same : c.deref-then-counts.result.now ≡ c.deref.result.now = c.deref-then-counts.ensures ∙ sym c.deref.ensures in
    let covers : Covers (needs_marked c.deref.result.now) (needs_marked c.args.req.now) = rw same at (c.in_ok-covers.ensures.0 c.if-branch.true) in
    let covering : CoversAt c.args.self.now.members (needs_marked c.args.req.now) c.args.end place =
    record { needs = needs_marked c.deref.result.now; at = there; covers = covers; apart = c.counts.ensures.0 c.if-counts.true } in
    (λ _. (place, covering), λ _. refl)

-- one member more doesn't cover, or doesn't count
pub loop-place-preserved : goal.loop-place-preserved
loop-place-preserved c =
    let members = c.self.inside.members.items in
    let place = c.loop-place.place in
    let raw = needs_marked c.args.req.now in
    let seen : members_of members ≡ c.args.self.now.members = ap (λ (i : Indexed). i.members) c.self.view_is in
    let less : place < length members = omega (arith, c.loop-place-test.true, c.len-place-end.ensures, c.self.invariant.long, members_long members) in
    let at : slice_get members place ≡ Some c.index-member.result.now = get_at members place _ less ∙ ap Some (sym c.index-member.ensures) in
    let there : slice_get c.args.self.now.members place ≡ Some (needs_marked c.deref.result.now) =
    rw seen at (member_read members place c.index-member.result.now c.deref.result.now at c.deref.ensures) in
    none_more (CoversAt c.args.self.now.members raw c.args.end) place c.loop-place.invariant
    (λ covering.
    let here = covers_here c.args.self.now.members raw c.args.end place (needs_marked c.deref.result.now) there covering in
    elim c.else-counts.branch [
      | else-counts-via-then-counts+in_ok-covers+else-branch w ↦
          let same : w.deref-then-counts.result.now ≡ c.deref.result.now = w.deref-then-counts.ensures ∙ sym c.deref.ensures in
          let covers : Covers (needs_marked w.deref-then-counts.result.now) raw = rw same here.0 in
          let never : false ≡ true = sym w.if-branch.false ∙ w.in_ok-covers.ensures.1 covers in cc
      | else-counts-via-else-counts w ↦ let never : false ≡ true = sym w.if-counts.false ∙ c.counts.ensures.1 here.1 in cc
    ])

-- no member of all covers
pub returns : goal.returns
returns c =
    let members = c.self.inside.members.items in
    let seen : members_of members ≡ c.args.self.now.members = ap (λ (i : Indexed). i.members) c.self.view_is in
    let long = ap length seen in (
      λ passes. absurd (let never : false ≡ true = passes in cc),
      λ covered. absurd (c.loop-place.invariant covered.0
          (let less = get_below c.args.self.now.members covered.0 covered.1.needs covered.1.at in
          omega (arith, less, c.loop-place-test.false, c.len-place-end.ensures, c.self.invariant.long, long)) covered.1),
    )
