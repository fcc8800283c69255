use Rattle.std.proofs.Common.{◌≡◌, Some, None, false, sym, ◌∙◌, arith, subst, get_or}
use Rattle.std.specs.Prelude.{slice_get}
use Rattle.list_words.proofs.GetLemmas.{get_at, same_some}
use Rattle.arbac_policy.specs.declared.conjunct.Conjunct.{Conjunct}
use Rattle.arbac_laws.specs.Views.{need_of, needs_of}
use Rattle.cert_check.specs.Passing.{Counts, IsMissed, given_by, by_target}
use Rattle.cert_check.proofs.PickLemmas.{target_counts, no_picks, length_mapped}
use Rattle.cert_check.proofs.picks.pass_target.Goals as goal
use Rattle.cert_check.proofs.picks.pass_target.Goals.{in-Some+in_ok-found-in-Some, in-None+in_ok-pass-in-None}

-- the acts are of use to the target; it must meet so much before, or nothing will do
pub returns : goal.returns
returns c = λ user at.
    let members = c.args.member.now.index.now.members in
    let rules = c.args.member.now.book.now in
    let users = c.args.member.now.users.now in
    let given = given_by c.args.change.now in
    let one = get_or users c.args.target c.index-member-target.result in
    let there : slice_get users c.args.target ≡ Some one = get_at users c.args.target c.index-member-target.result c.requires.target in
    let same : one ≡ user = same_some one user (sym there ∙ at) in
    subst (λ (u : Conjunct). Counts (IsMissed members) (by_target rules given c.args.hit.now (needs_of users) c.args.role c.args.target (need_of u))
    c.args.place.now c.match-before.found c.match-before.place) same
    (elim c.match-before.branch [
      | in-Some+in_ok-found-in-Some w ↦ rw (w.found-is, w.place-is)
          (target_counts members rules given c.args.hit.now (needs_of users) c.args.role c.args.target
          (need_of one) c.is_of_use.result (Some (need_of w.in-Some.before)) c.args.place.now w.pass_before.new.place w.in_ok-found-in-Some.found
          c.is_of_use.ensures c.if-not-is_of_use.false (rw w.in-Some.is at c.in_ok-before.ensures) w.in_ok-found-in-Some.ensures)
      | in-None+in_ok-pass-in-None w ↦ rw (w.found-is, w.place-is)
          (target_counts members rules given c.args.hit.now (needs_of users) c.args.role c.args.target
          (need_of one) c.is_of_use.result None c.args.place.now w.pass.new.place false
          c.is_of_use.ensures c.if-not-is_of_use.false (rw w.in-None.is at c.in_ok-before.ensures)
          (no_picks members c.args.hit.now (needs_of users) c.args.target c.args.place.now w.pass.new.place
          (let long = length_mapped need_of users in let l = c.requires.target in omega (arith, long, l))
          (let long = length_mapped need_of users in let on = w.in_ok-pass-in-None.ensures in omega (arith, long, on))))
    ])
