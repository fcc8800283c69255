use Rattle.std.proofs.Common.{◌≡◌, ◌≤◌, ◌<◌, ◌∙◌, length, arith, sym, Some}
use Rattle.std.specs.Prelude.{◌↔◌, ◌⊎◌, slice_get, IsTrue}
use Rattle.std.proofs.lemmas.Bool.Decides.{nat_tests}
use Rattle.shared_reqs.specs.Shared.{needs_marked}
use Rattle.shared_reqs.proofs.RowLemmas.{looked_up}
use Rattle.shared_reqs.proofs.IndexLemmas.{members_of, members_long, member_read, few_read, accepts_covering, accepts_other, accepts_nowhere}
use Rattle.shared_reqs.proofs.index.CoveringAccepts.accepts.Goals as goal

-- the member there covers, and the second test decides
pub returns-then-covers_few : goal.returns-then-covers_few
returns-then-covers_few c =
    let members = c.args.self.now.members.now in
    let req = c.args.self.now.req.now in
    let member = c.in-Some.member.now in
    let at : slice_get members c.args.item ≡ Some member = looked_up _ _ _ _ c.in-Some.ensures.lookup.0 c.in-Some.ensures.lookup.1 in
    let same : c.deref-then-covers_few.result.now ≡ c.deref.result.now = c.deref-then-covers_few.ensures ∙ sym c.deref.ensures in
    let counts : IsTrue c.counts.result ↔ (¬ (needs_marked c.deref.result.now ≡ needs_marked req) ⊎ (c.args.item < c.args.self.now.end)) =
    rw same at c.counts.ensures in
    let covers = few_read c.users.result.now c.users-in-Some.result.now c.deref.result.now req c.covers_few.result c.users.ensures.users
    c.users-in-Some.ensures.users c.covers_few.ensures in
    accepts_covering (members_of members) (needs_marked req) c.args.self.now.end c.args.item (needs_marked c.deref.result.now) c.counts.result
    (member_read members c.args.item member c.deref.result.now at c.deref.ensures) (covers.0 c.if-covers_few.true) counts

-- the member there doesn't cover
pub returns-else-covers_few : goal.returns-else-covers_few
returns-else-covers_few c =
    let members = c.args.self.now.members.now in
    let req = c.args.self.now.req.now in
    let member = c.in-Some.member.now in
    let at : slice_get members c.args.item ≡ Some member = looked_up _ _ _ _ c.in-Some.ensures.lookup.0 c.in-Some.ensures.lookup.1 in
    accepts_other (members_of members) (needs_marked req) c.args.self.now.end c.args.item (needs_marked c.deref.result.now) c.covers_few.result
    (member_read members c.args.item member c.deref.result.now at c.deref.ensures) c.if-covers_few.false
    (few_read c.users.result.now c.users-in-Some.result.now c.deref.result.now req c.covers_few.result c.users.ensures.users c.users-in-Some.ensures.users
    c.covers_few.ensures)

-- no member stands there
pub returns-in-None : goal.returns-in-None
returns-in-None c =
    let members = c.args.self.now.members.now in
    let past : length members ≤ c.args.item = grind (arith, nat_tests, c.in-None.ensures.lookup) in
    let all = members_long members in
    accepts_nowhere (members_of members) (needs_marked c.args.self.now.req.now) c.args.self.now.end c.args.item (omega (arith, all, past))
