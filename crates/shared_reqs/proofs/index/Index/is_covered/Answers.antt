use Rattle.std.proofs.Common.{◌≡◌, ◌∙◌, ap, length}
use Rattle.shared_reqs.specs.Shared.{needs_marked}
use Rattle.shared_reqs.specs.Indexes.{Indexed}
use Rattle.shared_reqs.proofs.IndexLemmas.{members_of, covered_of_all}
use Rattle.shared_reqs.proofs.index.Index.is_covered.Goals as goal

-- all members stand before the end
pub returns : goal.returns
returns c =
    let members = c.args.self.now.members in
    let seen : members_of c.self.inside.members.items ≡ members = ap (λ (i : Indexed). i.members) c.self.view_is in
    let all : c.len.result ≡ length members = c.len.ensures.count ∙ c.self.invariant.long ∙ ap length seen in
    let same = covered_of_all members (needs_marked c.args.req.now) c.len.result all in
    (λ passes. same.0 (c.in_ok-answer.ensures.0 passes), λ covered. c.in_ok-answer.ensures.1 (same.1 covered))
