use Rattle.std.proofs.Common.{◌≡◌, ◌∙◌, Some, sym, ap, subst}
use Rattle.list_words.proofs.GetLemmas.{get_below}
use Rattle.search_rounds.specs.Keeping.{Gathered, Gathers}
use Rattle.search_rounds.specs.Making.{way_of, ob_by, before_by}
use Rattle.search_rounds.specs.Listing.{parent_needs, of_deed}
use Rattle.search_rounds.proofs.KeepingLemmas.{gathers_none}
use Rattle.search_rounds.proofs.ListingLemmas.{user_is, target_idle, target_used, before_gathered, no_picks}
use Rattle.search_rounds.proofs.making.gather_target.Goals as goal

-- the act is of no use, so there is nothing to gather
pub returns-then-not-helps : goal.returns-then-not-helps
returns-then-not-helps c = λ need at.
    let work = c.args.work.now in
    let deed = c.args.deed.now in
    let user = c.user-user.result.now in
    let same : user ≡ need = user_is c.users.result.now work.parent.req.now deed.target c.index-users-deed.result c.deref.result.now user need
    c.users.ensures.users c.requires.target c.index-users-deed.is c.deref.ensures c.user-user.ensures.need at in
    subst (Gathers c.args.gathering.now c.args.gathering.now)
    (sym (target_idle work.prepared.now work.parent.number (way_of deed.change) deed.hit (parent_needs work) deed.role deed.target user need c.helps.result
    same c.helps.ensures c.if-not-helps.true))
    (gathers_none c.args.gathering.now)

-- by each administrator
pub returns-in_ok-gather_picks : goal.returns-in_ok-gather_picks
returns-in_ok-gather_picks c = λ need at.
    let work = c.args.work.now in
    let deed = c.args.deed.now in
    let user = c.user-user.result.now in
    let same : user ≡ need = user_is c.users.result.now work.parent.req.now deed.target c.index-users-deed.result c.deref.result.now user need
    c.users.ensures.users c.requires.target c.index-users-deed.is c.deref.ensures c.user-user.ensures.need at in
    subst (λ (g : Gathered). Gathers g c.gather_picks.new.gathering (of_deed work deed need)) c.share.ensures.same
    (subst (Gathers c.share.new.self c.gather_picks.new.gathering)
    (sym (target_used work.prepared.now work.parent.number (way_of deed.change) deed.hit (parent_needs work) deed.role deed.target user need c.helps.result
    same c.helps.ensures c.if-not-helps.false))
    (before_gathered c.share.new.self c.gather_picks.new.gathering work.parent.number (ob_by (way_of deed.change) deed.role deed.target) deed.hit
    (parent_needs work) deed.target (before_by work.prepared.now (way_of deed.change) deed.role user) c.in-Some.before
    (rw c.in-Some.is at c.in_ok-before.ensures)
    (λ raw h. c.in_ok-gather_picks.ensures raw (h ∙ ap Some (sym c.in_ok-before-2.ensures.need)))))

-- nothing will do, so no administrator helps
pub returns-in_default : goal.returns-in_default
returns-in_default c = λ need at.
    let work = c.args.work.now in
    let deed = c.args.deed.now in
    let user = c.user-user.result.now in
    let same : user ≡ need = user_is c.users.result.now work.parent.req.now deed.target c.index-users-deed.result c.deref.result.now user need
    c.users.ensures.users c.requires.target c.index-users-deed.is c.deref.ensures c.user-user.ensures.need at in
    subst (Gathers c.args.gathering.now c.args.gathering.now)
    (sym (target_used work.prepared.now work.parent.number (way_of deed.change) deed.hit (parent_needs work) deed.role deed.target user need c.helps.result
    same c.helps.ensures c.if-not-helps.false
    ∙ no_picks work.parent.number (ob_by (way_of deed.change) deed.role deed.target) deed.hit (parent_needs work) deed.target
    (before_by work.prepared.now (way_of deed.change) deed.role user) (get_below (parent_needs work) deed.target need at)
    (sym (sym c.in_default.is ∙ c.in_ok-before.ensures))))
    (gathers_none c.args.gathering.now)
