use Rattle.std.proofs.Common.{◌∙◌, ap, Some, slice_index_or}
use Rattle.list_words.proofs.GetLemmas.{get_at}
use Rattle.cert_needs.specs.Wanted.{needs_wanted}
use Rattle.cert_needs.proofs.WantedLemmas.{set_at, needs_put}
use Rattle.cert_needs.proofs.wanted.put_admin.Goals as goal

-- the write of the field is the word's change at the place
pub returns-clause-put : goal.returns-clause-put
returns-clause-put c =
    let users = c.args.users.now in
    let user = slice_index_or users c.args.place c.index-users-place.result in
    set_at users c.args.place user (Some c.args.hit) (get_at users c.args.place c.index-users-place.result c.requires.place)

pub returns-clause-needs : goal.returns-clause-needs
returns-clause-needs c =
    let users = c.args.users.now in
    let user = slice_index_or users c.args.place c.index-users-place.result in
    ap needs_wanted (set_at users c.args.place user (Some c.args.hit) (get_at users c.args.place c.index-users-place.result c.requires.place))
    ∙ needs_put users c.args.place c.args.hit c.requires.free
