use Rattle.std.proofs.Common.{◌∙◌, ap, None, slice_index_or}
use Rattle.list_words.proofs.GetLemmas.{get_at}
use Rattle.cert_needs.specs.Wanted.{set_admin}
use Rattle.cert_needs.proofs.WantedLemmas.{set_at, put_dropped}
use Rattle.cert_needs.proofs.wanted.drop_admin.Goals as goal

-- the write of the field is the word's change at the place
pub returns-clause-dropped : goal.returns-clause-dropped
returns-clause-dropped c =
    let users = c.args.users.now in
    set_at users c.args.place (slice_index_or users c.args.place c.index-users-place.result) None
    (get_at users c.args.place c.index-users-place.result c.requires)

-- the user there didn't administer before
pub returns-clause-back : goal.returns-clause-back
returns-clause-back c = λ before hit free put.
    let users = c.args.users.now in
    set_at users c.args.place (slice_index_or users c.args.place c.index-users-place.result) None
    (get_at users c.args.place c.index-users-place.result c.requires)
    ∙ ap (set_admin c.args.place None) put
    ∙ put_dropped before c.args.place hit free
