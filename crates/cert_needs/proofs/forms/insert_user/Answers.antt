use Rattle.std.proofs.Common.{ℕ, ◌≡◌, ◌∙◌, ap, arith}
use Rattle.std.specs.Prelude.{insert}
use Rattle.std.specs.List.{prefix_len}
use Rattle.std.proofs.lemmas.List.Sums.{prefix_len-le-length}
use Rattle.arbac_laws.specs.Views.{needs_of}
use Rattle.cert_needs.specs.Forms.{user_before}
use Rattle.cert_needs.proofs.FormLemmas.{insert_seen}
use Rattle.cert_needs.proofs.HitLemmas.{insert_front}
use Rattle.cert_needs.proofs.forms.insert_user.Goals as goal

-- behind those that are before it the user is inserted in order
pub returns : goal.returns
returns c =
    let users = c.args.users.now.items in
    let ahead : c.users_ahead-at.result ≡ prefix_len (λ other. user_before other c.args.user) users = rw c.deref.ensures.value at c.users_ahead-at.ensures in
    ap needs_of (c.in_ok-insert.ensures.items ∙ ap (λ (n : ℕ). insert users n c.args.user) ahead ∙ insert_front user_before c.args.user users)
    ∙ insert_seen c.args.user users

-- no more users are ahead than there are
pub insert-requires : goal.insert-requires
insert-requires c =
    let users = c.deref.result.now in
    let ahead : c.users_ahead-at.result ≡ prefix_len (λ other. user_before other c.args.user) users = c.users_ahead-at.ensures in
    let short = prefix_len-le-length (λ other. user_before other c.args.user) users in
    omega (arith, short, ahead, c.deref.ensures.len)
