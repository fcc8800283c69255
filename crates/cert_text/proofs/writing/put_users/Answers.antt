use Rattle.std.proofs.Common.{List, length, map, refl}
use Rattle.list_words.proofs.EachLemmas.{each_at}
use Rattle.arbac_laws.specs.Needs.{Need}
use Rattle.arbac_laws.specs.Views.{need_of, needs_of}
use Rattle.arbac_laws.specs.Obligations.{flat}
use Rattle.cert_text.specs.Certificates.{IsWritten}
use Rattle.cert_text.specs.Texts.{user_form, line_text}
use Rattle.cert_text.specs.Sizes.{HasSets}
use Rattle.cert_text.proofs.PutLemmas.{next_put, all_put, one_more, all_so_far, viewed_at, viewed_end}
use Rattle.cert_text.proofs.writing.put_users.Goals as goal

pub put_user_line-requires : goal.put_user_line-requires
put_user_line-requires c =
    each_at (IsWritten (length c.args.order.now.names)) (needs_of c.args.users.now) c.loop-user.user-index (need_of c.user-item.result) c.requires
    (viewed_at need_of c.args.users.now c.loop-user.user-index c.user-item.result c.loop-user-test.true c.user-item.is)

pub loop-user-preserved : goal.loop-user-preserved
loop-user-preserved c =
    let names = c.args.order.now.names in
    let item = c.user-item.result in
    let at = viewed_at need_of c.args.users.now c.loop-user.user-index item c.loop-user-test.true c.user-item.is in (
      next_put (λ (needs : List Need). flat line_text (map (user_form names) needs)) (line_text (user_form names (need_of item)))
          (needs_of c.args.users.now) c.loop-user.user-index (need_of item) c.loop-user.text.items c.put_user_line.new.text.items _
          at refl c.loop-user.invariant.0 c.in_ok-put_user_line.ensures.text,
      one_more HasSets (needs_of c.args.users.now) c.loop-user.user-index (need_of item) at c.loop-user.invariant.1 c.in_ok-put_user_line.ensures.sets,
    )

pub returns : goal.returns
returns c =
    let end = viewed_end need_of c.args.users.now c.loop-user.user-index c.loop-user-test.false in
    record {
      text = all_put (λ (needs : List Need). flat line_text (map (user_form c.args.order.now.names) needs)) (needs_of c.args.users.now)
          c.loop-user.user-index c.loop-user.text.items _ end refl c.loop-user.invariant.0;
      sets = all_so_far HasSets (needs_of c.args.users.now) c.loop-user.user-index end c.loop-user.invariant.1;
    }
