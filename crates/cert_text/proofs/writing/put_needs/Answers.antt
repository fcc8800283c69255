use Rattle.std.proofs.Common.{List, length, map, refl}
use Rattle.list_words.specs.Lists.{Each}
use Rattle.list_words.proofs.EachLemmas.{each_at}
use Rattle.arbac_laws.specs.Needs.{Need}
use Rattle.arbac_laws.specs.Obligations.{flat}
use Rattle.cert_text.specs.Certificates.{users_of, IsWritten}
use Rattle.cert_text.specs.Texts.{need_lines, line_text}
use Rattle.cert_text.specs.Sizes.{HasSets}
use Rattle.cert_text.proofs.PutLemmas.{next_put, all_put, one_more, all_so_far, viewed_at, viewed_end, flat_append}
use Rattle.cert_text.proofs.writing.put_needs.Goals as goal

pub put_need-requires : goal.put_need-requires
put_need-requires c =
    each_at (Each (IsWritten (length c.args.order.now.names))) (map users_of c.args.needs.now) c.loop-need.need-index (users_of c.need-item.result) c.requires
    (viewed_at users_of c.args.needs.now c.loop-need.need-index c.need-item.result c.loop-need-test.true c.need-item.is)

pub loop-need-preserved : goal.loop-need-preserved
loop-need-preserved c =
    let names = c.args.order.now.names in
    let users = users_of c.need-item.result in
    let at = viewed_at users_of c.args.needs.now c.loop-need.need-index c.need-item.result c.loop-need-test.true c.need-item.is in (
      next_put (λ (list : List (List Need)). flat line_text (flat (need_lines names) list)) (flat line_text (need_lines names users))
          (map users_of c.args.needs.now) c.loop-need.need-index users c.loop-need.text.items c.put_need.new.text.items _
          at (flat_append line_text (need_lines names users) (flat (need_lines names) _)) c.loop-need.invariant.0 c.in_ok-put_need.ensures.text,
      one_more (Each HasSets) (map users_of c.args.needs.now) c.loop-need.need-index users at c.loop-need.invariant.1 c.in_ok-put_need.ensures.sets,
    )

pub returns : goal.returns
returns c =
    let end = viewed_end users_of c.args.needs.now c.loop-need.need-index c.loop-need-test.false in
    record {
      text = all_put (λ (list : List (List Need)). flat line_text (flat (need_lines c.args.order.now.names) list)) (map users_of c.args.needs.now)
          c.loop-need.need-index c.loop-need.text.items _ end refl c.loop-need.invariant.0;
      sets = all_so_far (Each HasSets) (map users_of c.args.needs.now) c.loop-need.need-index end c.loop-need.invariant.1;
    }
