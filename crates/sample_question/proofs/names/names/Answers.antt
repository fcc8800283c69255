use Rattle.role_order.specs.Names.{texts}
use Rattle.sample_question.specs.Samples.{role_names}
use Rattle.sample_question.proofs.PairLemmas.{all_made}
use Rattle.sample_question.proofs.NameLemmas.{names_at, names_first, names_more}
use Rattle.sample_question.proofs.names.names.Goals as goal

pub loop-at-init : goal.loop-at-init
loop-at-init c =
    names_first c.args.size c.push.new.self.items c.in_ok-from_str.field-0 (rw c.new-names.ensures.items at c.in_ok-push.ensures.items)
    c.in_ok-from_str.ensures.ok

pub loop-at-preserved : goal.loop-at-preserved
loop-at-preserved c =
    rw (c.in_ok-push-3.ensures.items, c.in_ok-push-2.ensures.items)
    (names_more c.args.size c.loop-at.at c.loop-at.names.items c.in_ok-key.key c.in_ok-extra.extra c.loop-at-test.true c.in_ok-key.ensures
    c.in_ok-extra.ensures c.loop-at.invariant)

pub returns : goal.returns
returns c = all_made names_at (texts c.loop-at.names.items) (role_names c.args.size) c.args.size c.loop-at.at c.loop-at-test.false c.loop-at.invariant
