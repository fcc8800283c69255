use Rattle.std.proofs.Common.{◌++◌, ◌∙◌, ap, sym}
use Rattle.std.proofs.lemmas.List.{append-nil}
use Rattle.arbac_laws.specs.Conjuncts.{join_with}
use Rattle.arbac_laws.specs.Views.{need_of, needs_of}
use Rattle.arbac_rules.proofs.JoinLemmas.{added_one, get_needs, take_needs}
use Rattle.arbac_rules.proofs.conjunct.add_joined.Goals as goal

pub loop-other-init : goal.loop-other-init
loop-other-init c = sym (append-nil (needs_of c.args.out.now.items))

pub loop-other-preserved : goal.loop-other-preserved
loop-other-preserved c =
    added_one (needs_of c.args.out.now.items) (need_of c.args.first.now) c.args.others.now c.loop-other.out.items c.push.new.self.items
    c.loop-other.other-index c.other-item.result c.in_ok-joined.field-0
    (get_needs c.args.others.now c.loop-other.other-index c.other-item.result c.loop-other-test.true c.other-item.is)
    c.in_ok-push.ensures.items c.in_ok-joined.ensures c.loop-other.invariant

pub returns : goal.returns
returns c =
    c.loop-other.invariant
    ∙ ap (λ bs. needs_of c.args.out.now.items ++ join_with (need_of c.args.first.now) bs)
    (take_needs c.args.others.now c.loop-other.other-index c.loop-other-test.false)
