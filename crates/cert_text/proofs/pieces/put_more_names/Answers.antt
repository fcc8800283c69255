use Rattle.std.proofs.Common.{List, ℕ, ◌<◌, length, subst}
use Rattle.list_words.specs.Lists.{Each}
use Rattle.cert_text.proofs.PutLemmas.{name_put, names_put}
use Rattle.cert_text.proofs.pieces.put_more_names.Goals as goal

pub put_name-requires : goal.put_name-requires
put_name-requires c =
    (subst (λ (roles : List ℕ). Each (λ role. role < length c.args.order.now.names) roles) c.in-Some.ensures.steps c.loop-role.invariant.1).0

pub loop-role-preserved : goal.loop-role-preserved
loop-role-preserved c = (
  name_put c.args.order.now.names _ _ _ c.loop-role.text.items c.put.new.text.items c.put_name.new.text.items _ c.in-Some.ensures.steps
      c.loop-role.invariant.0 c.in_ok-put.ensures c.in_ok-put_name.ensures,
  (subst (λ (roles : List ℕ). Each (λ role. role < length c.args.order.now.names) roles) c.in-Some.ensures.steps c.loop-role.invariant.1).1,
)

pub returns : goal.returns
returns c = names_put c.args.order.now.names _ c.loop-role.text.items _ c.in-None.ensures.steps.0 c.loop-role.invariant.0
