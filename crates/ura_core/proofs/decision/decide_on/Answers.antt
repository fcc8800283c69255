use Rattle.std.proofs.Common.{sym, ap}
use Rattle.std.specs.Prelude.{slice_set}
use Rattle.ura_core.proofs.AnswerLemmas.{granted_weaker, granted_always}
use Rattle.list_words.proofs.GetLemmas.{get_within}
use Rattle.ura_core.proofs.decision.decide_on.Goals as goal

-- nothing fails, so the administrator may give the role
pub returns-in-None-clause-granted : goal.returns-in-None-clause-granted
returns-in-None-clause-granted c = rw c.in-Assign.is record {
  by = c.in-Some.by.now;
  by_is = sym c.in-Some.ensures;
  set = c.in-Some-set_at.set.now;
  set_is = sym c.in-Some-set_at.ensures;
  lets = c.in-None.ensures.none.lets;
  free = c.in-None.ensures.none.free;
  gives = ap (slice_set c.args.list.now c.args.act.now.target) c.with.ensures;
}

-- nothing fails, so the administrator may take the role away
pub returns-in-None-against_revoke-clause-granted : goal.returns-in-None-against_revoke-clause-granted
returns-in-None-against_revoke-clause-granted c = rw c.in-Weak.is record {
  by = c.in-Some.by.now;
  by_is = sym c.in-Some.ensures;
  set = c.in-Some-set_at.set.now;
  set_is = sym c.in-Some-set_at.ensures;
  lets = c.in-None-against_revoke.ensures.none;
  gives = ap (slice_set c.args.list.now c.args.act.now.target) c.without.ensures;
}

-- the weak steps are the strong one
pub returns-else-act-count-clause-granted : goal.returns-else-act-count-clause-granted
returns-else-act-count-clause-granted c = granted_weaker _ _ c.revoke_all.result
    (λ new steps. rw c.in-Strong.is record { set = c.in-Some-set_at.set.now; set_is = sym c.in-Some-set_at.ensures; steps = steps })
    c.revoke_all.ensures.granted

-- the list has a set at the place of the target
pub returns-in-None-clause-inside : goal.returns-in-None-clause-inside
returns-in-None-clause-inside c = (get_within c.args.list.now c.args.act.now.target c.in-Some-set_at.set.now (sym c.in-Some-set_at.ensures)).0

pub returns-in-None-against_revoke-clause-inside : goal.returns-in-None-against_revoke-clause-inside
returns-in-None-against_revoke-clause-inside c = (get_within c.args.list.now c.args.act.now.target c.in-Some-set_at.set.now (sym c.in-Some-set_at.ensures)).0

pub returns-else-act-count-clause-inside : goal.returns-else-act-count-clause-inside
returns-else-act-count-clause-inside c =
    granted_always _ c.revoke_all.result (get_within c.args.list.now c.args.act.now.target c.in-Some-set_at.set.now (sym c.in-Some-set_at.ensures)).0
