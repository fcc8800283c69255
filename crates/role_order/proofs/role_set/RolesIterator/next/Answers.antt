use Rattle.std.proofs.Common.{◌≡◌, ◌∷◌, ◌∙◌, sym, arith, ap, length}
use Rattle.role_order.proofs.FirstLemmas.{taken_head}
use Rattle.role_order.proofs.role_set.RolesIterator.next.Goals.{After-self-1}
use Rattle.role_order.proofs.role_set.RolesIterator.next.Goals as goal

-- the least role is the list's first, and without it the others are left
taken : (c : After-self-1) → c.args.self.now ≡ c.in_ok-role.role ∷ c.without-self-inside.result
taken c = sym c.self.view_is ∙ taken_head c.self.inside.left c.in_ok-role.role c.without-self-inside.result c.in_ok-role.ensures.set.rises
    (sym c.in_ok-role.ensures.value) c.without-self-inside.ensures

pub returns-clause-steps : goal.returns-clause-steps
returns-clause-steps c = taken c

pub returns-clause-goes : goal.returns-clause-goes
returns-clause-goes c = record {
  on = λ finite. (tt, tt, omega (arith, ap length (taken c)));
  keeps = tt;
  rests = λ finite. tt;
}
