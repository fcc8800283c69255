use Rattle.std.proofs.Common.{ℕ, ◌∙◌, List, sym, ap, inr, rules}
use Rattle.arbac_policy.specs.Holders.{admins_of}
use Rattle.arbac_policy.specs.Verdicts.{WeakDenied}
use Rattle.std.specs.Prelude.{slice_set}
use Rattle.list_words.proofs.GetLemmas.{get_set_same, set_twice}
use Rattle.ura_core.proofs.strong.revoke_one.Goals as goal

-- in the state in which this set is left the target has it
pub returns-in-Some-against_revoke-clause-denied : goal.returns-in-Some-against_revoke-clause-denied
returns-in-Some-against_revoke-clause-denied c =
    let state : List (List ℕ) = slice_set c.args.list.now c.args.act.now.target c.args.left.now in
    let denied : WeakDenied c.args.on c.args.policy.now
    (admins_of c.args.on c.args.users.now state) state c.args.act.now.admin c.args.act.now.target c.args.role c.in-Some-against_revoke.part = inr (
      c.in-Some.by,
      c.args.left.now,
      sym c.in-Some.ensures,
      get_set_same c.args.list.now c.args.act.now.target c.args.left.now c.requires,
      c.in-Some-against_revoke.ensures.some,
    ) in search (rules, denied)

-- the set is put at the place of the target, in whose stead the former one is forgotten
pub returns-in-None-clause-granted : goal.returns-in-None-clause-granted
returns-in-None-clause-granted c = record {
  by = c.in-Some.by;
  by_is = sym c.in-Some.ensures;
  set = c.args.left.now;
  set_is = get_set_same c.args.list.now c.args.act.now.target c.args.left.now c.requires;
  lets = c.in-None.ensures.none;
  gives = ap (slice_set c.args.list.now c.args.act.now.target) c.without.ensures ∙ sym (set_twice c.args.list.now c.args.act.now.target c.args.left.now _);
}
