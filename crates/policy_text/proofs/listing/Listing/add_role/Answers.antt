use Rattle.std.proofs.Common.{ℕ, ◌∙◌, ◌++◌, ◌∷◌, [], List, ap, arith, rules}
use Rattle.role_order.proofs.NameLemmas.{texts-push, length_texts}
use Rattle.role_order.specs.Names.{texts}
use Rattle.policy_text.specs.Runs.{nothing}
use Rattle.policy_text.proofs.listing.Listing.add_role.Goals as goal

pub returns-clause-added : goal.returns-clause-added
returns-clause-added c =
    let count = length_texts c.args.self.now.names.items in
    record {
      place = search rules;
      room = omega (arith, count, c.args.self.now.names.ok.0, c.len.ensures);
      extends = ap (λ (t : List (List ℕ)). record nothing { names = t; edges = c.args.self.now.edges.items })
          (ap texts c.in_ok-push.ensures.items ∙ texts-push c.args.self.now.names.items c.in_ok-from_str.field-0
          ∙ ap (λ (t : List ℕ). texts c.args.self.now.names.items ++ t ∷ []) c.in_ok-from_str.ensures.ok);
    }
