use Rattle.std.proofs.Common.{◌∙◌, ap, sym, arith}
use Rattle.arbac_policy.specs.declared.cond.Cond.{Cond}
use Rattle.arbac_policy.specs.Truth.{both, either, term_of}
use Rattle.arbac_policy.proofs.TermLemmas.{term_and, term_or}
use Rattle.arbac_rules.proofs.WidthLemmas.{product_fits, sum_fits}
use Rattle.arbac_rules.proofs.width.+width_of.Goals as goal

pub overflow_mul-result : goal.overflow_mul-result
overflow_mul-result t c = let fits =
    product_fits (term_of c.args.cond.now) (term_of c.get.result.now) (term_of c.get-in-And.result.now) c.width_of.result c.width_of-in-And.result
    (ap term_of c.in-And.is ∙ term_and c.in-And.left c.in-And.right ∙ ap (λ (x : Cond). both (term_of x) (term_of c.in-And.right)) (sym c.get.ensures)
    ∙ ap (λ (x : Cond). both (term_of c.get.result.now) (term_of x)) (sym c.get-in-And.ensures))
    c.requires c.width_of.ensures c.width_of-in-And.ensures in
    omega (fits, arith)

pub overflow_add-result : goal.overflow_add-result
overflow_add-result t c = let fits =
    sum_fits (term_of c.args.cond.now) (term_of c.get-in-Or.result.now) (term_of c.get-in-Or-2.result.now) c.width_of-in-Or.result c.width_of-in-Or-2.result
    (ap term_of c.in-Or.is ∙ term_or c.in-Or.left c.in-Or.right ∙ ap (λ (x : Cond). either (term_of x) (term_of c.in-Or.right)) (sym c.get-in-Or.ensures)
    ∙ ap (λ (x : Cond). either (term_of c.get-in-Or.result.now) (term_of x)) (sym c.get-in-Or-2.ensures))
    c.requires c.width_of-in-Or.ensures c.width_of-in-Or-2.ensures in
    omega (fits, arith)
