use Rattle.std.proofs.Common.{◌<◌, ◌≤◌, ◌+◌, ◌*◌, ◌∙◌, map, drop, sym, ap, subst, arith, Some}
use Rattle.list_words.proofs.EachLemmas.{each_at}
use Rattle.list_words.proofs.GetLemmas.{get_at}
use Rattle.arbac_policy.specs.declared.cond.Cond.{Cond}
use Rattle.arbac_policy.specs.Truth.{term_of}
use Rattle.cond_text.specs.declared.TheConstants.{MOST_TERMS}
use Rattle.cond_text.specs.Grammar.{term_count}
use Rattle.arbac_rules.specs.declared.TheConstants.{MOST_CONJUNCTS}
use Rattle.arbac_rules.specs.Widths.{width, too_many_from}
use Rattle.arbac_rules.proofs.GoalWidthLemmas.{combinations_fit, terms_from, still_few, many_here}
use Rattle.arbac_rules.proofs.width.count_of_many.Goals as goal

-- a count within the limit times one condition's width fits 128 bits
pub overflow_mul-combinations : goal.overflow_mul-combinations
overflow_mul-combinations c =
    let conds = c.args.goal.now in
    let cond = c.cond-item.result in
    let at = get_at conds c.loop-cond.cond-index cond c.loop-cond-test.true ∙ ap (λ (x : Cond). Some x) (sym c.cond-item.is) in
    let fits = combinations_fit c.loop-cond.combinations c.width_of-combinations.result
    (term_of cond) c.loop-cond.invariant.few c.width_of-combinations.ensures
    (each_at (λ x. term_count (term_of x) ≤ MOST_TERMS) conds c.loop-cond.cond-index cond c.requires at) in
    omega (fits, arith)

-- the count is above the limit at this condition, and was within it before
pub returns-then-combinations : goal.returns-then-combinations
returns-then-combinations c =
    let conds = c.args.goal.now in
    let cond = c.cond-item.result in
    let n = c.loop-cond.combinations in
    let more = drop (c.loop-cond.cond-index + 1) (map term_of conds) in
    let many : MOST_CONJUNCTS < n * width (term_of cond) = subst (λ w. MOST_CONJUNCTS < n * w) c.width_of-combinations.ensures c.if-combinations.true in
    ap (λ w. Some (n * w)) c.width_of-combinations.ensures
    ∙ sym (c.loop-cond.invariant.rest ∙ ap (too_many_from n) (terms_from conds c.loop-cond.cond-index cond c.loop-cond-test.true c.cond-item.is)
    ∙ many_here n (term_of cond) more many)

-- the count is still within the limit, so counting goes on behind this condition
pub loop-cond-preserved : goal.loop-cond-preserved
loop-cond-preserved c =
    let conds = c.args.goal.now in
    let cond = c.cond-item.result in
    let n = c.loop-cond.combinations in
    let more = drop (c.loop-cond.cond-index + 1) (map term_of conds) in
    let few : n * width (term_of cond) ≤ MOST_CONJUNCTS = subst (λ w. n * w ≤ MOST_CONJUNCTS) c.width_of-combinations.ensures c.if-combinations.false in
    record {
      rest = c.loop-cond.invariant.rest ∙ ap (too_many_from n) (terms_from conds c.loop-cond.cond-index cond c.loop-cond-test.true c.cond-item.is)
          ∙ still_few n (term_of cond) more few ∙ ap (λ w. too_many_from (n * w) more) (sym c.width_of-combinations.ensures);
      few = c.if-combinations.false;
    }
