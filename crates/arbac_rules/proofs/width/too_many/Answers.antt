use Rattle.std.proofs.Common.{ℕ, ◌≡◌, ◌<◌, ◌≤◌, List, length, map, Option, Some, None, IfSome, IfNone, sym, arith}
use Rattle.role_order.specs.Graph.{Graph}
use Rattle.arbac_policy.specs.Truth.{Term, term_of}
use Rattle.arbac_laws.specs.Goals.{goal_requirements}
use Rattle.arbac_rules.specs.declared.TheConstants.{MOST_CONJUNCTS}
use Rattle.arbac_rules.specs.Widths.{too_many}
use Rattle.arbac_rules.proofs.WidthLemmas.{width_law}
use Rattle.arbac_rules.proofs.GoalWidthLemmas.{few_combinations, told_count, goal_width_law}
use Rattle.arbac_rules.proofs.width.too_many.Goals as goal

none_few : (told : Option ℕ) (conds : List Term) → told ≡ too_many conds
    → IfNone told ((order : Graph) → length (goal_requirements order conds) ≤ MOST_CONJUNCTS)
none_few None conds e = λ order. let few = few_combinations 1 conds (omega arith) (sym e) in omega (few, goal_width_law order conds, arith)
none_few (Some count) conds e = tt

some_many : (told : Option ℕ) (conds : List Term) → told ≡ too_many conds
    → IfSome told (λ count. (MOST_CONJUNCTS < count) × ((order : Graph) → count ≤ length (goal_requirements order conds)))
some_many None conds e = tt
some_many (Some count) conds e =
    let known = told_count 1 count conds (sym e) in
    (known.0, λ order. omega (known.1, goal_width_law order conds, arith))

-- where the combinations are never too many, those of all conditions are few
pub returns-clause-few : goal.returns-clause-few
returns-clause-few c = none_few c.count_of_many.result (map term_of c.args.goal.now) c.count_of_many.ensures

-- a count that is told is above the limit, and counting on only adds to it
pub returns-clause-many : goal.returns-clause-many
returns-clause-many c = some_many c.count_of_many.result (map term_of c.args.goal.now) c.count_of_many.ensures

pub returns-clause-lists : goal.returns-clause-lists
returns-clause-lists c = λ order cond. width_law order cond
