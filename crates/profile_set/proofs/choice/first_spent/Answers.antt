use Rattle.std.proofs.Common.{ℕ, arith, ap, sym, ◌∙◌, ◌≡◌, ◌+◌, ◌-◌, true, false, take}
use Rattle.std.specs.Prelude.{slice_index_or, slice_get}
use Rattle.std.proofs.lemmas.List.{length-replicate}
use Rattle.list_words.proofs.GetLemmas.{get_at, length_set}
use Rattle.arbac_policy.specs.Goals.{times}
use Rattle.profile_set.specs.Draws.{has_left}
use Rattle.profile_set.proofs.DrawLemmas.{times_few, used_of, uses_none, uses_here, uses_other, few_none, few_other, few_here, spent_at}
use Rattle.profile_set.proofs.choice.first_spent.Goals as goal
use Rattle.profile_set.proofs.choice.first_spent.Goals.{then-number-from-via-then-number-from}
use Rattle.profile_set.proofs.choice.first_spent.Goals.{then-number-from-via-else-number-from+then-number-from-ge-BLOCK}

pub loop-at-init : goal.loop-at-init
loop-at-init c = record {
  long = length-replicate {A = ℕ} 1024 0;
  uses = uses_none c.args.from;
  few = few_none c.args.profiles.now c.args.from (c.args.from + 1024);
}

-- a number outside of the block counts for nothing
pub loop-at-preserved-then-number-from : goal.loop-at-preserved-then-number-from
loop-at-preserved-then-number-from c =
    let from = c.args.from in
    let at = c.loop-at.at in
    let xs = c.args.choice.now in
    let x = slice_index_or xs at 0 in
    let here = get_at xs at 0 (omega arith) in
    elim c.then-number-from.branch [
      | then-number-from-via-then-number-from w ↦ record {
        long = c.loop-at.invariant.long;
        uses = uses_other from xs at x c.loop-at.used here (λ j l e. omega arith) c.loop-at.invariant.uses;
        few = few_other c.args.profiles.now from (from + 1024) xs at x here (λ low high. omega arith) c.loop-at.invariant.few;
      }
      | then-number-from-via-else-number-from+then-number-from-ge-BLOCK w ↦ record {
        long = c.loop-at.invariant.long;
        uses = uses_other from xs at x c.loop-at.used here (λ j l e. omega arith) c.loop-at.invariant.uses;
        few = few_other c.args.profiles.now from (from + 1024) xs at x here (λ low high. omega arith) c.loop-at.invariant.few;
      }
    ]

-- what was counted is how often the number stands before the place
pub returns-then-not-has_left-clause-spent : goal.returns-then-not-has_left-clause-spent
returns-then-not-has_left-clause-spent c = λ l.
    let ps = c.args.profiles.now in
    let xs = c.args.choice.now in
    let x = slice_index_or xs c.loop-at.at 0 in
    let count = used_of c.args.from (take c.loop-at.at xs) x c.loop-at.used (omega arith) (omega arith) c.loop-at.invariant.uses in
    let left : has_left (slice_get ps x) (times x (take c.loop-at.at xs)) ≡ false =
    ap (has_left (slice_get ps x)) (sym count) ∙ sym c.has_left.ensures ∙ c.if-not-has_left.true in
    spent_at ps xs c.loop-at.at x (get_at xs c.loop-at.at 0 l) left

-- no number stands more often before a place than there are places before it
pub overflow_add-used : goal.overflow_add-used
overflow_add-used c =
    let xs = c.args.choice.now in
    let x = slice_index_or xs c.loop-at.at 0 in
    let count = used_of c.args.from (take c.loop-at.at xs) x c.loop-at.used (omega arith) (omega arith) c.loop-at.invariant.uses in
    let few = times_few x xs c.loop-at.at in
    omega (arith, count, few, c.requires)

-- the number is counted once more, and something of it was left
pub loop-at-preserved : goal.loop-at-preserved
loop-at-preserved c =
    let ps = c.args.profiles.now in
    let xs = c.args.choice.now in
    let x = slice_index_or xs c.loop-at.at 0 in
    let here = get_at xs c.loop-at.at 0 (omega arith) in
    let count = used_of c.args.from (take c.loop-at.at xs) x c.loop-at.used (omega arith) (omega arith) c.loop-at.invariant.uses in
    let left : has_left (slice_get ps x) (times x (take c.loop-at.at xs)) ≡ true =
    ap (has_left (slice_get ps x)) (sym count) ∙ sym c.has_left.ensures ∙ c.if-not-has_left.false in
    record {
      long = length_set c.loop-at.used _ _ ∙ c.loop-at.invariant.long;
      uses = uses_here c.args.from xs c.loop-at.at x c.loop-at.used here (omega arith) (omega arith) c.loop-at.invariant.long c.loop-at.invariant.uses;
      few = few_here ps c.args.from (c.args.from + 1024) xs c.loop-at.at x here left c.loop-at.invariant.few;
    }
