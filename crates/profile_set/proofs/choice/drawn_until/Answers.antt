use Rattle.std.proofs.Common.{arith, rules, ◌≡◌, ◌+◌, ◌*◌, subst, take}
use Rattle.list_words.proofs.GetLemmas.{get_below, get_there}
use Rattle.profile_set.specs.Draws.{AreFew}
use Rattle.profile_set.proofs.DrawLemmas.{block_more}
use Rattle.profile_set.proofs.choice.drawn_until.Goals as goal

pub loop-block-init : goal.loop-block-init
loop-block-init c = record {
  within = c.first_unknown-end.ensures.within;
  profiles_are = c.first_unknown-end.ensures.profiles;
  few = λ number profile most low high at m. absurd (omega (arith, high));
  spent = c.first_unknown-end.ensures.spent;
}

-- the block that was counted ends where the next begins
pub loop-block-preserved : goal.loop-block-preserved
loop-block-preserved c =
    let from = c.loop-block.block * 1024 in
    let to = (c.loop-block.block + 1) * 1024 in
    let front = take c.loop-block.end c.args.choice.now in
    let next = c.first_spent-end.result in
    let ends : from + 1024 ≡ to = omega arith in
    let few : AreFew c.args.profiles.now from to (take next front) =
    subst (λ n. AreFew c.args.profiles.now from n (take next front)) ends c.first_spent-end.ensures.few in
    block_more c.args.profiles.now from to c.args.choice.now c.loop-block.end next c.loop-block.invariant c.first_spent-end.ensures.within few
    c.first_spent-end.ensures.spent

-- no profile is behind the last block
pub returns : goal.returns
returns c = record {
  within = c.loop-block.invariant.within;
  drawn = record {
    places = λ k place e. get_there c.args.profiles.now place (c.loop-block.invariant.profiles_are k place e);
    few = λ place profile most e m.
        let less = get_below c.args.profiles.now place profile e in
        c.loop-block.invariant.few place profile most (omega arith) (omega (arith, less, c.div_ceil-block-end.ensures, c.loop-block-test.false)) e m;
  };
  spent = c.loop-block.invariant.spent;
}
