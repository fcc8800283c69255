use Rattle.arbac_laws.proofs.BarrierRowLemmas.{mix_ceiling, no_barrier, apart_ceiling, third_barrier, no_ceiling, one_barrier}
use Rattle.arbac_laws.proofs.rows.barrier_rows.Goals as goal

pub returns : goal.returns
returns _ = record {
  both = mix_ceiling;
  no_barrier = no_barrier;
  two_of_three = apart_ceiling;
  third = third_barrier;
  neither = no_ceiling;
  barrier = one_barrier;
}
