use Rattle.std.proofs.Common.{◌∙◌, ap, arith, length}
use Rattle.role_order.proofs.NameLemmas.{length_texts}
use Rattle.sample_question.proofs.NameLemmas.{names_long, memory_alone}
use Rattle.sample_question.proofs.sampling.order_of.Goals as goal

pub new-requires-2-clause-names : goal.new-requires-2-clause-names
new-requires-2-clause-names c =
    let long = length_texts c.in_ok-names.names.items in
    let all = ap length c.in_ok-names.ensures ∙ names_long c.args.size in omega (arith, long, all, c.requires)

pub memory_of-requires : goal.memory_of-requires
memory_of-requires c =
    memory_alone c.args.size c.in-Err.error c.requires (rw (c.in_ok-names.ensures, c.new.ensures.items) at c.in-Err.ensures.err)
