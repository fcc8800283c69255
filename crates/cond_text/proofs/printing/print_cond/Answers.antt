use Rattle.std.proofs.Common.{◌∙◌, ◌++◌, ap}
use Rattle.std.specs.String.{string_bytes}
use Rattle.arbac_policy.specs.Truth.{term_of}
use Rattle.cond_text.specs.Printing.{text_of}
use Rattle.cond_text.proofs.PrintLemmas.{stands_of, fewest_of, back_of}
use Rattle.cond_text.proofs.printing.print_cond.Goals as goal

pub returns-clause-stands : goal.returns-clause-stands
returns-clause-stands c =
    stands_of c.args.order.now.names (term_of c.args.cond.now) (string_bytes c.write_at.new.out) c.count-count.ensures.order.are_names c.requires
    (c.in_ok-write_at.ensures ∙ ap (λ l. l ++ text_of c.args.order.now.names (term_of c.args.cond.now)) c.new-out.ensures.bytes)

pub returns-clause-fewest : goal.returns-clause-fewest
returns-clause-fewest c =
    fewest_of c.args.order.now.names (term_of c.args.cond.now) (string_bytes c.write_at.new.out) c.count-count.ensures.order.are_names c.requires
    (c.in_ok-write_at.ensures ∙ ap (λ l. l ++ text_of c.args.order.now.names (term_of c.args.cond.now)) c.new-out.ensures.bytes)

pub returns-clause-back : goal.returns-clause-back
returns-clause-back c =
    back_of c.args.order.now.names (term_of c.args.cond.now) (string_bytes c.write_at.new.out) c.count-count.ensures.order.are_names c.requires
    (c.in_ok-write_at.ensures ∙ ap (λ l. l ++ text_of c.args.order.now.names (term_of c.args.cond.now)) c.new-out.ensures.bytes)
