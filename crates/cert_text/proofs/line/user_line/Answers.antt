use Rattle.cert_text.proofs.ToldLemmas.{user_tells}
use Rattle.cert_text.proofs.line.user_line.Goals as goal

pub returns-in-Some : goal.returns-in-Some
returns-in-Some c = user_tells c.args.order.now.names c.args.rest.now c.in-Some.user (rw c.in-Some.is at c.in_ok-user.ensures)
