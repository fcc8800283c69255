use Rattle.cert_text.proofs.FirstLemmas.{one_cert}
use Rattle.cert_text.proofs.ReadLemmas.{written_of, only_of, told_of}
use Rattle.cert_text.proofs.reading.read_cert.Goals as goal

pub returns-clause-known : goal.returns-clause-known
returns-clause-known c = written_of c.args.order.now.names c.args.bytes.now c.read.result c.read.ensures

pub returns-clause-only : goal.returns-clause-only
returns-clause-only c = only_of c.args.order.now.names c.args.bytes.now c.read.result c.read.ensures

pub returns-clause-told : goal.returns-clause-told
returns-clause-told c = told_of c.args.order.now.names c.args.bytes.now c.read.result c.read.ensures

pub returns-clause-one : goal.returns-clause-one
returns-clause-one c = one_cert c.args.order.now.names c.args.bytes.now
