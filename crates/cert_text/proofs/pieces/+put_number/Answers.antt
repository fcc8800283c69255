use Rattle.cert_text.proofs.PutLemmas.{digit_put, digits_put}
use Rattle.cert_text.proofs.pieces.+put_number.Goals as goal

pub returns-then-number-lt10-clause-text : goal.returns-then-number-lt10-clause-text
returns-then-number-lt10-clause-text t c =
    digit_put c.args.text.now.items c.put_digit.new.text.items c.args.number c.if-number-lt10.true c.in_ok-put_digit.ensures

pub returns-clause-text : goal.returns-clause-text
returns-clause-text t c =
    digits_put c.args.text.now.items c.put_number.new.text.items c.put_digit-2.new.text.items c.args.number c.if-number-lt10.false c.ranges.number.fits
    c.in_ok-put_number.ensures.text c.in_ok-put_digit-2.ensures
