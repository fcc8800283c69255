use Rattle.std.proofs.Common.{◌≡◌, List, ℕ, sym, subst}
use Rattle.cert_text.specs.Certificates.{plain_of}
use Rattle.cert_text.specs.Drafts.{StandsFor}
use Rattle.cert_text.specs.Texts.{certificate_text}
use Rattle.cert_text.proofs.BackLemmas.{text_stands}
use Rattle.cert_text.proofs.PutLemmas.{whole_put}
use Rattle.cert_text.proofs.writing.write_cert.Goals as goal

pub returns : goal.returns
returns c =
    let names = c.args.order.now.names in
    let cert = plain_of c.args.cert.now in
    let whole : c.put-2.new.text.items ≡ certificate_text names cert =
    whole_put names cert c.new-text.result.items c.put.new.text.items c.put_lines.new.text.items c.put-2.new.text.items
    c.new-text.ensures.items c.in_ok-put.ensures c.in_ok-put_lines.ensures.text c.in_ok-put-2.ensures in
    record {
      text = whole;
      back = subst (λ (t : List ℕ). StandsFor names t cert) (sym whole)
          (text_stands names c.is_order.ensures.are_names cert c.requires c.in_ok-put_lines.ensures.sized);
    }
