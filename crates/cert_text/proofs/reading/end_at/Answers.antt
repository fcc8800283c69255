use Rattle.std.proofs.Common.{◌∙◌, sym}
use Rattle.cert_text.specs.Certificates.{plain_of}
use Rattle.cert_text.proofs.ReadLemmas.{ends_part, ends_behind, ends_whole}
use Rattle.cert_text.proofs.reading.end_at.Goals as goal

pub returns-in_default : goal.returns-in_default
returns-in_default g c =
    λ names bytes read. ends_part names bytes c.args.after.now (g.S.Section.draft c.args.section) c.args.number read c.in_default.ensures.part

pub returns-then-not-is_empty : goal.returns-then-not-is_empty
returns-then-not-is_empty g c =
    λ names bytes read. ends_behind names bytes c.args.after.now (g.S.Section.draft c.args.section) c.args.number (plain_of c.in-Some.cert) read
    c.in-Some.ensures.whole (sym c.is_empty.ensures ∙ c.if-not-is_empty.true)

pub returns : goal.returns
returns g c =
    λ names bytes read. ends_whole names bytes c.args.after.now (g.S.Section.draft c.args.section) c.args.number (plain_of c.in-Some.cert) read
    c.in-Some.ensures.whole (sym c.is_empty.ensures ∙ c.if-not-is_empty.false)
