use Rattle.std.proofs.Common.{◌∙◌, ap, sym, refl, inr}
use Rattle.csv.specs.Reading.{Reached, strip_bom, builder_is_flexible}
use Rattle.profile_set.proofs.members.records_of.Goals as goal

-- the reader is new, so it has read nothing of the text behind the mark
pub returns : goal.returns
unfolding Reached
returns c =
    let fr = c.from_reader.ensures in
    let e = c.has_headers.ensures in
    let f = c.flexible.ensures in
    rw c.into_records.ensures.rdr record {
      plain = rw (f, e) at fr.trim ∙ c.new.ensures.trim;
      ready = inr (inr (rw (f, e) at fr.has_headers, fr.headers));
      left = c.into_records.ensures.left;
      config = rw (f, e) at fr.config ∙ c.new.ensures.config;
      flexible = fr.flexible ∙ ap builder_is_flexible f;
      rest = strip_bom c.args.bytes.now;
      source = fr.source;
      reached = (sym fr.state, refl);
    }
