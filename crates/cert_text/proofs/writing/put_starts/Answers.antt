use Rattle.std.proofs.Common.{List, ℕ, ◌<◌, ◌^◌, map, get_or, refl}
use Rattle.list_words.proofs.GetLemmas.{get_at}
use Rattle.arbac_laws.specs.Obligations.{flat}
use Rattle.cert_text.specs.LineForms.{a_start}
use Rattle.cert_text.specs.Texts.{line_text}
use Rattle.cert_text.proofs.PutLemmas.{next_put, all_put, one_more, all_so_far}
use Rattle.cert_text.proofs.writing.put_starts.Goals as goal

pub loop-profile-preserved : goal.loop-profile-preserved
loop-profile-preserved c =
    let item = get_or c.args.start.now c.loop-profile.profile-index 0 in
    let at = get_at c.args.start.now c.loop-profile.profile-index 0 c.loop-profile-test.true in (
      next_put (λ (start : List ℕ). flat line_text (map a_start start)) (line_text (a_start item))
          c.args.start.now c.loop-profile.profile-index item c.loop-profile.text.items c.put_start.new.text.items _
          at refl c.loop-profile.invariant.0 c.in_ok-put_start.ensures.text,
      one_more (λ (profile : ℕ). profile < 2 ^ 32) c.args.start.now c.loop-profile.profile-index item at c.loop-profile.invariant.1
          c.in_ok-put_start.ensures.size,
    )

pub returns : goal.returns
returns c = record {
  text = all_put (λ (start : List ℕ). flat line_text (map a_start start)) c.args.start.now c.loop-profile.profile-index c.loop-profile.text.items _
      c.loop-profile-test.false refl c.loop-profile.invariant.0;
  sized = all_so_far (λ (profile : ℕ). profile < 2 ^ 32) c.args.start.now c.loop-profile.profile-index c.loop-profile-test.false c.loop-profile.invariant.1;
}
