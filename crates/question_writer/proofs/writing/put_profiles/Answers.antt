use Rattle.std.proofs.Common.{◌∙◌, sym, ap, Some}
use Rattle.list_words.proofs.GetLemmas.{get_at}
use Rattle.question_writer.specs.Texts.{profile_text}
use Rattle.question_writer.proofs.writing.put_profiles.Goals as goal
use Rattle.text_pieces.proofs.PieceLemmas.{flat_step, flat_end}

pub loop-profile-preserved : goal.loop-profile-preserved
loop-profile-preserved c =
    flat_step (profile_text c.args.order.now.names) c.args.profiles.now c.loop-profile.profile-index c.profile-item.result
    c.loop-profile.text.items c.put_profile.new.text.items _
    (get_at c.args.profiles.now c.loop-profile.profile-index c.profile-item.result c.loop-profile-test.true
    ∙ ap Some (sym c.profile-item.is)) c.loop-profile.invariant c.in_ok-put_profile.ensures

pub returns : goal.returns
returns c = flat_end
    (profile_text c.args.order.now.names) c.args.profiles.now c.loop-profile.profile-index c.loop-profile.text.items _ c.loop-profile-test.false
    c.loop-profile.invariant
