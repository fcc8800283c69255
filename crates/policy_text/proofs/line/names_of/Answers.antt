use Rattle.std.proofs.Common.{◌∙◌, sym, map}
use Rattle.policy_text.proofs.WordLemmas.{names_more, names_last, map-pushed}
use Rattle.policy_text.proofs.line.names_of.Goals as goal

pub loop-word-preserved : goal.loop-word-preserved
loop-word-preserved c =
    names_more (map (λ name. name.now) c.loop-word.names.items)
    (map (λ name. name.now) c.push.new.self.items) c.loop-word.rest.now c.in-Some.word.now c.in-Some.after.now
    c.in-Some-name_of.name.now (sym c.in-Some.ensures) c.in-Some-name_of.ensures (map-pushed _ _ _ _ c.in_ok-push.ensures.items)
    ∙ c.loop-word.invariant

pub returns : goal.returns
returns c =
    sym (names_last (map (λ name. name.now) c.loop-word.names.items) (map (λ name. name.now) c.push-2.new.self.items) c.loop-word.rest.now
    c.in-Some-name_of-2.name.now (sym c.in_default.ensures) c.in-Some-name_of-2.ensures (map-pushed _ _ _ _ c.in_ok-push-2.ensures.items))
    ∙ c.loop-word.invariant
