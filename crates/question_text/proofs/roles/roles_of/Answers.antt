use Rattle.std.specs.Option.{option_map}
use Rattle.std.proofs.Common.{refl}
use Rattle.question_text.specs.Keys.{of_kind}
use Rattle.question_text.specs.Roles.{both_roles}
use Rattle.question_text.proofs.OutcomeLemmas.{answers_on}
use Rattle.question_text.proofs.KeyLemmas.{kind_seen}
use Rattle.question_text.proofs.roles.roles_of.Goals as goal

-- the texts are of the kind, so what both names come to is the answer
pub returns : goal.returns
returns c =
    let found = option_map (λ texts. (texts.0.now, texts.1.now)) c.args.texts in
    let texts = c.in_ok-texts.texts in
    answers_on (λ roles. roles) (of_kind found c.args.path.now) (both_roles c.args.order.now.names c.args.path.now)
    (texts.0.now, texts.1.now) c.both_roles.result
    (kind_seen (λ texts. (texts.0.now, texts.1.now)) c.args.texts found c.args.path.now texts refl c.in_ok-texts.ensures) c.both_roles.ensures
