use Rattle.std.proofs.Common.{◌≡◌, ◌∙◌, true, false}
use Rattle.cert_needs.proofs.CoverLemmas.{all_have, too_many}
use Rattle.cert_needs.proofs.cover.quick_answer.Goals as goal
use Rattle.cert_needs.proofs.cover.quick_answer.Goals.{then-users-others-via-else-users-others+then-not-have_partners}
use Rattle.cert_needs.proofs.cover.quick_answer.Goals.{then-users-others-via-then-users-others}

-- the users are too many, or one of them has no partner
pub returns-then-users-others : goal.returns-then-users-others
returns-then-users-others c =
    let users = c.args.users.now in
    let others = c.args.others.now in (
      λ e. absurd (let never : false ≡ true = e in cc),
      λ covered. absurd (elim c.then-users-others.branch [
        | then-users-others-via-then-users-others w ↦ too_many users others w.if-users-others.true covered
        | then-users-others-via-else-users-others+then-not-have_partners w ↦
            let all : w.have_partners.result ≡ true = w.have_partners.ensures ∙ all_have users others covered in
            let fails = w.if-not-have_partners.true in cc
      ]),
    )
