use Rattle.std.proofs.Common.{ℕ, ◌≡◌, ◌+◌, ◌∙◌, ap, sym, take, get_or, Some, arith, rules, List}
use Rattle.cond_text.proofs.CutLemmas.{cut_found}
use Rattle.cond_text.proofs.WordLemmas.{from_place}
use Rattle.cond_text.proofs.cuts.cut.Goals as goal

pub returns-then-byte-sign : goal.returns-then-byte-sign
returns-then-byte-sign c =
    let here : get_or c.args.bytes.now c.loop-at.at 0 ≡ c.args.sign = search rules in
    ap (λ (t : List ℕ). Some (take c.loop-at.at c.args.bytes.now, t)) (from_place c.args.bytes.now (c.loop-at.at + 1))
    ∙ sym (cut_found c.args.sign c.args.bytes.now c.loop-at.at (omega arith) c.loop-at.invariant here)
