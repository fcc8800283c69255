use Rattle.std.proofs.Common.{arith, ◌≡◌, ◌∷◌, ◌∙◌, sym, ap, map, Some}
use Rattle.std.specs.Prelude.{string_bytes}
use Rattle.std.specs.Str.{bytes_eq}
use Rattle.std.proofs.lemmas.Grind.{common_steps}
use Rattle.toml.specs.View.{view, members_view}
use Rattle.toml.proofs.Views.{Entry}
use Rattle.question_text.proofs.KeyLemmas.{any_mapped, passes_known, stops_unknown}
use Rattle.question_text.proofs.keys.unknown_key.Goals as goal

pub returns-then-not-is_known : goal.returns-then-not-is_known
returns-then-not-is_known c =
    let e : Entry = (c.in-Some.key.now, c.in-Some.field-0-1.now) in
    let iter : c.loop-key.key-iterator ≡ e ∷ c.next.new.self = grind (arith, common_steps) in
    let known = map (λ (key : _). key.now) c.args.known.now in
    let unknown = any_mapped (bytes_eq (string_bytes e.0)) (λ (key : _). key.now) c.args.known.now
    ∙ rw c.as_str-name.ensures.value at (sym c.is_known.ensures ∙ c.if-not-is_known.true) in
    ap Some c.as_str-name.ensures.value ∙ (sym (stops_unknown known (string_bytes e.0) (view e.1) (members_view c.next.new.self) unknown)
    ∙ rw iter at c.loop-key.invariant.2)

pub loop-key-preserved : goal.loop-key-preserved
loop-key-preserved c =
    let e : Entry = (c.in-Some.key.now, c.in-Some.field-0-1.now) in
    let iter : c.loop-key.key-iterator ≡ e ∷ c.next.new.self = grind (arith, common_steps) in
    let known = map (λ (key : _). key.now) c.args.known.now in
    let is = any_mapped (bytes_eq (string_bytes e.0)) (λ (key : _). key.now) c.args.known.now
    ∙ rw c.as_str-name.ensures.value at (sym c.is_known.ensures ∙ c.if-not-is_known.false) in
    (tt, tt, sym (passes_known known (string_bytes e.0) (view e.1) (members_view c.next.new.self) is) ∙ rw iter at c.loop-key.invariant.2)
