use Rattle.std.proofs.Common.{◌≡◌, ◌++◌, ◌∙◌, ap, sym}
use Rattle.std.specs.String.{string_bytes}
use Rattle.arbac_policy.specs.declared.cond.Cond.{Cond}
use Rattle.arbac_policy.specs.Truth.{Term, both, either, term_of}
use Rattle.cond_text.specs.Printing.{phrase_at, written}
use Rattle.arbac_policy.proofs.TermLemmas.{term_any, term_has, term_lacks, term_and, term_or}
use Rattle.cond_text.proofs.WrittenLemmas.{any_written, has_written, lacks_written, and_written, or_written}
use Rattle.cond_text.proofs.printing.+write_at.Goals as goal

pub returns-in_ok-write_any-in-Any : goal.returns-in_ok-write_any-in-Any
returns-in_ok-write_any-in-Any t c =
    c.in_ok-write_any-in-Any.ensures ∙ ap (λ l. string_bytes c.args.out.now ++ l) (sym (any_written c.args.order.now.names c.args.level))
    ∙ ap (λ (x : Term). string_bytes c.args.out.now ++ written c.args.order.now.names (phrase_at c.args.level x)) (sym (ap term_of c.in-Any.is ∙ term_any))

pub returns-in_ok-write_name-in-Has : goal.returns-in_ok-write_name-in-Has
returns-in_ok-write_name-in-Has t c =
    c.in_ok-write_name-in-Has.ensures ∙ ap (λ l. string_bytes c.args.out.now ++ l) (sym (has_written c.args.order.now.names c.args.level c.in-Has.role))
    ∙ ap (λ (x : Term). string_bytes c.args.out.now ++ written c.args.order.now.names (phrase_at c.args.level x))
    (sym (ap term_of c.in-Has.is ∙ term_has c.in-Has.role))

pub returns-in_ok-write_name-in-Lacks : goal.returns-in_ok-write_name-in-Lacks
returns-in_ok-write_name-in-Lacks t c =
    lacks_written c.args.order.now.names c.args.level c.in-Lacks.role (string_bytes c.args.out.now) (string_bytes c.write_not.new.out)
    (string_bytes c.write_name-in-Lacks.new.out)
    c.in_ok-write_not-in-Lacks.ensures c.in_ok-write_name-in-Lacks.ensures
    ∙ ap (λ (x : Term). string_bytes c.args.out.now ++ written c.args.order.now.names (phrase_at c.args.level x))
    (sym (ap term_of c.in-Lacks.is ∙ term_lacks c.in-Lacks.role))

pub returns-in_ok-push_str-in-And-2 : goal.returns-in_ok-push_str-in-And-2
returns-in_ok-push_str-in-And-2 t c =
    let same : term_of c.args.cond.now ≡ both (term_of c.get.result.now) (term_of c.get-in-And.result.now) =
    ap term_of c.in-And.is ∙ term_and c.in-And.left c.in-And.right ∙ ap (λ (x : Cond). both (term_of x) (term_of c.in-And.right)) (sym c.get.ensures)
    ∙ ap (λ (x : Cond). both (term_of c.get.result.now) (term_of x)) (sym c.get-in-And.ensures) in
    and_written c.args.order.now.names c.args.level c.takes_and-free.result (term_of c.get.result.now) (term_of c.get-in-And.result.now)
    (string_bytes c.args.out.now)
    (string_bytes c.push_str.new.self) (string_bytes c.write_at.new.out) (string_bytes c.write_and.new.out)
    (string_bytes c.write_at-in-And.new.out) (string_bytes c.push_str-in-And.new.self)
    c.opening.result.now c.closing.result.now c.takes_and-free.ensures c.opening.ensures c.closing.ensures
    c.in_ok-push_str-in-And.ensures.bytes c.in_ok-write_at-in-And.ensures c.in_ok-write_and-in-And.ensures c.in_ok-write_at-in-And-2.ensures
    c.in_ok-push_str-in-And-2.ensures.bytes
    ∙ ap (λ (x : Term). string_bytes c.args.out.now ++ written c.args.order.now.names (phrase_at c.args.level x)) (sym same)

pub returns-in_ok-push_str-in-Or-2 : goal.returns-in_ok-push_str-in-Or-2
returns-in_ok-push_str-in-Or-2 t c =
    let same : term_of c.args.cond.now ≡ either (term_of c.get-in-Or.result.now) (term_of c.get-in-Or-2.result.now) =
    ap term_of c.in-Or.is ∙ term_or c.in-Or.left c.in-Or.right ∙ ap (λ (x : Cond). either (term_of x) (term_of c.in-Or.right)) (sym c.get-in-Or.ensures)
    ∙ ap (λ (x : Cond). either (term_of c.get-in-Or.result.now) (term_of x)) (sym c.get-in-Or-2.ensures) in
    or_written c.args.order.now.names c.args.level c.takes_or-free.result (term_of c.get-in-Or.result.now) (term_of c.get-in-Or-2.result.now)
    (string_bytes c.args.out.now)
    (string_bytes c.push_str-in-Or.new.self) (string_bytes c.write_at-in-Or.new.out) (string_bytes c.write_or.new.out)
    (string_bytes c.write_at-in-Or-2.new.out) (string_bytes c.push_str-in-Or-2.new.self)
    c.opening-in-Or.result.now c.closing-in-Or.result.now c.takes_or-free.ensures c.opening-in-Or.ensures c.closing-in-Or.ensures
    c.in_ok-push_str-in-Or.ensures.bytes c.in_ok-write_at-in-Or.ensures c.in_ok-write_or-in-Or.ensures c.in_ok-write_at-in-Or-2.ensures
    c.in_ok-push_str-in-Or-2.ensures.bytes
    ∙ ap (λ (x : Term). string_bytes c.args.out.now ++ written c.args.order.now.names (phrase_at c.args.level x)) (sym same)
