use Rattle.std.proofs.Common.{refl, ap, sym, subst, codes, true, Some, None, Option, map, string_bytes, List, [], option_map, ◌≡◌, ◌∙◌, inl, inr}
use Rattle.std.specs.Borrow.{Bor}
use Rattle.clap.specs.Words.{App, found_of, rows_of, first_of, is_simple, matches_of, subcommand_of, subcommand_rows_of}
use Rattle.clap.specs.Walk.{all_of}
use Rattle.clap.specs.Kinds.{HasKind}
use Rattle.clap.specs.Faults.{fault_of, is_simple_and_free}
use Rattle.clap.proofs.WalkLemmas.{first_value-rows, raw_values-rows}
use Rattle.role_order.specs.Names.{texts}
use Rattle.command_words.specs.Reading.{Text, AreText, files_in}
use Rattle.command_words.specs.Command.{taken}
use Rattle.command_words.proofs.TextLemmas.{text_sound, texts_are}
use Rattle.command_words.proofs.CommandLemmas.{simple, simple_and_free, takes, refuses, files_or}
use Rattle.command_words.proofs.clap_words.take_words.Goals as goal

in_or : (o : Option (Bor (List (Bor Text)))) → files_in o ≡ files_or (option_map (λ s. map (λ v. v.now) s.now) o)
in_or None = refl
in_or (Some files) = refl

-- what `clap` found is what the walk matches, argument by argument
pub returns-in-Ok : goal.returns-in-Ok
returns-in-Ok c =
    let words = map (λ s. string_bytes s) c.args.words.now in
    let same : texts c.args.words.now ≡ words = texts_are c.args.words.now in
    let is = c.in_ok-command.ensures in
    let m = c.in-Ok.found in
    let fine = subst (λ (a : App). is_simple_and_free a ≡ true → fault_of a words ≡ []) is c.in-Ok.ensures.kinds simple_and_free in
    let rows = (subst (λ (a : App). is_simple a ≡ true → (rows_of (found_of m) ≡ matches_of a words) × (subcommand_rows_of m ≡ subcommand_of a words))
    is c.in-Ok.ensures.matches simple).0 in
    let files = c.in_ok-files-in-Ok.ensures ∙ in_or c.get_raw.result
    ∙ ap files_or (c.get_raw.ensures ∙ raw_values-rows (found_of m) (codes "file") ∙ ap (all_of (codes "file")) rows) in
    let limit = c.get_str.ensures ∙ first_value-rows (found_of m) (codes "limit") ∙ ap (first_of (codes "limit")) rows in
    let workers = c.get_str-in-Ok.ensures ∙ first_value-rows (found_of m) (codes "workers") ∙ ap (first_of (codes "workers")) rows in
    let connections = c.get_str-in-Ok-2.ensures ∙ first_value-rows (found_of m) (codes "connections") ∙ ap (first_of (codes "connections")) rows in
    let port = c.get_str-in-Ok-3.ensures ∙ first_value-rows (found_of m) (codes "port") ∙ ap (first_of (codes "port")) rows in
    ap Some (λ i. record { files = files i; limit = limit i; workers = workers i; connections = connections i; port = port i })
    ∙ takes words (text_sound words (subst AreText same c.are_text.ensures)) fine ∙ ap taken (sym same)

-- it refused the words for a fault of theirs
pub returns : goal.returns
returns c =
    let words = map (λ s. string_bytes s) c.args.words.now in
    let same : texts c.args.words.now ≡ words = texts_are c.args.words.now in
    let fails = subst (λ (a : App). is_simple_and_free a ≡ true → HasKind (fault_of a words) c.in-Err.error) c.in_ok-command.ensures
    c.in-Err.ensures.kinds simple_and_free in
    elim fails [
      | inl memory ↦ absurd (c.in_default.not-OutOfMemory (c.kind.ensures ∙ memory))
      | inr among ↦ refuses words _ (text_sound words (subst AreText same c.are_text.ensures)) among ∙ ap taken (sym same)
    ]
