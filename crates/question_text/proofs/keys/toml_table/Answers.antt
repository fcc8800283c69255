use Rattle.std.proofs.Common.{rules, ◌≡◌, List, ℕ, true, false, None, cond, refl, sym}
use Rattle.std.specs.Str.{IsUtf8, is_utf8}
use Rattle.std.proofs.lemmas.Str.{IsUtf8-from_is_utf8, is_utf8-from_IsUtf8}
use Rattle.toml.specs.Parse.{parse_document}
use Rattle.question_text.specs.Keys.{toml_of}
use Rattle.question_text.proofs.keys.toml_table.Goals as goal

none_of : (bytes : List ℕ) → (IsUtf8 bytes → parse_document bytes ≡ None) → None ≡ toml_of bytes
none_of bytes h = elim (is_utf8 bytes) as (λ b. is_utf8 bytes ≡ b → None ≡ cond b (parse_document bytes) None) [
  | true ↦ λ e. sym
      (h (IsUtf8-from_is_utf8 _ e))
  | false ↦ λ e. refl
] refl

pub returns-in-Ok : goal.returns-in-Ok
returns-in-Ok c = rw (is_utf8-from_IsUtf8 _ c.in-Ok.ensures.ok.0, c.in-Ok.ensures.ok.1) refl

pub returns-else-is_memory : goal.returns-else-is_memory
returns-else-is_memory c = rw (← none_of c.args.bytes.now (c.in-Err.ensures.refused (search rules))) refl
