use Rattle.std.proofs.Common.{◌≡◌, ◌<◌, ◌^◌, ◌++◌, map, drop, take}
use Rattle.list_words.specs.Lists.{Each}
use Rattle.arbac_laws.specs.Obligations.{flat}
use Rattle.cert_text.specs.LineForms.{a_start}
use Rattle.cert_text.specs.Texts.{line_text}
use Rattle.cert_text.proofs.writing.put_starts.Given as goal

-- what is written, and the lines that are left, are the whole; the numbers so far have 32 bits
abbrev pub invariant-loop-profile : goal.invariant-loop-profile
invariant-loop-profile l =
    (l.text.items ++ flat line_text (map a_start (drop l.profile-index l.start)) ≡ l.initial.text.items ++ flat line_text (map a_start l.start))
    × Each (λ profile. profile < 2 ^ 32) (take l.profile-index l.start)
