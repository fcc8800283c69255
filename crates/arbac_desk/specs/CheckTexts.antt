-- What `check` writes; each line ends in LF.
use Rattle.std.specs.Prelude.{ℕ, List, ◌++◌, codes}
use Rattle.cert_text.specs.Certificates.{Certificate}
use Rattle.cert_check.specs.Asked.{Reason}
use Rattle.desk_texts.specs.Reasons.{kind_word, reason_text}

-- the certificate has its property
unfoldable pub accepted_text : Certificate → List ℕ
accepted_text cert = codes "accepted " ++ kind_word cert ++ codes "\n"

-- it fails first for this reason
unfoldable pub refused_text : List (List ℕ) → Reason → List ℕ
refused_text names reason = codes "refused " ++ reason_text names reason ++ codes "\n"
