-- The text of a certificate, as it is written: roles of a list by rising number.
use Rattle.std.specs.Prelude.{ℕ, List, ◌∷◌, ◌++◌, map, codes}
use Rattle.role_order.specs.Names.{name_at}
use Rattle.arbac_policy.specs.declared.act.Act.{Act}
use Rattle.arbac_laws.specs.Needs.{Need}
use Rattle.arbac_laws.specs.Obligations.{assigns, revokes, flat}
use Rattle.arbac_laws.specs.Recorded.{Origin, of_goal, of_parent, Entry}
use Rattle.text_lines.specs.Acts.{WrittenAct}
use Rattle.cert_text.specs.Certificates.{Certificate, reachable, unreachable, undecided}
use Rattle.cert_text.specs.LineForms.{WrittenOrigin, a_goal, an_assign, a_weak, LineForm, spell}
use Rattle.cert_text.specs.LineForms.{a_reachable, an_unreachable, an_undecided, a_start, an_act, a_need, a_step, a_next, a_user}

-- the act with its role's name
abbrev pub written_act : List (List ℕ) → Act → WrittenAct
written_act names act = record { kind = act.kind; admin = act.admin; target = act.target; role = name_at names act.role }

-- the origin with its role's name
abbrev pub written_origin : List (List ℕ) → Origin → WrittenOrigin
written_origin names (of_goal number) = a_goal number
written_origin names (of_parent parent (assigns rule conjunct role target pick)) = an_assign parent rule conjunct (name_at names role) target pick
written_origin names (of_parent parent (revokes rule role target pick)) = a_weak parent rule (name_at names role) target pick

-- the names of a set's roles, by rising number
abbrev pub set_names : List (List ℕ) → List ℕ → List (List ℕ)
set_names names set = map (name_at names) set

-- the line of a user requirement
abbrev pub user_form : List (List ℕ) → Need → LineForm
user_form names need = a_user (map (set_names names) need.hits) (set_names names need.lacks)

-- the lines of a requirement
abbrev pub need_lines : List (List ℕ) → List Need → List LineForm
need_lines names needs = a_need ∷ map (user_form names) needs

-- the lines of a recorded step
abbrev pub step_lines : List (List ℕ) → Entry → List LineForm
step_lines names entry = a_step (written_origin names entry.origin) ∷ map (user_form names) entry.needs

-- the lines between the first and the last
abbrev pub certificate_lines : List (List ℕ) → Certificate → List LineForm
certificate_lines names (reachable start acts) = a_reachable ∷ (map a_start start ++ map (λ act. an_act (written_act names act)) acts)
certificate_lines names (unreachable needs) = an_unreachable ∷ flat (need_lines names) needs
certificate_lines names (undecided limit recorded next) =
    an_undecided limit ∷ (flat (step_lines names) recorded ++ a_next (written_origin names next.origin) ∷ map (user_form names) next.needs)

-- the line, with its line feed
abbrev pub line_text : LineForm → List ℕ
line_text line = spell line ++ codes "\n"

-- the whole text
unfoldable pub certificate_text : List (List ℕ) → Certificate → List ℕ
certificate_text names cert = codes "arbac certificate 1\n" ++ (flat line_text (certificate_lines names cert) ++ codes "end\n")
