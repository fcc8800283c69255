-- What the code's types are seen as.
use Rattle.std.specs.Prelude.{map}
use Rattle.policy_text.specs.declared.line.Line.{Line}
use Rattle.policy_text.specs.declared.line.Line.TheVariants as v
use Rattle.cond_text.specs.Ranges.{range_view}
use Rattle.text_lines.specs.Acts.{act_view}
use Rattle.policy_text.specs.LineForms.{LineForm, a_role, an_edge, an_assign, a_revoke, a_user, an_act, a_goal}

-- the form of a line as the code has it
abbrev pub form_of_line : Line → LineForm
form_of_line (v.Role name) = a_role name.now
form_of_line (v.Edge senior junior) = an_edge senior.now junior.now
form_of_line (v.Assign admin range condition) = an_assign admin.now (range_view range) condition.now
form_of_line (v.Revoke admin range) = a_revoke admin.now (range_view range)
form_of_line (v.User names) = a_user (map (λ name. name.now) names.items)
form_of_line (v.Act act) = an_act (act_view act)
form_of_line (v.Goal condition) = a_goal condition.now
