use Rattle.std.proofs.Common.{rules, ap, ap₂, codes, true, ◌≡◌, ◌∙◌}
use Rattle.std.proofs.lemmas.Result.{IfOk-weaker}
use Rattle.clap.specs.Words.{App, rule_of, with_rule}
use Rattle.clap.specs.Simple.{app_of_fields}
use Rattle.clap.specs.declared.builder.command.Command.{Command}
use Rattle.clap.specs.declared.builder.command.Command.TheOpen.{Command-F}
use Rattle.command_words.specs.Reading.{Text}
use Rattle.command_words.specs.Command.{option_rule, file_rule, plain_app}
use Rattle.command_words.proofs.clap_words.command.Goals as goal

abbrev more : App → Text → App
more app name = with_rule app (option_rule name)

-- one after another, each argument is added to those that there are
pub returns : goal.returns
returns c =
    let named = ap (λ (f : Command-F Command). app_of_fields (record f { disable_help_flag = true })) c.no_binary_name.ensures in
    let bare = ap app_of_fields c.disable_help_flag-bare.ensures ∙ named ∙ ap plain_app c.new.ensures.app in
    let limit = c.in_ok-limit.ensures ∙ ap (λ (app : App). more app (codes "limit")) bare in
    let workers = c.in_ok-workers.ensures ∙ ap (λ (app : App). more app (codes "workers")) limit in
    let connections = c.in_ok-connections.ensures ∙ ap (λ (app : App). more app (codes "connections")) workers in
    let port = c.in_ok-port.ensures ∙ ap (λ (app : App). more app (codes "port")) connections in
    let file_is : rule_of c.action.result ≡ file_rule = search rules in
    IfOk-weaker c.arg.result _ _ (λ r h. h.shape (search rules) ∙ ap₂ with_rule port file_is) c.arg.ensures
