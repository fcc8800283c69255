-- The command that `clap` is given: four options, and file names.
use Rattle.std.specs.Prelude.{true, false, List, Option, Some, None, option_map, map, codes}
use Rattle.clap.specs.Words.{App, Rule, new_app, new_rule, with_rule}
use Rattle.clap.specs.declared.builder.action.ArgAction.TheVariants.{Append}
use Rattle.command_words.specs.Words.{option_names}
use Rattle.command_words.specs.Reading.{Text, Texts, said, nothing, value_of}
use Rattle.command_words.specs.declared.clap_words.Taken.{Taken}

-- an option that takes one value
abbrev pub option_rule : Text → Rule
option_rule name = record (new_rule name) { long = Some name }

-- words that are none of an option's, one after another
abbrev pub file_rule : Rule
file_rule = record (new_rule (codes "file")) { action = Some Append }

-- without the program's name, and without help
abbrev pub plain_app : App → App
plain_app a = record a { top = record a.top { no_binary_name = true; disable_help_flag = true } }

-- the four options, and file names
abbrev pub command : App
command = with_rule (with_rule (with_rule (with_rule (with_rule (plain_app (new_app (codes "desk"))) (option_rule (codes "limit")))
    (option_rule (codes "workers"))) (option_rule (codes "connections"))) (option_rule (codes "port"))) file_rule

-- what a caller keeps of the texts
pub record Kept : Type 0 where
  pub files : List Text
  pub limit : Option Text
  pub workers : Option Text
  pub connections : Option Text
  pub port : Option Text

-- the file names, and the value of each option
abbrev pub kept : Texts → Kept
kept s = record {
  files = s.files;
  limit = value_of (codes "limit") s.options;
  workers = value_of (codes "workers") s.options;
  connections = value_of (codes "connections") s.options;
  port = value_of (codes "port") s.options;
}

-- what the code took
abbrev pub taken_of : Taken → Kept
taken_of t = record {
  files = map (λ file. file.now) t.files.items;
  limit = option_map (λ text. text.now) t.limit;
  workers = option_map (λ text. text.now) t.workers;
  connections = option_map (λ text. text.now) t.connections;
  port = option_map (λ text. text.now) t.port;
}

-- what the words are taken for, or none where they are refused
abbrev pub taken : List Text → Option Kept
taken words = option_map kept (said option_names None false nothing words)
