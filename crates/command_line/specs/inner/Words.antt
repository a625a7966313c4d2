-- What bodies and proofs say besides: how a command grows to what the program takes.
use Rattle.std.specs.Prelude.{◌≡◌, ◌++◌, List, length}
use Rattle.clap.specs.Words.{App, Rule, app_of}
use Rattle.clap.specs.declared.builder.command.Command.TheViews.{out-Command as fields_of}
use Rattle.clap.specs.declared.builder.command.Command.{Command}
use Rattle.command_line.specs.Words.{number_rule}
use Rattle.command_line.specs.declared.options.Helps.{Helps}
use Rattle.command_line.specs.declared.options.NumberOption.{NumberOption}

abbrev pub with_rules : App → List Rule → App
with_rules a rules = record a { top = record a.top { rules = a.top.rules ++ rules } }

-- the new command is the old one with arguments of these rules besides, the last
pub record HasMore (rules : List Rule) (old new : Command) : Type 0 where
  pub app : app_of new ≡ with_rules (app_of old) rules
  pub local : (fields_of new).has_globals ≡ (fields_of old).has_globals

-- the rule of an option
abbrev pub rule_for : NumberOption → Rule
rule_for option = number_rule option.name.now option.number.least option.number.most

-- there is a help for each name, each option of a house and each of a server
pub record AreThere (helps : Helps) : Type 0 where
  pub names : length helps.names.items ≡ 2
  pub house : length helps.house.items ≡ 8
  pub server : length helps.server.items ≡ 4
