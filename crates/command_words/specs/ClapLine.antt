-- The command line as `clap` is told of it: the option `--in` with one value, and arguments, each as often as it comes.
use Rattle.std.specs.Prelude.{ℕ, true, List, [], Some, codes, unwrap_or}
use Rattle.clap.specs.Walk.{Rule, Row, all_of}
use Rattle.clap.specs.Simple.{App, new_app, new_rule, on_top, with_rule}
use Rattle.clap.specs.declared.builder.action.ArgAction.TheVariants.{Append}

-- the option `--in` with a value
abbrev pub value_rule : Rule
value_rule = record (new_rule (codes "in")) { long = Some (codes "in"); action = Some Append }

-- an argument
abbrev pub argument_rule : Rule
argument_rule = record (new_rule (codes "argument")) { action = Some Append }

-- without the name of a program as a first word, without a flag for help, without one for the version
abbrev pub bare_app : App
bare_app = on_top (λ s. record s { no_binary_name = true; disable_help_flag = true; disable_version_flag = true }) (new_app (codes "yuzudeck"))

-- the words after the name of any command
abbrev pub line_app : App
line_app = with_rule (with_rule bare_app value_rule) argument_rule

-- the values of the option or the arguments that were found
abbrev pub values_of_id : List ℕ → List Row → List (List ℕ)
values_of_id id rows = unwrap_or (all_of id rows) []
