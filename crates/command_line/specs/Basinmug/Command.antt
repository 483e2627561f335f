-- The command `basinmug`: its options, and the values that each of them takes.
use Rattle.std.specs.Prelude.{◌≡◌, [], ◌∷◌, Some, codes, true}
use Rattle.clap.specs.Simple.{new_shape}
use Rattle.clap.specs.Words.{App, Rule as OptionRule, new_rule}
use Rattle.clap.specs.declared.builder.action.ArgAction.TheVariants.{Set}
use Rattle.clap.specs.declared.builder.value_parser.ValueParser.TheVariants.{String as AnyText}
use Rattle.command_line.specs.Options.Rules.{IsOfNames, flag_rule, text_rule}
use Rattle.command_line.specs.Basinmug.Names.{escapes_names, line_style_names, priority_names, rules_names}

-- an argument that belongs to no option
abbrev pub file_rule : OptionRule
file_rule = record (new_rule (codes "file")) { action = Some Set; value_names = 1; parser = Some AnyText }

-- the command with these four options among the others
abbrev pub basinmug_app : OptionRule → OptionRule → OptionRule → OptionRule → App
basinmug_app escapes priority style rules = record {
  top = record (new_shape (codes "basinmug")) {
    has_version = true;
    rules =
        file_rule
        ∷ text_rule (codes "delimiter")
        ∷ flag_rule (codes "no-header")
        ∷ escapes
        ∷ text_rule (codes "width")
        ∷ priority
        ∷ flag_rule (codes "truncate")
        ∷ flag_rule (codes "all-columns")
        ∷ style
        ∷ rules
        ∷ text_rule (codes "columns")
        ∷ text_rule (codes "align")
        ∷ text_rule (codes "color")
        ∷ text_rule (codes "max-rows")
        ∷ text_rule (codes "head")
        ∷ text_rule (codes "tail")
        ∷ flag_rule (codes "expanded")
        ∷ [];
  };
  subs = [];
}

-- the command is `basinmug`
pub record IsBasinmug (command : App) : Type 0 where
  pub escapes : OptionRule
  pub priority : OptionRule
  pub style : OptionRule
  pub rules : OptionRule
  pub all_escapes : IsOfNames (codes "escapes") escapes_names escapes
  pub priorities : IsOfNames (codes "priority") priority_names priority
  pub styles : IsOfNames (codes "style") line_style_names style
  pub all_rules : IsOfNames (codes "rules") rules_names rules
  pub is : command ≡ basinmug_app escapes priority style rules
