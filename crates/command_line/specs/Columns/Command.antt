-- The command `columns`: its options, and the values that each of them takes.
use Rattle.std.specs.Prelude.{◌≡◌, [], ◌∷◌, codes, true}
use Rattle.clap.specs.Simple.{new_shape}
use Rattle.clap.specs.Words.{App, Rule as OptionRule}
use Rattle.clap.specs.declared.builder.value_parser.ValueParser.TheVariants.{Unsigned}
use Rattle.command_line.specs.Options.Rules.{IsOfNames, flag_rule, text_rule, value_rule}
use Rattle.command_line.specs.Columns.Names.{priority_names, style_names}

-- a number from 0 to 4294967295, with no default
abbrev pub width_rule : OptionRule
width_rule = value_rule (codes "width") (Unsigned 0 4294967295) []

-- any text, with no default
abbrev pub color_rule : OptionRule
color_rule = text_rule (codes "color")

-- the command with these two options among the others
abbrev pub columns_app : OptionRule → OptionRule → App
columns_app priority style = record {
  top = record (new_shape (codes "columns")) {
    has_version = true;
    rules = width_rule ∷ flag_rule (codes "truncate") ∷ flag_rule (codes "keep-words") ∷ priority ∷ style ∷ flag_rule (codes "streamed") ∷ color_rule ∷ [];
  };
  subs = [];
}

-- the command is `columns`
pub record IsColumns (command : App) : Type 0 where
  pub priority : OptionRule
  pub style : OptionRule
  pub priorities : IsOfNames (codes "priority") priority_names priority
  pub styles : IsOfNames (codes "style") style_names style
  pub is : command ≡ columns_app priority style
