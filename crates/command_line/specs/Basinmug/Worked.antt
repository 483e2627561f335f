-- Command lines worked by hand, with a command whose names are borrowed from anywhere.
use Rattle.std.specs.Prelude.{◌≡◌, List, [], ◌∷◌, Option, codes, find, map, true}
use Rattle.std.specs.Borrow.{Bor}
use Rattle.std.specs.Option.{option_map}
use Rattle.std.specs.Str.{bytes_eq}
use Rattle.clap.specs.Words.{App, Kinds, Rule as OptionRule, Text, fault_of, first_of, matches_of, takes}
use Rattle.clap.specs.declared.builder.value_parser.ValueParser.TheVariants.{Names}
use Rattle.command_line.specs.Options.Rules.{value_rule}
use Rattle.command_line.specs.Basinmug.Command.{basinmug_app}
use Rattle.command_line.specs.Basinmug.Names.{escapes_names, line_style_names, priority_names, rules_names}

abbrev borrowed : {X : Type 0} → X → Bor X
borrowed x = record { ref_ptr = (0, 0); now = x }

-- an option that takes one of these borrowed names
abbrev names_rule : Text → List Text → Text → OptionRule
names_rule id names default = value_rule id (Names (borrowed (map borrowed names))) (default ∷ [])

abbrev pub basinmug_by_hand : App
basinmug_by_hand = basinmug_app
    (names_rule (codes "escapes") escapes_names (codes "colors"))
    (names_rule (codes "priority") priority_names (codes "max"))
    (names_rule (codes "style") line_style_names (codes "rounded"))
    (names_rule (codes "rules") rules_names (codes "header"))

-- the arguments after the program's name
abbrev line : List Text → List Text
line words = codes "basinmug" ∷ words

abbrev value_of : List Text → Text → Option Text
value_of words id = first_of id (matches_of basinmug_by_hand (line words))

-- the command accepts the arguments, without an error, and gives these values for these options
abbrev pub GivesValues : List Text → List Text → List (Option Text) → Type 0
GivesValues words ids values = (takes basinmug_by_hand (line words) ≡ true) × (fault_of basinmug_by_hand (line words) ≡ []) × (map (value_of words) ids ≡ values)

-- the kinds of error that the command finds in the arguments
abbrev pub Finds : List Text → Kinds → Type 0
Finds words kinds = fault_of basinmug_by_hand (line words) ≡ kinds

-- the values of these options
abbrev pub by_names : List (Text × Text) → Text → Option Text
by_names values id = option_map (λ row. row.1) (find (λ row. bytes_eq row.0 id) values)
