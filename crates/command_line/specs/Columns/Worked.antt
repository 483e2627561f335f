-- Command lines worked by hand, with a command whose names are borrowed from anywhere.
use Rattle.std.specs.Prelude.{◌≡◌, List, [], ◌∷◌, Option, codes, map, true}
use Rattle.std.specs.Borrow.{Bor}
use Rattle.clap.specs.Words.{App, Kinds, Rule as OptionRule, Text, fault_of, first_of, matches_of, takes}
use Rattle.clap.specs.declared.builder.value_parser.ValueParser.TheVariants.{Names}
use Rattle.command_line.specs.Options.Rules.{value_rule}
use Rattle.command_line.specs.Columns.Command.{columns_app}
use Rattle.command_line.specs.Columns.Names.{priority_names, style_names}

abbrev borrowed : {X : Type 0} → X → Bor X
borrowed x = record { ref_ptr = (0, 0); now = x }

-- an option that takes one of these borrowed names
abbrev names_rule : Text → List Text → Text → OptionRule
names_rule id names default = value_rule id (Names (borrowed (map borrowed names))) (default ∷ [])

abbrev pub columns_by_hand : App
columns_by_hand = columns_app (names_rule (codes "priority") priority_names (codes "none")) (names_rule (codes "style") style_names (codes "ascii"))

-- the arguments after the program's name
abbrev line : List Text → List Text
line words = codes "columns" ∷ words

-- the values of the options of a line, in the order of the command
abbrev values_of : List Text → List (Option Text)
values_of words = map (λ id. first_of id (matches_of columns_by_hand (line words)))
    (codes "width" ∷ codes "truncate" ∷ codes "keep-words" ∷ codes "priority" ∷ codes "style" ∷ codes "streamed" ∷ codes "color" ∷ [])

-- the command accepts the arguments, without an error, and gives these values
abbrev pub GivesValues : List Text → List (Option Text) → Type 0
GivesValues words values = (takes columns_by_hand (line words) ≡ true) × (fault_of columns_by_hand (line words) ≡ []) × (values_of words ≡ values)

-- the kinds of error that the command finds in the arguments
abbrev pub Finds : List Text → Kinds → Type 0
Finds words kinds = fault_of columns_by_hand (line words) ≡ kinds
