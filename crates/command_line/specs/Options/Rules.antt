-- Options of a command line, each by what the parser holds of it.
use Rattle.std.specs.Prelude.{◌≡◌, List, [], ◌∷◌, Some, map}
use Rattle.std.specs.Borrow.{Bor}
use Rattle.clap.specs.Words.{Rule as OptionRule, Text, new_rule}
use Rattle.clap.specs.declared.builder.action.ArgAction.TheVariants.{Set, SetTrue}
use Rattle.clap.specs.declared.builder.value_parser.ValueParser.{ValueParser}
use Rattle.clap.specs.declared.builder.value_parser.ValueParser.TheVariants.{Names, String as AnyText}

-- an option that takes one value
abbrev pub value_rule : Text → ValueParser → List Text → OptionRule
value_rule name parser defaults = record (new_rule name) {
  long = Some name;
  action = Some Set;
  value_names = 1;
  parser = Some parser;
  defaults = defaults;
}

-- any text, with no default
abbrev pub text_rule : Text → OptionRule
text_rule name = value_rule name AnyText []

-- an option without a value
abbrev pub flag_rule : Text → OptionRule
flag_rule name = record (new_rule name) { long = Some name; action = Some SetTrue }

-- a list of borrowed names is these
abbrev pub AreNames : List Text → Bor (List (Bor Text)) → Type 0
AreNames names given = map (λ name. name.now) given.now ≡ names

-- an option that takes one of the names, and the first where it isn't given
abbrev pub IsOfNames : Text → List Text → OptionRule → Type 0
IsOfNames id [] rule = ⊥
IsOfNames id (first ∷ rest) rule = (given : Bor (List (Bor Text))) × AreNames (first ∷ rest) given × (rule ≡ value_rule id (Names given) (first ∷ []))
