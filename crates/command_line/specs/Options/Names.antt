-- What names mean, by a table that has each name beside its value.
use Rattle.std.specs.Prelude.{List, Option, find, map}
use Rattle.std.specs.Option.{option_map_or}
use Rattle.std.specs.Str.{bytes_eq}
use Rattle.clap.specs.Words.{Text}

abbrev pub names_of : {T : Type 0} → List (Text × T) → List Text
names_of table = map (λ row. row.0) table

-- what is beside the given name in the table, and the default where no name of the table is given
abbrev pub named : {T : Type 0} → List (Text × T) → T → Option Text → T
named table default given = option_map_or (λ name. option_map_or (λ row. row.1) (find (λ row. bytes_eq row.0 name) table) default) given default
