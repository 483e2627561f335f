-- The names of columns that a header does not have.
use Rattle.std.specs.Prelude.{◌≡◌, ⊤, ℕ, List, [], ◌∷◌, Option, None, Some, string_bytes}
use Rattle.std.specs.List.{flat_map}
use Rattle.basinmug_columns.specs.Names.{column_number}
use Rattle.program_options.specs.declared.basinmug.ColumnName.{ColumnName}
use Rattle.program_options.specs.declared.basinmug.ColumnName.TheVariants.{Number, Header}
use Rattle.basinmug_run.specs.declared.picture.fault.PrintFault.{PrintFault}
use Rattle.basinmug_run.specs.declared.picture.fault.PrintFault.TheVariants.{NoColumn, Table, Memory}

-- the text of a name that denotes no column
abbrev pub text_if_missing : Option ℕ → ColumnName → List (List ℕ)
text_if_missing (Some number) name = []
text_if_missing None (Header name) = string_bytes name ∷ []
text_if_missing None (Number number) = []

-- of names those that denote no column, in turn
abbrev pub missing_by : {X : Type 0} → (ColumnName → Option ℕ) → List (ColumnName × X) → List (List ℕ)
missing_by number_of pairs = flat_map (λ pair. text_if_missing (number_of pair.0) pair.0) pairs

-- of names those that the header does not have, in turn
abbrev pub missing_names : {X : Type 0} → List (List ℕ) → List (ColumnName × X) → List (List ℕ)
missing_names header pairs = missing_by (column_number header) pairs

-- an error reports the first of the names that are missing; or that memory ran out
abbrev pub IsFirstMissing : List (List ℕ) → PrintFault → Type 0
IsFirstMissing names (NoColumn name) = (rest : List (List ℕ)) × (names ≡ string_bytes name ∷ rest)
IsFirstMissing names (Table fault) = ⊥
IsFirstMissing names Memory = ⊤
