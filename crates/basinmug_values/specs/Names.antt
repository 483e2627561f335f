-- What the names of a list mean.
use Rattle.std.specs.Prelude.{ℕ, List, [], ◌∷◌, Option, codes, find}
use Rattle.std.specs.Option.{option_map}
use Rattle.std.specs.Str.{bytes_eq}
use Rattle.grid_config_values.specs.declared.alignment.AlignmentHorizontal.{AlignmentHorizontal}
use Rattle.grid_config_values.specs.declared.alignment.AlignmentHorizontal.TheVariants.{Left as AtLeft, Center as AtCenter, Right as AtRight}

-- what is beside the name in a table, if the table has the name
abbrev pub found_in : {T : Type 0} → List (List ℕ × T) → List ℕ → Option T
found_in table name = option_map (λ row. row.1) (find (λ row. bytes_eq row.0 name) table)

-- where texts are in a column
abbrev pub alignments : List (List ℕ × AlignmentHorizontal)
alignments = (codes "left", AtLeft) ∷ (codes "center", AtCenter) ∷ (codes "right", AtRight) ∷ []

abbrev pub alignment_named : List ℕ → Option AlignmentHorizontal
alignment_named = found_in alignments
