-- Tables whose columns can be worked out by hand.
use Rattle.std.specs.Prelude.{ℕ, ◌==◌, ◌&&◌, if◌then◌else◌, List, [], ◌∷◌, None, Some, codes, false, true}
use Rattle.basinmug_run.specs.declared.options.ColumnsShown.TheVariants.{Fitting}
use Rattle.basinmug_run.specs.declared.options.Options.{Options}
use Rattle.grid_config_values.specs.declared.alignment.AlignmentHorizontal.TheVariants.{Left, Right}
use Rattle.program_options.specs.declared.basinmug.LineStyle.TheVariants.{Rounded}
use Rattle.tabled.specs.Tables.{new_state}
use Rattle.tabled_steps.specs.States.{State}

-- one record of four letters, which takes 17 columns as a table
abbrev pub letters : List (List (List ℕ))
letters = (codes "a" ∷ codes "b" ∷ codes "c" ∷ codes "d" ∷ []) ∷ []

-- the columns that fit in a width are shown, of records without a header
abbrev pub fitted : ℕ → Options → Options
fitted width options = record options { header = false; line_style = Rounded; width = Some width; columns_shown = Fitting }

-- a header and a record
abbrev pub named : List (List (List ℕ))
named = (codes "name" ∷ codes "x" ∷ []) ∷ (codes "C" ∷ codes "1" ∷ []) ∷ []

-- records of any width, with a header
abbrev pub with_names : Options → Options
with_names options = record options { header = true; width = None; truncate = false }

-- and without one
abbrev pub without_names : Options → Options
without_names options = record options { header = false; width = None; truncate = false }

-- a header of two texts, of which the second is at the right
abbrev pub header_at_right : State
header_at_right =
    let new = new_state ((codes "a" ∷ codes "bc" ∷ []) ∷ []) in
    record new { look = record new.look { alignment_horizontal = λ place. if place.row == 0 && place.col == 1 then Right else Left } }
