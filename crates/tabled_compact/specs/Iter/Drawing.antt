-- Rows drawn in sizes that are given.
use Rattle.std.specs.Prelude.{ℕ, List, Result, length}
use Rattle.grid_config_values.specs.declared.fault.Fault.{Fault}
use Rattle.grid_config.specs.Looks.{Look}
use Rattle.papergrid_picture.specs.Fitting.{FitsAnswer}
use Rattle.papergrid_picture.specs.Frame.{frame_of}
use Rattle.papergrid_picture.specs.Tables.{sizes_of}
use Rattle.tabled_size.specs.Dimension.Sizes.{GivenSizes, given_size}

-- whether `columns` columns of the rows fit these widths and heights
abbrev pub IsDrawn : Look → GivenSizes × GivenSizes → ℕ → List (List (List ℕ)) → Result (Unit {0}) Fault → Type 0
IsDrawn look sizes columns rows answer =
    FitsAnswer (frame_of look (sizes_of (given_size sizes.0) columns) (sizes_of (given_size sizes.1) (length rows))) rows (Unit {0}) answer
