-- A width that is requested of a table, and lines that keep to it.
use Rattle.std.specs.Prelude.{◌≡◌, ◌≤◌, ℕ, All, List, Some, false}
use Rattle.ansi_str.specs.Characters.{shown_chars}
use Rattle.ansi_str.specs.Lines.{IsClosedLine}
use Rattle.grid_records_measure.specs.Measures.{measure}
use Rattle.basinmug_run.specs.declared.options.ColumnsShown.TheVariants.{Fitting}
use Rattle.basinmug_run.specs.declared.options.Options.{Options}
use Rattle.basinmug_run.specs.Picture.Rows.{is_markdown}

-- so many columns of the terminal are requested of a table of the columns that fit in them: at least those of one column of text with its
-- paddings and two lines. A document takes no width
pub record IsRequested (options : Options) (width : ℕ) : Type 0 where
  pub width_is : options.width ≡ Some width
  pub enough : 5 ≤ width
  pub fitting : options.columns_shown ≡ Fitting
  pub no_document : is_markdown options.line_style ≡ false

-- each is one line, in which no style is open at its end, and what it shows measures as one text at most so many columns
pub record AreLinesWithin (columns : ℕ) (lines : List (List ℕ)) : Type 0 where
  pub within : All (λ line. measure (shown_chars line) ≤ columns) lines
  pub closed : All IsClosedLine lines
