use Rattle.std.proofs.Common.{length}
use Rattle.papergrid_picture.specs.Tables.{sizes_of}
use Rattle.papergrid_picture.proofs.Joins.{table_text-joined}
use Rattle.papergrid.proofs.laws.texts_are_lines_joined.Goals as goal

pub returns : goal.returns
returns c = λ look width height colors columns rows. table_text-joined look rows colors (sizes_of width columns) (sizes_of height (length rows))
