-- How the texts of the columns so far are aligned.
use Rattle.std.proofs.Common.{◌≡◌, map}
use Rattle.std.specs.List.{range_with_len}
use Rattle.papergrid_picture.specs.Picture.{at}
use Rattle.basinmug_run.specs.Picture.TableRows.{state_of}
use Rattle.basinmug_run.proofs.picture.documents.header_alignments.Given as goal

abbrev pub invariant-loop-column : goal.invariant-loop-column
invariant-loop-column l = l.alignments.items ≡ map (λ column. (state_of l.table).look.alignment_horizontal (at 0 column)) (range_with_len 0 l.column)
