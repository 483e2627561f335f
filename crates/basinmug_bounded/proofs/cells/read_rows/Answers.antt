use Rattle.std.proofs.Common.{◌≤◌, ℕ, List, length, subst, sum, sym}
use Rattle.basinmug_bounded.proofs.OfCells.{read-whole, read-within}
use Rattle.basinmug_bounded.specs.Cells.{AreWhole, given_by}
use Rattle.basinmug_bounded.proofs.cells.read_rows.Goals as goal

pub read_cells-requires-clause-enough : goal.read_cells-requires-clause-enough
read_cells-requires-clause-enough c =
    subst (λ (lengths : List ℕ). sum lengths ≤ length c.args.cells.bytes.now) (sym c.lengths_read-lengths.ensures) (read-within c.args.records (given_by c.args.cells) c.requires)

pub read_cells-requires-clause-whole : goal.read_cells-requires-clause-whole
read_cells-requires-clause-whole c =
    subst (λ (lengths : List ℕ). AreWhole (length lengths) c.args.cells.per_record) (sym c.lengths_read-lengths.ensures) (read-whole c.args.records (given_by c.args.cells) c.requires)
