use Rattle.std.proofs.Common.{◌∙◌, None, Some, refl}
use Rattle.grid_config_values.specs.declared.entity.Entity.TheVariants.{Global, Column, Row, Cell}
use Rattle.grid_config_values.proofs.Rectangles.{covered_by_names, covers_column, covers_row}
use Rattle.grid_config_values.proofs.entity.Entity.iter.Goals as goal
use Rattle.grid_config_values.proofs.entity.Entity.iter.Goals.{in-Global, in-Column, in-Row, in-Cell}

pub returns : goal.returns
returns c = c.new.ensures ∙ rw (c.named.ensures, c.named-2.ensures) (elim c.match-self.branch [
  | in-Global w ↦ rw (w.row-is, w.in-Global.is) (covered_by_names Global None None c.args.rows c.args.cols (λ p. refl))
  | in-Column w ↦ rw (w.row-is, w.in-Column.is) (covered_by_names (Column w.in-Column.col) None (Some w.in-Column.col) c.args.rows c.args.cols (covers_column w.in-Column.col))
  | in-Row w ↦ rw (w.row-is, w.in-Row.is) (covered_by_names (Row w.in-Row.row) (Some w.in-Row.row) None c.args.rows c.args.cols (covers_row w.in-Row.row))
  | in-Cell w ↦ rw (w.row-is, w.in-Cell.is) (covered_by_names (Cell w.in-Cell.row w.in-Cell.col) (Some w.in-Cell.row) (Some w.in-Cell.col) c.args.rows c.args.cols (λ p. refl))
])
