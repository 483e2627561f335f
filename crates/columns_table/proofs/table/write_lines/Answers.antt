-- Where no colour is given no cell has one.
use Rattle.std.proofs.Common.{◌≡◌, ◌∷◌, List, [], ℕ, Option, length, refl, subst, arith, None}
use Rattle.std.proofs.lemmas.Bool.Decides.{nat_tests}
use Rattle.columns_asked.specs.Colors.ColumnColors.{cell_color}
use Rattle.grid_config.specs.Colors.{Color}
use Rattle.grid_config_values.specs.declared.position.Position.{Position}
use Rattle.grid_config.specs.Looks.{look_of}
use Rattle.papergrid_print.specs.Ended.{ended_text}
use Rattle.tabled_output.specs.Pieces.{Passes}
use Rattle.tabled_output.proofs.WrittenPieces.{passes-none}
use Rattle.columns_table.proofs.table.write_lines.Goals as goal

abbrev no_color : Position → Option Color
no_color cell = None

none-given : (colors : List (ℕ × Color)) → length colors ≡ 0 → no_color ≡ cell_color colors
none-given [] empty = refl
none-given (given ∷ more) empty = absurd (omega (arith, empty))

pub returns-then-is_empty : goal.returns-then-is_empty
returns-then-is_empty g c =
    let empty : length c.args.colors.now ≡ 0 = grind (arith, nat_tests, c.is_empty.ensures, c.if-is_empty.true) in
    subst (λ (colors : Position → Option Color). Passes g.W.Write.contents (ended_text (look_of c.args.settings.now) (g.R.RecordTexts.rows c.args.records.now) colors c.args.widths.now c.args.heights.now) c.write_buffered_table.result [] c.args.writer.now c.write_buffered_table.new.writer)
    (none-given c.args.colors.now empty) c.write_buffered_table.ensures

pub returns-in_err-colors : goal.returns-in_err-colors
returns-in_err-colors g c =
    passes-none g.W.Write.contents (ended_text (look_of c.args.settings.now) (g.R.RecordTexts.rows c.args.records.now) (cell_color c.args.colors.now) c.args.widths.now c.args.heights.now) [] c.from_residual.result c.args.writer.now c.from_residual.ensures.0

pub returns : goal.returns
returns g c =
    subst (λ (given : List (ℕ × Color)). Passes g.W.Write.contents (ended_text (look_of c.args.settings.now) (g.R.RecordTexts.rows c.args.records.now) (cell_color given) c.args.widths.now c.args.heights.now) c.write_buffered_table-2.result [] c.args.writer.now c.write_buffered_table-2.new.writer)
    c.in_ok-colors.ensures c.write_buffered_table-2.ensures
