use Rattle.std.proofs.Common.{◌≡◌, ◌∙◌, ◌++◌, Option, ap, length, string_bytes, arith}
use Rattle.std.proofs.lemmas.Result.{on_ok_weaker}
use Rattle.grid_config.specs.Colors.{Color}
use Rattle.grid_config_values.specs.declared.sides.Indent.{Indent}
use Rattle.grid_config_values.specs.declared.sides.Sides.{Sides}
use Rattle.papergrid_cells.specs.Painting.{colored, fill_bytes}
use Rattle.papergrid_print.specs.Printed.{table_sheet}
use Rattle.papergrid_print.proofs.LinesShown.{appended2, appended4, row-line, row_start, row_start-more}
use Rattle.papergrid_print.proofs.printer.Printer.push_drawn_line.Goals as goal

pub loop-j-preserved : goal.loop-j-preserved
loop-j-preserved g c =
    appended2 (string_bytes c.push_indent.new.out) _ _ c.loop-j.invariant c.in_ok-push_row_part.ensures (row_start-more (table_sheet c.args.self.now) c.args.i c.args.y c.loop-j.j)

pub returns : goal.returns
returns g c =
    let sheet = table_sheet c.args.self.now in
    let out = string_bytes c.args.out.now in
    let margin = c.get_margin-margin.ensures in
    let colors = c.get_margin_color-colors.ensures in
    let end : c.loop-j.j ≡ length c.args.self.now.widths.now = omega (arith, c.loop-j-test.false, c.loop-j.auto.j-end) in
    on_ok_weaker c.push_indent-2.result
    (λ last. appended4 out _ _ _ _
    (c.in_ok-push_indent.ensures
    ∙ (ap (λ (m : Sides Indent). out ++ colored c.get_margin_color-colors.result.now.left (fill_bytes m.left.fill m.left.size)) margin
    ∙ ap (λ (k : Sides (Option Color)). out ++ colored k.left (fill_bytes sheet.settings.margin.left.fill sheet.settings.margin.left.size)) colors))
    (c.loop-j.invariant ∙ ap (λ n. string_bytes c.push_indent.new.out ++ row_start sheet c.args.i c.args.y n) end)
    c.in_ok-push_upright.ensures
    (last
    ∙ (ap (λ (m : Sides Indent). string_bytes c.push_upright.new.out ++ colored c.get_margin_color-colors.result.now.right (fill_bytes m.right.fill m.right.size)) margin
    ∙ ap (λ (k : Sides (Option Color)). string_bytes c.push_upright.new.out ++ colored k.right (fill_bytes sheet.settings.margin.right.fill sheet.settings.margin.right.size)) colors))
    (row-line sheet c.args.i c.args.y))
    c.push_indent-2.ensures
