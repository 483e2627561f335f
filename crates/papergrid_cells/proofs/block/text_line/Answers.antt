use Rattle.std.proofs.Common.{◌≡◌, ◌-◌, ◌<◌, ◌≤◌, ap, sym, ◌∙◌, arith, length}
use Rattle.grid_config.specs.Looks.{look_of}
use Rattle.papergrid_picture.specs.Blocks.{free_above}
use Rattle.papergrid_cells.specs.Shown.{measures_of}
use Rattle.papergrid_cells.specs.declared.block.BlockLine.TheVariants.{Text}
use Rattle.papergrid_cells.proofs.BlockKinds.{line-above, line-behind}
use Rattle.papergrid_cells.proofs.block.text_line.Goals as goal

pub returns-then-line-begin : goal.returns-then-line-begin
returns-then-line-begin c = λ flat inside.
    let cell = c.args.cell.now in
    let look = look_of c.args.cfg.now in
    let count = length (measures_of cell.lines) in
    let is : c.free_above-begin.result ≡ free_above (look.alignment_vertical cell.pos) (cell.height - count) =
    c.free_above-begin.ensures ∙ (ap (λ a. free_above a c.saturating_sub-free.result) c.get_alignment_vertical.ensures
    ∙ ap (free_above (look.alignment_vertical cell.pos)) (c.saturating_sub-free.ensures ∙ ap (λ n. cell.height - n) c.count-lines.ensures)) in
    let before : c.args.line < free_above (look.alignment_vertical cell.pos) (cell.height - count) = omega (arith, c.if-line-begin.true, is) in
    line-above c.args.cfg.now flat cell.pos count cell.height c.args.line before ∙ ap Text (sym c.count-lines.ensures)

pub returns : goal.returns
returns c = λ flat inside.
    let cell = c.args.cell.now in
    let look = look_of c.args.cfg.now in
    let count = length (measures_of cell.lines) in
    let above = free_above (look.alignment_vertical cell.pos) (cell.height - count) in
    let is : c.free_above-begin.result ≡ above =
    c.free_above-begin.ensures ∙ (ap (λ a. free_above a c.saturating_sub-free.result) c.get_alignment_vertical.ensures
    ∙ ap (free_above (look.alignment_vertical cell.pos)) (c.saturating_sub-free.ensures ∙ ap (λ n. cell.height - n) c.count-lines.ensures)) in
    let least : above ≤ c.args.line = omega (arith, c.if-line-begin.false, is) in
    line-behind c.args.cfg.now flat cell.pos count cell.height c.args.line c.min.result least inside
    (λ short. omega (arith, short, is, c.min.ensures, c.count-lines.ensures))
    (λ long. omega (arith, long, is, c.min.ensures, c.count-lines.ensures))
