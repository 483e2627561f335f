use Rattle.std.proofs.Common.{◌≡◌, ◌∙◌, ap, sym, arith}
use Rattle.ansi_scan.specs.Pieces.{pieces}
use Rattle.grid_records_measure.specs.RawLines.{lines_behind}
use Rattle.grid_records_measure.specs.TextLines.{shown_lines, widest}
use Rattle.tabled_pool.proofs.BoxesLemmas.Sizes.{text_widest}
use Rattle.tabled_pool.proofs.boxes.size.push_line_sizes.Goals as goal

pub returns-clause-widest : goal.returns-clause-widest
returns-clause-widest c =
    let text = c.args.text.now in
    let none = ap (λ rest. widest (lines_behind rest)) c.in_default.is in
    let all : c.loop-rest.widest ≡ widest (shown_lines (pieces text)) = omega (arith, none, c.loop-rest.invariant.1) in
    all ∙ sym (text_widest text)
