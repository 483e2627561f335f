-- It is known to be one line.
use Rattle.std.proofs.Common.{◌≡◌, List, string_bytes, subst, sym, true, ℕ}
use Rattle.grid_records_traits.specs.Cells.{HasLineCount}
use Rattle.grid_records_traits.specs.SingleLines.{IsSingleLine}
use Rattle.basinmug_cells.proofs.short_text.ShortTextCell.single_line.Goals as goal

pub returns-clause-single_line : goal.returns-clause-single_line
returns-clause-single_line c =
    let short = c.args.self.now in
    let yes : short.is_line ≡ true = c.if-not-self.false in
    let whole = short.measured.whole yes in
    subst (λ (text : List ℕ). IsSingleLine text short.width) (sym c.as_str.ensures.value) (subst (HasLineCount (string_bytes short.text)) whole.0 short.measured.are_lines, short.measured.is_width, whole.1)
