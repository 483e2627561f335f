-- Printable ASCII is its only line, and each byte takes a column.
use Rattle.std.proofs.Common.{rules, ◌≡◌, length, refl, string_bytes, subst, sym}
use Rattle.grid_records_traits.specs.Cells.{HasWidth}
use Rattle.basinmug_cells.proofs.Lines.{printable-single}
use Rattle.basinmug_cells.proofs.short_text.ShortText.of_printable.Goals as goal

pub invariant_of-result : goal.invariant_of-result
invariant_of-result c =
    let text = string_bytes c.args.text in
    let single = printable-single text c.requires in
    let long : c.len-width.result ≡ length text = search rules in
    record { measured = record { are_lines = single.0; is_width = subst (HasWidth text) (sym long) single.1; whole = λ yes. (refl, single.2) } }
