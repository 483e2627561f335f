-- The first line comes off.
use Rattle.std.proofs.Common.{◌≡◌, ◌∙◌, [], List, Option, ℕ, ap, drop, false, subst, sym}
use Rattle.std.specs.Borrow.{Bor}
use Rattle.std.specs.Prelude.{slice_index_or}
use Rattle.ansi_str.specs.StyledText.{has_escape}
use Rattle.grid_records_measure.specs.RawLines.{lines_behind}
use Rattle.papergrid_cells.proofs.PlainLines.{IsPlainRest, split_plain}
use Rattle.papergrid_cells.proofs.cell_lines.reading.first_line.Goals as goal

pub returns-in-Some : goal.returns-in-Some
returns-in-Some c =
    let text = c.in-Some.text.now in
    let plain : has_escape text ≡ false = subst IsPlainRest c.in-Some.is c.requires in
    let next = split_plain text c.split_line.result.0.now c.split_line.result.1 plain c.split_line.ensures.parted c.split_line.ensures.lines in
    record {
      line = sym (ap (λ (lines : List (List ℕ)). slice_index_or lines 0 []) next.0) ∙ ap (λ (rest : Option (Bor (List ℕ))). slice_index_or (lines_behind rest) 0 []) (sym c.in-Some.is);
      left = sym (ap (drop 1) next.0) ∙ ap (λ (rest : Option (Bor (List ℕ))). drop 1 (lines_behind rest)) (sym c.in-Some.is);
      plain = next.1;
    }
