-- Where some are left out, the line is an ellipsis.
use Rattle.std.proofs.Common.{◌≡◌, ◌∙◌, ◌<◌, ◌++◌, ◌∷◌, [], List, ℕ, Bool, false, ap, arith, if◌then◌else◌, subst, sym}
use Rattle.std.specs.Prelude.{◌==◌}
use Rattle.std.proofs.lemmas.Bool.{ne_eqb}
use Rattle.grid_records_measure.specs.TextLines.{line_feed}
use Rattle.tabled_output.specs.Pieces.{HasPassed}
use Rattle.basinmug_columns.specs.Fitting.Fitting.{ellipsis}
use Rattle.basinmug_expanded.specs.Records.{ended_lines, gap_lines}
use Rattle.basinmug_expanded.proofs.writing.write_gap.Goals as goal

gap-line : (left_out : ℕ) → 0 < left_out → ended_lines (gap_lines left_out) ≡ ellipsis ++ line_feed ∷ []
gap-line left_out some =
    let there : (left_out == 0) ≡ false = ne_eqb left_out 0 (λ none. omega (arith, some, none)) in
    ap (λ (none : Bool). ended_lines (if none then [] else ellipsis ∷ [])) there

pub returns-in_ok-write_piece : goal.returns-in_ok-write_piece
returns-in_ok-write_piece g c =
    let bytes = c.as_bytes.ensures.value ∙ sym (gap-line c.args.left_out c.if-left_out-gt0.true) in
    subst (λ (text : List ℕ). HasPassed g.W.Write.contents text [] c.args.writer.now c.write_piece.new.writer) bytes c.in_ok-write_piece.ensures.passed
