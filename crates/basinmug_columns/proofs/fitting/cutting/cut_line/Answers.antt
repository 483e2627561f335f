-- A line that is wider than its column.
use Rattle.std.proofs.Common.{◌≡◌, ◌∙◌, ap, sym, ℕ, ◌<◌, Bool, true, List, arith, if◌then◌else◌}
use Rattle.std.specs.Prelude.{nat_lt}
use Rattle.std.proofs.lemmas.Bool.Decides.{nat_tests}
use Rattle.grid_records_measure.specs.TextLines.{line_width}
use Rattle.basinmug_columns.specs.Fitting.Fitting.{cut_line, shortened}
use Rattle.basinmug_columns.proofs.FittingLemmas.Lined.{told}
use Rattle.basinmug_columns.proofs.fitting.cutting.cut_line.Goals as goal

wide : (room width : ℕ) → room < width → nat_lt room width ≡ true
wide room width more = grind (arith, nat_tests)

wide-cut : (room width : ℕ) (line : List ℕ) → width ≡ line_width line → room < width → shortened room line ≡ cut_line room line
wide-cut room width line is more = sym (ap (λ (b : Bool). if b then shortened room line else line) (ap (nat_lt room) (sym is) ∙ wide room width more))

pub returns : goal.returns
returns c =
    let line = c.args.line.now in
    told c.shortened.result _ _ (wide-cut c.args.room c.get_line_width.result line c.get_line_width.ensures.text c.if-get_line_width-room.false) c.shortened.ensures
