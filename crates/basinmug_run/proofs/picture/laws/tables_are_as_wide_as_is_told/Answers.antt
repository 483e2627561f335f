use Rattle.std.proofs.Common.{◌≡◌, ◌∙◌, ◌≤◌, ap, sym, ℕ, false, List, Option, None, Some}
use Rattle.std.specs.Io.KnownBytes.{Appends}
use Rattle.std.proofs.lemmas.Bool.{ltb-false}
use Rattle.tabled.specs.Totals.{drawn_width}
use Rattle.tabled_steps.specs.States.{State}
use Rattle.basinmug_run.specs.declared.options.Options.{Options}
use Rattle.basinmug_run.specs.Picture.Pictures.{IsTable, is_wider}
use Rattle.basinmug_run.specs.Kept.{rows_shown, shown_rows}
use Rattle.basinmug_run.specs.Picture.Printed.{Prints, text_of}
use Rattle.basinmug_run.proofs.picture.laws.tables_are_as_wide_as_is_told.Goals as goal

no-wider : (options : Options) (rows : List (List (List ℕ))) (width : ℕ) (old new : Option (List ℕ)) → options.width ≡ Some width → Prints options rows false old new
    → (s : State) × IsTable options (rows_shown options rows) (shown_rows options rows) s × (drawn_width s ≤ width) × Appends old new (text_of options (rows_shown options rows) (shown_rows options rows) None s)
no-wider options rows width old new is (named, (s, made, fit, wider, taken)) =
    (s, made, ltb-false width (drawn_width s) (sym (ap (λ (asked : Option ℕ). is_wider asked s) is) ∙ sym wider), taken)

pub returns : goal.returns
returns c = no-wider
