use Rattle.std.proofs.Common.{None}
use Rattle.tables_laws.specs.Characters.AdditiveCharacters.{is_spacing}
use Rattle.tables_laws.specs.Grids.TextsOf.{IsTextOf}
use Rattle.basinmug_run.specs.Kept.{rows_shown, shown_rows}
use Rattle.basinmug_laws.proofs.AdditiveLemmas.EvenPrints.{printed-cost}
use Rattle.basinmug_laws.proofs.AdditiveLemmas.EvenTables.{lines-cost, plain-rows}
use Rattle.basinmug_laws.proofs.ShownLemmas.KeptRows.{shown-all}
use Rattle.basinmug_laws.proofs.additive.lines_of_plain_records_are_even.Goals as goal

pub returns-clause-table : goal.returns-clause-table
returns-clause-table c = λ options shown rows s chooses closing plain is fits. lines-cost options shown rows closing (plain-rows rows plain) s chooses is fits

pub returns-clause-shown : goal.returns-clause-shown
returns-clause-shown c = λ options shown rows counts wider old new closing plain in_box prints. printed-cost options shown rows counts closing (plain-rows rows plain) wider old new in_box prints

pub returns-clause-print : goal.returns-clause-print
returns-clause-print c = λ options rows wider old new closing plain in_box prints.
    printed-cost options (rows_shown options rows) (shown_rows options rows) None closing (shown-all (IsTextOf is_spacing) options rows (plain-rows rows plain)) wider old new in_box prints
