use Rattle.std.proofs.Common.{None}
use Rattle.tables_laws.specs.Characters.AdditiveCharacters.{is_additive}
use Rattle.tables_laws.specs.Grids.TextsOf.{IsTextOf}
use Rattle.basinmug_run.specs.Kept.{rows_shown, shown_rows}
use Rattle.basinmug_laws.proofs.AdditiveLemmas.EvenPrints.{printed-measured}
use Rattle.basinmug_laws.proofs.AdditiveLemmas.EvenTables.{lines-even}
use Rattle.basinmug_laws.proofs.ShownLemmas.KeptRows.{shown-all}
use Rattle.basinmug_laws.proofs.additive.lines_of_additive_records_are_even.Goals as goal

pub returns-clause-table : goal.returns-clause-table
returns-clause-table c = λ options shown rows s chooses closing texts is fits. lines-even options shown rows closing texts s chooses is fits

pub returns-clause-shown : goal.returns-clause-shown
returns-clause-shown c = λ options shown rows counts wider old new closing texts in_box prints. printed-measured options shown rows counts closing texts wider old new in_box prints

pub returns-clause-print : goal.returns-clause-print
returns-clause-print c = λ options rows wider old new closing texts in_box prints.
    printed-measured options (rows_shown options rows) (shown_rows options rows) None closing (shown-all (IsTextOf is_additive) options rows texts) wider old new in_box prints
