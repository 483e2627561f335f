use Rattle.std.proofs.Common.{refl}
use Rattle.columns_run.specs.DrawnTables.{picture_without_colors}
use Rattle.columns_run.specs.Wanted.{without_colors}
use Rattle.columns_run.proofs.Colorless.{accepted-uncolored, refuses-uncolored}
use Rattle.columns_run.proofs.Colors.{output-uncolored, picture-uncolored, uncolored-same}
use Rattle.columns_run.proofs.laws.tables_without_colors.Goals as goal

pub returns-clause-same : goal.returns-clause-same
returns-clause-same c = uncolored-same

pub returns-clause-output : goal.returns-clause-output
returns-clause-output c = λ wanted input. output-uncolored (without_colors wanted) input refl

pub returns-clause-picture : goal.returns-clause-picture
unfolding picture_without_colors
returns-clause-picture c = λ wanted input. picture-uncolored (without_colors wanted) input refl

pub returns-clause-drawn : goal.returns-clause-drawn
unfolding picture_without_colors
returns-clause-drawn c = λ wanted characters. refl

pub returns-clause-accepted : goal.returns-clause-accepted
returns-clause-accepted c = accepted-uncolored

pub returns-clause-refuses : goal.returns-clause-refuses
returns-clause-refuses c = refuses-uncolored
