use Rattle.std.specs.Prelude.{None}
use Rattle.grid_config.specs.Looks.{compact_look}
use Rattle.tabled_text.specs.Rows.{filled}
use Rattle.columns_run.specs.Rows.{cell_parts}
use Rattle.columns_laws.proofs.LibraryLemmas.ColorSettings.{settings-lead}
use Rattle.columns_laws.proofs.library.columns_are_colored_by_settings.Goals as goal

pub returns : goal.returns
returns c = λ wanted input. settings-lead (filled (cell_parts input)) (compact_look wanted.style) wanted.colors (λ _. None)
