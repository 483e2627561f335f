use Rattle.columns_laws.proofs.BoundsLemmas.CellBounds.{cut-bounded, wrapped-bounded}
use Rattle.columns_laws.proofs.BoundsLemmas.TableBounds.{never-refused, never-too_wide, never-wide}
use Rattle.columns_laws.proofs.bounds.no_line_is_too_wide.Goals as goal

pub returns : goal.returns
returns c = record { wrapped = wrapped-bounded; cut = cut-bounded; tables = never-too_wide; runs = never-wide; never = never-refused }
