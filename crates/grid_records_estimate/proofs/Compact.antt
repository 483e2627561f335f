-- The settings of a compact table give the same sizes as settings of a table that begins with them.
use Rattle.std.proofs.Common.{◌≡◌}
use Rattle.grid_config.specs.Compact.{Compact}
use Rattle.grid_config.specs.Settings.{Settings, StartsWith, compact_start}
use Rattle.grid_config.proofs.Looks.{same_look}
use Rattle.grid_records_estimate.specs.Alike.{HaveSameSizes}
use Rattle.grid_records_estimate.specs.Sizing.{compact_sizing, sizing_of}
use Rattle.grid_records_estimate.proofs.Alike.{compact_look-sizes}

-- both look the same
pub start-sizes : (compact : Compact) (settings : Settings) → StartsWith (compact_start compact) settings → HaveSameSizes (sizing_of settings) (compact_sizing compact)
start-sizes compact settings start = compact_look-sizes settings compact (same_look compact settings start)

-- and what sizes follow from is one
pub compact-sizing : (compact : Compact) (settings : Settings) → StartsWith (compact_start compact) settings → sizing_of settings ≡ compact_sizing compact
compact-sizing compact settings start = λ i. record {
  margin = start.margin i;
  borders = start.borders i;
  padding = λ place. start.padding place i;
  spans = start.spans i;
}
