-- What is left, read on from here, gives what the whole gives.
use Rattle.std.proofs.Common.{drop, ◌≡◌, Some}
use Rattle.basinmug_input.specs.declared.renditions.Awaited.TheVariants.{Code}
use Rattle.basinmug_input.proofs.Settings.{read_on}
use Rattle.basinmug_input.proofs.renditions.are_settings.Given as goal

abbrev pub invariant-loop-byte : goal.invariant-loop-byte
invariant-loop-byte l = read_on l.awaited l.number (drop l.byte-index l.parameters) ≡ read_on Code (Some 0) l.parameters
