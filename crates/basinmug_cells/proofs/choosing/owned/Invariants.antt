use Rattle.std.proofs.Common.{◌≡◌, take}
use Rattle.basinmug_cells.specs.Held.{owned}
use Rattle.basinmug_cells.specs.OwnTexts.{own_texts}
use Rattle.basinmug_cells.proofs.choosing.owned.Given as goal

abbrev pub invariant-loop-place : goal.invariant-loop-place
invariant-loop-place l = own_texts l.kept.items ≡ owned (take l.place-index l.places.items) (own_texts l.own)
