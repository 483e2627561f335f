use Rattle.grid_config_values.specs.Glyphs.{crossing}
use Rattle.tabled_pool.specs.Boxes.Crossings.{kind_between}
use Rattle.tabled_pool.proofs.BoxesLemmas.SetGlyphs.{set-or-space}
use Rattle.tabled_pool.proofs.boxes.laws.crossings_are_set.Goals as goal

pub returns : goal.returns
returns c = λ look up down left right.
    let row = kind_between up down in
    let column = kind_between left right in
    (row, column, set-or-space (crossing look.borders row column))
