use Rattle.std.proofs.Common.{◌∙◌, false, true, sym}
use Rattle.tabled_width.proofs.TablesLemmas.Rooming.{as_one, no_boundaries}
use Rattle.grid_config.specs.Looks.{look_of}
use Rattle.tabled_width.proofs.tables.rooms.boundaries_between.Goals as goal
use Rattle.tabled_width.proofs.tables.rooms.boundaries_between.Goals.{else-count-gt1-via-then-count-gt1+else-has_vertical, else-count-gt1-via-else-count-gt1}

pub returns-then-has_vertical : goal.returns-then-has_vertical
returns-then-has_vertical c =
    sym (as_one (look_of c.args.cfg.now) c.args.columns c.args.first c.args.count c.if-count-gt1.true c.requires true (sym c.has_vertical.ensures ∙ c.if-has_vertical.true))

pub returns-else-count-gt1 : goal.returns-else-count-gt1
returns-else-count-gt1 c =
    let look = look_of c.args.cfg.now in
    elim c.else-count-gt1.branch [
      | else-count-gt1-via-then-count-gt1+else-has_vertical w ↦
          sym (as_one look c.args.columns c.args.first c.args.count w.if-count-gt1.true c.requires false (sym w.has_vertical.ensures ∙ w.if-has_vertical.false))
      | else-count-gt1-via-else-count-gt1 w ↦ sym (no_boundaries look c.args.columns c.args.first c.args.count w.if-count-gt1.false)
    ]
