use Rattle.std.specs.Option.{option_map}
use Rattle.std.proofs.lemmas.Result.{on_ok_weaker}
use Rattle.grid_config.specs.Colors.{color_of}
use Rattle.papergrid_cells.proofs.PrintedGlyphs.{appended3, filled}
use Rattle.papergrid_cells.proofs.painting.push_some.Goals as goal

pub returns : goal.returns
returns c =
    on_ok_weaker c.change_color-2.result
    (λ last. appended3 _ _ _ _ c.in_ok-change_color.ensures c.in_ok-push_repeated.ensures last (filled (option_map color_of c.args.color) c.args.character c.args.width c.requires))
    c.change_color-2.ensures
