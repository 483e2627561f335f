-- A look that is bare has no colours, so they show nothing.
use Rattle.std.proofs.Common.{[], Option, None, Some, sym, subst}
use Rattle.grid_config.specs.Closing.{AreSequences}
use Rattle.grid_config.specs.Colors.{Color, no_color}
use Rattle.grid_config.specs.Looks.{Look}
use Rattle.grid_config_values.specs.Glyphs.{along_column, crossing, in_row}
use Rattle.grid_config_values.specs.declared.sides.Sides.{Sides}
use Rattle.papergrid_picture.specs.Colors.ClosingColors.{ShowsNothing}
use Rattle.papergrid_picture.specs.Shown.{IsColoredBy, OnEachSide, WritesNothing}
use Rattle.papergrid_picture.proofs.Shown.{pieces-nothing}
use Rattle.tables_laws.specs.Grids.CountedLooks.{IsSilent}

nothing : ShowsNothing no_color
nothing =
    let form : AreSequences [] = record { whole = tt; no_text = tt } in
    record { prefix_form = subst AreSequences (sym pieces-nothing) form; suffix_form = subst AreSequences (sym pieces-nothing) form }

silent : (color : Option Color) → WritesNothing color → IsSilent color
silent None is = tt
silent (Some color) is = subst ShowsNothing (sym is) nothing

sides : (colors : Sides (Option Color)) → OnEachSide WritesNothing colors → OnEachSide IsSilent colors
sides colors is = (silent colors.left is.0, silent colors.right is.1, silent colors.top is.2, silent colors.bottom is.3)

pub bare-silent : (look : Look) → IsColoredBy WritesNothing look → IsColoredBy IsSilent look
bare-silent look none = record {
  crossings = λ row column. silent (crossing look.borders_color row column) (none.crossings row column);
  along_columns = λ kind. silent (along_column look.borders_color kind) (none.along_columns kind);
  in_rows = λ kind. silent (in_row look.borders_color kind) (none.in_rows kind);
  margins = sides look.margin_color none.margins;
  paddings = λ cell. sides (look.padding_color cell) (none.paddings cell);
  justification = λ cell. silent (look.justification_color cell) (none.justification cell);
}
