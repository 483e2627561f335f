-- Which colours close: what the prefix sets (SELECT GRAPHIC RENDITION, ECMA-48, 8.3.117), the suffix
-- clears.
use Rattle.std.specs.Prelude.{◌≡◌, ◌≢◌, List}
use Rattle.std.specs.List.{AllByRecursion}
use Rattle.ansi_scan.specs.declared.items.Kind.TheVariants.{Text}
use Rattle.ansi_scan.specs.Sequences.{Piece, NoneBroken, ArePiecesOf}
use Rattle.ansi_scan.specs.Attributes.{Attributes, plain_attributes}
use Rattle.ansi_str_search.specs.Text.StyledText.{style_after_all}
use Rattle.grid_config.specs.Ansi.Colors.{Color}

-- whole, and without text
pub record AreSequences (pieces : List Piece) : Type 0 where
  pub whole : NoneBroken pieces
  pub no_text : AllByRecursion (λ piece. piece.kind ≢ Text) pieces

-- the pieces clear the style: read from plain, and read from it, they end plain
pub record Clears (style : Attributes) (pieces : List Piece) : Type 0 where
  pub from_plain : style_after_all plain_attributes pieces ≡ plain_attributes
  pub from_style : style_after_all style pieces ≡ plain_attributes

-- the colour closes: both texts are sequences, and the suffix clears the style that the prefix leaves
pub record Closes (color : Color) : Type 0 where
  pub prefix : List Piece
  pub of_prefix : ArePiecesOf color.prefix prefix
  pub prefix_form : AreSequences prefix
  pub suffix : List Piece
  pub of_suffix : ArePiecesOf color.suffix suffix
  pub suffix_form : AreSequences suffix
  pub clears : Clears (style_after_all plain_attributes prefix) suffix
