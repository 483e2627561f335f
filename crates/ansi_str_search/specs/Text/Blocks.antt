-- The blocks of a text: its pieces of text, each with the style that it shows.
use Rattle.std.specs.Prelude.{ℕ, List, [], ◌∷◌, ◌++◌, map, chars}
use Rattle.ansi_scan.specs.declared.items.Kind.{Kind}
use Rattle.ansi_scan.specs.declared.items.Kind.TheVariants.{Text, Sgr, Csi, Osc, Esc, Str, Broken}
use Rattle.ansi_scan.specs.Sequences.{Piece}
use Rattle.ansi_scan.specs.Attributes.{Attributes}
use Rattle.ansi_str_search.specs.Text.StyledText.{style_after}

-- a piece of text, and the style that it shows
pub record Block : Type 0 where
  pub text : List ℕ
  pub style : Attributes

-- a text with its style, and no block for a sequence
abbrev pub block_if : Kind → List ℕ → Attributes → List Block
block_if Text bytes style = record { text = bytes; style = style } ∷ []
block_if Sgr bytes style = []
block_if Csi bytes style = []
block_if Osc bytes style = []
block_if Esc bytes style = []
block_if Str bytes style = []
block_if Broken bytes style = []

-- a block for each Text piece, with the style known before it, where this one is known before all
abbrev pub blocks_from : Attributes → List Piece → List Block
blocks_from style [] = []
blocks_from style (piece ∷ pieces) = block_if piece.kind piece.bytes style ++ blocks_from (style_after style piece) pieces

-- the text of a block, and its characters, each with its style
abbrev pub text_of_block : Block → List ℕ
text_of_block block = block.text

abbrev pub styled_of_block : Block → List (ℕ × Attributes)
styled_of_block block = map (λ c. (c, block.style)) (chars block.text)
