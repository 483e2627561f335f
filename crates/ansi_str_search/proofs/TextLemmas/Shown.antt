-- What the blocks of a text show.
use Rattle.std.proofs.Common.{◌≡◌, ℕ, List, [], ◌∷◌, ◌++◌, flat_map, map, refl, ap, sym, ◌∙◌, append-nil}
use Rattle.std.specs.Prelude.{chars}
use Rattle.std.proofs.lemmas.List.Concat.{flat_map-append}
use Rattle.std.proofs.lemmas.Str.{chars-nil}
use Rattle.ansi_scan.specs.declared.items.Kind.{Kind}
use Rattle.ansi_scan.specs.declared.items.Kind.TheVariants.{Text, Sgr, Csi, Osc, Esc, Str, Broken}
use Rattle.ansi_scan.specs.Sequences.{Piece}
use Rattle.ansi_scan.specs.Attributes.{Attributes}
use Rattle.ansi_str_search.specs.Text.StyledText.{shown, strip, style_after, styled_from}
use Rattle.ansi_str_search.specs.Text.Blocks.{block_if, blocks_from, text_of_block, styled_of_block}

text_of_block-if : (kind : Kind) (bytes : List ℕ) (style : Attributes) → flat_map text_of_block (block_if kind bytes style) ≡ shown kind bytes
text_of_block-if Text bytes style = append-nil bytes
text_of_block-if Sgr bytes style = refl
text_of_block-if Csi bytes style = refl
text_of_block-if Osc bytes style = refl
text_of_block-if Esc bytes style = refl
text_of_block-if Str bytes style = refl
text_of_block-if Broken bytes style = refl

-- the texts of the blocks are the text without its sequences
pub text_of_block-blocks_from : (style : Attributes) (pieces : List Piece) → flat_map text_of_block (blocks_from style pieces) ≡ strip pieces
text_of_block-blocks_from style [] = refl
text_of_block-blocks_from style (piece ∷ pieces) =
    flat_map-append text_of_block (block_if piece.kind piece.bytes style) (blocks_from (style_after style piece) pieces)
    ∙ ap (λ bytes. bytes ++ flat_map text_of_block (blocks_from (style_after style piece) pieces)) (text_of_block-if piece.kind piece.bytes style)
    ∙ ap (λ bytes. shown piece.kind piece.bytes ++ bytes) (text_of_block-blocks_from (style_after style piece) pieces)

abbrev pub with_style : Attributes → List ℕ → List (ℕ × Attributes)
with_style style characters = map (λ c. (c, style)) characters

nothing_styled : (style : Attributes) → ◌≡◌ {A = List (ℕ × Attributes)} [] (with_style style (chars []))
nothing_styled style = ap (with_style style) (sym chars-nil)

styled_of_block-if : (kind : Kind) (bytes : List ℕ) (style : Attributes) → flat_map styled_of_block (block_if kind bytes style) ≡ with_style style (chars (shown kind bytes))
styled_of_block-if Text bytes style = append-nil (with_style style (chars bytes))
styled_of_block-if Sgr bytes style = nothing_styled style
styled_of_block-if Csi bytes style = nothing_styled style
styled_of_block-if Osc bytes style = nothing_styled style
styled_of_block-if Esc bytes style = nothing_styled style
styled_of_block-if Str bytes style = nothing_styled style
styled_of_block-if Broken bytes style = nothing_styled style

-- the characters of the blocks with their styles are the styled characters of the text
pub styled_of_block-blocks_from : (style : Attributes) (pieces : List Piece) → flat_map styled_of_block (blocks_from style pieces) ≡ styled_from style pieces
styled_of_block-blocks_from style [] = refl
styled_of_block-blocks_from style (piece ∷ pieces) =
    flat_map-append styled_of_block (block_if piece.kind piece.bytes style) (blocks_from (style_after style piece) pieces)
    ∙ ap (λ characters. characters ++ flat_map styled_of_block (blocks_from (style_after style piece) pieces)) (styled_of_block-if piece.kind piece.bytes style)
    ∙ ap (λ characters. with_style style (chars (shown piece.kind piece.bytes)) ++ characters) (styled_of_block-blocks_from (style_after style piece) pieces)
