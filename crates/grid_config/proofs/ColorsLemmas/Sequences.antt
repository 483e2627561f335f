-- Texts without text: those without blocks.
use Rattle.std.proofs.Common.{◌≡◌, ◌≢◌, ℕ, Bool, true, false, not, Option, None, Some, List, [], ◌∷◌, ◌++◌, refl, sym, subst, ◌∙◌, ◌↔◌}
use Rattle.std.specs.Prelude.{IsTrue}
use Rattle.std.specs.Option.{is_some}
use Rattle.std.specs.Iterator.{YieldsFirst}
use Rattle.std.proofs.lemmas.Bool.{false≢true}
use Rattle.grid_config.specs.Ansi.Closing.{AreSequences}
use Rattle.std.specs.List.{AllByRecursion}
use Rattle.ansi_scan.specs.declared.items.Kind.{Kind}
use Rattle.ansi_scan.specs.declared.items.Kind.TheVariants.{Text, Sgr, Csi, Osc, Esc, Str, Broken}
use Rattle.ansi_scan.specs.Sequences.{Piece, ArePiecesOf, NoneBroken, IsWhole}
use Rattle.ansi_scan.specs.Attributes.{Attributes}
use Rattle.ansi_scan.proofs.Uniqueness.{ArePiecesOf-unique}
use Rattle.ansi_str_search.specs.Text.StyledText.{style_after}
use Rattle.ansi_str_search.specs.Text.Blocks.{Block, block_if, blocks_from}

abbrev NoText : List Piece → Type 0
NoText pieces = AllByRecursion (λ piece. piece.kind ≢ Text) pieces

block_if-none : (kind : Kind) (bytes : List ℕ) (style : Attributes) (others : List Block) → kind ≢ Text → block_if kind bytes style ++ others ≡ others
block_if-none Text bytes style others no_text = absurd (no_text refl)
block_if-none Sgr bytes style others no_text = refl
block_if-none Csi bytes style others no_text = refl
block_if-none Osc bytes style others no_text = refl
block_if-none Esc bytes style others no_text = refl
block_if-none Str bytes style others no_text = refl
block_if-none Broken bytes style others no_text = refl

none-block_if : (kind : Kind) (bytes : List ℕ) (style : Attributes) (others : List Block) → block_if kind bytes style ++ others ≡ [] → (kind ≢ Text) × (others ≡ [])
none-block_if Text bytes style others none = absurd (cc none)
none-block_if Sgr bytes style others none = (λ e. cc e, none)
none-block_if Csi bytes style others none = (λ e. cc e, none)
none-block_if Osc bytes style others none = (λ e. cc e, none)
none-block_if Esc bytes style others none = (λ e. cc e, none)
none-block_if Str bytes style others none = (λ e. cc e, none)
none-block_if Broken bytes style others none = (λ e. cc e, none)

blocks_from-NoText : (style : Attributes) (pieces : List Piece) → NoText pieces → blocks_from style pieces ≡ []
blocks_from-NoText style [] no_text = refl
blocks_from-NoText style (piece ∷ pieces) no_text =
    block_if-none piece.kind piece.bytes style (blocks_from (style_after style piece) pieces) no_text.0
    ∙ blocks_from-NoText (style_after style piece) pieces no_text.1

NoText-blocks_from : (style : Attributes) (pieces : List Piece) → blocks_from style pieces ≡ [] → NoText pieces
NoText-blocks_from style [] none = tt
NoText-blocks_from style (piece ∷ pieces) none =
    let both = none-block_if piece.kind piece.bytes style (blocks_from (style_after style piece) pieces) none in
    (both.0, NoText-blocks_from (style_after style piece) pieces both.1)

-- the pieces of a whole text
NoneBroken-whole : (text : List ℕ) (pieces : List Piece) → ArePiecesOf text pieces → IsWhole text → NoneBroken pieces
NoneBroken-whole text pieces of_text whole =
    subst (λ (found : List Piece). NoneBroken found) (ArePiecesOf-unique text whole.pieces pieces whole.of_text of_text) whole.none_broken

-- an iterator that gives nothing has nothing left
gives_nothing : (blocks rest : List Block) (found : Option Block) (is_none : Bool) → YieldsFirst (λ left. left) blocks found rest → is_some found ≡ not is_none
    → (IsTrue is_none → blocks ≡ []) × (blocks ≡ [] → IsTrue is_none)
gives_nothing blocks rest None true steps same = (λ none. steps.0, λ none. refl)
gives_nothing blocks rest None false steps same = absurd (false≢true same)
gives_nothing blocks rest (Some block) true steps same = absurd (false≢true (sym same))
gives_nothing blocks rest (Some block) false steps same = (λ none. absurd (false≢true none), λ none. absurd (cc (sym steps ∙ none)))

-- whole, and no block of it: that is what sequences are
pub AreSequences-decides : (text : List ℕ) (pieces : List Piece) (style : Attributes) (blocks rest : List Block) (found : Option Block) (is_none : Bool)
    → ArePiecesOf text pieces → IsWhole text → blocks ≡ blocks_from style pieces → YieldsFirst (λ left. left) blocks found rest → is_some found ≡ not is_none
    → IsTrue is_none ↔ AreSequences pieces
AreSequences-decides text pieces style blocks rest found is_none of_text whole are steps same =
    let nothing = gives_nothing blocks rest found is_none steps same in (
      λ none. record { whole = NoneBroken-whole text pieces of_text whole; no_text = NoText-blocks_from style pieces (sym are ∙ nothing.0 none) },
      λ form. nothing.1 (are ∙ blocks_from-NoText style pieces form.no_text),
    )

pub AreSequences-whole : (text : List ℕ) (pieces : List Piece) → ArePiecesOf text pieces → AreSequences pieces → IsWhole text
AreSequences-whole text pieces of_text form = record { pieces = pieces; of_text = of_text; none_broken = form.whole }
