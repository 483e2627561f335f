use Rattle.std.proofs.Common.{◌≡◌, ◌==◌, ℕ, Bool, true, false, not, Option, Some, None, is_some, List, length, refl, sym, ◌∙◌}
use Rattle.std.specs.Iterator.{YieldsFirst}
use Rattle.ansi_scan.specs.Pieces.{pieces}
use Rattle.ansi_scan.specs.Attributes.{plain_attributes}
use Rattle.ansi_scan.proofs.Existence.{ArePiecesOf-pieces}
use Rattle.ansi_str.specs.Blocks.{Block, blocks_from}
use Rattle.columns_run.specs.Rows.{stripped}
use Rattle.columns_run.proofs.Parts.{bare-none, bare-some}
use Rattle.columns_run.proofs.styled_rows.is_bare.Goals as goal

not_not : (a b : Bool) → a ≡ not b → not a ≡ b
not_not true true e = cc e
not_not true false e = refl
not_not false true e = refl
not_not false false e = cc e

found : (text : List ℕ) (blocks rest : List Block) (first : Option Block) → blocks ≡ blocks_from plain_attributes (pieces text) → YieldsFirst (λ (bs : List Block). bs) blocks first rest → not (is_some first) ≡ (length (stripped text) == 0)
found text blocks rest None is yields = sym (bare-none text (sym is ∙ yields.0))
found text blocks rest (Some block) is yields = sym (bare-some text block rest (sym is ∙ yields))

pub returns : goal.returns
returns c =
    sym (not_not (is_some c.next.result) c.is_none.result c.is_none.ensures)
    ∙ found c.args.text.now c.get_blocks.result c.next.new.self c.next.result (c.get_blocks.ensures.blocks (pieces c.args.text.now) (ArePiecesOf-pieces c.args.text.now)) c.next.ensures.steps
