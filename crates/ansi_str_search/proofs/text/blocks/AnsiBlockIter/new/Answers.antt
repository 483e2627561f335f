use Rattle.std.proofs.Common.{◌∙◌, List, ap}
use Rattle.ansi_scan.specs.Sequences.{Piece}
use Rattle.ansi_scan.specs.Attributes.{Attributes, plain_attributes}
use Rattle.ansi_scan.specs.Pieces.{pieces}
use Rattle.ansi_scan.proofs.Uniqueness.{pieces-ArePiecesOf}
use Rattle.ansi_str_search.specs.Text.Blocks.{blocks_from}
use Rattle.ansi_str_search.proofs.TextLemmas.FirstBlock.{length-blocks}
use Rattle.ansi_str_search.proofs.text.blocks.AnsiBlockIter.new.Goals as goal

pub returns-clause-blocks : goal.returns-clause-blocks
returns-clause-blocks c = λ found of_text.
    ap (λ (style : Attributes). blocks_from style (pieces c.args.text.now)) c.plain.ensures
    ∙ ap (λ (of_it : List Piece). blocks_from plain_attributes of_it) (pieces-ArePiecesOf c.args.text.now found of_text)

pub returns-clause-count : goal.returns-clause-count
returns-clause-count c = length-blocks c.plain.result c.args.text.now
