-- The lemmas of `Shown`.
use Rattle.ansi_scan.specs.Attributes.{plain_attributes}
use Rattle.ansi_str_search.proofs.TextLemmas.Shown.{text_of_block-blocks_from, styled_of_block-blocks_from}
use Rattle.ansi_str_search.proofs.text.laws.blocks_in_order.Goals as goal

pub returns-clause-text : goal.returns-clause-text
returns-clause-text c = text_of_block-blocks_from plain_attributes

pub returns-clause-characters : goal.returns-clause-characters
returns-clause-characters c = styled_of_block-blocks_from plain_attributes
