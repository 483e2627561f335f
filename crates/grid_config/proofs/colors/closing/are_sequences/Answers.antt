use Rattle.ansi_scan.specs.Attributes.{plain_attributes}
use Rattle.grid_config.proofs.ColorsLemmas.Sequences.{AreSequences-decides}
use Rattle.grid_config.proofs.colors.closing.are_sequences.Goals as goal

pub returns-then-is_whole : goal.returns-then-is_whole
returns-then-is_whole c = λ pieces of_text.
    AreSequences-decides c.args.text.now pieces plain_attributes c.get_blocks.result c.next.new.self c.next.result c.is_none.result
    of_text (c.is_whole.ensures.0 c.if-is_whole.true) (c.get_blocks.ensures.blocks pieces of_text) c.next.ensures.steps c.is_none.ensures
