-- No byte may begin a hidden character.
use Rattle.basinmug_input.proofs.ClearBytes.{clear-shown}
use Rattle.basinmug_input.proofs.parts.is_line.Goals as goal

pub returns-then-clear : goal.returns-then-clear
returns-then-clear c = λ _. clear-shown c.args.escapes c.args.field.now c.utf8.field (c.requires c.if-clear.true)
