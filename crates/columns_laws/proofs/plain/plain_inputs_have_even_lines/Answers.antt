use Rattle.columns_laws.proofs.PlainLemmas.EvenLines.{even-plain}
use Rattle.columns_laws.proofs.plain.plain_inputs_have_even_lines.Goals as goal

pub returns : goal.returns
returns c = λ wanted input y runnable is inside. even-plain wanted input y runnable.narrow runnable.close is inside
