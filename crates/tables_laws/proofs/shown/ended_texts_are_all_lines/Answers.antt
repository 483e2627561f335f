use Rattle.tables_laws.proofs.ShownLemmas.EndedTexts.{ended-chosen}
use Rattle.tables_laws.proofs.shown.ended_texts_are_all_lines.Goals as goal

pub returns : goal.returns
returns c = ended-chosen
