use Rattle.columns_laws.proofs.LibraryLemmas.FilledRows.{filled-even}
use Rattle.columns_laws.proofs.LibraryLemmas.SameTexts.{one-table}
use Rattle.columns_laws.proofs.library.both_programs_draw_one_table.Goals as goal

pub returns : goal.returns
returns c = record { table = one-table; even_rows = filled-even }
