use Rattle.columns_laws.proofs.LibraryLemmas.StreamedTables.{one-stream}
use Rattle.columns_laws.proofs.library.streamed_tables_sniff_all_rows.Goals as goal

pub returns : goal.returns
returns c = λ wanted input sniffed alone all low. one-stream wanted input sniffed alone.0 alone.1 all low
