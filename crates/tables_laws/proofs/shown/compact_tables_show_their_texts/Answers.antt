use Rattle.std.proofs.Common.{◌≡◌, ℕ, List, subst, sym, drop}
use Rattle.grid_config.specs.Looks.{compact_look}
use Rattle.papergrid.specs.Compact.{one_line, without_high_padding}
use Rattle.papergrid_picture.specs.Shown.{Shows}
use Rattle.tabled_compact.specs.Tables.{Compacted, first_or_all, no_colors, printed as compact_text}
use Rattle.tabled_list.specs.Stripping.Printing.{printed}
use Rattle.tables_laws.specs.Shown.OtherTables.{compacted_state}
use Rattle.tables_laws.specs.Shown.PlainEnds.{EndsLinesPlain}
use Rattle.tables_laws.specs.Shown.ShownTables.{shown_picture}
use Rattle.tables_laws.proofs.ShownLemmas.LineEnds.{ends-plain, text-plain}
use Rattle.tables_laws.proofs.ShownLemmas.OtherTables.{printed-in_grid, compact-whole}
use Rattle.tables_laws.proofs.ShownLemmas.Pictures.{by-pieces, text-here}
use Rattle.tables_laws.proofs.shown.compact_tables_show_their_texts.Goals as goal

same : (table : Compacted) → compact_text table ≡ printed (compacted_state table)
same table = printed-in_grid (compact_look (without_high_padding table.settings)) table.width one_line no_colors table.columns (first_or_all table.kept (drop table.skipped table.rows))

pub returns : goal.returns
returns c = record {
  text = same;
  shown = λ table look whole.
      let s = compacted_state table in
      subst (λ (bytes : List ℕ). Shows bytes (shown_picture s)) (sym (same table)) (by-pieces (printed s) (shown_picture s) (text-here s look (compact-whole table whole) (λ cell. tt)));
  plain = λ table look whole.
      let s = compacted_state table in
      subst EndsLinesPlain (sym (same table)) (ends-plain (printed s) (text-plain s look (compact-whole table whole) (λ cell. tt)));
}
