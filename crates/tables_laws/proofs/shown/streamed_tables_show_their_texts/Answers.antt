use Rattle.std.proofs.Common.{◌≡◌, ℕ, List, subst, sym}
use Rattle.grid_config.specs.Looks.{compact_look}
use Rattle.grid_records.specs.RecordRows.Truncating.{truncated_rows}
use Rattle.papergrid_picture.specs.Shown.{Shows}
use Rattle.tabled_compact.specs.Tables.{first_or_all, no_colors}
use Rattle.tabled_compact.specs.Iter.Tables.{Streamed, content_widths, height_at, printed as streamed_text, stream_columns, width_at}
use Rattle.tabled_size.specs.Dimension.Sizes.{given_size}
use Rattle.tabled_list.specs.Stripping.Printing.{printed}
use Rattle.tables_laws.specs.Shown.OtherTables.{streamed_state}
use Rattle.tables_laws.specs.Shown.PlainEnds.{EndsLinesPlain}
use Rattle.tables_laws.specs.Shown.ShownTables.{shown_picture}
use Rattle.tables_laws.proofs.ShownLemmas.LineEnds.{ends-plain, text-plain}
use Rattle.tables_laws.proofs.ShownLemmas.OtherTables.{printed-in_grid, streamed-whole}
use Rattle.tables_laws.proofs.ShownLemmas.Pictures.{by-pieces, text-here}
use Rattle.tables_laws.proofs.shown.streamed_tables_show_their_texts.Goals as goal

same : (table : Streamed) → streamed_text table ≡ printed (streamed_state table)
same table = printed-in_grid (compact_look table.settings) (width_at table) (height_at table) no_colors (stream_columns table) (truncated_rows (given_size (content_widths table)) (first_or_all table.kept table.rows))

pub returns : goal.returns
returns c = record {
  text = same;
  shown = λ table look whole.
      let s = streamed_state table in
      subst (λ (bytes : List ℕ). Shows bytes (shown_picture s)) (sym (same table)) (by-pieces (printed s) (shown_picture s) (text-here s look (streamed-whole table whole) (λ cell. tt)));
  plain = λ table look whole.
      let s = streamed_state table in
      subst EndsLinesPlain (sym (same table)) (ends-plain (printed s) (text-plain s look (streamed-whole table whole) (λ cell. tt)));
}
