-- Each line of a table whose texts add up takes the columns of the table.
use Rattle.std.proofs.Common.{◌≡◌, ◌<◌, ◌≤◌, ℕ, List, Option, None, Some, Ok, length, refl, sym, subst, ◌∙◌, arith}
use Rattle.std.specs.Prelude.{IfSome}
use Rattle.ansi_str_search.specs.Text.Characters.{shown_chars}
use Rattle.grid_config.specs.Colors.{Color}
use Rattle.grid_config.specs.Looks.{Look}
use Rattle.grid_config_values.specs.declared.spans.extent.Extent.{Extent}
use Rattle.grid_config_values.specs.Spans.Spans.{ArePositive, extent_at}
use Rattle.grid_config_values.specs.Glyphs.{along_column, crossing, in_row}
use Rattle.grid_config_values.specs.declared.position.Position.{Position}
use Rattle.grid_records_measure.specs.Measures.{cost, line_cost}
use Rattle.grid_records_measure.specs.TextLines.{text_width}
use Rattle.grid_records_measure.proofs.Plain.{one-column}
use Rattle.grid_records_traits.specs.Rows.{text_at}
use Rattle.papergrid_picture.specs.Colors.ClosingColors.{ShowNothing}
use Rattle.papergrid_picture.specs.Blocks.{greatest}
use Rattle.papergrid_picture.specs.Frame.{frame_of, full_line_width}
use Rattle.papergrid_picture.specs.Shown.{BeginsNoSequence, CostsOne, IsColoredBy, ShowsOnly}
use Rattle.papergrid_picture.specs.Tables.{table_grid, table_line}
use Rattle.papergrid_picture.specs.Tiling.{HasGoodSpans, HasRoom}
use Rattle.tabled.specs.Narrowed.{line_columns}
use Rattle.tabled_steps.specs.States.{State, column_count}
use Rattle.tabled_list.specs.Stripping.Printing.{IsFitsAnswer, drawn_heights, drawn_widths}
use Rattle.tabled_list.specs.Stripping.Totals.{drawn_width}
use Rattle.tables_laws.specs.Shown.CountedTables.{CountsOnes, IsCounted, ShowsNothingIfSet, TextsAddUp}
use Rattle.papergrid_picture.specs.CellLines.{cell_measures}
use Rattle.tables_laws.proofs.CountsLemmas.Counts.{CountsOne, cell-within}
use Rattle.tables_laws.proofs.CountsLemmas.EvenLines.{line-even as line-counts}
use Rattle.tables_laws.proofs.ShownLemmas.Rooms.{good-spans, has-room, whole-width, with_spans}
use Rattle.tables_laws.proofs.ShownLemmas.Counts.{any, text-adds}

space-one : cost 0x20 ≡ 1
space-one = let own = one-column 0x20 refl in omega (arith, own)

-- ---- a table

module _ (look : Look) (rows : List (List (List ℕ))) (colors : Position → Option Color) (widths heights : List ℕ)
    (counts : CountsOnes look) (silent : ShowNothing colors) (adds : TextsAddUp look rows) where
  both-shown : ShowsOnly (CountsOne cost any) look
  both-shown =
      let a = counts.shown in
      let b = counts.ones in
      record {
        crossings = λ row column. both-some (crossing look.borders row column) (a.crossings row column) (b.crossings row column);
        along_columns = λ kind. both-some (along_column look.borders kind) (a.along_columns kind) (b.along_columns kind);
        in_rows = λ kind. both-some (in_row look.borders kind) (a.in_rows kind) (b.in_rows kind);
        margins = (both a.margins.0 b.margins.0, both a.margins.1 b.margins.1, both a.margins.2 b.margins.2, both a.margins.3 b.margins.3);
        paddings = λ cell. let p = a.paddings cell in let q = b.paddings cell in (both p.0 q.0, both p.1 q.1, both p.2 q.2, both p.3 q.3);
        justification = λ cell. both (a.justification cell) (b.justification cell);
      }
    where
      both : {c : ℕ} → BeginsNoSequence c → CostsOne c → CountsOne cost any c
      both begins one = record { begins = begins; one = one; inside = refl }

      both-some : (glyph : Option ℕ) → IfSome glyph BeginsNoSequence → IfSome glyph CostsOne → IfSome glyph (CountsOne cost any)
      both-some None a b = tt
      both-some (Some c) a b = both a b

  pub line-even : (spans : List (Position × Extent)) (y : ℕ) → HasGoodSpans (table_grid look rows (λ _. None) widths heights) spans → HasRoom (table_grid look rows (λ _. None) widths heights) →
      line_cost (shown_chars (table_line look rows colors widths heights y)) ≡ full_line_width (frame_of look widths heights)
  line-even spans y good room =
      (line-counts cost any space-one refl look rows colors widths heights both-shown counts.colors silent
      (λ cell. text-adds (look.trim_horizontal cell) (text_at rows cell) (adds cell)) spans y good room).counted

-- ---- a table that can be printed

module _ (s : State) (spans : List (Position × Extent)) (positive : ArePositive spans) (some_rows : 0 < length s.rows) (some_columns : 0 < column_count s.rows) where
  abbrev spanned : State
  spanned = with_spans s spans positive some_rows some_columns

  module _ (fits : IsFitsAnswer spanned (Ok tt)) (adds : TextsAddUp s.look s.rows) where
    within : (cell : Position) → greatest (cell_measures (s.look.trim_horizontal cell) (s.look.trim_vertical cell) (text_at s.rows cell)) ≤ text_width (text_at s.rows cell)
    within cell = cell-within cost any (text_at s.rows cell) (s.look.trim_horizontal cell) (s.look.trim_vertical cell) (text-adds (s.look.trim_horizontal cell) (text_at s.rows cell) (adds cell))

    even : CountsOnes s.look → ShowNothing s.colors → (y : ℕ) → line_columns spanned y ≡ drawn_width spanned
    even counts silent y =
        line-even spanned.look s.rows s.colors (drawn_widths spanned) (drawn_heights spanned) (record { shown = again BeginsNoSequence counts.shown; ones = again CostsOne counts.ones; colors = colored-again counts.colors }) silent adds spans y
        (good-spans s spans positive some_rows some_columns fits) (has-room s spans positive some_rows some_columns fits within)
        ∙ sym (whole-width s spans positive some_rows some_columns)
      where
        again : (P : ℕ → Type 0) → ShowsOnly P s.look → ShowsOnly P spanned.look
        again P are = record { crossings = are.crossings; along_columns = are.along_columns; in_rows = are.in_rows; margins = are.margins; paddings = are.paddings; justification = are.justification }

        colored-again : IsColoredBy ShowsNothingIfSet s.look → IsColoredBy ShowsNothingIfSet spanned.look
        colored-again are = record { crossings = are.crossings; along_columns = are.along_columns; in_rows = are.in_rows; margins = are.margins; paddings = are.paddings; justification = are.justification }

pub line-columns : (spans : List (Position × Extent)) (s : State) (y : ℕ) → IsCounted spans s → line_columns s y ≡ drawn_width s
line-columns spans s y is =
    let Counted : (Position → Extent) → Type 0 = λ extent.
    (let t = record s { look = record s.look { extent = extent } } in IsFitsAnswer t (Ok tt) → line_columns t y ≡ drawn_width t) in
    let here : Counted (extent_at spans) = λ fits. even s spans is.positive is.some_rows is.some_columns fits is.texts is.counts is.cells y in
    let back : Counted s.look.extent = subst (λ (extent : Position → Extent). Counted extent) (sym is.extents) here in
    back is.fits
