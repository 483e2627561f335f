-- Each line of a table of texts of a class whose characters add up takes the columns of the table.
use Rattle.std.proofs.Common.{◌≡◌, ℕ, Bool, true, List, [], Option, None, get_or, refl}
use Rattle.std.specs.List.{AllByRecursion}
use Rattle.grid_config.specs.Colors.{Color}
use Rattle.grid_config.specs.Looks.{Look}
use Rattle.grid_config_values.specs.declared.spans.extent.Extent.{Extent}
use Rattle.grid_config_values.specs.declared.position.Position.{Position}
use Rattle.grid_records_measure.specs.Measures.{own_width}
use Rattle.grid_records_measure.proofs.Plain.{one-column}
use Rattle.grid_records_traits.specs.Rows.{text_at}
use Rattle.papergrid_picture.specs.Colors.ClosingColors.{ShowNothing}
use Rattle.papergrid_picture.specs.Frame.{frame_of, full_line_width}
use Rattle.papergrid_picture.specs.Tables.{table_grid, table_line}
use Rattle.papergrid_picture.specs.Tiling.{HasGoodSpans, HasRoom}
use Rattle.papergrid_picture.proofs.Related.{All-get_or}
use Rattle.tables_laws.specs.Grids.CountedLooks.{AddsUp, TakesOne, TakesOnes}
use Rattle.tables_laws.specs.Grids.TextsOf.{AreTextsOf, IsTextOf}
use Rattle.tables_laws.proofs.CountsLemmas.Counts.{CountsOne}
use Rattle.tables_laws.proofs.CountsLemmas.EvenLines.{LineCounts, line-even as line-counts}
use Rattle.tables_laws.proofs.GridsLemmas.Counts.{text-adds}
use Rattle.tables_laws.proofs.GridsLemmas.Texts.{nothing-of}
use Rattle.tables_laws.proofs.ShownLemmas.Looks.{shows-also}

pub text-of : (p : ℕ → Bool) (rows : List (List (List ℕ))) → AreTextsOf p rows → (cell : Position) → IsTextOf p (text_at rows cell)
text-of p rows texts cell =
    All-get_or (IsTextOf p) (get_or rows cell.row []) cell.col [] (All-get_or (AllByRecursion (IsTextOf p)) rows cell.row [] texts tt) (nothing-of p)

module _ (p q : ℕ → Bool) (adds : AddsUp p) (weaker : (c : ℕ) → p c ≡ true → q c ≡ true) (space : q 0x20 ≡ true)
    (look : Look) (rows : List (List (List ℕ))) (colors : Position → Option Color) (widths heights : List ℕ)
    (ones : TakesOnes q look) (silent : ShowNothing colors) (texts : AreTextsOf p rows) where
  pub line-even : (spans : List (Position × Extent)) (y : ℕ) → HasGoodSpans (table_grid look rows (λ _. None) widths heights) spans → HasRoom (table_grid look rows (λ _. None) widths heights) →
      LineCounts own_width q (full_line_width (frame_of look widths heights)) (table_line look rows colors widths heights y)
  line-even =
      line-counts own_width q (one-column 0x20 refl) space look rows colors widths heights
      (shows-also (TakesOne q) (CountsOne own_width q) (λ c is. record { begins = is.begins; one = is.one; inside = is.inside }) look ones.shown) ones.colors silent
      (λ cell. text-adds p q adds weaker (look.trim_horizontal cell) (text_at rows cell) (text-of p rows texts cell))
