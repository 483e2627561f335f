-- The sizes of a table by number are as many as it has rows and columns.
use Rattle.std.proofs.Common.{◌≡◌, ℕ, List, length, ap, sym, subst, ◌∙◌}
use Rattle.std.proofs.lemmas.List.FromFn.{length-map-range_with_len}
use Rattle.grid_config_values.specs.Spans.Spans.{AreGood}
use Rattle.grid_config_values.specs.declared.spans.extent.Extent.{Extent}
use Rattle.grid_config_values.specs.declared.position.Position.{Position}
use Rattle.papergrid_picture.specs.Tables.{sizes_of}

-- spans that are good for the counts are good for the sizes
pub good-listed : (spans : List (Position × Extent)) (rows columns : ℕ) (width height : ℕ → ℕ) (widths heights : List ℕ) → widths ≡ sizes_of width columns → heights ≡ sizes_of height rows
    → AreGood spans rows columns → AreGood spans (length heights) (length widths)
good-listed spans rows columns width height widths heights wide high good =
    let many_rows : length heights ≡ rows = ap length high ∙ length-map-range_with_len height 0 rows in
    let many_columns : length widths ≡ columns = ap length wide ∙ length-map-range_with_len width 0 columns in
    subst (λ r. AreGood spans r (length widths)) (sym many_rows) (subst (AreGood spans rows) (sym many_columns) good)

-- what holds of the lists holds of the sizes
pub by-sizes : (P : List ℕ → List ℕ → Type 0) (widths heights wide high : List ℕ) → widths ≡ wide → heights ≡ high → P widths heights → P wide high
by-sizes P widths heights wide high same_wide same_high here = subst (λ ws. P ws high) same_wide (subst (P widths) same_high here)

-- and what holds of counts holds of those that they are
pub by-counts : (P : ℕ → ℕ → Type 0) (rows columns r c : ℕ) → rows ≡ r → columns ≡ c → P rows columns → P r c
by-counts P rows columns r c same_rows same_columns here = subst (P r) same_columns (subst (λ n. P n columns) same_rows here)
