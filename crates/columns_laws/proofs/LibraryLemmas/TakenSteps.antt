-- A table whose sizes are in range is made narrower: the step does not fail.
use Rattle.std.proofs.Common.{◌≡◌, ◌||◌, ◌-◌, ◌<◌, ◌≤◌, ◌^◌, ℕ, zero, suc, Bool, true, false, Global as Heap, inl, inr, List, [], ◌∷◌, None, Option, Some, Result, Ok, Err, nat_lt, length, map, slice_index, refl, ap, sym, subst, ◌∙◌, arith, if◌then◌else◌}
use Rattle.std.specs.Prelude.{String, string_bytes}
use Rattle.std.specs.List.{list_any}
use Rattle.std.proofs.lemmas.Bool.Decides.{nat_tests}
use Rattle.grid_config.specs.Colors.{Color}
use Rattle.grid_config.specs.Compact.{Compact}
use Rattle.grid_config_values.specs.declared.entity.Entity.{Entity}
use Rattle.grid_config_values.specs.declared.entity.Entity.TheVariants.{Row}
use Rattle.grid_config_values.specs.declared.fault.Fault.{Fault}
use Rattle.grid_config_values.specs.declared.fault.Fault.TheVariants.{Range}
use Rattle.grid_config_values.specs.declared.position.Position.{Position}
use Rattle.grid_records_estimate.specs.Collecting.{PassesMax}
use Rattle.papergrid_picture.specs.Fitting.{InRange}
use Rattle.papergrid_picture.specs.Frame.{Frame}
use Rattle.tabled_list.specs.Amounts.{width_of}
use Rattle.tabled_list.specs.Priorities.{measured_so, shrinks_so}
use Rattle.tabled_list.specs.Settings.{cutting_by, setting_step}
use Rattle.tabled_list.specs.declared.amount.Amount.TheVariants.{Exact}
use Rattle.tabled_list.specs.declared.setting.Setting.TheVariants.{Truncate, Wrap}
use Rattle.tabled_size.specs.Dimension.Stored.{kept_after, none_stored}
use Rattle.tabled_size.specs.declared.dimension.suffix.SuffixLimit.{SuffixLimit}
use Rattle.tabled_size_priority.specs.Choices.{IsShrunkByChoice}
use Rattle.tabled_steps.specs.Outcomes.{◌≫=◌, all_sized, passes_usize, sized}
use Rattle.tabled_steps.specs.Sizes.{natural_heights, natural_widths}
use Rattle.tabled_steps.specs.States.{Outcome, Settles, State, column_count}
use Rattle.tabled_text.specs.Rows.{filled}
use Rattle.tabled_width.specs.WholeTables.Rooms.{column_widths, empty_widths}
use Rattle.tabled_width.specs.WholeTables.Steps.{Measured, Then}
use Rattle.tabled_width.specs.WholeTables.Tables.{TableSizes, Narrows, NarrowsTable, Shrunk, Where, table_sizes, sizes_with, has_cells, keeping, narrowed_state}
use Rattle.tabled_width.specs.WholeTables.Widths.{width_with_columns as columns_width}
use Rattle.tabled_width_texts.specs.WrappedOrCut.{wrapping_each}
use Rattle.tabled_width_texts.specs.Cutting.{truncating}
use Rattle.columns_asked.proofs.Shrunk.{shrunk_list-meets}
use Rattle.columns_asked.specs.declared.asked.WidthLimit.{WidthLimit}
use Rattle.columns_asked.specs.DrawnTables.{AskedInRange, frame_under, heights_of, longest_row_length, paddings, widths_of}
use Rattle.columns_asked.specs.Shrunk.{shrunk_list}
use Rattle.columns_asked.specs.Colors.ColumnColors.{cell_color}
use Rattle.columns_run.proofs.Cells.{whole_text}
use Rattle.columns_run.proofs.Tables.{fits-same}
use Rattle.columns_run.specs.Rows.{cell_parts}
use Rattle.columns_run.specs.Run.{HasTable}
use Rattle.columns_run.specs.Wanted.{Wanted}
use Rattle.columns_table.proofs.AskedWidths.{padded}
use Rattle.columns_table.proofs.SplitRows.{one-too_great}
use Rattle.columns_laws.specs.Library.Tables.{AreRowsOfLength, table_of, table_under}
use Rattle.columns_laws.proofs.LibraryLemmas.FilledRows.{filled-is, long-evened}
use Rattle.columns_laws.proofs.LibraryLemmas.FilledTables.{frame-filled}
use Rattle.columns_laws.proofs.LibraryLemmas.EmptyWidths.{empty-is}
use Rattle.columns_laws.proofs.LibraryLemmas.NarrowSteps.{cells-there}
use Rattle.columns_laws.proofs.LibraryLemmas.NarrowTexts.{look, natural-is, whole-is, wide-each}
use Rattle.columns_laws.proofs.LibraryLemmas.SameSizes.{counts-same}
use Rattle.columns_laws.proofs.LibraryLemmas.SameTexts.{natural-heights}

-- ---- sizes that none passes

either : (n : ℕ) (ns : List ℕ) (b : Bool) → passes_usize n ≡ b → (b || list_any passes_usize ns) ≡ true → (list_any passes_usize ns ≡ true → PassesMax ns) → PassesMax (n ∷ ns)
either n ns true e any rest = (0, grind (arith, nat_tests, e))
either n ns false e any rest = let found = rest any in (suc found.0, found.1)

passing : (ns : List ℕ) → list_any passes_usize ns ≡ true → PassesMax ns
passing [] any = absurd (cc any)
passing (n ∷ ns) any = either n ns (passes_usize n) refl any (passing ns)

all-sized : (ns : List ℕ) → ¬ (PassesMax ns) → all_sized ns ≡ Ok ns
all-sized ns none = by (list_any passes_usize ns) refl
  where
    by : (b : Bool) → list_any passes_usize ns ≡ b → all_sized ns ≡ Ok ns
    by true e = absurd (none (passing ns e))
    by false e = ap (λ (b : Bool). if b then Err Range else Ok ns) e

one-sized : (n : ℕ) → n < 2 ^ 64 → sized n ≡ Ok n
one-sized n low =
    let test : passes_usize n ≡ false = grind (arith, nat_tests, low) in
    ap (λ (b : Bool). if b then Err Range else Ok n) test

below : (p : ℕ) (sizes : List ℕ) → ((k : ℕ) → k < length sizes → p ≤ slice_index sizes k) → (k : ℕ) → slice_index (map (λ _. p) sizes) k ≤ slice_index sizes k
below p [] each k = omega arith
below p (size ∷ sizes) each zero = each 0 (omega arith)
below p (size ∷ sizes) each (suc k) = below p sizes (λ j less. each (suc j) (omega (arith, less))) k

-- ---- the step of a table in range

module _ (style : Compact) (asked : WidthLimit) (n : ℕ) (rows : List (List (List ℕ))) (long : AreRowsOfLength n rows) (colors : Position → Option Color) (range : InRange (frame_under style rows)) (width : ℕ) (change : ℕ → List ℕ → Option (List ℕ)) where
  abbrev start : State
  start = table_under style colors rows

  abbrev count : ℕ
  count = column_count rows

  abbrev wide : List ℕ
  wide = natural_widths (look style) count rows

  abbrev high : List ℕ
  high = natural_heights (look style) count rows

  abbrev whole : ℕ
  whole = columns_width (look style) (column_widths count wide)

  abbrev it : TableSizes
  it = sizes_with wide high whole

  abbrev leasts : List ℕ
  leasts = empty_widths (look style) count (length rows)

  abbrev shrunk_by : State → Outcome → Type 0
  shrunk_by = Shrunk (shrinks_so (IsShrunkByChoice asked.priority)) tt change (column_widths count wide) (whole - width)

  module _ (some_rows : 0 < length rows) (some_columns : 0 < count) where
    widths-low : ¬ (PassesMax (widths_of style rows))
    widths-low passes = one-too_great style rows (inl passes) range

    heights-low : ¬ (PassesMax (heights_of style rows))
    heights-low passes = one-too_great style rows (inr passes) range

    drawn-is : table_sizes (look style) count rows none_stored ≡ Ok it
    drawn-is =
        let by_whole = λ (w h : List ℕ) (total : ℕ). Ok (sizes_with w h total) in
        let by_heights = λ (w h : List ℕ). sized (columns_width (look style) (column_widths count w)) ≫= by_whole w h in
        let by_widths = λ (w : List ℕ). all_sized high ≫= by_heights w in
        let low : whole < 2 ^ 64 = omega (arith, whole-is style asked n rows long some_rows some_columns, range.0) in
        ap (λ (found : Result (List ℕ) Fault). found ≫= by_widths) (all-sized wide (subst (λ (sizes : List ℕ). ¬ (PassesMax sizes)) (sym (natural-is style asked n rows long)) widths-low))
        ∙ ap (λ (found : Result (List ℕ) Fault). found ≫= by_heights wide) (all-sized high (subst (λ (sizes : List ℕ). ¬ (PassesMax sizes)) (sym (natural-heights style n rows long)) heights-low))
        ∙ ap (λ (found : Result ℕ Fault). found ≫= by_whole wide high) (one-sized whole low)

    least-low : ¬ (PassesMax leasts)
    least-low passes =
        let natural : List ℕ = widths_of style rows in
        let long_natural = wide-each style asked n rows long some_rows some_columns in
        let same : leasts ≡ map (λ _. paddings style) natural = empty-is style count (length rows) some_rows natural long_natural in
        let enough : (k : ℕ) → k < length natural → paddings style ≤ slice_index natural k = λ k inside. padded style rows some_rows k (omega (arith, inside, long_natural, counts-same n rows long)) inside in
        let found : PassesMax (map (λ _. paddings style) natural) = subst PassesMax same passes in
        widths-low (found.0, omega (arith, found.1, below (paddings style) natural enough found.0))

    shrinks : (s : State) → s.look ≡ look style → column_count s.rows ≡ count → length s.rows ≡ length rows → (changed : State) × shrunk_by s (Ok changed)
    shrinks s same_look same_count same_rows =
        let left : List ℕ = shrunk_list asked.priority leasts (whole - width) (column_widths count wide) in
        let changed : State = narrowed_state change leasts left s in
        let next = λ (least : List ℕ) (outcome : Outcome).
        ((found : List ℕ) × ((after : Unit {0}) × IsShrunkByChoice asked.priority least (whole - width) (column_widths count wide) found) × (Ok (narrowed_state change least found s) ≡ outcome)) in
        let here : next leasts (Ok changed) = (left, (tt, shrunk_list-meets asked.priority leasts (whole - width) (column_widths count wide)), refl) in
        let same : empty_widths s.look (column_count s.rows) (length s.rows) ≡ leasts =
        ap (λ found. empty_widths found (column_count s.rows) (length s.rows)) same_look ∙ ap (λ m. empty_widths (look style) m (length s.rows)) same_count ∙ ap (empty_widths (look style) count) same_rows in
        (changed, subst (λ (found : Result (List ℕ) Fault). Then found next (Ok changed)) (sym (ap all_sized same ∙ all-sized leasts least-low)) here)

    narrows : (changed : State) × Narrows (shrinks_so (IsShrunkByChoice asked.priority)) tt change width start (Ok changed)
    narrows =
        let found = by (nat_lt width whole) in
        (found.0, subst (λ (drawn_as : Result TableSizes Fault). Then drawn_as (λ (d : TableSizes). Where (nat_lt width d.whole) (Shrunk (shrinks_so (IsShrunkByChoice asked.priority)) tt change (column_widths count d.widths) (d.whole - width)) (keeping d start)) (Ok found.0)) (sym drawn-is) found.1)
      where
        by : (b : Bool) → (changed : State) × Where b shrunk_by (keeping it start) (Ok changed)
        by true = shrinks (keeping it start) refl refl refl
        by false = (keeping it start, refl)

  pub taken : (changed : State) × NarrowsTable (shrinks_so (IsShrunkByChoice asked.priority)) tt change (measured_so (width_of (Exact width))) start (Ok changed)
  taken = by (has_cells start) refl
    where
      by : (b : Bool) → has_cells start ≡ b → (changed : State) × Where b (Measured (measured_so (width_of (Exact width))) (Narrows (shrinks_so (IsShrunkByChoice asked.priority)) tt change)) start (Ok changed)
      by true e =
          let some = cells-there (length rows) count e in
          let found = narrows some.0 some.1 in
          (found.0, (Ok width, refl, found.1))
      by false e = (start, refl)

  pub settled-so : (hint : Option Entity) → (left : State) × Settles hint (NarrowsTable (shrinks_so (IsShrunkByChoice asked.priority)) tt change (measured_so (width_of (Exact width)))) start (Ok left)
  settled-so hint = (record taken.0 { sizes = kept_after hint taken.0.sizes }, (Ok taken.0, taken.1, refl))

-- ---- the rows of a text, filled

module _ (wanted : Wanted) (input : List ℕ) (has : HasTable wanted input) where
  abbrev parts : List (List (List ℕ))
  parts = cell_parts input

  full-long : AreRowsOfLength (longest_row_length parts) (filled parts)
  full-long = subst (AreRowsOfLength (longest_row_length parts)) (sym (filled-is parts)) (long-evened (longest_row_length parts) parts)

  in-range : InRange (frame_under wanted.style (filled parts))
  unfolding AskedInRange
  in-range =
      let fits : AskedInRange wanted.style wanted.limit parts = subst (λ (fit : Type 0). fit) (sym (fits-same wanted input (whole_text input has.0 has.1))) has.2 in
      subst (λ (frame : Frame). InRange frame) (sym (ap (frame_under wanted.style) (filled-is parts) ∙ frame-filled wanted.style parts)) fits.0

  pub wrap-taken : (width : ℕ) → (left : State) × setting_step (Wrap (Exact width) wanted.limit.keep_words wanted.limit.priority) (table_of wanted input) (Ok left)
  wrap-taken width = settled-so wanted.style wanted.limit (longest_row_length parts) (filled parts) full-long (cell_color wanted.colors) in-range width (wrapping_each wanted.limit.keep_words) (Some (Row 0))

  pub cut-taken : (width : ℕ) (suffix : String Heap) (limit : SuffixLimit) (try_color : Bool) → (left : State) × setting_step (Truncate (Exact width) suffix limit false try_color wanted.limit.priority) (table_of wanted input) (Ok left)
  cut-taken width suffix limit try_color = settled-so wanted.style wanted.limit (longest_row_length parts) (filled parts) full-long (cell_color wanted.colors) in-range width (truncating (cutting_by (string_bytes suffix) limit false try_color)) None
