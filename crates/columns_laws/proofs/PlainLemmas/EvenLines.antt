-- All lines of the table of an input of a class take as many columns.
use Rattle.std.proofs.Common.{◌≡◌, ◌==◌, ◌||◌, ◌+◌, ◌<◌, nat_le, ℕ, Bool, true, false, List, [], None, Some, Option, refl, ap, sym, ◌∙◌, arith, if◌then◌else◌}
use Rattle.std.specs.Prelude.{IfSome, chars}
use Rattle.std.specs.List.{list_all, sum_by}
use Rattle.std.proofs.Math.Path.{fun_ext}
use Rattle.std.proofs.lemmas.Bool.{and_parts}
use Rattle.ansi_str.specs.Characters.{shown_chars}
use Rattle.columns_asked.specs.DrawnTables.{asked_widths, heights_of, resized_rows, narrowed, resize_in, too_wide}
use Rattle.program_options.specs.Columns.ColumnColors.{AllClose}
use Rattle.columns_table.proofs.Natural.{positive-none}
use Rattle.columns_run.specs.DrawnTables.{grid_of, line_bytes, placed_bytes, resized_texts}
use Rattle.columns_run.specs.Narrow.{GlyphsAre, HasNarrowGlyphs, IsNarrowCharacter}
use Rattle.columns_run.specs.Rows.{cell_parts}
use Rattle.columns_run.specs.Wanted.{Wanted}
use Rattle.columns_run.specs.Widths.{taken_columns}
use Rattle.columns_run.proofs.Cells.{whole_cells, whole_text}
use Rattle.columns_run.proofs.Pieces.{line-left}
use Rattle.columns_run.proofs.Plain.{bare, plain-space, shown-only, shown-plain}
use Rattle.columns_run.proofs.Tiling.{room}
use Rattle.columns_laws.proofs.BoundsLemmas.TableBounds.{never-too_wide}
use Rattle.grid_config.specs.Compact.{Compact}
use Rattle.grid_config.specs.Looks.{compact_look}
use Rattle.grid_config_values.proofs.SpansLemmas.Parting.{good_without}
use Rattle.grid_config_values.specs.Spans.Spans.{extent_at, single}
use Rattle.grid_config_values.specs.declared.position.Position.{Position}
use Rattle.grid_config_values.specs.declared.sides.Indent.{Indent}
use Rattle.grid_config_values.specs.declared.sides.Sides.{Sides}
use Rattle.tables_laws.specs.Characters.AdditiveCharacters.{columns_of, is_additive, is_spacing}
use Rattle.tables_laws.proofs.CharactersLemmas.Classes.{plain-spacing}
use Rattle.tables_laws.proofs.CharactersLemmas.Steps.{own-additive}
use Rattle.tables_laws.proofs.CharactersLemmas.Sums.{cost-own, measure-own, spacing-additive}
use Rattle.grid_records_measure.specs.Cutting.{replacement}
use Rattle.grid_records_measure.specs.Measures.{line_cost, measure, own_width}
use Rattle.grid_records_measure.specs.PlainCharacters.{is_plain_character}
use Rattle.grid_records_measure.specs.Tabs.{tab}
use Rattle.grid_records_measure.specs.TextLines.{is_line_feed}
use Rattle.tables_laws.specs.Grids.CountedLooks.{AddsUp, TakesOne, TakesOnes}
use Rattle.tables_laws.proofs.GridsLemmas.BareLooks.{bare-silent}
use Rattle.tables_laws.proofs.GridsLemmas.EvenLines.{line-even}
use Rattle.tables_laws.proofs.GridsLemmas.Lists.{list_all-weaker}
use Rattle.papergrid_picture.proofs.ColorsLemmas.Pieces.{line-pieces}
use Rattle.papergrid_picture.specs.Fitting.{table_width}
use Rattle.papergrid_picture.specs.Frame.{Frame, column_count, frame_of, full_line_width, line_count, row_count, track_at}
use Rattle.papergrid_picture.specs.Shown.{OnEachSide}
use Rattle.papergrid_picture.specs.Tables.{table_grid, table_line}
use Rattle.papergrid_picture.specs.Tiling.{HasGoodSpans}
use Rattle.tabled_size_wrap.specs.Cells.Resizing.{Resize}
use Rattle.columns_laws.specs.Plain.PlainInputs.{IsPlainInput}
use Rattle.columns_laws.specs.Plain.AdditiveInputs.{HasAdditiveGlyphs, IsInputOf}
use Rattle.columns_laws.proofs.PlainLemmas.Inputs.{cells-of_input, rows-resized}

-- ---- a narrow style takes one column at each glyph and fill

module _ (q : ℕ → Bool) where
  abbrev IsIn : ℕ → Type 0
  IsIn c = IsNarrowCharacter c × (q c ≡ true)

  takes-one : (c : ℕ) → IsNarrowCharacter c → q c ≡ true → TakesOne q c
  takes-one c narrow inside = record { begins = shown-plain c narrow; one = narrow.one_column; inside = inside }

  some-one : (o : Option ℕ) → IfSome o IsNarrowCharacter → IfSome o (λ c. q c ≡ true) → IfSome o (TakesOne q)
  some-one None narrow inside = tt
  some-one (Some c) narrow inside = takes-one c narrow inside

  three-ones : (a b c : Option ℕ) → IfSome a IsNarrowCharacter × IfSome b IsNarrowCharacter × IfSome c IsNarrowCharacter
      → IfSome a (λ c. q c ≡ true) × IfSome b (λ c. q c ≡ true) × IfSome c (λ c. q c ≡ true) → IfSome a (TakesOne q) × IfSome b (TakesOne q) × IfSome c (TakesOne q)
  three-ones a b c narrow inside = (some-one a narrow.0 inside.0, some-one b narrow.1 inside.1, some-one c narrow.2 inside.2)

  sides-ones : (sides : Sides Indent) → OnEachSide (λ indent. IsNarrowCharacter indent.fill) sides → OnEachSide (λ indent. q indent.fill ≡ true) sides → OnEachSide (λ indent. TakesOne q indent.fill) sides
  sides-ones sides narrow inside = (
    takes-one sides.left.fill narrow.0 inside.0,
    takes-one sides.right.fill narrow.1 inside.1,
    takes-one sides.top.fill narrow.2 inside.2,
    takes-one sides.bottom.fill narrow.3 inside.3,
  )

  -- each glyph and fill of a style is in the class
  pub record GlyphsIn (style : Compact) : Type 0 where
    pub glyphs : GlyphsAre (λ c. q c ≡ true) style.borders
    pub margin : OnEachSide (λ indent. q indent.fill ≡ true) style.margin
    pub padding : OnEachSide (λ indent. q indent.fill ≡ true) style.padding

  ones : (style : Compact) → q 0x20 ≡ true → HasNarrowGlyphs style → GlyphsIn style → TakesOnes q (compact_look style)
  unfolding HasNarrowGlyphs
  ones style space narrow inside =
      let b = style.borders in
      let g = narrow.glyphs in
      let h = inside.glyphs in
      record {
        shown = shown-only (TakesOne q) style (
          three-ones b.top_left b.top_intersection b.top_right g.0 h.0,
          three-ones b.left_intersection b.intersection b.right_intersection g.1 h.1,
          three-ones b.bottom_left b.bottom_intersection b.bottom_right g.2 h.2,
          three-ones b.top b.horizontal b.bottom g.3 h.3,
          three-ones b.left b.vertical b.right g.4 h.4,
        )
            (sides-ones style.margin narrow.margin inside.margin) (sides-ones style.padding narrow.padding inside.padding) (takes-one 0x20 plain-space space);
        colors = bare-silent (compact_look style) (bare style narrow).no_colors;
      }

-- ---- single cells

no_spans : (p : Position) → single ≡ extent_at [] p
unfolding extent_at
no_spans p = refl

good : (style : Compact) (texts : List (List (List ℕ))) (widths heights : List ℕ) → HasGoodSpans (table_grid (compact_look style) texts (λ _. None) widths heights) []
good style texts widths heights =
    let frame = frame_of (compact_look style) widths heights in
    record { extents = fun_ext no_spans; positive = positive-none; good = good_without (row_count frame) (column_count frame) }

-- where there is a line there are rows and columns
total-same : (frame : Frame) → 0 < line_count frame → full_line_width frame ≡ table_width frame
total-same frame some = by (row_count frame == 0) (column_count frame == 0) some
  where
    by : (a b : Bool) → 0 < (if a then 0 else if b then 0 else track_at frame.rows (row_count frame) + frame.look.margin.bottom.size) → full_line_width frame ≡ (if a || b then 0 else full_line_width frame)
    by true b some = absurd (omega (arith, some))
    by false true some = absurd (omega (arith, some))
    by false false some = refl

-- ---- the table of an input

-- what a line of it shows: characters of the class, of as many columns as the table has
pub record LineTakes (q : ℕ → Bool) (wanted : Wanted) (input : List ℕ) (y : ℕ) : Type 0 where
  pub counted : sum_by own_width (shown_chars (line_bytes wanted input y)) ≡ taken_columns wanted input
  pub shown : list_all q (shown_chars (line_bytes wanted input y)) ≡ true

module _ (p q : ℕ → Bool) (adds : AddsUp p) (weaker : (c : ℕ) → p c ≡ true → q c ≡ true) (space : q 0x20 ≡ true) (mark : p replacement ≡ true) (wanted : Wanted) (input : List ℕ) (is : IsInputOf p input) where
  abbrev texts : List (List (List ℕ))
  texts = cell_parts input

  abbrev style : Compact
  style = wanted.style

  even : HasNarrowGlyphs wanted.style → GlyphsIn q wanted.style → AllClose wanted.colors → (y : ℕ) → y < line_count (grid_of wanted input).frame → LineTakes q wanted input y
  unfolding grid_of resized_texts placed_bytes resized_rows too_wide
  even narrow inside_class close y inside =
      let asked = wanted.limit in
      let kept = resized_rows style asked texts in
      let widths = asked_widths style asked texts in
      let heights = heights_of style kept in
      let resize : ℕ → Resize = resize_in style asked (narrowed style asked texts) in
      let shown = rows-resized p mark resize texts (cells-of_input p input is) in
      let same : shown_chars (line_bytes wanted input y) ≡ shown_chars (table_line (compact_look style) kept (λ _. None) widths heights y) =
      ap chars (line-left wanted input y narrow close is.utf8 is.whole)
      ∙ ap shown_chars (sym (line-pieces (compact_look style) kept (λ _. None) widths heights (bare style narrow) y)) in
      let line = line-even p q adds weaker space (compact_look style) kept (λ _. None) widths heights (ones q style space narrow inside_class) (λ _. tt) shown [] y
      (good style kept widths heights) (room style kept widths heights (never-too_wide style asked texts (whole_cells input (whole_text input is.utf8 is.whole)))) in
      record {
        counted = ap (sum_by own_width) same ∙ line.counted ∙ total-same (frame_of (compact_look style) widths heights) (omega (arith, inside));
        shown = ap (list_all q) same ∙ line.shown;
      }

-- ---- classes

-- any narrow glyph is one that takes a column
all-inside : (q : ℕ → Bool) → ((c : ℕ) → IsNarrowCharacter c → q c ≡ true) → (style : Compact) → HasNarrowGlyphs style → GlyphsIn q style
unfolding HasNarrowGlyphs
all-inside q each style narrow =
    let b = style.borders in
    let g = narrow.glyphs in
    record {
      glyphs = (
        three b.top_left b.top_intersection b.top_right g.0,
        three b.left_intersection b.intersection b.right_intersection g.1,
        three b.bottom_left b.bottom_intersection b.bottom_right g.2,
        three b.top b.horizontal b.bottom g.3,
        three b.left b.vertical b.right g.4,
      );
      margin = (each style.margin.left.fill narrow.margin.0, each style.margin.right.fill narrow.margin.1, each style.margin.top.fill narrow.margin.2, each style.margin.bottom.fill narrow.margin.3);
      padding = (each style.padding.left.fill narrow.padding.0, each style.padding.right.fill narrow.padding.1, each style.padding.top.fill narrow.padding.2, each style.padding.bottom.fill narrow.padding.3);
    }
  where
    some : (o : Option ℕ) → IfSome o IsNarrowCharacter → IfSome o (λ c. q c ≡ true)
    some None is = tt
    some (Some c) is = each c is

    three : (a b c : Option ℕ) → IfSome a IsNarrowCharacter × IfSome b IsNarrowCharacter × IfSome c IsNarrowCharacter → IfSome a (λ c. q c ≡ true) × IfSome b (λ c. q c ≡ true) × IfSome c (λ c. q c ≡ true)
    three a b c is = (some a is.0, some b is.1, some c is.2)

-- characters that take a column or more
abbrev takes_some : ℕ → Bool
takes_some c = nat_le 1 (own_width c)

narrow-some : (c : ℕ) → IsNarrowCharacter c → takes_some c ≡ true
narrow-some c is = ap (nat_le 1) is.one_column

pub columns-additive : (wanted : Wanted) (input : List ℕ) (y : ℕ) → HasNarrowGlyphs wanted.style → AllClose wanted.colors → IsInputOf is_additive input → y < line_count (grid_of wanted input).frame
    → sum_by own_width (shown_chars (line_bytes wanted input y)) ≡ taken_columns wanted input
columns-additive wanted input y narrow close is inside =
    (even is_additive (λ _. true) measure-own (λ _ _. refl) refl refl wanted input is narrow (all-inside (λ _. true) (λ _ _. refl) wanted.style narrow) close y inside).counted

pub measured-additive : (wanted : Wanted) (input : List ℕ) (y : ℕ) → HasNarrowGlyphs wanted.style → HasAdditiveGlyphs wanted.style → AllClose wanted.colors → IsInputOf is_additive input
    → y < line_count (grid_of wanted input).frame → measure (shown_chars (line_bytes wanted input y)) ≡ taken_columns wanted input
measured-additive wanted input y narrow glyphs close is inside =
    let line = even is_additive is_additive measure-own (λ _ here. here) refl refl wanted input is narrow (record { glyphs = glyphs.glyphs; margin = glyphs.margin; padding = glyphs.padding }) close y inside in
    measure-own (shown_chars (line_bytes wanted input y)) line.shown ∙ line.counted

spacing-some : (c : ℕ) → is_spacing c ≡ true → takes_some c ≡ true
spacing-some c spacing = let parts = and_parts (is_additive c) (nat_le 1 (columns_of c)) spacing in ap (nat_le 1) (own-additive c parts.0) ∙ parts.1

spacing-adds : AddsUp is_spacing
spacing-adds cs all = measure-own cs (spacing-additive cs all)

pub costs-spacing : (wanted : Wanted) (input : List ℕ) (y : ℕ) → HasNarrowGlyphs wanted.style → AllClose wanted.colors → IsInputOf is_spacing input → y < line_count (grid_of wanted input).frame
    → line_cost (shown_chars (line_bytes wanted input y)) ≡ taken_columns wanted input
costs-spacing wanted input y narrow close is inside =
    let line = even is_spacing takes_some spacing-adds spacing-some (narrow-some 0x20 plain-space) refl wanted input is narrow (all-inside takes_some narrow-some wanted.style narrow) close y inside in
    cost-own (shown_chars (line_bytes wanted input y)) line.shown ∙ line.counted

-- ---- plain inputs

pub weaker-input : (p q : ℕ → Bool) → ((c : ℕ) → p c ≡ true → q c ≡ true) → (input : List ℕ) → IsInputOf p input → IsInputOf q input
weaker-input p q weaker input is = record {
  utf8 = is.utf8;
  whole = is.whole;
  shown = list_all-weaker (λ c. p c || (is_line_feed c || c == tab)) (λ c. q c || (is_line_feed c || c == tab)) each (shown_chars input) is.shown;
}
  where
    or-weaker : (a b rest : Bool) → (a ≡ true → b ≡ true) → (a || rest) ≡ true → (b || rest) ≡ true
    or-weaker true b rest weaker h = ap (λ x. x || rest) (weaker refl)
    or-weaker false true rest weaker h = refl
    or-weaker false false rest weaker h = h

    each : (c : ℕ) → (p c || (is_line_feed c || c == tab)) ≡ true → (q c || (is_line_feed c || c == tab)) ≡ true
    each c h = or-weaker (p c) (q c) (is_line_feed c || c == tab) (weaker c) h

pub plain-input : (input : List ℕ) → IsPlainInput input → IsInputOf is_spacing input
plain-input input is = weaker-input is_plain_character is_spacing plain-spacing input (record { utf8 = is.utf8; whole = is.whole; shown = is.plain })

pub even-plain : (wanted : Wanted) (input : List ℕ) (y : ℕ) → HasNarrowGlyphs wanted.style → AllClose wanted.colors → IsPlainInput input → y < line_count (grid_of wanted input).frame
    → line_cost (shown_chars (line_bytes wanted input y)) ≡ taken_columns wanted input
even-plain wanted input y narrow close is inside = costs-spacing wanted input y narrow close (plain-input input is) inside
