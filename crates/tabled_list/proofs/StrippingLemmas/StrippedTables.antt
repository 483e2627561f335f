-- What a table prints, with the sequences of its texts and without.
use Rattle.std.proofs.Common.{◌≡◌, ◌+◌, ℕ, Bool, List, [], ◌∷◌, Option, None, Some, Result, Ok, Err, length, map, get_or, refl, ap, sym, subst, ◌∙◌, if◌then◌else◌}
use Rattle.std.specs.Prelude.{nat_lt, ◌&&◌}
use Rattle.std.specs.List.{find, slice_split}
use Rattle.std.specs.Str.{trim}
use Rattle.ansi_scan.specs.Pieces.{pieces}
use Rattle.ansi_scan.proofs.Existence.{ArePiecesOf-pieces}
use Rattle.grid_config.specs.Colors.{Color}
use Rattle.grid_config.specs.Looks.{Look}
use Rattle.grid_config_values.specs.Spans.Owners.{owner}
use Rattle.grid_config_values.specs.Entities.{table_positions}
use Rattle.grid_config_values.specs.Order.{same_place}
use Rattle.grid_config_values.specs.declared.fault.Fault.{Fault}
use Rattle.grid_config_values.specs.declared.fault.Fault.TheVariants.{Memory, Range, Room, Spans}
use Rattle.grid_config_values.specs.declared.position.Position.{Position}
use Rattle.grid_records_measure.specs.TextLines.{is_line_feed, line_measure, text_width}
use Rattle.grid_records_traits.specs.Rows.{text_at}
use Rattle.papergrid_picture.specs.CellLines.{cell_lines, cell_measures, kept_lines, those}
use Rattle.papergrid_picture.specs.Fitting.{FitsAnswer, InRange, first_too_wide, need, table_width}
use Rattle.papergrid_picture.specs.Frame.{Frame, block_width, column_count as columns_of, frame_of, line_count, row_count}
use Rattle.papergrid_picture.specs.Picture.{at}
use Rattle.papergrid_picture.specs.Reading.{painted}
use Rattle.papergrid_picture.specs.Shown.{AreWholeTexts, IsBare, stripped_texts}
use Rattle.papergrid_picture.specs.Tables.{in_bytes, sizes_of, table_grid, table_text}
use Rattle.papergrid_picture.proofs.Stripped.{stripped}
use Rattle.papergrid_picture.specs.Colors.ClosingColors.{ShowNothing}
use Rattle.papergrid_picture.proofs.ColorsLemmas.Stripped.{colors-stripped}
use Rattle.tabled_size_wrap.proofs.CellsLemmas.CellStripping.{stripped-none, stripped-twice, stripped-width, text-map, texts-twice, texts-whole}
use Rattle.tabled_size.specs.Dimension.Sizes.{given_size}
use Rattle.tabled_size.specs.Dimension.Stored.{Stored, completed, stored_sizes}
use Rattle.tabled_steps.specs.Sizes.{natural_heights, natural_widths}
use Rattle.tabled_steps.specs.States.{State, column_count}
use Rattle.tabled_list.specs.Stripping.Printing.{IsFitsAnswer, SpansAreGood, drawn_frame, drawn_heights, drawn_sizes, drawn_widths, printed}
use Rattle.tabled_list.specs.Stripping.Totals.{drawn_height, drawn_width}
use Rattle.tabled_list.proofs.StrippingLemmas.TextsByPlace.{rows_from, state_by, stripped_but}
use Rattle.tabled_list.specs.Stripping.Stripping.{cell_line_bytes, drawn_grid, stripped_state, uncolored_state}
use Rattle.tabled_list.proofs.StrippingLemmas.MappedRows.{columns-same, heights-same, length-rows, widths-same}
use Rattle.tabled_list.proofs.StrippingLemmas.StrippedRuns.{nowhere, rows-stripped, state-stripped}
use Rattle.tabled_list.proofs.StrippingLemmas.PassingSteps.{IsBlind}
use Rattle.tabled_list.proofs.StrippingLemmas.StrippedTexts.{blind-stripped}

-- ---- sizes

module _ (f : Position → List ℕ → List ℕ) (blind : IsBlind f) (s : State) where
  drawn-by : drawn_sizes (state_by f s) ≡ drawn_sizes s
  drawn-by =
      let other = rows_from f 0 s.rows in
      let with : List ℕ → List ℕ → Stored = λ widths heights. completed (record { widths = widths; heights = heights }) s.sizes in
      ap (λ n. with (natural_widths s.look n other) (natural_heights s.look n other)) (columns-same f 0 s.rows)
      ∙ ap (λ (widths : List ℕ). with widths (natural_heights s.look (column_count s.rows) other)) (widths-same f blind.none s.look (column_count s.rows) s.rows blind.wide)
      ∙ ap (λ (heights : List ℕ). with (natural_widths s.look (column_count s.rows) s.rows) heights) (heights-same f blind.none s.look (column_count s.rows) s.rows blind.high)

  widths-by : drawn_widths (state_by f s) ≡ drawn_widths s
  widths-by = ap (λ (found : Stored). sizes_of (given_size (stored_sizes found.widths)) (column_count (rows_from f 0 s.rows))) drawn-by ∙ ap (sizes_of (given_size (stored_sizes (drawn_sizes s).widths))) (columns-same f 0 s.rows)

  heights-by : drawn_heights (state_by f s) ≡ drawn_heights s
  heights-by = ap (λ (found : Stored). sizes_of (given_size (stored_sizes found.heights)) (length (rows_from f 0 s.rows))) drawn-by ∙ ap (sizes_of (given_size (stored_sizes (drawn_sizes s).heights))) (length-rows f 0 s.rows)

module _ (s : State) where
  pub widths-stripped : drawn_widths (stripped_state s) ≡ drawn_widths s
  widths-stripped = ap drawn_widths (sym (state-stripped s)) ∙ widths-by (stripped_but nowhere) (blind-stripped nowhere) s

  pub heights-stripped : drawn_heights (stripped_state s) ≡ drawn_heights s
  heights-stripped = ap drawn_heights (sym (state-stripped s)) ∙ heights-by (stripped_but nowhere) (blind-stripped nowhere) s

  pub frame-stripped : drawn_frame (stripped_state s) ≡ drawn_frame s
  frame-stripped = ap (λ (widths : List ℕ). frame_of s.look widths (drawn_heights (stripped_state s))) widths-stripped ∙ ap (frame_of s.look (drawn_widths s)) heights-stripped

  pub total_width-stripped : drawn_width (stripped_state s) ≡ drawn_width s
  total_width-stripped = ap table_width frame-stripped

  pub total_height-stripped : drawn_height (stripped_state s) ≡ drawn_height s
  total_height-stripped = ap line_count frame-stripped

  -- ---- the text

  -- without its sequences it is the text of the table of the stripped texts, whose cells have no colours
  pub printed-stripped : IsBare s.look → AreWholeTexts s.rows → ShowNothing s.colors → stripped (printed s) ≡ printed (uncolored_state (stripped_state s))
  printed-stripped bare whole silent =
      let text = printed s in
      colors-stripped s.look s.rows s.colors (drawn_widths s) (drawn_heights s) bare whole silent (pieces text) (ArePiecesOf-pieces text)
      ∙ ap (λ (widths : List ℕ). table_text s.look (stripped_texts s.rows) (λ _. None) widths (drawn_heights s)) (sym widths-stripped)
      ∙ ap (table_text s.look (stripped_texts s.rows) (λ _. None) (drawn_widths (stripped_state s))) (sym heights-stripped)

  -- ---- refusals

  need-stripped : (look : Look) (cell : Position) → need look (stripped_texts s.rows) cell ≡ need look s.rows cell
  need-stripped look cell =
      let padding = look.padding cell in
      ap (λ (n : ℕ). n + padding.left.size + padding.right.size) (ap text_width (text-map stripped stripped-none s.rows cell) ∙ stripped-width (text_at s.rows cell))

  first-stripped : (frame : Frame) → first_too_wide frame (stripped_texts s.rows) ≡ first_too_wide frame s.rows
  first-stripped frame = λ k. find (λ cell. same_place (owner frame.look.extent cell) cell && nat_lt (block_width frame cell) (need-stripped frame.look cell k)) (table_positions (row_count frame) (columns_of frame))

  pub fit-stripped : (answer : Result (Unit {0}) Fault) → IsFitsAnswer (stripped_state s) answer ≡ IsFitsAnswer s answer
  fit-stripped answer =
      let other = stripped_texts s.rows in
      let rows : length other ≡ length s.rows = ap length (sym (rows-stripped 0 s.rows)) ∙ length-rows (stripped_but nowhere) 0 s.rows in
      let columns : column_count other ≡ column_count s.rows = ap column_count (sym (rows-stripped 0 s.rows)) ∙ columns-same (stripped_but nowhere) 0 s.rows in
      ap (λ (frame : Frame). FitsAnswer frame other (SpansAreGood s.look.extent (length other) (column_count other)) answer) frame-stripped
      ∙ ap (λ n. FitsAnswer (drawn_frame s) other (SpansAreGood s.look.extent n (column_count other)) answer) rows
      ∙ ap (λ n. FitsAnswer (drawn_frame s) other (SpansAreGood s.look.extent (length s.rows) n) answer) columns
      ∙ same answer
    where
      same : (answer : Result (Unit {0}) Fault) → FitsAnswer (drawn_frame s) (stripped_texts s.rows) (SpansAreGood s.look.extent (length s.rows) (column_count s.rows)) answer ≡ IsFitsAnswer s answer
      same (Ok done) = λ k. SpansAreGood s.look.extent (length s.rows) (column_count s.rows) × InRange (drawn_frame s) × (first-stripped (drawn_frame s) k ≡ None)
      same (Err Spans) = refl
      same (Err Range) = refl
      same (Err (Room row column)) = λ k. SpansAreGood s.look.extent (length s.rows) (column_count s.rows) × InRange (drawn_frame s) × (first-stripped (drawn_frame s) k ≡ Some (record { row = row; col = column }))
      same (Err Memory) = refl

-- one table has one result
pub one-answer : (frame : Frame) (rows : List (List (List ℕ))) (Good : Type 0) (a b : Result (Unit {0}) Fault) → FitsAnswer frame rows Good a → FitsAnswer frame rows Good b → a ≡ b
one-answer frame rows Good (Ok x) (Ok y) is bs = refl
one-answer frame rows Good (Ok x) (Err Spans) is bs = absurd (bs is.0)
one-answer frame rows Good (Ok x) (Err Range) is bs = absurd (bs.1 is.1)
one-answer frame rows Good (Ok x) (Err (Room row column)) is bs = let no = sym is.2 ∙ bs.2 in absurd (cc no)
one-answer frame rows Good (Ok x) (Err Memory) is bs = absurd bs
one-answer frame rows Good (Err Spans) (Ok y) is bs = absurd (is bs.0)
one-answer frame rows Good (Err Spans) (Err Spans) is bs = refl
one-answer frame rows Good (Err Spans) (Err Range) is bs = absurd (is bs.0)
one-answer frame rows Good (Err Spans) (Err (Room row column)) is bs = absurd (is bs.0)
one-answer frame rows Good (Err Spans) (Err Memory) is bs = absurd bs
one-answer frame rows Good (Err Range) (Ok y) is bs = absurd (is.1 bs.1)
one-answer frame rows Good (Err Range) (Err Spans) is bs = absurd (bs is.0)
one-answer frame rows Good (Err Range) (Err Range) is bs = refl
one-answer frame rows Good (Err Range) (Err (Room row column)) is bs = absurd (is.1 bs.1)
one-answer frame rows Good (Err Range) (Err Memory) is bs = absurd bs
one-answer frame rows Good (Err (Room row column)) (Ok y) is bs = let no = sym bs.2 ∙ is.2 in absurd (cc no)
one-answer frame rows Good (Err (Room row column)) (Err Spans) is bs = absurd (bs is.0)
one-answer frame rows Good (Err (Room row column)) (Err Range) is bs = absurd (bs.1 is.1)
one-answer frame rows Good (Err (Room row column)) (Err (Room others more)) is bs =
    let e : at row column ≡ at others more = cc (sym is.2 ∙ bs.2) in
    ap (λ (p : Position). Err (Room p.row p.col)) e
one-answer frame rows Good (Err (Room row column)) (Err Memory) is bs = absurd bs
one-answer frame rows Good (Err Memory) b is bs = absurd is

-- ---- both texts

module _ (s : State) (bare : IsBare s.look) (whole : AreWholeTexts s.rows) where
  -- both texts are the same without their sequences
  pub strips-same : ShowNothing s.colors → stripped (printed s) ≡ stripped (printed (stripped_state s))
  strips-same silent =
      printed-stripped s bare whole silent
      ∙ ap (λ (rows : List (List (List ℕ))). printed (record s { rows = rows; colors = λ _. None })) (sym (texts-twice s.rows))
      ∙ sym (printed-stripped (stripped_state s) bare (texts-whole s.rows whole) silent)

  -- without colours it is the text of the table of the stripped texts
  pub printed-uncolored : s.colors ≡ (λ _. None) → stripped (printed s) ≡ printed (stripped_state s)
  printed-uncolored none =
      printed-stripped s bare whole (subst ShowNothing (sym none) (λ _. tt))
      ∙ ap (λ (colors : Position → Option Color). printed (record (stripped_state s) { colors = colors })) (sym none)

-- ---- two tables whose stripped rows agree

pub measures-stripped : (h v : Bool) (text : List ℕ) → cell_measures h v (stripped text) ≡ cell_measures h v text
measures-stripped h v text =
    ap (λ (shown : List ℕ). map (λ line. line_measure (if h then trim line else line)) (those (kept_lines v (slice_split is_line_feed shown)) (slice_split is_line_feed shown))) (stripped-twice text)

-- where each piece is follows from the stripped texts
pub grid-stripped : (s : State) → drawn_grid (stripped_state s) ≡ drawn_grid s
grid-stripped s =
    ap (λ (widths : List ℕ). table_grid s.look (stripped_texts s.rows) s.colors widths (drawn_heights (stripped_state s))) (widths-stripped s)
    ∙ ap (table_grid s.look (stripped_texts s.rows) s.colors (drawn_widths s)) (heights-stripped s)
    ∙ (λ k. record {
      frame = drawn_frame s;
      measures = λ cell. (ap (cell_measures (s.look.trim_horizontal cell) (s.look.trim_vertical cell)) (text-map stripped stripped-none s.rows cell) ∙ measures-stripped (s.look.trim_horizontal cell) (s.look.trim_vertical cell) (text_at s.rows cell)) k;
      text_color = s.colors;
    })

module _ (a b : State) (alike : stripped_state a ≡ stripped_state b) where
  look-same : a.look ≡ b.look
  look-same = ap (λ (s : State). s.look) alike

  -- they have the same sizes, and their pieces are at the same places
  pub same-grid : drawn_grid a ≡ drawn_grid b
  same-grid = sym (grid-stripped a) ∙ ap drawn_grid alike ∙ grid-stripped b

  pub same-widths : drawn_widths a ≡ drawn_widths b
  same-widths = sym (widths-stripped a) ∙ ap drawn_widths alike ∙ widths-stripped b

  pub same-heights : drawn_heights a ≡ drawn_heights b
  same-heights = sym (heights-stripped a) ∙ ap drawn_heights alike ∙ heights-stripped b

  -- a cell with the same text in both has the same lines, and prints the same bytes
  pub same-lines : (cell : Position) (k : ℕ) → text_at a.rows cell ≡ text_at b.rows cell → (in_bytes a.look a.rows).line cell k ≡ (in_bytes b.look b.rows).line cell k
  same-lines cell k same =
      ap (λ (text : List ℕ). get_or (cell_lines (a.look.trim_horizontal cell) (a.look.trim_vertical cell) text) k []) same
      ∙ ap (λ (look : Look). get_or (cell_lines (look.trim_horizontal cell) (look.trim_vertical cell) (text_at b.rows cell)) k []) look-same

  pub same-bytes : (cell : Position) (k : ℕ) → text_at a.rows cell ≡ text_at b.rows cell → cell_line_bytes a cell k ≡ cell_line_bytes b cell k
  same-bytes cell k same =
      ap (λ (line : List ℕ). painted (in_bytes a.look a.rows) (a.colors cell) line) (same-lines cell k same)
      ∙ ap (λ (color : Option Color). painted (in_bytes a.look a.rows) color ((in_bytes b.look b.rows).line cell k)) (ap (λ (s : State). s.colors cell) alike)
      ∙ painted-same (b.colors cell) ((in_bytes b.look b.rows).line cell k)
    where
      painted-same : (color : Option Color) (line : List ℕ) → painted (in_bytes a.look a.rows) color line ≡ painted (in_bytes b.look b.rows) color line
      painted-same None line = refl
      painted-same (Some color) [] = refl
      painted-same (Some color) (x ∷ xs) = refl
