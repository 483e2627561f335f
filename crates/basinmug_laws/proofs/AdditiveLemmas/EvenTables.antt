-- All lines of the table of additive records measure as many columns.
use Rattle.tables_laws.proofs.ShownLemmas.EvenLines.{line-columns}
use Rattle.tables_laws.specs.Shown.CountedTables.{CountsOnes, IsCounted}
use Rattle.tables_laws.proofs.AdditiveLemmas.SpacingTexts.{spacing-counted}
use Rattle.tables_laws.proofs.GridsLemmas.Lists.{list_all-weaker}
use Rattle.papergrid_picture.proofs.Items.{All-keeps}
use Rattle.papergrid_picture.specs.Shown.{ArePlainlyShown, BeginsNoSequence, CostsOne, IsPlainlyShown}
use Rattle.std.proofs.Common.{◌≡◌, ◌<◌, ◌≤◌, ◌-◌, nat_le, nat_lt, ℕ, zero, suc, Bool, true, false, inl, inr, All, List, [], ◌∷◌, Option, None, Some, Ok, length, map, slice_index, slice_set, refl, ap, sym, subst, ◌∙◌, arith, if◌then◌else◌, ◌||◌}
use Rattle.std.specs.Prelude.{IfSome, MatchBool, MatchOption}
use Rattle.std.specs.Int.{is_in_range}
use Rattle.std.specs.List.{AllByRecursion, cons_option, filter, range_with_len}
use Rattle.std.specs.Option.{option_map}
use Rattle.std.proofs.Math.Path.{fun_ext}
use Rattle.std.proofs.lemmas.Bool.{and_parts, cases_lt}
use Rattle.std.proofs.lemmas.Bool.Decides.{nat_tests}
use Rattle.std.proofs.lemmas.List.Elements.{All-from_recursion}
use Rattle.ansi_str.specs.Characters.{shown_chars}
use Rattle.grid_config.specs.Colors.{Color}
use Rattle.grid_config.specs.Looks.{Look}
use Rattle.grid_config_values.specs.Entities.{covered_positions}
use Rattle.grid_config_values.specs.declared.entity.Entity.{Entity}
use Rattle.grid_config_values.specs.declared.entity.Entity.TheVariants.{Global as EveryCell}
use Rattle.grid_config_values.specs.declared.position.Position.{Position}
use Rattle.tables_laws.specs.Characters.AdditiveCharacters.{columns_of, is_additive, is_spacing}
use Rattle.tables_laws.proofs.CharactersLemmas.Classes.{plain-spacing}
use Rattle.grid_records_measure.specs.Measures.{measure, line_cost}
use Rattle.grid_records_measure.specs.PlainCharacters.{is_one_column, is_plain_character}
use Rattle.grid_records_measure.specs.TextLines.{text_width, is_line_feed}
use Rattle.grid_records_measure.proofs.Plain.{one-column, or-first}
use Rattle.grid_records_traits.specs.Rows.{row_at, text_at, with_text}
use Rattle.papergrid.specs.Chosen.{kind_of_line}
use Rattle.papergrid.specs.LineKind.{LineKind}
use Rattle.tables_laws.specs.Grids.CountedLooks.{IsSilent, TakesOne, TakesOnes}
use Rattle.tables_laws.specs.Grids.TextsOf.{AreAdditiveTexts, IsTextOf, AreTextsOf}
use Rattle.papergrid_picture.specs.Colors.ClosingColors.{IsClosing}
use Rattle.papergrid_picture.proofs.ColorsLemmas.Stripped.{closing-show_nothing}
use Rattle.papergrid_picture.specs.Frame.{line_kind}
use Rattle.papergrid_picture.proofs.Related.{All-get_or}
use Rattle.tabled.specs.Printing.{IsFitsAnswer, drawn_frame, drawn_widths}
use Rattle.tabled.specs.Tables.{new_look, new_state}
use Rattle.tabled.specs.Totals.{drawn_height, drawn_line, drawn_width}
use Rattle.tabled_list.specs.Lists.{LeadsThrough}
use Rattle.tabled_steps.specs.Changes.{Change, changed_rows, changes, with_all}
use Rattle.tabled_steps.specs.States.{State, column_count}
use Rattle.tabled_text.specs.Rows.{filled}
use Rattle.basinmug_run.specs.declared.options.Options.{Options}
use Rattle.basinmug_run.specs.Picture.Fitting.{fitted, fitted_text, is_narrowed, trims, with_fitted_texts}
use Rattle.basinmug_run.specs.Picture.Narrowing.{AreAsked, FitsTexts}
use Rattle.basinmug_columns.specs.declared.rows.RowsShown.{RowsShown}
use Rattle.basinmug_run.specs.Picture.Pictures.{IsTable, asked_settings, cells_in, narrowed_to, needs_in, numeric_of}
use Rattle.basinmug_run.specs.Picture.Rows.{header_of}
use Rattle.tables_laws.specs.Shown.ShownTables.{chosen_numbers}
use Rattle.tables_laws.proofs.ShownLemmas.Looks.{colored-also, shows-also}
use Rattle.tables_laws.proofs.ShownLemmas.NewLooks.{new-colored, new-shown}
use Rattle.tables_laws.proofs.ShownLemmas.SomeCells.{no-columns, no-rows}
use Rattle.tables_laws.specs.Additive.MeasuredTables.{IsMeasured}
use Rattle.tables_laws.proofs.AdditiveLemmas.MeasuredLines.{line-measures}
use Rattle.basinmug_laws.specs.Shown.ClosingOptions.{HaveClosingColors}
use Rattle.basinmug_laws.proofs.ShownLemmas.TextSteps.{IsKeptByEach, step-begun, step-fitted}
use Rattle.basinmug_laws.proofs.ShownLemmas.OwnLooks.{HasLineGlyphs, IsOwnLook, IsOwnTable, run-own, settings-own, style-glyphs, trims-own}
use Rattle.tables_laws.proofs.ShownLemmas.SomeCells.{no_spans, positive-none}
use Rattle.basinmug_laws.proofs.AdditiveLemmas.RowsOf.{kept-of}

-- ---- glyphs

abbrev pub IsGlyph : ℕ → Type 0
IsGlyph c = TakesOne is_additive c

additive-one : (c : ℕ) → is_one_column c ≡ true → is_additive c ≡ true
additive-one c one = (and_parts (is_additive c) (nat_le 1 (columns_of c)) (plain-spacing c (or-first (is_one_column c) _ one))).0

ascii-glyph : (c : ℕ) → is_in_range 0x20 0x7E c ≡ true → IsGlyph c
ascii-glyph c printable =
    let one : is_one_column c ≡ true = grind (arith, nat_tests, printable) in
    let least : 0x20 ≤ c = grind (arith, nat_tests, printable) in
    record { begins = record { scalar = grind (arith, nat_tests, printable); no_escape = λ same. omega (arith, least, same) }; one = one-column c one; inside = additive-one c one }

drawn-glyph : (c : ℕ) → 0x2500 ≤ c → c ≤ 0x257f → IsGlyph c
drawn-glyph c low high =
    let one : is_one_column c ≡ true = grind (arith, nat_tests, low, high) in
    record { begins = record { scalar = grind (arith, nat_tests, low, high); no_escape = λ same. omega (arith, low, same) }; one = one-column c one; inside = additive-one c one }

line-glyphs : HasLineGlyphs IsGlyph
line-glyphs = record { hyphen = ascii-glyph 0x2d refl; plus = ascii-glyph 0x2b refl; bar = ascii-glyph 0x7c refl; drawing = drawn-glyph }

new-own : IsOwnLook IsGlyph new_look
new-own = record {
  shown = new-shown IsGlyph (ascii-glyph 0x2d refl) (ascii-glyph 0x2b refl) (ascii-glyph 0x7c refl) (ascii-glyph 0x20 refl);
  uncolored = new-colored (λ color. color ≡ None) refl;
  single_cells = refl;
}

ones : (look : Look) → IsOwnLook IsGlyph look → TakesOnes is_additive look
ones look own = record { shown = own.shown; colors = colored-also (λ color. color ≡ None) IsSilent silent look own.uncolored }
  where
    silent : (color : Option Color) → color ≡ None → IsSilent color
    silent None is = tt
    silent (Some color) is = absurd (cc is)

-- ---- rows that change

module _ (P : List ℕ → Type 0) where
  All-set : {X : Type 0} (Q : X → Type 0) (xs : List X) (k : ℕ) (x : X) → AllByRecursion Q xs → Q x → AllByRecursion Q (slice_set xs k x)
  All-set Q [] k x all is = all
  All-set Q (y ∷ ys) zero x all is = (is, all.1)
  All-set Q (y ∷ ys) (suc k) x all is = (all.0, All-set Q ys k x all.1 is)

  module _ (change : Position → List ℕ → Option (List ℕ)) (rows : List (List (List ℕ))) (all : AllByRecursion (AllByRecursion P) rows) (changes_so : (p : Position) → IfSome (change p (text_at rows p)) P) where
    set-all : (others : List (List (List ℕ))) (p : Position) (text : List ℕ) → AllByRecursion (AllByRecursion P) others → P text → AllByRecursion (AllByRecursion P) (with_text others p text)
    set-all others p text each is =
        All-set (AllByRecursion P) others p.row (slice_set (row_at others p.row) p.col text) each
        (All-set P (row_at others p.row) p.col text (All-get_or (AllByRecursion P) others p.row [] each tt) is)

    first-all : (p : Position) (found : Option (List ℕ)) (rest : List Change) → IfSome found P → AllByRecursion (AllByRecursion P) (with_all rest rows) → AllByRecursion (AllByRecursion P) (with_all (cons_option (option_map (λ text. (p, text)) found) rest) rows)
    first-all p None rest is each = each
    first-all p (Some text) rest is each = set-all (with_all rest rows) p text each is

    all-changes : (places : List Position) → AllByRecursion (AllByRecursion P) (with_all (changes change rows places) rows)
    all-changes [] = all
    all-changes (p ∷ places) = first-all p (change p (text_at rows p)) (changes change rows places) (changes_so p) (all-changes places)

    changed-all : (at : Entity) (n : ℕ) → AllByRecursion (AllByRecursion P) (changed_rows change at n rows)
    changed-all at n = all-changes (covered_positions at (length rows) n)

-- ---- the table

-- its look is of such glyphs and without colours, those of cells are of a kind, and its texts are so
pub record IsEven (P : List ℕ → Type 0) (Q : Color → Type 0) (s : State) : Type 0 where
  pub own : IsOwnTable IsGlyph Q s.rows s
  pub texts : AllByRecursion (AllByRecursion P) s.rows

-- what each step keeps of the texts, and a kind of which the colours of the columns are
module _ (P : List ℕ → Type 0) (kept : IsKeptByEach P) (Q : Color → Type 0)
    (options : Options) (shown : RowsShown) (rows : List (List (List ℕ))) (asked : AllByRecursion (λ pair. Q pair.1) options.colors.items) (texts : AllByRecursion (AllByRecursion P) rows) where
  abbrev begun : State
  begun = new_state (filled (cells_in options shown rows))

  begun-even : IsEven P Q begun
  begun-even = record { own = record { look = new-own; colors = λ cell. tt; rows_are = refl }; texts = step-begun P kept options.line_style options.header shown rows texts }

  again : (s : State) (before : List (List (List ℕ))) → IsOwnTable IsGlyph Q before s → AllByRecursion (AllByRecursion P) before → IsEven P Q s
  again s before own all = record { own = record { look = own.look; colors = own.colors; rows_are = refl }; texts = subst (AllByRecursion (AllByRecursion P)) (sym own.rows_are) all }

  after-even : (after : State) → LeadsThrough (asked_settings options rows) begun after → IsEven P Q after
  after-even after leads =
      again after begun.rows
      (run-own IsGlyph Q begun.rows (asked_settings options rows)
      (settings-own IsGlyph Q options.line_style (header_of options.header rows) (numeric_of options.header rows) options.alignments.items options.colors.items (style-glyphs IsGlyph line-glyphs options.line_style) asked)
      begun after begun-even.own leads)
      begun-even.texts

  at-place : (others : List (List (List ℕ))) → AllByRecursion (AllByRecursion P) others → (place : Position) → P (text_at others place)
  at-place others all place = All-get_or P (row_at others place.row) place.col [] (All-get_or (AllByRecursion P) others place.row [] all tt) kept.nothing

  middle-texts : (truncate : Bool) (widths rooms : List ℕ) (after : State) → AllByRecursion (AllByRecursion P) after.rows → AllByRecursion (AllByRecursion P) (with_fitted_texts truncate widths rooms after).rows
  middle-texts truncate widths rooms after all =
      changed-all P (λ place. fitted truncate widths rooms place.col) after.rows all each EveryCell (column_count after.rows)
    where
      each : (place : Position) → IfSome (fitted truncate widths rooms place.col (text_at after.rows place)) P
      each place = by (is_narrowed widths rooms place.col) (nat_lt (slice_index rooms place.col - 2) (text_width (text_at after.rows place)))
        where
          by : (narrowed wide : Bool) → IfSome (if narrowed then (if wide then Some (fitted_text truncate (slice_index rooms place.col - 2) (text_at after.rows place)) else None) else None) P
          by true true = step-fitted P kept truncate (slice_index rooms place.col - 2) (text_at after.rows place) (at-place after.rows all place)
          by true false = tt
          by false wide = tt

  narrowed-even : (width : ℕ) (after new : State) → IsEven P Q after → FitsTexts options.truncate options.priority (needs_in options.header rows) width after new → IsEven P Q new
  narrowed-even width after new even fits = by (nat_le (drawn_width after) width) fits
    where
      by : (b : Bool) → MatchBool b (new ≡ after)
          ((rooms : List ℕ) × AreAsked options.truncate options.priority (needs_in options.header rows) width after rooms
          × LeadsThrough (trims options.truncate (drawn_widths after) rooms) (with_fitted_texts options.truncate (drawn_widths after) rooms after) new) → IsEven P Q new
      by true same = subst (IsEven P Q) (sym same) even
      by false (rooms, asked, leads) =
          let widths = drawn_widths after in
          let middle = with_fitted_texts options.truncate widths rooms after in
          let middle_own : IsOwnTable IsGlyph Q middle.rows middle = record { look = even.own.look; colors = even.own.colors; rows_are = refl } in
          again new middle.rows (run-own IsGlyph Q middle.rows (trims options.truncate widths rooms) (trims-own IsGlyph Q options.truncate widths rooms) middle new middle_own leads) (middle-texts options.truncate widths rooms after even.texts)

  pub table-even : (s : State) → IsTable options shown rows s → IsEven P Q s
  table-even s (after, leads, made) = by (narrowed_to options) made
    where
      by : (asked : Option ℕ) → MatchOption asked (s ≡ after) (λ width. FitsTexts options.truncate options.priority (needs_in options.header rows) width after s) → IsEven P Q s
      by None same = subst (IsEven P Q) (sym same) (after-even after leads)
      by (Some width) fits = narrowed-even width after s (after-even after leads) fits

-- ---- chosen lines

module _ (s : State) (Takes : List ℕ → Type 0) (each : 0 < length s.rows → 0 < column_count s.rows → (y : ℕ) → Takes (drawn_line s y)) where
  each-takes : 0 < length s.rows → 0 < column_count s.rows → (ys : List ℕ) → AllByRecursion Takes (map (drawn_line s) ys)
  each-takes some_rows some_columns [] = tt
  each-takes some_rows some_columns (y ∷ ys) = (each some_rows some_columns y, each-takes some_rows some_columns ys)

  -- without rows or columns there is no line
  no-lines : (chooses : LineKind → Bool) → drawn_height s ≡ 0 → AllByRecursion Takes (map (drawn_line s) (chosen_numbers s chooses))
  no-lines chooses none =
      subst (λ n. AllByRecursion Takes (map (drawn_line s) (filter (λ y. chooses (kind_of_line (line_kind (drawn_frame s).rows y))) (range_with_len 0 n)))) (sym none) tt

  chosen-take : (chooses : LineKind → Bool) → All Takes (map (drawn_line s) (chosen_numbers s chooses))
  chosen-take chooses =
      All-from_recursion Takes (map (drawn_line s) (chosen_numbers s chooses))
      (elim (cases_lt 0 (length s.rows)) [
        | inl some_rows ↦
            elim (cases_lt 0 (column_count s.rows)) [
              | inl some_columns ↦ each-takes some_rows some_columns (chosen_numbers s chooses)
              | inr none ↦ no-lines chooses (no-columns s (omega (arith, none)))
            ]
        | inr none ↦ no-lines chooses (no-rows s (omega (arith, none)))
      ])

-- ---- additive records measure, and spacing ones cost

pub ascii-additive : (c : ℕ) → is_in_range 0x20 0x7E c ≡ true → is_additive c ≡ true
ascii-additive c printable = (ascii-glyph c printable).inside

ascii-spacing : (c : ℕ) → is_in_range 0x20 0x7E c ≡ true → is_spacing c ≡ true
ascii-spacing c printable = let one : is_one_column c ≡ true = grind (arith, nat_tests, printable) in plain-spacing c (or-first (is_one_column c) _ one)

counts : (look : Look) → IsOwnLook IsGlyph look → CountsOnes look
counts look own =
    let takes = ones look own in
    record {
      shown = shows-also IsGlyph BeginsNoSequence (λ c is. is.begins) look own.shown;
      ones = shows-also IsGlyph CostsOne (λ c is. let one = is.one in omega (arith, one)) look own.shown;
      colors = takes.colors;
    }

module _ (options : Options) (shown : RowsShown) (rows : List (List (List ℕ))) (closing : HaveClosingColors options) where
  measured : AreAdditiveTexts rows → (s : State) → IsTable options shown rows s → IsFitsAnswer s (Ok tt) → 0 < length s.rows → 0 < column_count s.rows → IsMeasured [] s
  measured texts s is fits some_rows some_columns =
      let even = table-even (IsTextOf is_additive) (kept-of is_additive ascii-additive refl refl) IsClosing options shown rows closing texts s is in
      record {
        extents = even.own.look.single_cells ∙ fun_ext no_spans;
        positive = positive-none;
        some_rows = some_rows;
        some_columns = some_columns;
        fits = fits;
        look = ones s.look even.own.look;
        cells = closing-show_nothing s.colors even.own.colors;
        texts = even.texts;
      }

  pub lines-even : AreAdditiveTexts rows → (s : State) (chooses : LineKind → Bool) → IsTable options shown rows s → IsFitsAnswer s (Ok tt)
      → All (λ line. measure (shown_chars line) ≡ drawn_width s) (map (drawn_line s) (chosen_numbers s chooses))
  lines-even texts s chooses is fits =
      chosen-take s (λ line. measure (shown_chars line) ≡ drawn_width s) (λ some_rows some_columns y. line-measures [] s y (measured texts s is fits some_rows some_columns)) chooses

  counted : AreTextsOf is_spacing rows → (s : State) → IsTable options shown rows s → IsFitsAnswer s (Ok tt) → 0 < length s.rows → 0 < column_count s.rows → IsCounted [] s
  counted texts s is fits some_rows some_columns =
      let even = table-even (IsTextOf is_spacing) (kept-of is_spacing ascii-spacing refl refl) IsClosing options shown rows closing texts s is in
      spacing-counted [] s (even.own.look.single_cells ∙ fun_ext no_spans) positive-none (counts s.look even.own.look) (closing-show_nothing s.colors even.own.colors) even.texts some_rows some_columns fits

  pub lines-cost : AreTextsOf is_spacing rows → (s : State) (chooses : LineKind → Bool) → IsTable options shown rows s → IsFitsAnswer s (Ok tt)
      → All (λ line. line_cost (shown_chars line) ≡ drawn_width s) (map (drawn_line s) (chosen_numbers s chooses))
  lines-cost texts s chooses is fits =
      chosen-take s (λ line. line_cost (shown_chars line) ≡ drawn_width s) (λ some_rows some_columns y. line-columns [] s y (counted texts s is fits some_rows some_columns)) chooses

-- ---- plain records

plain-text : (text : List ℕ) → IsPlainlyShown text → IsTextOf is_spacing text
plain-text text is = record {
  whole = is.whole;
  shown = list_all-weaker (λ c. is_plain_character c || is_line_feed c) (λ c. is_spacing c || is_line_feed c) each (shown_chars text) is.plain;
}
  where
    either : (a b rest : Bool) → (a ≡ true → b ≡ true) → (a || rest) ≡ true → (b || rest) ≡ true
    either true b rest so h = ap (λ x. x || rest) (so refl)
    either false true rest so h = refl
    either false false rest so h = h

    each : (c : ℕ) → (is_plain_character c || is_line_feed c) ≡ true → (is_spacing c || is_line_feed c) ≡ true
    each c h = either (is_plain_character c) (is_spacing c) (is_line_feed c) (plain-spacing c) h

pub plain-rows : (rows : List (List (List ℕ))) → ArePlainlyShown rows → AreTextsOf is_spacing rows
plain-rows rows plain = All-keeps (AllByRecursion IsPlainlyShown) (AllByRecursion (IsTextOf is_spacing)) (λ row all. All-keeps IsPlainlyShown (IsTextOf is_spacing) plain-text row all) rows plain
