-- How many columns the lines of a picture take.
use Rattle.std.proofs.Common.{◌≡◌, ◌||◌, ◌&&◌, ℕ, zero, suc, ◌+◌, ◌≤◌, ◌==◌, Bool, true, false, cond, List, [], ◌∷◌, ◌++◌, Option, None, Some, map, length, replicate, take, drop, get_or, refl, ap, sym, subst, ◌∙◌, arith, append_assoc, length-append}
use Rattle.std.specs.Prelude.{chars, encode_utf8, encode_utf8_all, flat_map, slice_index, IfSome, IsUtf8}
use Rattle.std.specs.List.{AllByRecursion, filter, list_all, onto_first, slice_split, sum_by}
use Rattle.std.specs.Char.{is_whitespace}
use Rattle.std.specs.Str.{drop_trailing_whitespace, skip_leading_whitespace, trim, trim_end, trim_start}
use Rattle.std.proofs.Math.Utf8.{scalar, scalars}
use Rattle.std.proofs.lemmas.Bool.{and_parts}
use Rattle.std.proofs.lemmas.Bool.Decides.{nat_tests}
use Rattle.std.proofs.lemmas.List.{length-replicate}
use Rattle.std.proofs.lemmas.List.Sums.{sum_by-append, sum_by-cons}
use Rattle.std.proofs.lemmas.Simd.{map-map}
use Rattle.std.proofs.lemmas.Str.{chars-append, chars-encodes, chars-nil, scalars-chars, IsUtf8-append, IsUtf8-encode, IsUtf8-nil}
use Rattle.ansi_scan.specs.Sequences.{NoneBroken}
use Rattle.ansi_scan.specs.Pieces.{pieces}
use Rattle.ansi_str_search.specs.Text.Characters.{shown_chars}
use Rattle.ansi_str_search.specs.Text.StyledText.{strip}
use Rattle.ansi_str_search.proofs.TextLemmas.Utf8Pieces.{IsUtf8-shown_text}
use Rattle.grid_config_values.specs.declared.position.Position.{Position}
use Rattle.grid_config_values.specs.Glyphs.{along_column, crossing, in_row}
use Rattle.grid_config_values.specs.declared.spans.extent.Extent.{Extent}
use Rattle.grid_config.specs.Colors.{Color}
use Rattle.grid_config.specs.Looks.{Look}
use Rattle.grid_records_measure.specs.Measures.{line_cost, cost, measure}
use Rattle.grid_records_measure.specs.PlainCharacters.{is_plain_character}
use Rattle.grid_records_measure.specs.TextLines.{is_line_feed, line_measure, shown_lines, text_lines, widest}
use Rattle.grid_records_measure.specs.Trimming.{trimmed}
use Rattle.grid_records_measure.proofs.TextLines.{text_lines-shown}
use Rattle.grid_records_measure.proofs.Plain.{line_cost-plain, measure-plain, one-column}
use Rattle.grid_records_traits.specs.Rows.{text_at}
use Rattle.papergrid_picture.specs.CellLines.{cell_lines, cell_measures, kept_lines, those}
use Rattle.papergrid_picture.specs.Tables.{in_bytes, table_grid, table_line}
use Rattle.papergrid_picture.specs.Frame.{frame_of, full_line_width}
use Rattle.papergrid_picture.specs.Blocks.{Content, Fill, Glyph, TextLine, Grid, Part}
use Rattle.papergrid_picture.specs.Picture.{parts_of, picture_line}
use Rattle.papergrid_picture.specs.Reading.{Reading, color_runs, continues, is_drawn, line_items, onto_color_runs, painted, part_items, run_items}
use Rattle.papergrid_picture.specs.Shown.{ArePlainlyShown, CostsOne, IsBare, IsPlainlyShown, BeginsNoSequence, ShowsOnly, WritesNothing, character_of}
use Rattle.papergrid_picture.specs.Tiling.{HasGoodSpans, HasRoom}
use Rattle.papergrid_picture.proofs.Items.{Anything, colored-anyhow, shows-anything, slice_split-map}
use Rattle.papergrid_picture.proofs.Related.{All-get_or, parts-hold, related-picture_line}
use Rattle.papergrid_picture.proofs.Shown.{All-drop, All-take, IsClosedPart, BeginsNoSequence-space, characters-styled, chars-one, lines-closed_parts, lines-styled, map-same, painted-nothing, pieces-nothing, styled_of, those-map}
use Rattle.papergrid_picture.proofs.Stripped.{Leaves-append, Leaves-character, Leaves-trimmed, stripped, stripped-plain, trimmed-plain}
use Rattle.papergrid_picture.proofs.Tiling.{Tiles-picture, widths_of}
use Rattle.papergrid_picture.proofs.Wide.{Tiles-widths}

-- ---- where nothing is painted, runs don't matter

module _ {X : Type 0} (reading : Reading X) (plain : (color : Option Color) (items : List X) → painted reading color items ≡ items) where
  run-plain : (run : List Part) → run_items reading run ≡ flat_map (part_items reading) run
  run-plain [] = refl
  run-plain (part ∷ parts) = plain part.color (flat_map (part_items reading) (part ∷ parts))

  onto-plain : (part : Part) (runs : List (List Part)) → flat_map (flat_map (part_items reading)) (onto_color_runs part runs) ≡ part_items reading part ++ flat_map (flat_map (part_items reading)) runs
  onto-plain part [] = append_assoc (part_items reading part) [] []
  onto-plain part ([] ∷ runs) = append_assoc (part_items reading part) [] (flat_map (flat_map (part_items reading)) runs)
  onto-plain part ((next ∷ run) ∷ runs) =
      let rest = flat_map (flat_map (part_items reading)) runs in
      elim (continues part next) as (λ b. flat_map (flat_map (part_items reading)) (cond b ((part ∷ next ∷ run) ∷ runs) ((part ∷ []) ∷ (next ∷ run) ∷ runs))
      ≡ part_items reading part ++ (flat_map (part_items reading) (next ∷ run) ++ rest)) [
        | true ↦ append_assoc (part_items reading part) (flat_map (part_items reading) (next ∷ run)) rest
        | false ↦ append_assoc (part_items reading part) [] (flat_map (part_items reading) (next ∷ run) ++ rest)
      ]

  runs-plain : (parts : List Part) → flat_map (flat_map (part_items reading)) (color_runs parts) ≡ flat_map (part_items reading) parts
  runs-plain [] = refl
  runs-plain (part ∷ parts) = onto-plain part (color_runs parts) ∙ ap (λ items. part_items reading part ++ items) (runs-plain parts)

  hidden : (content : Content) (width : ℕ) (color : Option Color) → is_drawn (record { width = width; content = content; color = color }) ≡ false
      → part_items reading (record { width = width; content = content; color = color }) ≡ []
  hidden (Fill c) width color h = absurd (cc h)
  hidden (Glyph c) zero color h = refl
  hidden (Glyph c) (suc n) color h = absurd (grind (arith, nat_tests, h))
  hidden (TextLine cell k) width color h = absurd (cc h)

  shown-plain : (parts : List Part) → flat_map (part_items reading) (filter is_drawn parts) ≡ flat_map (part_items reading) parts
  shown-plain [] = refl
  shown-plain (part ∷ parts) =
      elim (is_drawn part) as (λ b. is_drawn part ≡ b → flat_map (part_items reading) (cond b (part ∷ filter is_drawn parts) (filter is_drawn parts)) ≡ part_items reading part ++ flat_map (part_items reading) parts) [
        | true ↦ λ h. ap (λ items. part_items reading part ++ items) (shown-plain parts)
        | false ↦ λ h. shown-plain parts ∙ ap (λ items. items ++ flat_map (part_items reading) parts) (sym (hidden part.content part.width part.color h))
      ] refl

  -- a line shows its parts one after the other
  pub line_items-plain : (parts : List Part) → line_items reading parts ≡ flat_map (part_items reading) parts
  line_items-plain parts =
      (λ n. flat_map (λ run. run-plain run n) (color_runs (filter is_drawn parts)))
      ∙ runs-plain (filter is_drawn parts) ∙ shown-plain parts

-- ---- a unit for each column

abbrev Column : Type 0
Column = Unit {0}

abbrev in_columns : Grid → Reading Column
in_columns grid = record { item = λ c. tt ∷ []; line = λ cell k. replicate (slice_index (grid.measures cell) k) tt; paint = λ color items. items }

columns-plainly : (grid : Grid) (color : Option Color) (items : List Column) → painted (in_columns grid) color items ≡ items
columns-plainly grid None items = refl
columns-plainly grid (Some color) [] = refl
columns-plainly grid (Some color) (x ∷ xs) = refl

ones : (n c : ℕ) → length (flat_map (λ (_ : ℕ). tt {0} ∷ []) (replicate n c)) ≡ n
ones zero c = refl
ones (suc n) c = ap suc (ones n c)

-- ---- columns of bytes

-- bytes that show characters of so many columns, and no ESC of them is broken
pub record Takes (bytes : List ℕ) (units : List Column) : Type 0 where
  pub utf8 : IsUtf8 (stripped bytes)
  pub whole : NoneBroken (pieces bytes)
  pub counted : line_cost (chars (stripped bytes)) ≡ length units

Takes-nothing : Takes [] []
Takes-nothing = record { utf8 = subst IsUtf8 (sym (ap strip pieces-nothing)) IsUtf8-nil; whole = subst NoneBroken (sym pieces-nothing) tt; counted = ap (λ ps. line_cost (chars (strip ps))) pieces-nothing ∙ ap line_cost chars-nil }

Takes-append : (a c : List ℕ) (b d : List Column) → Takes a b → Takes c d → Takes (a ++ c) (b ++ d)
Takes-append a c b d first second =
    let both = Leaves-append a c (stripped a) (stripped c) (record { whole = first.whole; left = refl }) (record { whole = second.whole; left = refl }) in
    record {
      utf8 = subst IsUtf8 (sym both.left) (IsUtf8-append (stripped a) (stripped c) first.utf8 second.utf8);
      whole = both.whole;
      counted =
          ap (λ bytes. line_cost (chars bytes)) both.left
          ∙ ap line_cost (chars-append (stripped a) (stripped c) first.utf8)
          ∙ sum_by-append cost (chars (stripped a)) (chars (stripped c))
          ∙ ap (λ n. n + line_cost (chars (stripped c))) first.counted
          ∙ ap (λ n. length b + n) second.counted
          ∙ sym (length-append b d);
    }

space-costs : CostsOne 0x20
space-costs = let own = one-column 0x20 refl in omega (arith, own)

abbrev CostsOneShown : ℕ → Type 0
CostsOneShown c = BeginsNoSequence c × CostsOne c

Takes-character : (c : ℕ) → CostsOneShown c → Takes (encode_utf8 c) (tt ∷ [])
Takes-character c is =
    let left = Leaves-character c is.0 in
    record {
      utf8 = subst IsUtf8 (sym left.left) (IsUtf8-encode c is.0.scalar);
      whole = left.whole;
      counted = ap (λ bytes. line_cost (chars bytes)) left.left ∙ ap line_cost (chars-one c is.0.scalar) ∙ sum_by-cons cost c [] ∙ ap (λ n. n + 0) is.1;
    }

-- ---- the lines of a cell

abbrev pub is_plain_or_feed : ℕ → Bool
is_plain_or_feed c = is_plain_character c || is_line_feed c

abbrev pub ArePlain : List ℕ → Type 0
ArePlain cs = list_all is_plain_character cs ≡ true

onto-plain_line : (c : ℕ) (lines : List (List ℕ)) → is_plain_character c ≡ true → AllByRecursion ArePlain lines → AllByRecursion ArePlain (onto_first c lines)
onto-plain_line c [] plain all = (ap (λ b. b && true) plain, tt)
onto-plain_line c (line ∷ lines) plain all = (ap (λ b. b && list_all is_plain_character line) plain ∙ all.0, all.1)

-- split at its line feeds, a text of plain characters and line feeds has lines of plain ones
split-plain : (cs : List ℕ) → list_all is_plain_or_feed cs ≡ true → AllByRecursion ArePlain (slice_split is_line_feed cs)
split-plain [] all = (refl, tt)
split-plain (c ∷ cs) all =
    let parts = and_parts (is_plain_or_feed c) (list_all is_plain_or_feed cs) all in
    let rest = split-plain cs parts.1 in
    elim (is_line_feed c) as (λ b. is_line_feed c ≡ b → AllByRecursion ArePlain (cond b ([] ∷ slice_split is_line_feed cs) (onto_first c (slice_split is_line_feed cs)))) [
      | true ↦ λ feed. (refl, rest)
      | false ↦ λ other. onto-plain_line c (slice_split is_line_feed cs) (other-plain (is_plain_character c) (is_line_feed c) parts.0 other) rest
    ] refl
  where
    other-plain : (plain feed : Bool) → (plain || feed) ≡ true → feed ≡ false → plain ≡ true
    other-plain true feed either other = refl
    other-plain false feed either other = let no : false ≡ true = sym other ∙ either in absurd (cc no)

-- white space at the ends is taken away, and nothing else
pub skip-plain : (p : ℕ → Bool) (cs : List ℕ) → list_all p cs ≡ true → list_all p (skip_leading_whitespace cs) ≡ true
skip-plain p [] all = refl
skip-plain p (c ∷ cs) all = elim (is_whitespace c) as (λ b. list_all p (cond b (skip_leading_whitespace cs) (c ∷ cs)) ≡ true) [
  | true ↦ skip-plain p cs (and_parts (p c) (list_all p cs) all).1
  | false ↦ all
]

pub drop-plain : (p : ℕ → Bool) (cs : List ℕ) → list_all p cs ≡ true → list_all p (drop_trailing_whitespace cs) ≡ true
drop-plain p [] all = refl
drop-plain p (c ∷ cs) all =
    let parts = and_parts (p c) (list_all p cs) all in
    elim (is_whitespace c && length (drop_trailing_whitespace cs) == 0) as (λ b. list_all p (cond b [] (c ∷ drop_trailing_whitespace cs)) ≡ true) [
      | true ↦ refl
      | false ↦ ap (λ b. b && list_all p (drop_trailing_whitespace cs)) parts.0 ∙ drop-plain p cs parts.1
    ]

-- and what is left takes no more
module _ (f : ℕ → ℕ) where
  pub skip-less : (cs : List ℕ) → sum_by f (skip_leading_whitespace cs) ≤ sum_by f cs
  skip-less [] = omega arith
  skip-less (c ∷ cs) = elim (is_whitespace c) as (λ b. sum_by f (cond b (skip_leading_whitespace cs) (c ∷ cs)) ≤ sum_by f (c ∷ cs)) [
    | true ↦ omega (arith, skip-less cs, sum_by-cons f c cs)
    | false ↦ omega arith
  ]

  pub drop-less : (cs : List ℕ) → sum_by f (drop_trailing_whitespace cs) ≤ sum_by f cs
  drop-less [] = omega arith
  drop-less (c ∷ cs) = elim (is_whitespace c && length (drop_trailing_whitespace cs) == 0) as (λ b. sum_by f (cond b [] (c ∷ drop_trailing_whitespace cs)) ≤ sum_by f (c ∷ cs)) [
    | true ↦ omega arith
    | false ↦ omega (arith, drop-less cs, sum_by-cons f c cs, sum_by-cons f c (drop_trailing_whitespace cs))
  ]

-- of some lines none is wider than the widest
pub widest-take : (n : ℕ) (lines : List (List ℕ)) → widest (take n lines) ≤ widest lines
widest-take zero lines = omega arith
widest-take (suc n) [] = omega arith
widest-take (suc n) (line ∷ lines) = omega (arith, widest-take n lines)

pub widest-drop : (n : ℕ) (lines : List (List ℕ)) → widest (drop n lines) ≤ widest lines
widest-drop zero lines = omega arith
widest-drop (suc n) [] = omega arith
widest-drop (suc n) (line ∷ lines) = omega (arith, widest-drop n lines)

module _ (text : List ℕ) (is : IsPlainlyShown text) where
  lines-of_characters : map (λ part. chars (stripped part)) (text_lines text) ≡ slice_split is_line_feed (shown_chars text)
  lines-of_characters =
      map-same IsClosedPart (λ part. chars (stripped part)) (λ part. map character_of (styled_of part)) (λ part closed. sym (characters-styled part closed.utf8)) (text_lines text) (lines-closed_parts text is.whole)
      ∙ sym (map-map (map character_of) styled_of (text_lines text))
      ∙ ap (map (map character_of)) (lines-styled text is.whole)
      ∙ sym (slice_split-map character_of is_line_feed (styled_of text))
      ∙ ap (slice_split is_line_feed) (characters-styled text is.whole.utf8)

  abbrev pub IsPlainPart : List ℕ → Type 0
  IsPlainPart part = ArePlain (chars (stripped part))

  unmapped : {A B : Type 0} (P : B → Type 0) (f : A → B) (xs : List A) → AllByRecursion P (map f xs) → AllByRecursion (λ x. P (f x)) xs
  unmapped P f [] all = tt
  unmapped P f (x ∷ xs) all = (all.0, unmapped P f xs all.1)

  pub plain-parts : AllByRecursion IsPlainPart (text_lines text)
  plain-parts =
      unmapped ArePlain (λ part. chars (stripped part)) (text_lines text)
      (subst (λ (lines : List (List ℕ)). AllByRecursion ArePlain lines) (sym lines-of_characters) (split-plain (shown_chars text) is.plain))

-- ---- a trimmed line

scalars-all : (cs : List ℕ) → scalars cs ≡ list_all scalar cs
scalars-all [] = refl
scalars-all (c ∷ cs) = ap (λ b. scalar c && b) (scalars-all cs)

module _ (text : List ℕ) (utf8 : IsUtf8 text) where
  abbrev left_of : List ℕ
  left_of = drop_trailing_whitespace (skip_leading_whitespace (chars text))

  front-scalars : scalars (skip_leading_whitespace (chars text)) ≡ true
  front-scalars = scalars-all (skip_leading_whitespace (chars text)) ∙ skip-plain scalar (chars text) (sym (scalars-all (chars text)) ∙ scalars-chars text utf8)

  left-scalars : scalars left_of ≡ true
  left-scalars =
      scalars-all left_of ∙ drop-plain scalar (skip_leading_whitespace (chars text)) (sym (scalars-all (skip_leading_whitespace (chars text))) ∙ front-scalars)

  start-is : trim_start text ≡ encode_utf8_all (skip_leading_whitespace (chars text))
  unfolding trim_start
  start-is = refl

  end-is : (bytes : List ℕ) → trim_end bytes ≡ encode_utf8_all (drop_trailing_whitespace (chars bytes))
  unfolding trim_end
  end-is bytes = refl

  trim-is : trim text ≡ encode_utf8_all left_of
  trim-is =
      end-is (trim_start text)
      ∙ ap (λ bytes. encode_utf8_all (drop_trailing_whitespace (chars bytes))) start-is
      ∙ ap (λ cs. encode_utf8_all (drop_trailing_whitespace cs)) (chars-encodes (skip_leading_whitespace (chars text)) front-scalars)

  pub chars-trim : chars (trim text) ≡ left_of
  chars-trim = ap chars trim-is ∙ chars-encodes left_of left-scalars

  pub IsUtf8-trim : IsUtf8 (trim text)
  IsUtf8-trim = (left_of, (left-scalars, sym trim-is))

  plain-trim : ArePlain (chars text) → ArePlain (chars (trim text))
  plain-trim plain = ap (list_all is_plain_character) chars-trim ∙ drop-plain is_plain_character (skip_leading_whitespace (chars text)) (skip-plain is_plain_character (chars text) plain)

-- what a trimmed line shows
pub shown-trimmed : (part : List ℕ) → IsClosedPart part → stripped (trimmed part) ≡ trim (stripped part)
shown-trimmed part closed = (Leaves-trimmed part closed).left ∙ trimmed-plain (stripped part) (IsUtf8-shown_text part closed.utf8) (stripped-plain part)

-- ---- a line of a cell takes the columns that it measures

plainly-counted : (cs : List ℕ) → ArePlain cs → line_cost cs ≡ length (replicate (measure cs) (tt {0}))
plainly-counted cs plain = line_cost-plain cs plain ∙ sym (measure-plain cs plain) ∙ sym (length-replicate (measure cs) tt)

module _ (text : List ℕ) (is : IsPlainlyShown text) (trim_horizontal trim_vertical : Bool) where
  abbrev kept : ℕ × ℕ
  kept = kept_lines trim_vertical (shown_lines (pieces text))

  abbrev IsGoodPart : List ℕ → Type 0
  IsGoodPart part = IsClosedPart part × ArePlain (chars (stripped part))

  both-parts : (parts : List (List ℕ)) → AllByRecursion IsClosedPart parts → AllByRecursion (λ part. ArePlain (chars (stripped part))) parts → AllByRecursion IsGoodPart parts
  both-parts [] closed plain = tt
  both-parts (part ∷ parts) closed plain = ((closed.0, plain.0), both-parts parts closed.1 plain.1)

  good-parts : AllByRecursion IsGoodPart (those kept (text_lines text))
  good-parts =
      All-take IsGoodPart kept.1 (drop kept.0 (text_lines text)) (All-drop IsGoodPart kept.0 (text_lines text)
      (both-parts (text_lines text) (lines-closed_parts text is.whole) (plain-parts text is)))

  abbrev measure_of : List ℕ → ℕ
  measure_of shown = line_measure (cond trim_horizontal (trim shown) shown)

  Takes-part : (part : List ℕ) → IsGoodPart part → Takes (cond trim_horizontal (trimmed part) part) (replicate (measure_of (stripped part)) tt)
  Takes-part part good =
      let utf8 = IsUtf8-shown_text part good.0.utf8 in
      elim trim_horizontal as (λ b. Takes (cond b (trimmed part) part) (replicate (line_measure (cond b (trim (stripped part)) (stripped part))) tt)) [
        | true ↦
            let leaves = Leaves-trimmed part good.0 in
            let shown = shown-trimmed part good.0 in
            record {
              utf8 = subst IsUtf8 (sym shown) (IsUtf8-trim (stripped part) utf8);
              whole = leaves.whole;
              counted = ap (λ bytes. line_cost (chars bytes)) shown ∙ plainly-counted (chars (trim (stripped part))) (plain-trim (stripped part) utf8 good.1);
            }
        | false ↦ record { utf8 = utf8; whole = good.0.closed.none_broken; counted = plainly-counted (chars (stripped part)) good.1 }
      ]

  Takes-parts : (parts : List (List ℕ)) → AllByRecursion IsGoodPart parts → (k : ℕ)
      → Takes (get_or (map (λ part. cond trim_horizontal (trimmed part) part) parts) k []) (replicate (get_or (map (λ part. measure_of (stripped part)) parts) k 0) tt)
  Takes-parts [] all k = Takes-nothing
  Takes-parts (part ∷ parts) all zero = Takes-part part all.0
  Takes-parts (part ∷ parts) all (suc k) = Takes-parts parts all.1 k

  cell_line-takes : (k : ℕ) → Takes (get_or (cell_lines trim_horizontal trim_vertical text) k []) (replicate (slice_index (cell_measures trim_horizontal trim_vertical text) k) tt)
  cell_line-takes k =
      let measures : cell_measures trim_horizontal trim_vertical text ≡ map (λ part. measure_of (stripped part)) (those kept (text_lines text)) =
      ap (λ shown. map measure_of (those kept shown)) (sym (text_lines-shown text is.whole.whole))
      ∙ ap (map measure_of) (those-map stripped kept (text_lines text))
      ∙ map-map measure_of stripped (those kept (text_lines text)) in
      subst (λ (ms : List ℕ). Takes (get_or (cell_lines trim_horizontal trim_vertical text) k []) (replicate (get_or ms k 0) tt)) (sym measures)
      (Takes-parts (those kept (text_lines text)) good-parts k)

-- ---- a line of a table

widths-counted : (grid : Grid) (parts : List Part) → AllByRecursion (λ part. length (part_items (in_columns grid) part) ≡ part.width) parts
    → length (flat_map (part_items (in_columns grid)) parts) ≡ widths_of parts
widths-counted grid [] all = refl
widths-counted grid (part ∷ parts) all =
    length-append (part_items (in_columns grid) part) (flat_map (part_items (in_columns grid)) parts)
    ∙ ap (λ n. n + length (flat_map (part_items (in_columns grid)) parts)) all.0
    ∙ ap (λ n. part.width + n) (widths-counted grid parts all.1)

line-counted : (grid : Grid) (y : ℕ) → length (line_items (in_columns grid) (parts_of (picture_line grid y))) ≡ widths_of (parts_of (picture_line grid y))
line-counted grid y =
    let parts = parts_of (picture_line grid y) in
    ap length (line_items-plain (in_columns grid) (columns-plainly grid) parts)
    ∙ widths-counted grid parts
    (parts-hold (λ part. length (part_items (in_columns grid) part) ≡ part.width) Anything Anything grid tt
    (λ width c color _ _. ones width c) (λ width c color _ _. ones width c)
    (λ cell k. length-replicate (slice_index (grid.measures cell) k) tt)
    (shows-anything grid.frame.look) (colored-anyhow grid.frame.look) y)

module _ (look : Look) (rows : List (List (List ℕ))) (widths heights : List ℕ) (bare : IsBare look) (ones : ShowsOnly CostsOne look) (texts : ArePlainlyShown rows) where
  abbrev grid_of : Grid
  grid_of = table_grid look rows (λ _. None) widths heights

  shown-at : (cell : Position) → IsPlainlyShown (text_at rows cell)
  shown-at cell =
      All-get_or IsPlainlyShown (get_or rows cell.row []) cell.col [] (All-get_or (AllByRecursion IsPlainlyShown) rows cell.row [] texts tt)
      (record {
        whole = record { utf8 = IsUtf8-nil; whole = subst NoneBroken (sym pieces-nothing) tt };
        plain = ap (λ ps. list_all is_plain_or_feed (chars (strip ps))) pieces-nothing ∙ ap (list_all is_plain_or_feed) chars-nil;
      })

  both-shown : ShowsOnly CostsOneShown look
  both-shown = record {
    crossings = λ row column. both-some (crossing look.borders row column) (bare.shown.crossings row column) (ones.crossings row column);
    along_columns = λ kind. both-some (along_column look.borders kind) (bare.shown.along_columns kind) (ones.along_columns kind);
    in_rows = λ kind. both-some (in_row look.borders kind) (bare.shown.in_rows kind) (ones.in_rows kind);
    margins = let a = bare.shown.margins in let b = ones.margins in ((a.0, b.0), (a.1, b.1), (a.2, b.2), (a.3, b.3));
    paddings = λ cell. let a = bare.shown.paddings cell in let b = ones.paddings cell in ((a.0, b.0), (a.1, b.1), (a.2, b.2), (a.3, b.3));
    justification = λ cell. (bare.shown.justification cell, ones.justification cell);
  }
    where
      both-some : (glyph : Option ℕ) → IfSome glyph BeginsNoSequence → IfSome glyph CostsOne → IfSome glyph CostsOneShown
      both-some None a b = tt
      both-some (Some c) a b = (a, b)

  paint-takes : (color : Option Color) (a : List ℕ) (b : List Column) → WritesNothing color → Takes a b → Takes (painted (in_bytes look rows) color a) (painted (in_columns grid_of) color b)
  paint-takes color a b nothing here =
      subst (Takes (painted (in_bytes look rows) color a)) (sym (columns-plainly grid_of color b))
      (subst (λ (bytes : List ℕ). Takes bytes b) (sym (painted-nothing look rows color a nothing)) here)

  line-takes : (y : ℕ) → Takes (table_line look rows (λ _. None) widths heights y) (line_items (in_columns grid_of) (parts_of (picture_line grid_of y)))
  line-takes y =
      related-picture_line Takes Takes-nothing Takes-append (in_bytes look rows) (in_columns grid_of) WritesNothing paint-takes
      CostsOneShown Takes-character (BeginsNoSequence-space, space-costs) grid_of
      (λ cell k. cell_line-takes (text_at rows cell) (shown-at cell) (look.trim_horizontal cell) (look.trim_vertical cell) k) (λ _. tt)
      both-shown bare.no_colors y

  pub line-columns : (spans : List (Position × Extent)) (y : ℕ) → HasGoodSpans grid_of spans → HasRoom grid_of
      → line_cost (shown_chars (table_line look rows (λ _. None) widths heights y)) ≡ full_line_width (frame_of look widths heights)
  line-columns spans y good room =
      (line-takes y).counted ∙ line-counted grid_of y
      ∙ (let tiled = Tiles-widths 0 (full_line_width grid_of.frame) (picture_line grid_of y) (Tiles-picture grid_of spans good room refl y) in omega (arith, tiled))
