-- Records one below the other, by their lines: what holds of each line of a text, of the program's own lines and of bytes one after the
-- other holds of all that is written.
use Rattle.std.proofs.Common.{◌-◌, ◌==◌, nat_le, nat_lt, ℕ, Bool, true, false, List, [], ◌∷◌, ◌++◌, drop, length, map, replicate, refl, take, if◌then◌else◌}
use Rattle.std.specs.Prelude.{codes, decimal, slice_index_or}
use Rattle.std.specs.List.{AllByRecursion, flat_map}
use Rattle.grid_records_measure.specs.TextLines.{line_feed, line_width, text_lines, text_width}
use Rattle.papergrid_picture.proofs.Related.{All-append, All-get_or}
use Rattle.papergrid_picture.proofs.Shown.{All-drop, All-take}
use Rattle.basinmug_columns.specs.Fitting.Fitting.{cut_lines, ellipsis, wrap_words}
use Rattle.basinmug_columns.specs.Rows.{rows_line}
use Rattle.basinmug_columns.specs.declared.rows.RowsShown.{RowsShown}
use Rattle.basinmug_columns.specs.declared.rows.RowsShown.TheVariants.{All, More, Earlier, Between}
use Rattle.basinmug_expanded.specs.Columns.{Columns, columns_of, head_of, name_of, names_of, record_number}
use Rattle.basinmug_expanded.specs.Records.{all_lines, cross_behind, dashes, ended_lines, field_line, field_lines, filled_line, fitted, fitted_lines, gap_lines, lines_of, name_lines, numbered_lines, record_lines, records_text, rule_line}
use Rattle.basinmug_expanded.specs.declared.form.Form.{Form}
use Rattle.basinmug_run.specs.declared.options.Options.{Options}
use Rattle.basinmug_run.specs.Picture.Fitting.{fitted_text}
use Rattle.basinmug_run.specs.Picture.Rows.{header_of, header_rows, records_of}
use Rattle.basinmug_run.specs.Runs.{form_of, shown_text}
use Rattle.basinmug_laws.proofs.ShownLemmas.OwnBytes.{AreOwnBytes, own-append, own-decimal, own-replicate, own-take}
use Rattle.basinmug_laws.proofs.ShownLemmas.PrintedLines.{own-rows}

-- ---- the program's own bytes

own-head : (number : ℕ) → AreOwnBytes (head_of number)
own-head number = own-append (codes "-[ RECORD ") (decimal number ++ codes " ]") refl (own-append (decimal number) (codes " ]") (own-decimal number) refl)

own-cross : (names taken : ℕ) → AreOwnBytes (cross_behind names taken)
own-cross names taken = by (nat_le taken names)
  where
    by : (b : Bool) → AreOwnBytes (if b then dashes (names - taken) ++ codes "-+" else [])
    by true = own-append (dashes (names - taken)) (codes "-+") (own-replicate 0x2d refl (names - taken)) refl
    by false = refl

own-rule : (columns : Columns) (number : ℕ) → AreOwnBytes (rule_line columns number)
own-rule columns number =
    let head = head_of number in
    let rest = cross_behind columns.names (length head) ++ dashes columns.rule in
    own-take columns.rule (head ++ rest)
    (own-append head rest (own-head number) (own-append (cross_behind columns.names (length head)) (dashes columns.rule) (own-cross columns.names (length head)) (own-replicate 0x2d refl columns.rule)))

-- ---- lists over numbers

each-map : (P : List ℕ → Type 0) (f : ℕ → List ℕ) → ((n : ℕ) → P (f n)) → (ns : List ℕ) → AllByRecursion P (map f ns)
each-map P f each [] = tt
each-map P f each (n ∷ ns) = (each n, each-map P f each ns)

each-flat : (P : List ℕ → Type 0) (f : ℕ → List (List ℕ)) → ((n : ℕ) → AllByRecursion P (f n)) → (ns : List ℕ) → AllByRecursion P (flat_map f ns)
each-flat P f each [] = tt
each-flat P f each (n ∷ ns) = All-append P (f n) (flat_map f ns) (each n) (each-flat P f each ns)

-- ---- what holds of texts, and what of lines

pub record AreLined (T L : List ℕ → Type 0) : Type 0 where
  pub own_texts : (bytes : List ℕ) → AreOwnBytes bytes → T bytes
  pub fits : (truncate : Bool) (columns : ℕ) (text : List ℕ) → T text → T (fitted_text truncate columns text)
  pub lines : (text : List ℕ) → T text → AllByRecursion L (text_lines text)
  pub append : (a b : List ℕ) → L a → L b → L (a ++ b)
  pub own : (bytes : List ℕ) → AreOwnBytes bytes → L bytes
  pub dots : L ellipsis

module _ (T L : List ℕ → Type 0) (lined : AreLined T L) where
  text-fitted : (truncate : Bool) (columns : ℕ) (text : List ℕ) → T text → T (fitted truncate columns text)
  text-fitted truncate columns text is = by (nat_lt columns (text_width text)) truncate
    where
      by : (wide truncate : Bool) → T (if wide then (if truncate then cut_lines columns text else wrap_words columns text) else text)
      by true true = lined.fits true columns text is
      by true false = lined.fits false columns text is
      by false truncate = is

  lines-fitted : (truncate : Bool) (columns : ℕ) (text : List ℕ) → T text → AllByRecursion L (fitted_lines truncate columns text)
  lines-fitted truncate columns text is = lined.lines (fitted truncate columns text) (text-fitted truncate columns text is)

  spaces : (n : ℕ) → L (replicate n 0x20)
  spaces n = lined.own (replicate n 0x20) (own-replicate 0x20 refl n)

  -- ---- lines of a field

  lines-filled : (columns : ℕ) (lines : List (List ℕ)) → AllByRecursion L lines → AllByRecursion L (map (filled_line columns) lines)
  lines-filled columns [] all = tt
  lines-filled columns (line ∷ lines) all =
      (lined.append line (replicate (columns - line_width line) 0x20) all.0 (spaces (columns - line_width line)), lines-filled columns lines all.1)

  name-lined : (columns : ℕ) (name : List ℕ) → T name → AllByRecursion L (name_lines columns name)
  name-lined columns name is = lines-filled columns (fitted_lines true columns name) (lines-fitted true columns name is)

  field_line-lined : (columns : ℕ) (name value : List (List ℕ)) → AllByRecursion L name → AllByRecursion L value → (number : ℕ) → L (field_line columns name value number)
  field_line-lined columns name value named valued number =
      let line = slice_index_or value number [] in
      lined.append (slice_index_or name number (replicate columns 0x20)) (codes " | " ++ line)
      (All-get_or L name number (replicate columns 0x20) named (spaces columns))
      (lined.append (codes " | ") line (lined.own (codes " | ") refl) (All-get_or L value number [] valued (lined.own [] refl)))

  field-lined : (columns : Columns) (name : List (List ℕ)) (value : List ℕ) → AllByRecursion L name → T value → AllByRecursion L (field_lines columns name value)
  field-lined columns name value named is =
      let lines = fitted_lines columns.truncate columns.values value in
      each-map L (field_line columns.names name lines) (field_line-lined columns.names name lines named (lines-fitted columns.truncate columns.values value is)) _

  -- ---- lines of records

  module _ (columns : Columns) (names : List (List (List ℕ))) (named : AllByRecursion (AllByRecursion L) names) where
    record-lined : (number : ℕ) (values : List (List ℕ)) → AllByRecursion T values → AllByRecursion L (record_lines columns names number values)
    record-lined number values are = (
      lined.own (rule_line columns number) (own-rule columns number),
      each-flat L (λ field. field_lines columns (slice_index_or names field []) (slice_index_or values field []))
          (λ field. field-lined columns (slice_index_or names field []) (slice_index_or values field []) (All-get_or (AllByRecursion L) names field [] named tt) (All-get_or T values field [] are (lined.own_texts [] refl))) _,
    )

    numbered-lined : (from : ℕ) (records : List (List (List ℕ))) → AllByRecursion (AllByRecursion T) records → AllByRecursion L (numbered_lines columns names from records)
    numbered-lined from records are =
        each-flat L (λ place. record_lines columns names (record_number from place) (slice_index_or records place []))
        (λ place. record-lined (record_number from place) (slice_index_or records place []) (All-get_or (AllByRecursion T) records place [] are tt)) _

    gap-lined : (left_out : ℕ) → AllByRecursion L (gap_lines left_out)
    gap-lined left_out = by (left_out == 0)
      where
        by : (none : Bool) → AllByRecursion L (if none then [] else ellipsis ∷ [])
        by true = tt
        by false = (lined.dots, tt)

    all-lined : (shown : RowsShown) (records : List (List (List ℕ))) → AllByRecursion (AllByRecursion T) records → AllByRecursion L (all_lines columns names shown records)
    all-lined All records are = numbered-lined 0 records are
    all-lined (More more) records are = numbered-lined 0 records are
    all-lined (Earlier earlier) records are = numbered-lined earlier records are
    all-lined (Between first left_out) records are =
        All-append L (numbered_lines columns names 0 (take first records)) (gap_lines left_out ++ numbered_lines columns names (record_number first left_out) (drop first records))
        (numbered-lined 0 (take first records) (All-take (AllByRecursion T) first records are))
        (All-append L (gap_lines left_out) (numbered_lines columns names (record_number first left_out) (drop first records)) (gap-lined left_out)
        (numbered-lined (record_number first left_out) (drop first records) (All-drop (AllByRecursion T) first records are)))

  each-name : (columns : ℕ) (names : List (List ℕ)) → AllByRecursion T names → AllByRecursion (AllByRecursion L) (map (name_lines columns) names)
  each-name columns [] are = tt
  each-name columns (name ∷ names) are = (name-lined columns name are.0, each-name columns names are.1)

  one-name : (has_header : Bool) (header : List (List ℕ)) → AllByRecursion T header → (field : ℕ) → T (name_of has_header header field)
  one-name true header are field = All-get_or T header field [] are (lined.own_texts [] refl)
  one-name false header are field = lined.own_texts (decimal field) (own-decimal field)

  ended-lined : (lines : List (List ℕ)) → AllByRecursion L lines → L (ended_lines lines)
  ended-lined [] all = lined.own [] refl
  ended-lined (line ∷ lines) all =
      lined.append (line ++ line_feed ∷ []) (ended_lines lines) (lined.append line (line_feed ∷ []) all.0 (lined.own (line_feed ∷ []) refl)) (ended-lined lines all.1)

  records-lined : (form : Form) (header : List (List ℕ)) (records : List (List (List ℕ))) → AllByRecursion T header → AllByRecursion (AllByRecursion T) records → L (records_text form header records)
  records-lined form header records named are =
      let names = names_of form.header header records in
      let columns = columns_of form names records in
      let lines = lines_of form header records in
      let more = rows_line (codes "record") form.rows_shown in
      let each = each-map T (name_of form.header header) (one-name form.header header named) _ in
      let all = all-lined columns (map (name_lines columns.names) names) (each-name columns.names names each) form.rows_shown records are in
      lined.append (ended_lines lines) more (ended-lined lines all) (lined.own more (own-rows (codes "record") refl form.rows_shown))

  -- ---- those that a run shows

  header-too : (header : Bool) (rows : List (List (List ℕ))) → AllByRecursion (AllByRecursion T) rows → AllByRecursion T (header_of header rows)
  header-too false rows are = tt
  header-too true [] are = tt
  header-too true (row ∷ rows) are = are.0

  pub shown-lined : (options : Options) (shown : RowsShown) (rows : List (List (List ℕ))) → AllByRecursion (AllByRecursion T) rows → L (shown_text options shown rows)
  shown-lined options shown rows are =
      records-lined (form_of options shown rows) (header_of options.header rows) (records_of options.header rows) (header-too options.header rows are) (All-drop (AllByRecursion T) (header_rows options.header) rows are)
