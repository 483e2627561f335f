-- Texts that are cut line by line, or wrapped between words, stay whole.
use Rattle.std.proofs.Common.{◌==◌, ◌-◌, nat_lt, ℕ, Bool, true, false, cond, List, [], ◌∷◌, ◌++◌, None, Some, map, refl, slice_index}
use Rattle.std.specs.Prelude.{IfSome, codes, flat_map, if◌then◌else◌}
use Rattle.std.specs.List.{AllByRecursion, filter}
use Rattle.std.proofs.Math.Utf8.{encode}
use Rattle.grid_records_measure.specs.TextLines.{line_width, text_lines, text_width}
use Rattle.grid_records_traits.specs.Rows.{text_at}
use Rattle.papergrid_picture.specs.Shown.{AreWholeTexts, IsWholeText}
use Rattle.papergrid_picture.proofs.Related.{All-map_of}
use Rattle.papergrid_picture.proofs.Shown.{IsClosedPart, lines-closed_parts, whole-at}
use Rattle.tabled_size_wrap.specs.Cells.Resizing.{Wrap}
use Rattle.tabled_size_wrap.proofs.CellsLemmas.Bridges.{cut-shows_whole, resized-shows}
use Rattle.tabled_size_wrap.specs.Bytes.{cut_at, wrapped_text}
use Rattle.tabled_steps.specs.States.{State}
use Rattle.tabled_list.proofs.StrippingLemmas.MappedRows.{changed-whole}
use Rattle.grid_config_values.specs.declared.entity.Entity.TheVariants.{Global as EveryCell}
use Rattle.tabled_steps.specs.States.{column_count}
use Rattle.basinmug_columns.specs.Fitting.Fitting.{cut_line, ellipsis, is_not_blank, joined_lines, wrapped_line}
use Rattle.basinmug_run.specs.Picture.Fitting.{fitted, fitted_text, is_narrowed, with_fitted_texts}
use Rattle.basinmug_laws.proofs.ShownLemmas.PlainTexts.{ascii-text}
use Rattle.basinmug_laws.proofs.ShownLemmas.WholeTexts.{whole-append, whole-ascii, whole-character, whole-flat_map, whole-nothing}

-- ---- lines

pub join-whole : (lines : List (List ℕ)) → AllByRecursion IsWholeText lines → IsWholeText (joined_lines lines)
join-whole [] all = whole-nothing
join-whole (line ∷ lines) all =
    whole-append line (flat_map (λ y. codes "\n" ++ y) lines) all.0
    (whole-flat_map IsWholeText (λ y. codes "\n" ++ y) (λ y is. whole-append (codes "\n") y (whole-ascii (codes "\n") (ascii-text (codes "\n") refl)) is) lines all.1)

part-whole : (part : List ℕ) → IsClosedPart part → IsWholeText part
part-whole part closed = record { utf8 = closed.utf8; whole = closed.closed.none_broken }

each-line : (change : List ℕ → List ℕ) → ((line : List ℕ) → IsWholeText line → IsWholeText (change line)) → (text : List ℕ) → IsWholeText text → IsWholeText (joined_lines (map change (text_lines text)))
each-line change leaves text is =
    join-whole (map change (text_lines text)) (All-map_of IsClosedPart IsWholeText change (λ line closed. leaves line (part-whole line closed)) (text_lines text) (lines-closed_parts text is))

-- ---- cut

pub ellipsis-whole : IsWholeText ellipsis
unfolding encode
ellipsis-whole = whole-character 0x2026 (record { scalar = refl; no_escape = λ same. cc same })

line-cut : (room : ℕ) (line : List ℕ) → IsWholeText line → IsWholeText (cut_line room line)
line-cut room line is = by (nat_lt room (line_width line)) (room == 0)
  where
    by : (wide none : Bool) → IsWholeText (if wide then (if none then [] else cut_at (room - 1) line ++ ellipsis) else line)
    by true true = whole-nothing
    by true false = whole-append (cut_at (room - 1) line) ellipsis (cut-shows_whole line is (room - 1)).whole ellipsis-whole
    by false none = is

-- ---- wrapped

pub filter-all : {A : Type 0} (P : A → Type 0) (p : A → Bool) (xs : List A) → AllByRecursion P xs → AllByRecursion P (filter p xs)
filter-all P p [] all = tt
filter-all P p (x ∷ xs) all = by (p x) (filter-all P p xs all.1)
  where
    by : (b : Bool) → AllByRecursion P (filter p xs) → AllByRecursion P (cond b (x ∷ filter p xs) (filter p xs))
    by true others = (all.0, others)
    by false others = others

parts-whole : (parts : List (List ℕ)) → AllByRecursion IsClosedPart parts → AllByRecursion IsWholeText parts
parts-whole [] all = tt
parts-whole (part ∷ parts) all = (part-whole part all.0, parts-whole parts all.1)

line-wrapped : (room : ℕ) (line : List ℕ) → IsWholeText line → IsWholeText (wrapped_line room line)
line-wrapped room line is =
    let made = wrapped_text room true line in
    let whole : IsWholeText made = (resized-shows (Wrap room true) line is).whole in
    join-whole (filter is_not_blank (text_lines made)) (filter-all IsWholeText is_not_blank (text_lines made) (parts-whole (text_lines made) (lines-closed_parts made whole)))

-- ---- a table

pub text-fitted : (truncate : Bool) (room : ℕ) (text : List ℕ) → IsWholeText text → IsWholeText (fitted_text truncate room text)
text-fitted true room text is = each-line (cut_line room) (line-cut room) text is
text-fitted false room text is = each-line (wrapped_line room) (line-wrapped room) text is

module _ (truncate : Bool) (widths rooms : List ℕ) where
  pub fitted-whole : (column : ℕ) (text : List ℕ) → IsWholeText text → IfSome (fitted truncate widths rooms column text) IsWholeText
  fitted-whole column text is = by (is_narrowed widths rooms column) (nat_lt (slice_index rooms column - 2) (text_width text))
    where
      by : (narrowed wide : Bool) → IfSome (if narrowed then (if wide then Some (fitted_text truncate (slice_index rooms column - 2) text) else None) else None) IsWholeText
      by true true = text-fitted truncate (slice_index rooms column - 2) text is
      by true false = tt
      by false wide = tt

  pub rows-fitted : (s : State) → AreWholeTexts s.rows → AreWholeTexts (with_fitted_texts truncate widths rooms s).rows
  rows-fitted s whole =
      changed-whole (λ place. fitted truncate widths rooms place.col) s.rows whole (λ place. fitted-whole place.col (text_at s.rows place) (whole-at s.rows whole place)) EveryCell (column_count s.rows)
