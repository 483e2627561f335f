-- The lines of a cell that are kept, and what they measure.
use Rattle.std.proofs.Common.{◌≡◌, ◌+◌, ◌-◌, ◌≤◌, ℕ, Bool, true, false, cond, List, [], ◌∷◌, ◌++◌, drop, get_or, length, map, max, take, refl, ap, sym, ◌∙◌, arith}
use Rattle.std.specs.Prelude.{reverse}
use Rattle.std.specs.List.{prefix_len, slice_split, suffix_len}
use Rattle.std.specs.Str.{IsUtf8, trim}
use Rattle.std.proofs.lemmas.List.{drop-map, length-drop, length-map, length-take-le, map-append, reverse-append, take-map}
use Rattle.ansi_scan.specs.Pieces.{pieces}
use Rattle.ansi_scan.proofs.Existence.{ArePiecesOf-pieces}
use Rattle.ansi_str.specs.Keeping.{kept}
use Rattle.ansi_str.specs.StyledText.{has_escape, strip}
use Rattle.ansi_str.proofs.Keeps.{kept-plain}
use Rattle.ansi_str_search.proofs.TextLemmas.Stripping.{strip-without_escape}
use Rattle.grid_records_measure.specs.TextLines.{AreLinesOf, is_line_feed, line_measure, shown_lines, text_lines, widest}
use Rattle.grid_records_measure.specs.Trimming.{trimmed_from, trimmed_to, trimmed}
use Rattle.grid_records_measure.proofs.TextLines.{text_lines-are, text_lines-one}
use Rattle.grid_records_measure.proofs.LinesAndBlocks.{length-lines}
use Rattle.std.proofs.Math.Seq.{take-length}
use Rattle.std.proofs.lemmas.Simd.{map-map}
use Rattle.ansi_str.proofs.Trims.{by_places}
use Rattle.grid_records_measure.proofs.Trimmed.{trimmed_at}
use Rattle.grid_records_traits.specs.Cells.{HasLineCount, HasWidth, IsLineAt}
use Rattle.grid_records_traits.proofs.TextAnswers.{count_of_text, line_of_text}
use Rattle.papergrid_picture.specs.CellLines.{cell_lines, cell_measures, is_blank, kept_lines}
use Rattle.papergrid_cells.specs.Shown.{kept_by, line_shown, line_facts}
use Rattle.papergrid_cells.specs.declared.cell_lines.reading.LineFacts.{LineFacts}

-- ---- a text without ESC

pub trimmed-plain : (text : List ℕ) → IsUtf8 text → has_escape text ≡ false → trim text ≡ trimmed text
unfolding trimmed
trimmed-plain text utf8 plain =
    let itself : strip (pieces text) ≡ text = strip-without_escape text (pieces text) (ArePiecesOf-pieces text) plain in
    sym (by_places text (trimmed_from text) (trimmed_to text) (trimmed_at text utf8)).left ∙ (kept-plain (trimmed_from text) (trimmed_to text) text plain
    ∙ ap (λ shown. kept (trimmed_from shown) (trimmed_to shown) (pieces text)) (sym itself))

-- ---- which lines are kept

module _ {X Y : Type 0} (p : Y → Bool) (f : X → Y) where
  prefix_len-map : (xs : List X) → prefix_len p (map f xs) ≡ prefix_len (λ x. p (f x)) xs
  prefix_len-map [] = refl
  prefix_len-map (x ∷ xs) = ap (λ n. cond (p (f x)) (1 + n) 0) (prefix_len-map xs)

  reverse-map : (xs : List X) → reverse (map f xs) ≡ map f (reverse xs)
  reverse-map [] = refl
  reverse-map (x ∷ xs) =
      reverse-append (f x ∷ []) (map f xs) ∙ (ap (λ ys. ys ++ f x ∷ []) (reverse-map xs)
      ∙ (sym (map-append f (reverse xs) (x ∷ [])) ∙ ap (map f) (sym (reverse-append (x ∷ []) xs))))

  suffix_len-map : (xs : List X) → suffix_len p (map f xs) ≡ suffix_len (λ x. p (f x)) xs
  suffix_len-map xs = ap (prefix_len p) (reverse-map xs) ∙ prefix_len-map (reverse xs)

-- which lines are kept follows from what is known of them
kept-shown : (trim_horizontal trim_vertical : Bool) (lines : List (List ℕ))
    → kept_by (λ line. line.is_blank) trim_vertical (map (line_facts trim_horizontal) lines) ≡ kept_lines trim_vertical lines
kept-shown trim_horizontal false lines = ap (λ n. (0, n)) (length-map lines (line_facts trim_horizontal))
kept-shown trim_horizontal true lines =
    let first : prefix_len (λ line. line.is_blank) (map (line_facts trim_horizontal) lines) ≡ prefix_len is_blank lines =
    prefix_len-map (λ (line : LineFacts). line.is_blank) (line_facts trim_horizontal) lines in
    let rest = drop (prefix_len is_blank lines) lines in
    ap (λ n. (n, length (drop n (map (line_facts trim_horizontal) lines)) - suffix_len (λ line. line.is_blank) (drop n (map (line_facts trim_horizontal) lines)))) first
    ∙ (ap (λ left. (prefix_len is_blank lines, length left - suffix_len (λ line. line.is_blank) left)) (drop-map (line_facts trim_horizontal) (prefix_len is_blank lines) lines)
    ∙ (ap (λ n. (prefix_len is_blank lines, n - suffix_len (λ line. line.is_blank) (map (line_facts trim_horizontal) rest))) (length-map rest (line_facts trim_horizontal))
    ∙ ap (λ n. (prefix_len is_blank lines, length rest - n)) (suffix_len-map (λ (line : LineFacts). line.is_blank) (line_facts trim_horizontal) rest)))

-- ---- their texts and measures

-- what was read of a text: its lines by what they show, which of them are kept, and the bytes of its lines from the
-- first of those on
pub record AreRead (trim_horizontal trim_vertical : Bool) (text : List ℕ) (items : List LineFacts) (r : ℕ × ℕ) (parts : List (List ℕ)) : Type 0 where
  pub are : items ≡ map (line_facts trim_horizontal) (shown_lines (pieces text))
  pub found : r ≡ kept_by (λ line. line.is_blank) trim_vertical items
  pub within : r.0 + r.1 ≤ length items
  pub left : parts ≡ drop r.0 (text_lines text)

pub are_read : (trim_horizontal trim_vertical : Bool) (text : List ℕ) {stripped : List ℕ} {made first second : List LineFacts} (r : ℕ × ℕ) {all parts : List (List ℕ)}
    → stripped ≡ strip (pieces text) → made ≡ map (line_facts trim_horizontal) (slice_split is_line_feed stripped) → first ≡ made → second ≡ made
    → r ≡ kept_by (λ line. line.is_blank) trim_vertical first → r.0 + r.1 ≤ length first → AreLinesOf (pieces text) all → parts ≡ drop r.0 all
    → AreRead trim_horizontal trim_vertical text second r parts
are_read trim_horizontal trim_vertical text {stripped} {made} {first} {second} r {all} {parts} bare shown once again found within of_text left =
    let same : first ≡ second = once ∙ sym again in
    record {
      are = again ∙ (shown ∙ ap (λ bytes. map (line_facts trim_horizontal) (slice_split is_line_feed bytes)) bare);
      found = found ∙ ap (kept_by (λ line. line.is_blank) trim_vertical) same;
      within = omega (arith, within, ap length same);
      left = left ∙ ap (drop r.0) (text_lines-one text (pieces text) all (ArePiecesOf-pieces text) of_text);
    }

module _ (trim_horizontal trim_vertical : Bool) (text : List ℕ) (items : List LineFacts) (r : ℕ × ℕ) (parts : List (List ℕ))
    (read : AreRead trim_horizontal trim_vertical text items r parts) where
  abbrev chosen : List LineFacts
  chosen = take (r.0 + r.1 - r.0) (drop r.0 items)

  same : r ≡ kept_lines trim_vertical (shown_lines (pieces text))
  same = read.found ∙ (ap (kept_by (λ line. line.is_blank) trim_vertical) read.are ∙ kept-shown trim_horizontal trim_vertical (shown_lines (pieces text)))

  count-chosen : length chosen ≡ r.1
  count-chosen =
      let n : r.0 + r.1 - r.0 ≡ r.1 = omega arith in
      let fits : r.1 ≤ length (drop r.0 items) = omega (arith, length-drop r.0 items, read.within) in
      ap (λ k. length (take k (drop r.0 items))) n ∙ length-take-le r.1 (drop r.0 items) fits

  heights : length (text_lines text) ≡ length items
  heights = length-lines (pieces text) (text_lines text) (text_lines-are text) ∙ sym (ap length read.are ∙ length-map (shown_lines (pieces text)) (line_facts trim_horizontal))

  pub enough_lines : length chosen ≤ length parts
  enough_lines = omega (arith, count-chosen, ap length read.left, length-drop r.0 (text_lines text), heights, read.within)

  pub texts_kept : map (line_shown trim_horizontal) (take (length chosen) parts) ≡ cell_lines trim_horizontal trim_vertical text
  texts_kept =
      ap (λ n. map (line_shown trim_horizontal) (take n parts)) count-chosen
      ∙ (ap (λ lines. map (line_shown trim_horizontal) (take r.1 lines)) read.left
      ∙ ap (λ (k : ℕ × ℕ). map (line_shown trim_horizontal) (take k.1 (drop k.0 (text_lines text)))) same)

  pub measures_kept : map (λ line. line.width) chosen ≡ cell_measures trim_horizontal trim_vertical text
  measures_kept =
      let n : r.0 + r.1 - r.0 ≡ r.1 = omega arith in
      let lines = shown_lines (pieces text) in
      ap (λ k. map (λ line. line.width) (take k (drop r.0 items))) n
      ∙ (ap (λ shown. map (λ line. line.width) (take r.1 (drop r.0 shown))) read.are
      ∙ (ap (λ shown. map (λ line. line.width) (take r.1 shown)) (drop-map (line_facts trim_horizontal) r.0 lines)
      ∙ (ap (map (λ line. line.width)) (take-map (line_facts trim_horizontal) r.1 (drop r.0 lines))
      ∙ (map-map (λ (line : LineFacts). line.width) (line_facts trim_horizontal) (take r.1 (drop r.0 lines))
      ∙ ap (λ (k : ℕ × ℕ). map (λ line. (line_facts trim_horizontal line).width) (take k.1 (drop k.0 lines))) same))))

-- ---- a cell of one line

pub map-same : {X : Type 0} (xs : List X) → map (λ x. x) xs ≡ xs
map-same [] = refl
map-same (x ∷ xs) = ap (λ ys. x ∷ ys) (map-same xs)

pub one-element : {X : Type 0} (xs : List X) (d : X) → length xs ≡ 1 → xs ≡ get_or xs 0 d ∷ []
one-element [] d one = absurd (omega (arith, one))
one-element (x ∷ []) d one = refl
one-element (x ∷ y ∷ xs) d one = absurd (omega (arith, one))

module _ (trim_horizontal trim_vertical : Bool) (text : List ℕ) (count : ℕ) (plain : trim_horizontal ≡ false) (whole : trim_vertical ≡ false) (one : count ≡ 1) (counted : HasLineCount text count) where
  one-shown : length (shown_lines (pieces text)) ≡ 1
  one-shown = sym (counted (pieces text) (ArePiecesOf-pieces text)) ∙ one

  one-text : length (text_lines text) ≡ 1
  one-text = sym (count_of_text text count counted) ∙ one

  pub one_line : (bytes : List ℕ) → IsLineAt text 0 bytes → bytes ∷ [] ≡ cell_lines trim_horizontal trim_vertical text
  one_line bytes is =
      ap (λ line. line ∷ []) (line_of_text text bytes 0 is)
      ∙ (sym (one-element (text_lines text) [] one-text)
      ∙ (all-kept
      ∙ (ap (λ h. cell_lines h false text) (sym plain) ∙ ap (λ v. cell_lines trim_horizontal v text) (sym whole))))
    where
      all-kept : text_lines text ≡ cell_lines false false text
      all-kept =
          let same : length (shown_lines (pieces text)) ≡ length (text_lines text) = one-shown ∙ sym one-text in
          sym (take-length (text_lines text)) ∙ (ap (λ n. take n (text_lines text)) (sym same) ∙ sym (map-same (take (length (shown_lines (pieces text))) (text_lines text))))

  pub one_measure : (width : ℕ) → HasWidth text width → width ∷ [] ≡ cell_measures trim_horizontal trim_vertical text
  one_measure width has =
      let lines = shown_lines (pieces text) in
      ap (λ n. n ∷ []) (has (pieces text) (ArePiecesOf-pieces text))
      ∙ (widest-one lines one-shown
      ∙ (ap (map line_measure) (sym (take-length lines))
      ∙ (ap (λ h. cell_measures h false text) (sym plain) ∙ ap (λ v. cell_measures trim_horizontal v text) (sym whole))))
    where
      widest-one : (lines : List (List ℕ)) → length lines ≡ 1 → widest lines ∷ [] ≡ map line_measure lines
      widest-one [] none = absurd (omega (arith, none))
      widest-one (line ∷ []) single = ap (λ n. n ∷ []) (greater-zero (line_measure line))
        where
          greater-zero : (n : ℕ) → max n 0 ≡ n
          greater-zero n = omega arith
      widest-one (line ∷ next ∷ lines) more = absurd (omega (arith, more))
