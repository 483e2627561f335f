-- The lines of a resized cell take its sequences of the input, and a start and an end each.
use Rattle.std.proofs.Common.{◌≡◌, ◌+◌, ◌-◌, ◌*◌, ◌<◌, ◌≤◌, nat_le, nat_lt, ℕ, zero, suc, Bool, true, false, inl, inr, List, [], ◌∷◌, ◌++◌, length, replicate, if◌then◌else◌, refl, ap, sym, subst, ◌∙◌, arith, length-append}
use Rattle.std.specs.Prelude.{chars, encode_utf8_all, flat_map, IsUtf8}
use Rattle.std.specs.List.{sum_by}
use Rattle.std.proofs.lemmas.Bool.{cases_lt}
use Rattle.std.proofs.lemmas.List.{nil_from_length}
use Rattle.std.proofs.lemmas.List.Sums.{sum_by-append, sum_by-cons}
use Rattle.std.proofs.lemmas.Str.{chars-nil, encodes-append, encodes-chars}
use Rattle.ansi_scan.specs.Attributes.{Attributes, IsRendition, plain_attributes}
use Rattle.ansi_scan.specs.Pieces.{pieces}
use Rattle.ansi_scan.specs.Sequences.{EachStands, NoneBroken, Piece}
use Rattle.ansi_scan.proofs.Existence.{ArePiecesOf-pieces}
use Rattle.ansi_scan.proofs.Uniqueness.{pieces-ArePiecesOf}
use Rattle.ansi_str.specs.Cuts.{cut_part}
use Rattle.ansi_str.specs.Parts.{before_place, from_place, split_part, through_place}
use Rattle.ansi_str.specs.StyledText.{strip, style_after_all}
use Rattle.ansi_str_search.specs.Lines.{IsClosedLine}
use Rattle.ansi_str_search.proofs.Dressed.{EachStands-through, NoneBroken-from, NoneBroken-through, dressed_pieces, pieces_of_part, rendition}
use Rattle.ansi_str_search.proofs.PiecesAtPlaces.{EachStands-from}
use Rattle.ansi_str_search.proofs.Slices.{strip-dressed_pieces}
use Rattle.ansi_str_search.proofs.TextLemmas.Stripping.{strip-without_escape}
use Rattle.ansi_str_search.proofs.TextLemmas.Utf8Pieces.{IsUtf8-shown_text}
use Rattle.grid_records_measure.specs.Cutting.{lacking, replacement}
use Rattle.grid_records_measure.specs.Filling.{behind_front, fitting_front}
use Rattle.grid_records_measure.specs.TextLines.{text_height, text_lines, text_width}
use Rattle.grid_records_measure.proofs.TextLines.{length-text_lines}
use Rattle.papergrid_picture.specs.Shown.{IsWholeText}
use Rattle.tabled_size_wrap.specs.Cells.Resizing.{Wrap, Cut, Keep, Resize, resized_text}
use Rattle.tabled_size_wrap.proofs.CellsLemmas.WrappedLines.{cut-line, line-wrapped, one-line}
use Rattle.tabled_size_wrap.proofs.CellsLemmas.TextsWithoutEscape.{IsFree, free-marks, free-none}
use Rattle.tabled_size_wrap.specs.Bytes.{cut_at, wrapped_text}
use Rattle.tabled_size_wrap.specs.Runs.{wrapped_lines, runs_of}
use Rattle.tabled_size_wrap.specs.Units.{LineUnit, line_units, unit_len}
use Rattle.tabled_size_wrap.specs.Wrapping.{line_part, lines_of_runs, replacement_bytes, run_len}
use Rattle.tabled_size_wrap.proofs.Fewest.{are-fitting_runs}
use Rattle.tabled_size_wrap.proofs.Longest.{runs-are}
use Rattle.tabled_size_wrap.proofs.Shows.{ShowsLine-closed, ShowsLine-nothing}
use Rattle.tabled_size_wrap.proofs.AllUnits.{texts, texts-units}
use Rattle.columns_laws.proofs.SequencesLemmas.LineSequences.{cut-whole, first-taken}
use Rattle.columns_laws.proofs.SequencesLemmas.RunSequences.{lines-left, taken-both}
use Rattle.columns_laws.proofs.SequencesLemmas.SequenceCounts.{taken-part, taken-sum, taken-through, taken_by, texts_take}
use Rattle.columns_laws.proofs.SequencesLemmas.WideUnits.{all-alone}

-- ---- how long runs are

len-texts : (us : List LineUnit) → run_len us ≡ length (encode_utf8_all (texts us))
len-texts [] = refl
len-texts (u ∷ us) =
    sum_by-cons unit_len u us ∙ ap (λ n. unit_len u + n) (len-texts us) ∙ sym (length-append (encode_utf8_all u.text) (encode_utf8_all (texts us)))
    ∙ ap (λ (bytes : List ℕ). length bytes) (sym (encodes-append u.text (texts us)))

runs-len : (runs : List (List LineUnit)) → sum_by run_len runs ≡ run_len (flat_map (λ run. run) runs)
runs-len [] = refl
runs-len (run ∷ runs) = sum_by-cons run_len run runs ∙ ap (λ n. run_len run + n) (runs-len runs) ∙ sym (sum_by-append unit_len run (flat_map (λ (r : List LineUnit). r) runs))

line-len : (width : ℕ) → 0 < width → (keep_words : Bool) (shown : List ℕ) → IsUtf8 shown → sum_by run_len (runs_of width (line_units width keep_words (chars shown))) ≡ length shown
line-len width some keep_words shown utf8 =
    let units = line_units width keep_words (chars shown) in
    let runs = runs_of width units in
    let joined = (are-fitting_runs width units runs (runs-are width some units)).joined in
    runs-len runs ∙ ap run_len joined ∙ len-texts units ∙ ap (λ (cs : List ℕ). length (encode_utf8_all cs)) (texts-units width keep_words (chars shown))
    ∙ ap (λ (bytes : List ℕ). length bytes) (encodes-chars shown utf8)

-- ---- bytes without sequences take nothing

free-taken : (bytes : List ℕ) → IsFree bytes → taken_by (pieces bytes) ≡ 0
free-taken bytes free =
    let same = strip-without_escape bytes (pieces bytes) (ArePiecesOf-pieces bytes) (free-none bytes free) in
    omega (arith, taken-sum (pieces bytes), ap (λ (xs : List ℕ). length xs) same, ap (λ (xs : List ℕ). length xs) (ArePiecesOf-pieces bytes).joins)

-- ---- a slice of the input between a start and an end, wrapped and cut

module _ (style : Attributes) (is : IsRendition style) (slice : List Piece) (each : EachStands slice) (whole : NoneBroken slice) where
  abbrev all : List Piece
  all = dressed_pieces style slice

  none-taken : (test : Bool) → taken_by (pieces (if test then [] else cut_part 0 0 all)) ≤ taken_by slice + 243
  none-taken true = let none = free-taken [] tt in omega (arith, none)
  none-taken false = omega (arith, first-taken style is slice each whole 0, taken-through 0 slice)

  no-units : (width : ℕ) (keep_words : Bool) → line_units width keep_words [] ≡ []
  no-units width true = refl
  no-units width false = refl

  -- without text there is one line
  nothing-wrapped : (width : ℕ) (keep_words : Bool) → strip all ≡ [] → wrapped_lines width keep_words all ≡ line_part all 0 0 ∷ []
  nothing-wrapped width keep_words none =
      ap (λ (cs : List ℕ). lines_of_runs unit_len (line_part all) replacement_bytes width 0 (runs_of width (line_units width keep_words cs))) (ap chars none ∙ chars-nil)
      ∙ ap (λ (us : List LineUnit). lines_of_runs unit_len (line_part all) replacement_bytes width 0 (runs_of width us)) (no-units width keep_words)

  pub wrapped_lines-taken : (width : ℕ) → 0 < width → (keep_words : Bool) → IsUtf8 (strip all) → texts_take (wrapped_lines width keep_words all) ≤ taken_by slice + 243 * length (wrapped_lines width keep_words all)
  wrapped_lines-taken width some keep_words utf8 =
      let same : length (strip all) ≡ length (strip slice) = ap (λ (xs : List ℕ). length xs) (strip-dressed_pieces style slice) in
      elim (cases_lt 0 (length (strip slice))) [
        | inl text ↦
            let runs = runs_of width (line_units width keep_words (chars (strip all))) in
            let sum = line-len width some keep_words (strip all) utf8 in
            let fits : 0 + sum_by run_len runs ≤ length (strip slice) = omega (arith, sum, same) in
            lines-left style is slice each whole text width 0 runs (all-alone width some keep_words (chars (strip all))) fits
        | inr none ↦
            let bare : strip all ≡ [] = nil_from_length (strip all) (omega (arith, none, same)) in
            let here = none-taken (nat_lt 0 (length (strip all))) in
            subst (λ (lines : List (List ℕ)). texts_take lines ≤ taken_by slice + 243 * length lines) (sym (nothing-wrapped width keep_words bare)) (omega (arith, here))
      ]

  pub fitting_front-taken : (n k : ℕ) → taken_by (pieces (cut_part 0 n all ++ encode_utf8_all (replicate k replacement))) ≤ taken_by slice + 243
  fitting_front-taken n k =
      let marks = encode_utf8_all (replicate k replacement) in
      omega (arith, taken-both (cut_part 0 n all) marks (cut-whole style is slice each whole n), free-taken marks (free-marks k), first-taken style is slice each whole n, taken-through n slice)

-- ---- the lines of a resized cell

-- a text that has one line, and ends no style open
pub record IsOneLine (text : List ℕ) : Type 0 where
  pub utf8 : IsUtf8 text
  pub line : IsClosedLine text

abbrev pub lines_of : Resize → List ℕ → List (List ℕ)
lines_of Keep cell = cell ∷ []
lines_of (Wrap zero keep_words) cell = [] ∷ []
lines_of (Wrap (suc n) keep_words) cell = wrapped_lines (suc n) keep_words (pieces cell)
lines_of (Cut width) cell = (if nat_le (text_width cell) width then cell else cut_at width cell) ∷ []

module _ (cell : List ℕ) (one : IsOneLine cell) where
  whole-cell : IsWholeText cell
  whole-cell = record { utf8 = one.utf8; whole = subst NoneBroken (sym (pieces-ArePiecesOf cell one.line.pieces one.line.of_line)) one.line.closed.none_broken }

  nothing-lines : (keep_words : Bool) → text_lines (wrapped_text 0 keep_words cell) ≡ [] ∷ []
  unfolding wrapped_text
  nothing-lines keep_words = one-line [] (ShowsLine-closed [] [] ShowsLine-nothing)

  pub resized-lines : (resize : Resize) → text_lines (resized_text resize cell) ≡ lines_of resize cell
  resized-lines Keep = one-line cell one.line
  resized-lines (Wrap zero keep_words) = nothing-lines keep_words
  resized-lines (Wrap (suc n) keep_words) = line-wrapped n keep_words cell whole-cell (one-line cell one.line)
  resized-lines (Cut width) = by (nat_le (text_width cell) width)
    where
      by : (b : Bool) → text_lines (if b then cell else cut_at width cell) ≡ (if b then cell else cut_at width cell) ∷ []
      by true = one-line cell one.line
      by false = cut-line width cell one.utf8 one.line

-- ---- a cell of the input

module _ (text : List ℕ) (whole : NoneBroken (pieces text)) (a b : ℕ) (ordered : a ≤ b) where
  abbrev cell : List ℕ
  cell = split_part a b (pieces text)

  abbrev slice_of : List Piece
  slice_of = through_place (b - a) (from_place a (pieces text))

  abbrev style_of : Attributes
  style_of = style_after_all plain_attributes (before_place a (pieces text))

  style-is : IsRendition style_of
  style-is = rendition text (pieces text) (pieces cell) a b ordered (ArePiecesOf-pieces text) whole (ArePiecesOf-pieces cell)

  cell-is : pieces cell ≡ dressed_pieces style_of slice_of
  cell-is = pieces_of_part text (pieces text) (pieces cell) a b ordered (ArePiecesOf-pieces text) whole (ArePiecesOf-pieces cell)

  from-whole : NoneBroken (from_place a (pieces text))
  from-whole = NoneBroken-from a (pieces text) whole

  from-stand : EachStands (from_place a (pieces text))
  from-stand = EachStands-from a (pieces text) (ArePiecesOf-pieces text).stand

  slice-stand : EachStands slice_of
  slice-stand = EachStands-through (b - a) (from_place a (pieces text)) from-stand from-whole

  slice-whole : NoneBroken slice_of
  slice-whole = NoneBroken-through (b - a) (from_place a (pieces text)) from-whole

  module _ (one : IsOneLine cell) where
    whole-taken : taken_by (pieces cell) ≤ taken_by slice_of + 243
    whole-taken = taken-part text whole a b ordered

    cut-taken : (width : ℕ) → taken_by (pieces (cut_at width cell)) ≤ taken_by slice_of + 243
    unfolding cut_at
    cut-taken width =
        let characters = chars (strip (pieces cell)) in
        let kept = fitting_front width 0 characters in
        let n = length (encode_utf8_all kept) in
        let k = lacking width kept (behind_front width 0 characters) in
        subst (λ (ps : List Piece). taken_by (pieces (cut_part 0 n ps ++ encode_utf8_all (replicate k replacement))) ≤ taken_by slice_of + 243) (sym cell-is)
        (fitting_front-taken style_of style-is slice_of slice-stand slice-whole n k)

    lines-taken : (resize : Resize) → texts_take (lines_of resize cell) ≤ taken_by slice_of + 243 * length (lines_of resize cell)
    lines-taken Keep = omega (arith, whole-taken)
    lines-taken (Wrap zero keep_words) = let none = free-taken [] tt in omega (arith, none)
    lines-taken (Wrap (suc n) keep_words) =
        let some : 0 < suc n = omega arith in
        let utf8 : IsUtf8 (strip (pieces cell)) = IsUtf8-shown_text cell one.utf8 in
        subst (λ (ps : List Piece). IsUtf8 (strip ps) → texts_take (wrapped_lines (suc n) keep_words ps) ≤ taken_by slice_of + 243 * length (wrapped_lines (suc n) keep_words ps)) (sym cell-is)
        (wrapped_lines-taken style_of style-is slice_of slice-stand slice-whole (suc n) some keep_words) utf8
    lines-taken (Cut width) = by (nat_le (text_width cell) width)
      where
        by : (test : Bool) → texts_take ((if test then cell else cut_at width cell) ∷ []) ≤ taken_by slice_of + 243 * length ((if test then cell else cut_at width cell) ∷ [])
        by true = omega (arith, whole-taken)
        by false = omega (arith, cut-taken width)

    -- the lines that the cell is resized to
    pub resized-taken : (resize : Resize) → texts_take (text_lines (resized_text resize cell)) ≤ taken_by slice_of + 243 * text_height (resized_text resize cell)
    resized-taken resize =
        let count : length (lines_of resize cell) ≡ text_height (resized_text resize cell) = ap (λ (lines : List (List ℕ)). length lines) (sym (resized-lines cell one resize)) ∙ length-text_lines (resized_text resize cell) in
        omega (arith, ap texts_take (resized-lines cell one resize), lines-taken resize, count)
