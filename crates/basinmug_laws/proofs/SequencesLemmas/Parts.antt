-- What is taken of a text whose sequences are allowed: its lines, its cuts, what it is wrapped into and what a trim leaves of it. The
-- sequences that open and end the styles of a part are allowed too.
use Rattle.std.proofs.Common.{◌≡◌, ◌+◌, ◌-◌, ◌==◌, ◌&&◌, ℕ, zero, suc, Bool, true, false, List, [], ◌∷◌, ◌++◌, length, replicate, refl, if◌then◌else◌}
use Rattle.std.specs.Prelude.{IsSome, encode_utf8, encode_utf8_all, chars, flat_map, nat_lt, nat_le}
use Rattle.std.specs.List.{AllByRecursion, repeat, sum_by}
use Rattle.std.proofs.Math.Utf8.{encode}
use Rattle.ansi_scan.specs.Attributes.{Attributes, plain_attributes}
use Rattle.ansi_scan.specs.Joining.{is_text_kind}
use Rattle.ansi_scan.specs.Pieces.{pieces}
use Rattle.ansi_scan.specs.Rendition.{applied, sgr_parameters}
use Rattle.ansi_scan.specs.Sequences.{EachStands, Piece}
use Rattle.ansi_scan.specs.StartsAndEnds.{end_bytes, end_sequences, start_bytes, start_sequences}
use Rattle.ansi_scan.specs.declared.items.Kind.{Kind}
use Rattle.ansi_scan.specs.declared.items.Kind.TheVariants.{Text, Sgr, Csi, Osc, Esc, Str, Broken}
use Rattle.ansi_scan.proofs.Effects.{end_bytes-sequences, start_bytes-sequences}
use Rattle.ansi_scan.proofs.Existence.{ArePiecesOf-pieces}
use Rattle.ansi_str_search.specs.Matches.{split_bounds, styled_parts}
use Rattle.ansi_str_search.specs.Parts.{Places, part, style_where, taken}
use Rattle.ansi_str_search.specs.Text.StyledText.{strip, style_after, style_by, text_of}
use Rattle.ansi_str.specs.Cuts.{cut_part, later_part}
use Rattle.grid_records_measure.specs.Cutting.{lacking, replacement}
use Rattle.grid_records_measure.specs.Filling.{behind_front, fitting_front}
use Rattle.grid_records_measure.specs.TextLines.{line_feed, line_feed_places, text_lines}
use Rattle.grid_records_measure.specs.Trimming.{trimmed, trimmed_from, trimmed_to}
use Rattle.tabled_size_wrap.specs.Bytes.{cut_at, wrapped_text}
use Rattle.tabled_size_wrap.specs.FittingRuns.{run_cost}
use Rattle.tabled_size_wrap.specs.Runs.{runs_of, wrapped, wrapped_lines}
use Rattle.tabled_size_wrap.specs.Units.{LineUnit, line_units, unit_len}
use Rattle.tabled_size_wrap.specs.Wrapping.{before_wide, from_wide, line_part, lines_of_runs, replacement_bytes, shown_run}
use Rattle.basinmug_laws.proofs.SequencesLemmas.Allowed.{HasAllowed, IsAllowed, allowed-append, allowed-joined, allowed-nothing, allowed-plain, allowed-repeat, allowed-sequences, allowed-taken}

-- sequences that leave styles of some kind alone, which such sequences open and end
pub record AreClosed (Allows : List ℕ → Type 0) (IsStyle : Attributes → Type 0) : Type 0 where
  pub read : (bytes : List ℕ) → Allows bytes → IsSome (sgr_parameters bytes)
  pub plain : IsStyle plain_attributes
  pub after : (style : Attributes) (bytes : List ℕ) → Allows bytes → IsStyle style → IsStyle (applied style bytes)
  pub starts : (style : Attributes) → IsStyle style → AllByRecursion Allows (start_sequences style)
  pub ends : (style : Attributes) → IsStyle style → AllByRecursion Allows (end_sequences style)

module _ (Allows : List ℕ → Type 0) (IsStyle : Attributes → Type 0) (closed : AreClosed Allows IsStyle) where
  -- ---- styles

  style-by : (kind : Kind) (bytes : List ℕ) (style : Attributes) → (is_text_kind kind ≡ false → Allows bytes) → IsStyle style → IsStyle (style_by style kind bytes)
  style-by Text bytes style allowed is = is
  style-by Sgr bytes style allowed is = closed.after style bytes (allowed refl) is
  style-by Csi bytes style allowed is = is
  style-by Osc bytes style allowed is = is
  style-by Esc bytes style allowed is = is
  style-by Str bytes style allowed is = is
  style-by Broken bytes style allowed is = is

  style-where : (counts : Places) (style : Attributes) (place : ℕ) (ps : List Piece) → AllByRecursion (IsAllowed Allows) ps → IsStyle style → IsStyle (style_where counts style place ps)
  style-where counts style place [] all is = is
  style-where counts style place (piece ∷ ps) all is =
      style-where counts (if counts place then style_after style piece else style) (place + length (text_of piece)) ps all.1 (by (counts place))
    where
      by : (counted : Bool) → IsStyle (if counted then style_after style piece else style)
      by true = style-by piece.kind piece.bytes style all.0.1 is
      by false = is

  start-allowed : (style : Attributes) → IsStyle style → HasAllowed Allows (start_bytes style)
  start-allowed style is = rw (start_bytes-sequences style) (allowed-sequences Allows closed.read (start_sequences style) (closed.starts style is))

  end-allowed : (style : Attributes) → IsStyle style → HasAllowed Allows (end_bytes style)
  end-allowed style is = rw (end_bytes-sequences style) (allowed-sequences Allows closed.read (end_sequences style) (closed.ends style is))

  -- ---- parts

  part-allowed : (before within : Places) (a b : ℕ) (ps : List Piece) → EachStands ps → AllByRecursion (IsAllowed Allows) ps → HasAllowed Allows (part before within a b ps)
  part-allowed before within a b ps stand all =
      let start = style_where before plain_attributes 0 ps in
      let open_style = style_where within start 0 ps in
      let started = style-where before plain_attributes 0 ps all closed.plain in
      allowed-append Allows (start_bytes start) (taken within a b 0 ps ++ end_bytes open_style) (start-allowed start started)
      (allowed-append Allows (taken within a b 0 ps) (end_bytes open_style) (allowed-taken Allows within a b 0 ps stand all)
      (end-allowed open_style (style-where within start 0 ps all started)))

  parts-allowed : (ps : List Piece) → EachStands ps → AllByRecursion (IsAllowed Allows) ps → (bounds : List (ℕ × ℕ)) → AllByRecursion (HasAllowed Allows) (styled_parts ps bounds)
  parts-allowed ps stand all [] = tt
  parts-allowed ps stand all (bound ∷ bounds) =
      (part-allowed (λ place. nat_lt place bound.0) (λ place. nat_le bound.0 place && nat_le place bound.1) bound.0 bound.1 ps stand all, parts-allowed ps stand all bounds)

  pub lines-allowed : (text : List ℕ) → HasAllowed Allows text → AllByRecursion (HasAllowed Allows) (text_lines text)
  unfolding text_lines
  lines-allowed text all =
      let shown = strip (pieces text) in
      parts-allowed (pieces text) (ArePiecesOf-pieces text).stand all (split_bounds (line_feed ∷ []) shown (line_feed_places shown))

  -- ---- cut

  cut-part : (a b : ℕ) (ps : List Piece) → EachStands ps → AllByRecursion (IsAllowed Allows) ps → HasAllowed Allows (cut_part a b ps)
  cut-part a b ps stand all = part-allowed (λ place. false) (λ place. nat_le place b) a b ps stand all

  later-part : (a b : ℕ) (ps : List Piece) → EachStands ps → AllByRecursion (IsAllowed Allows) ps → HasAllowed Allows (later_part a b ps)
  later-part a b ps stand all = part-allowed (λ place. nat_le place a) (λ place. nat_lt a place && nat_le place b) a b ps stand all

  mark-allowed : HasAllowed Allows (encode_utf8 replacement)
  unfolding encode
  mark-allowed = allowed-plain Allows (encode_utf8 replacement) refl

  marks-allowed : (n : ℕ) → HasAllowed Allows (encode_utf8_all (replicate n replacement))
  marks-allowed zero = allowed-nothing Allows
  marks-allowed (suc n) = allowed-append Allows (encode_utf8 replacement) (encode_utf8_all (replicate n replacement)) mark-allowed (marks-allowed n)

  pub cut-allowed : (width : ℕ) (text : List ℕ) → HasAllowed Allows text → HasAllowed Allows (cut_at width text)
  unfolding cut_at
  cut-allowed width text all =
      let characters = chars (strip (pieces text)) in
      let kept = fitting_front width 0 characters in
      let count = lacking width kept (behind_front width 0 characters) in
      allowed-append Allows (cut_part 0 (length (encode_utf8_all kept)) (pieces text)) (encode_utf8_all (replicate count replacement))
      (cut-part 0 (length (encode_utf8_all kept)) (pieces text) (ArePiecesOf-pieces text).stand all) (marks-allowed count)

  -- ---- wrapped

  module _ (ps : List Piece) (stand : EachStands ps) (all : AllByRecursion (IsAllowed Allows) ps) where
    line_part-allowed : (a b : ℕ) → HasAllowed Allows (line_part ps a b)
    line_part-allowed a b = by (a == b && nat_lt 0 (length (strip ps))) (a == 0)
      where
        by : (none first : Bool) → HasAllowed Allows (if none then [] else if first then cut_part 0 b ps else later_part a b ps)
        by true first = allowed-nothing Allows
        by false true = cut-part 0 b ps stand all
        by false false = later-part a b ps stand all

    run-allowed : (width place : ℕ) (front rest : List LineUnit) → HasAllowed Allows (shown_run unit_len (line_part ps) replacement_bytes width place front rest)
    run-allowed width place front [] = line_part-allowed place (place + sum_by unit_len front)
    run-allowed width place front (wide ∷ others) =
        let from = place + sum_by unit_len front in
        let to = from + unit_len wide in
        let marks = repeat (width - run_cost front) replacement_bytes in
        allowed-append Allows (line_part ps place from) (marks ++ line_part ps to (to + sum_by unit_len others)) (line_part-allowed place from)
        (allowed-append Allows marks (line_part ps to (to + sum_by unit_len others)) (allowed-repeat Allows (width - run_cost front) replacement_bytes (marks-allowed 1))
        (line_part-allowed to (to + sum_by unit_len others)))

    runs-allowed : (width place : ℕ) (runs : List (List LineUnit)) → AllByRecursion (HasAllowed Allows) (lines_of_runs unit_len (line_part ps) replacement_bytes width place runs)
    runs-allowed width place [] = tt
    runs-allowed width place (run ∷ runs) = (run-allowed width place (before_wide width run) (from_wide width run), runs-allowed width (place + sum_by unit_len run) runs)

  all-of_both : (first second : List (List ℕ)) → AllByRecursion (HasAllowed Allows) first → AllByRecursion (HasAllowed Allows) second → AllByRecursion (HasAllowed Allows) (first ++ second)
  all-of_both [] second all others = others
  all-of_both (line ∷ first) second all others = (all.0, all-of_both first second all.1 others)

  each-wrapped : (width : ℕ) (keep_words : Bool) (lines : List (List ℕ)) → AllByRecursion (HasAllowed Allows) lines
      → AllByRecursion (HasAllowed Allows) (flat_map (λ line. wrapped_lines width keep_words (pieces line)) lines)
  each-wrapped width keep_words [] all = tt
  each-wrapped width keep_words (line ∷ lines) all =
      all-of_both (wrapped_lines width keep_words (pieces line)) (flat_map (λ line. wrapped_lines width keep_words (pieces line)) lines)
      (runs-allowed (pieces line) (ArePiecesOf-pieces line).stand all.0 width 0 (runs_of width (line_units width keep_words (chars (strip (pieces line))))))
      (each-wrapped width keep_words lines all.1)

  lines-wrapped : (width : ℕ) (keep_words : Bool) (lines : List (List ℕ)) → AllByRecursion (HasAllowed Allows) lines → HasAllowed Allows (wrapped width keep_words lines)
  lines-wrapped zero keep_words lines all = allowed-nothing Allows
  lines-wrapped (suc n) keep_words lines all =
      allowed-joined Allows line_feed refl (flat_map (λ line. wrapped_lines (suc n) keep_words (pieces line)) lines) (each-wrapped (suc n) keep_words lines all)

  pub wrapped-allowed : (width : ℕ) (keep_words : Bool) (text : List ℕ) → HasAllowed Allows text → HasAllowed Allows (wrapped_text width keep_words text)
  unfolding wrapped_text
  wrapped-allowed width keep_words text all = lines-wrapped width keep_words (text_lines text) (lines-allowed text all)

  -- ---- trimmed

  pub trimmed-allowed : (text : List ℕ) → HasAllowed Allows text → HasAllowed Allows (trimmed text)
  unfolding trimmed
  trimmed-allowed text all =
      let shown = strip (pieces text) in
      allowed-taken Allows (λ _. true) (trimmed_from shown) (trimmed_to shown) 0 (pieces text) (ArePiecesOf-pieces text).stand all
