-- Texts without ESC: resized they have none either.
use Rattle.std.proofs.Common.{◌≡◌, ◌≢◌, ◌==◌, ◌-◌, ◌+◌, ◌||◌, ℕ, zero, suc, Bool, true, false, List, [], ◌∷◌, ◌++◌, length, map, drop, replicate, slice_range, nat_le, refl, ap, sym, subst, ◌∙◌, if◌then◌else◌}
use Rattle.std.specs.Prelude.{chars, encode_utf8_all, nat_lt, ◌&&◌}
use Rattle.std.specs.List.{AllByRecursion, flat_map, join_with_byte, repeat, sum_by}
use Rattle.std.proofs.Math.Utf8.{encode}
use Rattle.std.proofs.lemmas.Bool.{or_parts}
use Rattle.std.proofs.lemmas.List.Folds.{list_any-append}
use Rattle.ansi_scan.specs.declared.items.Kind.{Kind}
use Rattle.ansi_scan.specs.declared.items.Kind.TheVariants.{Text}
use Rattle.ansi_scan.specs.Joining.{is_text_kind}
use Rattle.ansi_scan.specs.Sequences.{EachStands, Piece, Stands, escape, joined}
use Rattle.ansi_scan.specs.Pieces.{pieces}
use Rattle.ansi_scan.specs.Attributes.{Attributes, plain_attributes}
use Rattle.ansi_scan.specs.StartsAndEnds.{end_bytes, end_sequences, start_bytes, start_sequences}
use Rattle.ansi_scan.proofs.Existence.{ArePiecesOf-pieces}
use Rattle.ansi_scan.proofs.Uniqueness.{begins_with_escape}
use Rattle.ansi_str.specs.Cuts.{cut_part, later_part}
use Rattle.ansi_str.specs.Matches.{split_bounds}
use Rattle.ansi_str.specs.Parts.{Places, part, split_part, style_where, taken}
use Rattle.ansi_str.specs.StyledText.{has_escape, strip, style_after, text_of}
use Rattle.ansi_str_search.proofs.Parts.{style_by-text}
use Rattle.ansi_str_search.proofs.TextLemmas.Stripping.{escaped}
use Rattle.grid_records_measure.specs.Cutting.{lacking, replacement}
use Rattle.grid_records_measure.specs.Filling.{behind_front, fitting_front}
use Rattle.grid_records_measure.specs.TextLines.{line_feed, line_feed_places, text_lines, text_width}
use Rattle.papergrid_picture.specs.Shown.{IsTextWithoutEscape, IsWholeText}
use Rattle.papergrid_picture.proofs.Related.{All-append}
use Rattle.papergrid_picture.proofs.Shown.{All-drop, All-take}
use Rattle.papergrid_picture.proofs.Stripped.{none-broken}
use Rattle.tabled_size_wrap.specs.FittingRuns.{run_cost}
use Rattle.tabled_size_wrap.specs.Bytes.{cut_at, wrapped_text}
use Rattle.tabled_size_wrap.specs.Runs.{wrapped_lines, runs_of}
use Rattle.tabled_size_wrap.specs.Units.{LineUnit, line_units, unit_len}
use Rattle.tabled_size_wrap.specs.Wrapping.{from_wide, line_part, lines_of_runs, before_wide, replacement_bytes, shown_run}
use Rattle.tabled_size_wrap.specs.Cells.Resizing.{Wrap, Cut, Keep, Resize, resized_text}
use Rattle.tabled_size_wrap.proofs.CellsLemmas.Bridges.{resized-shows}

-- ---- bytes without ESC

abbrev pub IsFree : List ℕ → Type 0
IsFree bytes = AllByRecursion (λ b. (b == escape) ≡ false) bytes

pub free-from : (bytes : List ℕ) → has_escape bytes ≡ false → IsFree bytes
free-from [] gone = tt
free-from (b ∷ bytes) gone = let both = or_parts (b == escape) (has_escape bytes) gone in (both.0, free-from bytes both.1)

pub free-none : (bytes : List ℕ) → IsFree bytes → has_escape bytes ≡ false
free-none [] free = refl
free-none (b ∷ bytes) free = ap (λ test. test || has_escape bytes) free.0 ∙ free-none bytes free.1

pub free-both : (xs ys : List ℕ) → IsFree xs → IsFree ys → IsFree (xs ++ ys)
free-both xs ys a b = All-append (λ b. (b == escape) ≡ false) xs ys a b

free-slice : (bytes : List ℕ) (a b : ℕ) → IsFree bytes → IsFree (slice_range bytes a b)
free-slice bytes a b free = All-take (λ b. (b == escape) ≡ false) (b - a) (drop a bytes) (All-drop (λ b. (b == escape) ≡ false) a bytes free)

pub free-repeat : (n : ℕ) (bytes : List ℕ) → IsFree bytes → IsFree (repeat n bytes)
free-repeat zero bytes free = tt
free-repeat (suc n) bytes free = free-both bytes (repeat n bytes) free (free-repeat n bytes free)

free-join : (lines : List (List ℕ)) → AllByRecursion IsFree lines → IsFree (join_with_byte line_feed lines)
free-join [] all = tt
free-join (line ∷ []) all = all.0
free-join (line ∷ next ∷ lines) all = free-both line (line_feed ∷ join_with_byte line_feed (next ∷ lines)) all.0 (refl, free-join (next ∷ lines) all.1)

pub free-mark : IsFree replacement_bytes
unfolding encode
free-mark = (refl, (refl, (refl, tt)))

pub free-marks : (n : ℕ) → IsFree (encode_utf8_all (replicate n replacement))
unfolding encode
free-marks zero = tt
free-marks (suc n) = (refl, (refl, (refl, free-marks n)))

-- ---- parts of a text without sequences

abbrev pub AreFreeTexts : List Piece → Type 0
AreFreeTexts ps = AllByRecursion (λ p. (is_text_kind p.kind ≡ true) × IsFree p.bytes) ps

text-kind : (kind : Kind) (bytes : List ℕ) (after : List Piece) (text : Bool) → is_text_kind kind ≡ text → Stands kind bytes after → has_escape (bytes ++ joined after) ≡ false → is_text_kind kind ≡ true
text-kind kind bytes after true e stands gone = e
text-kind kind bytes after false e stands gone =
    let other : kind ≢ Text = λ same. (let both : true ≡ false = ap is_text_kind (sym same) ∙ e in cc both) in
    let begins = begins_with_escape kind bytes after stands other in
    absurd (escaped bytes begins.0 (joined after) begins.1 gone)

free-texts : (ps : List Piece) → EachStands ps → has_escape (joined ps) ≡ false → AreFreeTexts ps
free-texts [] each gone = tt
free-texts (p ∷ ps) each gone =
    let both = or_parts (has_escape p.bytes) (has_escape (joined ps)) (sym (list_any-append (λ b. b == escape) p.bytes (joined ps)) ∙ gone) in
    ((text-kind p.kind p.bytes ps (is_text_kind p.kind) refl each.0 gone, free-from p.bytes both.0), free-texts ps each.1 both.1)

pub pieces-free : (text : List ℕ) → IsFree text → AreFreeTexts (pieces text)
pieces-free text free = let are = ArePiecesOf-pieces text in free-texts (pieces text) are.stand (ap has_escape are.joins ∙ free-none text free)

style-stays : (counts : Places) (style : Attributes) (place : ℕ) (ps : List Piece) → AreFreeTexts ps → style_where counts style place ps ≡ style
style-stays counts style place [] all = refl
style-stays counts style place (p ∷ ps) all =
    let next = place + length (text_of p) in
    let stays : style_after style p ≡ style = style_by-text style p.kind p.bytes all.0.0 in
    let test : (b : Bool) → (if b then style_after style p else style) ≡ style =
    λ b. elim b as (λ b. (if b then style_after style p else style) ≡ style) [ true ↦ stays | false ↦ refl ] in
    ap (λ (found : Attributes). style_where counts found next ps) (test (counts place)) ∙ style-stays counts style next ps all.1

free-taken : (counts : Places) (a b place : ℕ) (ps : List Piece) → AreFreeTexts ps → IsFree (taken counts a b place ps)
free-taken counts a b place [] all = tt
free-taken counts a b place (p ∷ ps) all =
    let slice = slice_range p.bytes (a - place) (b - place) in
    let sequence = if counts place then p.bytes else [] in
    let others = taken counts a b (place + length (text_of p)) ps in
    free-both (if is_text_kind p.kind then slice else sequence) others
    (subst (λ (test : Bool). IsFree (if test then slice else sequence)) (sym all.0.0) (free-slice p.bytes (a - place) (b - place) all.0.1))
    (free-taken counts a b (place + length (text_of p)) ps all.1)

free-start : IsFree (start_bytes plain_attributes)
unfolding start_bytes start_sequences plain_attributes
free-start = tt

free-end : IsFree (end_bytes plain_attributes)
unfolding end_bytes end_sequences plain_attributes
free-end = tt

free-part : (before within : Places) (a b : ℕ) (ps : List Piece) → AreFreeTexts ps → IsFree (part before within a b ps)
free-part before within a b ps all =
    let start = style_where before plain_attributes 0 ps in
    let start_plain : start ≡ plain_attributes = style-stays before plain_attributes 0 ps all in
    let end_plain : style_where within start 0 ps ≡ plain_attributes = style-stays within start 0 ps all ∙ start_plain in
    free-both (start_bytes start) (taken within a b 0 ps ++ end_bytes (style_where within start 0 ps))
    (subst (λ (style : Attributes). IsFree (start_bytes style)) (sym start_plain) free-start)
    (free-both (taken within a b 0 ps) (end_bytes (style_where within start 0 ps)) (free-taken within a b 0 ps all) (subst (λ (style : Attributes). IsFree (end_bytes style)) (sym end_plain) free-end))

-- ---- lines of such a text, and their lines

free-lines : (text : List ℕ) → IsFree text → AllByRecursion IsFree (text_lines text)
unfolding text_lines
free-lines text free = each (split_bounds (line_feed ∷ []) (strip (pieces text)) (line_feed_places (strip (pieces text)))) where
  each : (bounds : List (ℕ × ℕ)) → AllByRecursion IsFree (map (λ bound. split_part bound.0 bound.1 (pieces text)) bounds)
  each [] = tt
  each (bound ∷ bounds) = (free-part (λ place. nat_lt place bound.0) (λ place. nat_le bound.0 place && nat_le place bound.1) bound.0 bound.1 (pieces text) (pieces-free text free), each bounds)

free-line_part : (a b : ℕ) (ps : List Piece) → AreFreeTexts ps → IsFree (line_part ps a b)
free-line_part a b ps all = one (a == b && nat_lt 0 (length (strip ps))) (a == 0) where
  one : (none first : Bool) → IsFree (if none then [] else if first then cut_part 0 b ps else later_part a b ps)
  one true first = tt
  one false true = free-part (λ place. false) (λ place. nat_le place b) 0 b ps all
  one false false = free-part (λ place. nat_le place a) (λ place. nat_lt a place && nat_le place b) a b ps all

module _ (ps : List Piece) (all : AreFreeTexts ps) (width : ℕ) where
  free-run : (place : ℕ) (run behind : List LineUnit) → IsFree (shown_run unit_len (line_part ps) replacement_bytes width place run behind)
  free-run place run [] = free-line_part place (place + sum_by unit_len run) ps all
  free-run place run (wide ∷ behind) =
      let from = place + sum_by unit_len run in
      let to = from + unit_len wide in
      free-both (line_part ps place from) (repeat (width - run_cost run) replacement_bytes ++ line_part ps to (to + sum_by unit_len behind)) (free-line_part place from ps all)
      (free-both (repeat (width - run_cost run) replacement_bytes) (line_part ps to (to + sum_by unit_len behind)) (free-repeat (width - run_cost run) replacement_bytes free-mark) (free-line_part to (to + sum_by unit_len behind) ps all))

  free-shown : (place : ℕ) (runs : List (List LineUnit)) → AllByRecursion IsFree (lines_of_runs unit_len (line_part ps) replacement_bytes width place runs)
  free-shown place [] = tt
  free-shown place (run ∷ runs) = (free-run place (before_wide width run) (from_wide width run), free-shown (place + sum_by unit_len run) runs)

free-wrapped_lines : (width : ℕ) (keep_words : Bool) (lines : List (List ℕ)) → AllByRecursion IsFree lines → AllByRecursion IsFree (flat_map (λ line. wrapped_lines width keep_words (pieces line)) lines)
free-wrapped_lines width keep_words [] all = tt
free-wrapped_lines width keep_words (line ∷ lines) all =
    All-append IsFree (wrapped_lines width keep_words (pieces line)) (flat_map (λ line. wrapped_lines width keep_words (pieces line)) lines)
    (free-shown (pieces line) (pieces-free line all.0) width 0 (runs_of width (line_units width keep_words (chars (strip (pieces line)))))) (free-wrapped_lines width keep_words lines all.1)

-- ---- a resized text

pub free-wrapped : (width : ℕ) (keep_words : Bool) (text : List ℕ) → IsFree text → IsFree (wrapped_text width keep_words text)
unfolding wrapped_text
free-wrapped zero keep_words text free = tt
free-wrapped (suc n) keep_words text free =
    free-join (flat_map (λ line. wrapped_lines (suc n) keep_words (pieces line)) (text_lines text)) (free-wrapped_lines (suc n) keep_words (text_lines text) (free-lines text free))

pub free-cut : (width : ℕ) (text : List ℕ) → IsFree text → IsFree (cut_at width text)
unfolding cut_at
free-cut width text free =
    let characters = chars (strip (pieces text)) in
    let kept = fitting_front width 0 characters in
    free-both (cut_part 0 (length (encode_utf8_all kept)) (pieces text)) (encode_utf8_all (replicate (lacking width kept (behind_front width 0 characters)) replacement))
    (free-part (λ place. false) (λ place. nat_le place (length (encode_utf8_all kept))) 0 (length (encode_utf8_all kept)) (pieces text) (pieces-free text free))
    (free-marks (lacking width kept (behind_front width 0 characters)))

free-resized : (resize : Resize) (text : List ℕ) → IsFree text → IsFree (resized_text resize text)
free-resized Keep text free = free
free-resized (Wrap width keep_words) text free = free-wrapped width keep_words text free
free-resized (Cut width) text free = one (nat_le (text_width text) width) where
  one : (b : Bool) → IsFree (if b then text else cut_at width text)
  one true = free
  one false = free-cut width text free

-- ---- texts

pub plain-whole : (text : List ℕ) → IsTextWithoutEscape text → IsWholeText text
plain-whole text plain =
    let are = ArePiecesOf-pieces text in
    record { utf8 = plain.utf8; whole = none-broken (pieces text) are.stand (ap has_escape are.joins ∙ plain.no_escape) }

pub resized-plain : (resize : Resize) (text : List ℕ) → IsTextWithoutEscape text → IsTextWithoutEscape (resized_text resize text)
resized-plain resize text plain = record {
  utf8 = (resized-shows resize text (plain-whole text plain)).whole.utf8;
  no_escape = free-none (resized_text resize text) (free-resized resize text (free-from text plain.no_escape));
}
