-- The lines of a text without sequences, by where its line feeds are.
use Rattle.std.proofs.Common.{◌≡◌, ◌∙◌, ◌≤◌, ◌<◌, ◌+◌, ◌-◌, ℕ, zero, suc, Bool, false, List, [], ◌∷◌, ◌++◌, if◌then◌else◌, ap, arith, drop, get_or, length, map, ne_eqb, refl, slice_range, subst, sym, take}
use Rattle.std.proofs.lemmas.List.FromFn.{filter_of_map_range_with_len_more}
use Rattle.std.proofs.lemmas.List.{get_or-map, get_or_past, length-map}
use Rattle.std.proofs.Math.Seq.{take-length}
use Rattle.std.specs.List.{filter, range_with_len}
use Rattle.std.specs.Str.{IsCharBoundary, IsUtf8}
use Rattle.ansi_scan.specs.Pieces.{pieces}
use Rattle.ansi_scan.proofs.Existence.{ArePiecesOf-pieces}
use Rattle.ansi_str_search.specs.Matches.{bounds_between, split_bounds, styled_parts, text_parts}
use Rattle.ansi_str_search.proofs.AllParts.{bounds-in_order, styled_parts-without_escape}
use Rattle.ansi_str_search.proofs.Finds.{IsUtf8-byte}
use Rattle.ansi_str_search.proofs.SplitSlices.{All-between_characters}
use Rattle.ansi_str_search.specs.Text.StyledText.{has_escape}
use Rattle.ansi_str_search.proofs.TextLemmas.Stripping.{strip-without_escape}
use Rattle.grid_records_measure.specs.TextLines.{is_line_feed, line_feed, line_feed_places, text_height, text_lines}
use Rattle.grid_records_measure.proofs.TextLines.{length-text_lines, line_feeds_match}
use Rattle.grid_records.specs.RecordRows.Measured.{bounds_of_lines}

-- ---- the bounds of the parts between places

-- where the part with this number begins, of which the first begins at `from`
begin_at : ℕ → List ℕ → ℕ → ℕ
begin_at from ms zero = from
begin_at from [] (suc i) = from
begin_at from (m ∷ ms) (suc i) = begin_at (m + 1) ms i

length-bounds : (from end : ℕ) (ms : List ℕ) → length (bounds_between 1 from end ms) ≡ length ms + 1
length-bounds from end [] = refl
length-bounds from end (m ∷ ms) =
    let rest = length-bounds (m + 1) end ms in
    omega (arith, rest)

get-bounds : (from end : ℕ) (ms : List ℕ) (i : ℕ) (d : ℕ × ℕ) → i ≤ length ms → get_or (bounds_between 1 from end ms) i d ≡ (begin_at from ms i, get_or ms i end)
unfolding begin_at
get-bounds from end [] zero d le = refl
get-bounds from end [] (suc i) d le = absurd (omega arith)
get-bounds from end (m ∷ ms) zero d le = refl
get-bounds from end (m ∷ ms) (suc i) d le = get-bounds (m + 1) end ms i d (omega arith)

-- each but the first begins after a place
begin_at-later : (from : ℕ) (ms : List ℕ) (i : ℕ) → i < length ms → begin_at from ms (suc i) ≡ get_or ms i 0 + 1
unfolding begin_at
begin_at-later from [] i lt = absurd (omega arith)
begin_at-later from (m ∷ []) zero lt = refl
begin_at-later from (m ∷ n ∷ ms) zero lt = refl
begin_at-later from (m ∷ []) (suc i) lt = absurd (omega arith)
begin_at-later from (m ∷ n ∷ ms) (suc i) lt = begin_at-later (m + 1) (n ∷ ms) i (omega arith)

begin_at-first : (from : ℕ) (ms : List ℕ) → begin_at from ms 0 ≡ from
unfolding begin_at
begin_at-first from ms = refl

module _ (text places : List ℕ) (at : places ≡ line_feed_places text) where
  bounds-are : (i : ℕ) → i ≤ length places → get_or (bounds_of_lines text) i (0, 0) ≡ (begin_at 0 places i, get_or places i (length text))
  bounds-are i le = ap (λ ms. get_or (split_bounds (line_feed ∷ []) text ms) i (0, 0)) (sym at) ∙ get-bounds 0 (length text) places i (0, 0) le

  pub first_bounds : (i end : ℕ) → i ≡ 0 → end ≡ get_or places i (length text) → (0, end) ≡ get_or (bounds_of_lines text) i (0, 0)
  first_bounds i end none ends =
      ap (λ n. (0, n)) (ends ∙ ap (λ k. get_or places k (length text)) none)
      ∙ ap (λ n. (n, get_or places 0 (length text))) (sym (begin_at-first 0 places))
      ∙ sym (ap (λ k. get_or (bounds_of_lines text) k (0, 0)) none ∙ bounds-are 0 (omega arith))

  pub later_bounds : (i end : ℕ) → 0 < i → i ≤ length places → end ≡ get_or places i (length text) → (get_or places (i - 1) 0 + 1, end) ≡ get_or (bounds_of_lines text) i (0, 0)
  later_bounds i end some le ends =
      let next : suc (i - 1) ≡ i = omega arith in
      let begun : begin_at 0 places i ≡ get_or places (i - 1) 0 + 1 = ap (begin_at 0 places) (sym next) ∙ begin_at-later 0 places (i - 1) (omega arith) in
      sym (bounds-are i le ∙ ap (λ n. (n, get_or places i (length text))) begun ∙ ap (λ n. (get_or places (i - 1) 0 + 1, n)) (sym ends))

-- ---- the lines between line feeds

feed_utf8 : IsUtf8 (line_feed ∷ [])
feed_utf8 = IsUtf8-byte line_feed (omega arith)

pub text_lines-plain : (text : List ℕ) → has_escape text ≡ false → text_lines text ≡ text_parts text (bounds_of_lines text)
unfolding text_lines
text_lines-plain text plain =
    let itself = strip-without_escape text (pieces text) (ArePiecesOf-pieces text) plain in
    ap (λ shown. styled_parts (pieces text) (bounds_of_lines shown)) itself
    ∙ styled_parts-without_escape (line_feed ∷ []) text (pieces text) (line_feed_places text) plain (ArePiecesOf-pieces text) (line_feeds_match text)

pub count_plain : (text : List ℕ) → has_escape text ≡ false → length (line_feed_places text) + 1 ≡ length (text_lines text)
count_plain text plain =
    let bounds = bounds_of_lines text in
    sym (ap length (text_lines-plain text plain) ∙ length-map bounds (λ bound. slice_range text bound.0 bound.1) ∙ length-bounds 0 (length text) (line_feed_places text))

module _ (text : List ℕ) (i : ℕ) (bound : ℕ × ℕ) (le : i ≤ length (line_feed_places text)) (is : bound ≡ get_or (bounds_of_lines text) i (0, 0)) where
  within : i < length (bounds_of_lines text)
  within = omega (arith, le, length-bounds 0 (length text) (line_feed_places text))

  pub line_between : has_escape text ≡ false → slice_range text bound.0 bound.1 ≡ get_or (text_lines text) i []
  line_between plain =
      ap (λ (b : ℕ × ℕ). slice_range text b.0 b.1) is
      ∙ sym (ap (λ lines. get_or lines i []) (text_lines-plain text plain) ∙ get_or-map (λ (b : ℕ × ℕ). slice_range text b.0 b.1) (bounds_of_lines text) i (0, 0) [] within)

  pub in_order : (bound.0 ≤ bound.1) × (bound.1 ≤ length text)
  in_order = subst (λ (b : ℕ × ℕ). (b.0 ≤ b.1) × (b.1 ≤ length text)) (sym is) (bounds-in_order (line_feed ∷ []) text (line_feed_places text) (line_feeds_match text) i (0, 0) within)

  pub between_characters : IsUtf8 text → IsCharBoundary text bound.0 × IsCharBoundary text bound.1
  between_characters utf8 =
      subst (λ (b : ℕ × ℕ). IsCharBoundary text b.0 × IsCharBoundary text b.1) (sym is)
      (All-between_characters (line_feed ∷ []) text (line_feed_places text) utf8 feed_utf8 (line_feeds_match text) i (0, 0) within)

-- a line that is not the first begins within the text
pub later_start : (text places : List ℕ) (i : ℕ) → places ≡ line_feed_places text → 0 < i → i ≤ length places → get_or places (i - 1) 0 + 1 ≤ length text
later_start text places i at some le =
    let order = in_order text i (get_or places (i - 1) 0 + 1, get_or places i (length text)) (omega (arith, le, ap length at)) (later_bounds text places at i (get_or places i (length text)) some le refl) in
    omega (arith, order)

pub no_line : (text : List ℕ) (i : ℕ) → has_escape text ≡ false → length (line_feed_places text) < i → [] ≡ get_or (text_lines text) i []
no_line text i plain past = sym (get_or_past (text_lines text) i [] (omega (arith, past, count_plain text plain)))

-- ---- the places of line feeds up to one place

pub places_more : (text places more : List ℕ) (at : ℕ) → places ≡ filter (λ k. is_line_feed (get_or text k 0)) (range_with_len 0 at)
    → more ≡ places ++ (if is_line_feed (get_or text at 0) then at ∷ [] else []) → more ≡ filter (λ k. is_line_feed (get_or text k 0)) (range_with_len 0 (at + 1))
places_more text places more at is push =
    let p : ℕ → Bool = λ k. is_line_feed (get_or text k 0) in
    let here : 0 + at ≡ at = omega arith in
    let next : filter p (map (λ k. k) (range_with_len 0 (at + 1))) ≡ filter p (map (λ k. k) (range_with_len 0 at)) ++ (if is_line_feed (get_or text at 0) then at ∷ [] else []) =
    filter_of_map_range_with_len_more p (λ k. k) 0 at at here in
    push ∙ ap (λ ms. ms ++ (if is_line_feed (get_or text at 0) then at ∷ [] else [])) (is ∙ ap (filter p) (sym (itself (range_with_len 0 at))))
    ∙ sym next ∙ ap (filter p) (itself (range_with_len 0 (at + 1)))
  where
    itself : (xs : List ℕ) → map (λ k. k) xs ≡ xs
    itself [] = refl
    itself (x ∷ xs) = ap (λ ys. x ∷ ys) (itself xs)

pub feed_here : (b : ℕ) (xs : List ℕ) → b ≡ line_feed → (if is_line_feed b then xs else []) ≡ xs
feed_here b xs is = rw is refl

pub no_feed_here : (b : ℕ) (xs : List ℕ) → ¬ (b ≡ line_feed) → (if is_line_feed b then xs else []) ≡ []
no_feed_here b xs not = ap (λ (test : Bool). if test then xs else []) (ne_eqb b line_feed not)

-- ---- texts of one line

one : (lines : List (List ℕ)) → length lines ≡ 1 → lines ≡ get_or lines 0 [] ∷ []
one [] is = absurd (omega (arith, is))
one (line ∷ []) is = refl
one (line ∷ next ∷ lines) is = absurd (omega (arith, is))

pub only_line : (text line : List ℕ) → text_height text ≡ 1 → line ≡ get_or (text_lines text) 0 [] → text_lines text ≡ line ∷ []
only_line text line is first = one (text_lines text) (length-text_lines text ∙ is) ∙ ap (λ bytes. bytes ∷ []) (sym first)

pub some_lines : (text : List ℕ) (count : ℕ) → has_escape text ≡ false → count ≡ text_height text → 1 ≤ count
some_lines text count plain counted = omega (arith, counted, length-text_lines text, count_plain text plain)

nil : (xs : List ℕ) → length xs ≡ 0 → xs ≡ []
nil [] is = refl
nil (x ∷ xs) is = absurd (omega (arith, is))

pub only_plain : (text : List ℕ) (count : ℕ) → has_escape text ≡ false → count ≡ text_height text → count ≡ 1 → text_lines text ≡ text ∷ []
only_plain text count plain counted is =
    let single : length (text_lines text) ≡ 1 = length-text_lines text ∙ sym counted ∙ is in
    let none : line_feed_places text ≡ [] = nil (line_feed_places text) (omega (arith, single, count_plain text plain)) in
    let all : length text - 0 ≡ length text = omega arith in
    text_lines-plain text plain ∙ ap (λ places. text_parts text (split_bounds (line_feed ∷ []) text places)) none
    ∙ ap (λ n. take n (drop 0 text) ∷ []) all ∙ ap (λ bytes. bytes ∷ []) (take-length text)
