-- The cells of a text are one line each, of which the width is known.
use Rattle.std.proofs.Common.{◌≡◌, ℕ, ◌<◌, ◌==◌, ◌||◌, false, cond, max, All, List, [], ◌∷◌, map, length, sum, take, drop, refl, ap, sym, subst, ◌∙◌, arith, lit<, length-drop, vec_items}
use Rattle.std.specs.List.{slice_split, onto_first, AllByRecursion, list_any}
use Rattle.std.proofs.lemmas.List.{nil_from_length, take-append-drop}
use Rattle.std.proofs.lemmas.List.Elements.{All-from_recursion}
use Rattle.std.proofs.lemmas.List.Sums.{sum_by-cons}
use Rattle.ansi_scan.specs.Sequences.{Piece, ArePiecesOf}
use Rattle.ansi_scan.specs.Pieces.{pieces}
use Rattle.ansi_scan.proofs.Existence.{ArePiecesOf-pieces}
use Rattle.ansi_scan.proofs.Uniqueness.{pieces-ArePiecesOf}
use Rattle.ansi_str.specs.StyledText.{strip}
use Rattle.ansi_str_search.proofs.AllParts.{strip-styled_parts}
use Rattle.ansi_str_search.proofs.StdSplits.{split_at_one_byte}
use Rattle.grid_records_measure.specs.TextLines.{is_line_feed, line_feed, widest}
use Rattle.columns_run.specs.Cells.{Line, line_of_cell, line_rows, part_line, rows_shown}
use Rattle.columns_table.specs.Records.{IsSingleLineCell}
use Rattle.grid_records_traits.specs.SingleLines.{IsSingleLine}
use Rattle.columns_table.specs.Rows.{split_by_lengths}
use Rattle.columns_run.specs.Rows.{tab, stripped, places, parts_by_character, row_parts, cell_parts}
use Rattle.columns_table.specs.declared.rows.Rows.{Rows}
use Rattle.columns_run.proofs.Items.{AllByRecursion-append, AllByRecursion-map_of}
use Rattle.columns_run.proofs.Cells.{Fails, closed_rows, slice_split-fails, slice_split-keeps, without_unshown_last-keeps}
use Rattle.columns_table.proofs.Records.{first_line}
use Rattle.columns_run.proofs.Places.{AreMatches-places}
use Rattle.columns_run.proofs.Splits.{IsWholeText, IsClosedPart, closed-parts_by_character, whole-closed}

-- ---- what a text without line feed shows

abbrev NoLineFeeds : List ℕ → Type 0
NoLineFeeds bytes = AllByRecursion (Fails is_line_feed) bytes

slice_split-none : (bytes : List ℕ) → NoLineFeeds bytes → slice_split is_line_feed bytes ≡ bytes ∷ []
slice_split-none [] none = refl
slice_split-none (b ∷ bs) none =
    ap (λ test. cond test ([] ∷ slice_split is_line_feed bs) (onto_first b (slice_split is_line_feed bs))) none.0
    ∙ ap (onto_first b) (slice_split-none bs none.1)

abbrev HasOneLine : List ℕ → Type 0
HasOneLine part = NoLineFeeds (stripped part)

-- a line, and what it measures
abbrev IsMeasuredLine : Line → Type 0
IsMeasuredLine line = IsSingleLine line.items line.measure

no_feed : (bytes : List ℕ) → NoLineFeeds bytes → list_any (λ byte. byte == 0x0a) bytes ≡ false
no_feed [] none = refl
no_feed (b ∷ bs) none = ap (λ t. t || list_any (λ byte. byte == 0x0a) bs) none.0 ∙ no_feed bs none.1

part-measured : (part : List ℕ) → IsClosedPart part × HasOneLine part → IsMeasuredLine (part_line part)
part-measured part (whole, one) =
    let lines : (ps : List Piece) → ArePiecesOf part ps → stripped part ∷ [] ≡ slice_split is_line_feed (strip ps) =
    λ ps of_text. sym (slice_split-none (stripped part) one) ∙ ap (λ found. slice_split is_line_feed (strip found)) (pieces-ArePiecesOf part ps of_text) in (
      λ ps of_text. ap (λ found. length found) (lines ps of_text),
      λ ps of_text. sym (max-none (part_line part).measure) ∙ ap widest (lines ps of_text),
      first_line part (record { pieces = pieces part; of_line = ArePiecesOf-pieces part; closed = whole.closed; one_line = no_feed (stripped part) one }),
    )
  where
    max-none : (n : ℕ) → max n 0 ≡ n
    max-none n = omega arith

-- ---- the parts of a text

stripped-parts_by_character : (c : ℕ) (text : List ℕ) → c < 128 → IsWholeText text → map stripped (parts_by_character c text) ≡ slice_split (λ b. b == c) (stripped text)
stripped-parts_by_character c text ascii whole =
    let matches = places c (stripped text) in
    let are = AreMatches-places c (stripped text) ascii in
    strip-styled_parts (c ∷ []) text (pieces text) matches (ArePiecesOf-pieces text) whole.none_broken are
    ∙ split_at_one_byte c (stripped text) matches ascii are

-- what holds of the images
of_images : {A B : Type 0} (P : B → Type 0) (f : A → B) (xs : List A) → AllByRecursion P (map f xs) → AllByRecursion (λ x. P (f x)) xs
of_images P f [] all = tt
of_images P f (x ∷ xs) all = (all.0, of_images P f xs all.1)

both : {A : Type 0} (P Q : A → Type 0) (xs : List A) → AllByRecursion P xs → AllByRecursion Q xs → AllByRecursion (λ x. P x × Q x) xs
both P Q [] first second = tt
both P Q (x ∷ xs) first second = ((first.0, second.0), both P Q xs first.1 second.1)

lines-one : (text : List ℕ) → IsWholeText text → AllByRecursion HasOneLine (parts_by_character line_feed text)
lines-one text whole =
    of_images NoLineFeeds stripped (parts_by_character line_feed text)
    (subst (AllByRecursion NoLineFeeds) (sym (stripped-parts_by_character line_feed text (lit< tt) whole)) (slice_split-fails is_line_feed (stripped text)))

cells-one : (row : List ℕ) → IsWholeText row → HasOneLine row → AllByRecursion HasOneLine (parts_by_character tab row)
cells-one row whole one =
    of_images NoLineFeeds stripped (parts_by_character tab row)
    (subst (AllByRecursion NoLineFeeds) (sym (stripped-parts_by_character tab row (lit< tt) whole)) (slice_split-keeps (Fails is_line_feed) (λ b. b == tab) (stripped row) one))

rows-measured : (text : List ℕ) → IsWholeText text → AllByRecursion (AllByRecursion IsMeasuredLine) (line_rows text)
rows-measured text whole =
    let rows = row_parts text in
    let one = without_unshown_last-keeps HasOneLine (parts_by_character line_feed text) (lines-one text whole) in
    AllByRecursion-map_of (AllByRecursion (λ part. IsClosedPart part × HasOneLine part)) (AllByRecursion IsMeasuredLine) (map part_line)
    (λ cells each. AllByRecursion-map_of (λ part. IsClosedPart part × HasOneLine part) IsMeasuredLine part_line part-measured cells each)
    (cell_parts text)
    (AllByRecursion-map_of (λ row. IsClosedPart row × HasOneLine row) (AllByRecursion (λ part. IsClosedPart part × HasOneLine part)) (parts_by_character tab)
    (λ row known. both IsClosedPart HasOneLine (parts_by_character tab row) (closed-parts_by_character tab row (lit< tt) (whole-closed row known.0)) (cells-one row (whole-closed row known.0) known.1)) rows
    (both IsClosedPart HasOneLine rows (closed_rows text whole) one))

-- ---- the cells of the rows

of_split : {X : Type 0} (P : X → Type 0) (counts : List ℕ) (xs : List X) → sum counts ≡ length xs → AllByRecursion (AllByRecursion P) (split_by_lengths counts xs) → AllByRecursion P xs
of_split P [] xs whole all = subst (AllByRecursion P) (sym (nil_from_length xs (sym whole))) tt
of_split P (n ∷ ns) xs whole all =
    let total = sum_by-cons (λ k. k) n ns in
    let left : sum ns ≡ length (drop n xs) = omega (arith, total, length-drop n xs) in
    subst (AllByRecursion P) (take-append-drop n xs) (AllByRecursion-append P (take n xs) (drop n xs) all.0 (of_split P ns (drop n xs) left all.1))

pub cells-measured : (text : List ℕ) (rows : Rows) → IsWholeText text → sum (vec_items rows.counts) ≡ length (map line_of_cell rows.cells) → rows_shown rows ≡ line_rows text
    → All IsSingleLineCell rows.cells
cells-measured text rows whole counted are =
    All-from_recursion IsSingleLineCell rows.cells
    (of_images IsMeasuredLine line_of_cell rows.cells
    (of_split IsMeasuredLine (vec_items rows.counts) (map line_of_cell rows.cells) counted
    (subst (AllByRecursion (AllByRecursion IsMeasuredLine)) (sym are) (rows-measured text whole))))
