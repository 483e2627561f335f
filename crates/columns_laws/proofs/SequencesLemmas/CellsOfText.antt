-- Each cell of a text is a closed line.
use Rattle.std.proofs.Common.{◌≡◌, ◌==◌, ◌||◌, ◌<◌, ℕ, false, List, [], ◌∷◌, map, refl, ap, sym, subst, ◌∙◌, lit<}
use Rattle.std.specs.List.{AllByRecursion, list_any, slice_split}
use Rattle.ansi_scan.specs.Pieces.{pieces}
use Rattle.ansi_scan.proofs.Existence.{ArePiecesOf-pieces}
use Rattle.ansi_str_search.proofs.AllParts.{strip-styled_parts}
use Rattle.ansi_str_search.proofs.StdSplits.{split_at_one_byte}
use Rattle.grid_records_measure.specs.TextLines.{is_line_feed, line_feed}
use Rattle.columns_run.specs.Rows.{cell_parts, parts_by_character, places, row_parts, stripped, tab}
use Rattle.columns_run.proofs.Cells.{Fails, closed_rows, slice_split-fails, slice_split-keeps, without_unshown_last-keeps}
use Rattle.columns_run.proofs.Items.{AllByRecursion-map_of}
use Rattle.columns_run.proofs.Places.{AreMatches-places}
use Rattle.columns_run.proofs.Splits.{IsClosedPart, IsWholeText, closed-parts_by_character, whole-closed}
use Rattle.columns_laws.proofs.SequencesLemmas.CellSequences.{IsOneLine}

abbrev NoLineFeeds : List ℕ → Type 0
NoLineFeeds bytes = AllByRecursion (Fails is_line_feed) bytes

abbrev HasOneLine : List ℕ → Type 0
HasOneLine part = NoLineFeeds (stripped part)

no_feed : (bytes : List ℕ) → NoLineFeeds bytes → list_any (λ byte. byte == 0x0a) bytes ≡ false
no_feed [] none = refl
no_feed (b ∷ bs) none = ap (λ t. t || list_any (λ byte. byte == 0x0a) bs) none.0 ∙ no_feed bs none.1

stripped-parts : (c : ℕ) (text : List ℕ) → c < 128 → IsWholeText text → map stripped (parts_by_character c text) ≡ slice_split (λ b. b == c) (stripped text)
stripped-parts c text ascii whole =
    let matches = places c (stripped text) in
    let are = AreMatches-places c (stripped text) ascii in
    strip-styled_parts (c ∷ []) text (pieces text) matches (ArePiecesOf-pieces text) whole.none_broken are ∙ split_at_one_byte c (stripped text) matches ascii are

of_images : {A B : Type 0} (P : B → Type 0) (f : A → B) (xs : List A) → AllByRecursion P (map f xs) → AllByRecursion (λ x. P (f x)) xs
of_images P f [] all = tt
of_images P f (x ∷ xs) all = (all.0, of_images P f xs all.1)

both : {A : Type 0} (P Q : A → Type 0) (xs : List A) → AllByRecursion P xs → AllByRecursion Q xs → AllByRecursion (λ x. P x × Q x) xs
both P Q [] first second = tt
both P Q (x ∷ xs) first second = ((first.0, second.0), both P Q xs first.1 second.1)

cells-one : (row : List ℕ) → IsWholeText row → HasOneLine row → AllByRecursion HasOneLine (parts_by_character tab row)
cells-one row whole one =
    of_images NoLineFeeds stripped (parts_by_character tab row)
    (subst (AllByRecursion NoLineFeeds) (sym (stripped-parts tab row (lit< tt) whole)) (slice_split-keeps (Fails is_line_feed) (λ b. b == tab) (stripped row) one))

module _ (text : List ℕ) (whole : IsWholeText text) where
  lines-one : AllByRecursion HasOneLine (parts_by_character line_feed text)
  lines-one =
      of_images NoLineFeeds stripped (parts_by_character line_feed text)
      (subst (AllByRecursion NoLineFeeds) (sym (stripped-parts line_feed text (lit< tt) whole)) (slice_split-fails is_line_feed (stripped text)))

  part-one : (part : List ℕ) → IsClosedPart part × HasOneLine part → IsOneLine part
  part-one part is = record {
    utf8 = is.0.utf8;
    line = record { pieces = pieces part; of_line = ArePiecesOf-pieces part; closed = is.0.closed; one_line = no_feed (stripped part) is.1 };
  }

  row-one : (row : List ℕ) → IsClosedPart row × HasOneLine row → AllByRecursion IsOneLine (parts_by_character tab row)
  row-one row is =
      let cells = both IsClosedPart HasOneLine (parts_by_character tab row) (closed-parts_by_character tab row (lit< tt) (whole-closed row is.0)) (cells-one row (whole-closed row is.0) is.1) in
      each (parts_by_character tab row) cells
    where
      each : (parts : List (List ℕ)) → AllByRecursion (λ part. IsClosedPart part × HasOneLine part) parts → AllByRecursion IsOneLine parts
      each [] all = tt
      each (part ∷ parts) all = (part-one part all.0, each parts all.1)

  pub cells-are_lines : AllByRecursion (AllByRecursion IsOneLine) (cell_parts text)
  cells-are_lines =
      AllByRecursion-map_of (λ row. IsClosedPart row × HasOneLine row) (AllByRecursion IsOneLine) (parts_by_character tab) row-one (row_parts text)
      (both IsClosedPart HasOneLine (row_parts text) (closed_rows text whole) (without_unshown_last-keeps HasOneLine (parts_by_character line_feed text) lines-one))
