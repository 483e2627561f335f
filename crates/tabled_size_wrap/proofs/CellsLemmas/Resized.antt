-- A resized cell is the longest prefix, or the longest runs, of its characters; and nothing else is.
use Rattle.std.proofs.Common.{◌≡◌, ◌≤◌, ◌<◌, ◌++◌, ℕ, zero, suc, Bool, true, false, List, [], ◌∷◌, map, replicate, slice_range, nat_le, if◌then◌else◌, refl, ap, sym, subst, ◌∙◌, arith}
use Rattle.std.specs.List.{AllZip, flat_map, join_by}
use Rattle.std.proofs.lemmas.Bool.Decides.{nat_tests}
use Rattle.ansi_scan.specs.Pieces.{pieces}
use Rattle.ansi_scan.specs.Sequences.{Piece, ArePiecesOf}
use Rattle.ansi_scan.proofs.Uniqueness.{pieces-ArePiecesOf}
use Rattle.ansi_str.specs.StyledText.{styled}
use Rattle.grid_records_measure.specs.Cutting.{lacking, replacement}
use Rattle.grid_records_measure.specs.Filling.{behind_front}
use Rattle.grid_records_measure.specs.TextLines.{line_feed}
use Rattle.papergrid_picture.specs.Shown.{IsWholeText, character_of, in_plain}
use Rattle.tabled_size_wrap.specs.Runs.{runs_of}
use Rattle.tabled_size_wrap.specs.Showing.{unit_size}
use Rattle.tabled_size_wrap.specs.Units.{line_units}
use Rattle.tabled_size_wrap.specs.Wrapping.{lines_of_runs}
use Rattle.tabled_size_wrap.proofs.Fronts.{fitting_front-meets, fitting_front-one, kept-characters, kept_of, left-characters, left-one, left_of}
use Rattle.tabled_size_wrap.proofs.Longest.{runs-are, runs-one}
use Rattle.tabled_size_wrap.specs.Cells.Resized.{AreLinesOfLine, IsWrappedCell, IsCutCell, IsResizedCell}
use Rattle.tabled_size_wrap.specs.Cells.Resizing.{Wrap, Cut, Keep, Resize, wrapped_cell, wrapped_line, cell_width, cut, lines_in, resized, resized_text}
use Rattle.tabled_size_wrap.proofs.CellsLemmas.Bridges.{flat-map, resized-shows}
use Rattle.tabled_size_wrap.proofs.CellsLemmas.RunsShown.{runs-shown, runs-shown-one}

module _ {X : Type 0} (character : X → ℕ) (bare : ℕ → X) where
  -- ---- cut

  module _ (width : ℕ) (cell : List X) where
    -- the prefix and what is left after it, with the columns that are lacking
    abbrev with_marks : List X → List ℕ → List ℕ → List X
    with_marks kept characters behind = kept ++ map bare (replicate (lacking width characters behind) replacement)

    abbrev characters : List ℕ
    characters = map character cell

    cut-meets : IsCutCell character bare width cell (cut character bare width cell)
    cut-meets = record {
      kept = kept_of character width cell;
      left = left_of character width cell;
      front = fitting_front-meets character width cell;
      marked =
          ap (λ (xs : List ℕ). with_marks (kept_of character width cell) xs (behind_front width 0 characters)) (sym (kept-characters character width cell))
          ∙ ap (with_marks (kept_of character width cell) (map character (kept_of character width cell))) (sym (left-characters character width cell));
    }

    cut-one : (made : List X) → IsCutCell character bare width cell made → made ≡ cut character bare width cell
    unfolding cut-meets
    cut-one made is =
        let kept : is.kept ≡ kept_of character width cell = fitting_front-one character width cell is.kept is.left is.front in
        let left : is.left ≡ left_of character width cell = left-one character width cell is.kept is.left is.front in
        is.marked
        ∙ ap (λ (xs : List X). with_marks xs (map character xs) (map character is.left)) kept
        ∙ ap (λ (xs : List X). with_marks (kept_of character width cell) (map character (kept_of character width cell)) (map character xs)) left
        ∙ sym cut-meets.marked

  -- ---- wrapped

  module _ (width : ℕ) (keep_words : Bool) (some : 0 < width) where
    lines-meet : (lines : List (List X)) → AllZip (AreLinesOfLine character bare width keep_words) lines (map (wrapped_line character bare width keep_words) lines)
    lines-meet [] = tt
    lines-meet (line ∷ lines) =
        let units = line_units width keep_words (map character line) in
        ((runs_of width units, runs-are width some units, runs-shown (bare replacement ∷ []) width line 0 (runs_of width units)), lines-meet lines)

    lines-one : (lines : List (List X)) (shown : List (List (List X))) → AllZip (AreLinesOfLine character bare width keep_words) lines shown
        → shown ≡ map (wrapped_line character bare width keep_words) lines
    lines-one [] [] all = refl
    lines-one [] (xs ∷ shown) all = absurd all
    lines-one (line ∷ lines) [] all = absurd all
    lines-one (line ∷ lines) (xs ∷ shown) all =
        let here = all.0 in
        let units = line_units width keep_words (map character line) in
        let same : here.0 ≡ runs_of width units = runs-one width units here.0 (runs_of width units) here.1 (runs-are width some units) in
        let first : xs ≡ wrapped_line character bare width keep_words line =
        runs-shown-one (bare replacement ∷ []) width line 0 here.0 xs here.2 ∙ ap (lines_of_runs unit_size (slice_range line) (bare replacement ∷ []) width 0) same in
        ap (λ (found : List (List X)). found ∷ shown) first
        ∙ ap (λ (rest : List (List (List X))). wrapped_line character bare width keep_words line ∷ rest) (lines-one lines shown all.1)

  abbrev joined_lines : List (List X) → List X
  joined_lines lines = join_by (λ line. line) (bare line_feed ∷ []) lines

  wrapped_cell-meets : (n : ℕ) (keep_words : Bool) (cell : List X) → IsWrappedCell character bare (suc n) keep_words cell (wrapped_cell character bare (suc n) keep_words cell)
  wrapped_cell-meets n keep_words cell =
      let lines = lines_in character bare cell in
      let some : 0 < suc n = omega arith in
      record {
        lines = map (wrapped_line character bare (suc n) keep_words) lines;
        wrapped = lines-meet (suc n) keep_words some lines;
        joined = ap joined_lines (sym (flat-map (wrapped_line character bare (suc n) keep_words) lines));
      }

  wrapped_cell-one : (n : ℕ) (keep_words : Bool) (cell made : List X) → IsWrappedCell character bare (suc n) keep_words cell made → made ≡ wrapped_cell character bare (suc n) keep_words cell
  wrapped_cell-one n keep_words cell made is =
      let lines = lines_in character bare cell in
      let some : 0 < suc n = omega arith in
      is.joined
      ∙ ap joined_lines (ap (flat_map (λ (others : List (List X)). others)) (lines-one (suc n) keep_words some lines is.lines is.wrapped) ∙ flat-map (wrapped_line character bare (suc n) keep_words) lines)

  -- ---- resized

  abbrev either : Bool → ℕ → List X → List X
  either fits width cell = if fits then cell else cut character bare width cell

  pub resized-meets : (resize : Resize) (cell : List X) → IsResizedCell character bare resize cell (resized character bare resize cell)
  resized-meets Keep cell = refl
  resized-meets (Wrap zero keep_words) cell = refl
  resized-meets (Wrap (suc n) keep_words) cell = wrapped_cell-meets n keep_words cell
  resized-meets (Cut width) cell =
      let taken = cell_width character bare cell in (
        (λ less. let fits : nat_le taken width ≡ true = grind (arith, nat_tests, less) in ap (λ b. either b width cell) fits),
        (λ more. let fits : nat_le taken width ≡ false = grind (arith, nat_tests, more) in
            subst (IsCutCell character bare width cell) (sym (ap (λ b. either b width cell) fits)) (cut-meets width cell)),
      )

  pub resized-one : (resize : Resize) (cell made : List X) → IsResizedCell character bare resize cell made → made ≡ resized character bare resize cell
  resized-one Keep cell made is = is
  resized-one (Wrap zero keep_words) cell made is = is
  resized-one (Wrap (suc n) keep_words) cell made is = wrapped_cell-one n keep_words cell made is
  resized-one (Cut width) cell made is = step (nat_le (cell_width character bare cell) width) refl where
    step : (b : Bool) → nat_le (cell_width character bare cell) width ≡ b → made ≡ either b width cell
    step true fits = let less : cell_width character bare cell ≤ width = grind (arith, nat_tests, fits) in is.0 less
    step false fits = let more : width < cell_width character bare cell = grind (arith, nat_tests, fits) in cut-one width cell made (is.1 more)

-- ---- texts

pub texts-resized : (resize : Resize) (text : List ℕ) (ps qs : List Piece) → IsWholeText text → ArePiecesOf text ps → ArePiecesOf (resized_text resize text) qs
    → IsResizedCell character_of in_plain resize (styled ps) (styled qs)
texts-resized resize text ps qs whole of_text of_made =
    let first : pieces text ≡ ps = pieces-ArePiecesOf text ps of_text in
    let second : pieces (resized_text resize text) ≡ qs = pieces-ArePiecesOf (resized_text resize text) qs of_made in
    let shown : styled qs ≡ resized character_of in_plain resize (styled ps) =
    sym (ap styled second) ∙ (resized-shows resize text whole).shown ∙ ap (λ (found : List Piece). resized character_of in_plain resize (styled found)) first in
    subst (IsResizedCell character_of in_plain resize (styled ps)) (sym shown) (resized-meets character_of in_plain resize (styled ps))
