-- One resized cell in different items: in those that are made of others, each for the same character.
use Rattle.std.proofs.Common.{◌≡◌, ◌-◌, ◌+◌, ℕ, zero, suc, Bool, true, false, List, [], ◌∷◌, ◌++◌, map, length, take, drop, replicate, slice_range, nat_le, refl, ap, sym, ◌∙◌, if◌then◌else◌}
use Rattle.std.specs.List.{flat_map, join_by, repeat, sum_by}
use Rattle.std.proofs.lemmas.List.{map-append}
use Rattle.std.proofs.lemmas.Simd.{map-map}
use Rattle.grid_records_estimate.specs.Estimates.{greatest}
use Rattle.grid_records_measure.specs.Cutting.{lacking, replacement}
use Rattle.grid_records_measure.specs.Filling.{behind_front, fitting_front}
use Rattle.grid_records_measure.specs.Measures.{measure}
use Rattle.grid_records_measure.specs.TextLines.{is_line_feed, line_feed}
use Rattle.papergrid_picture.proofs.Items.{slice_split-map}
use Rattle.papergrid_picture.proofs.Shown.{drop-map, take-map}
use Rattle.tabled_size_wrap.specs.FittingRuns.{run_cost}
use Rattle.tabled_size_wrap.specs.Runs.{runs_of}
use Rattle.tabled_size_wrap.specs.Showing.{unit_size}
use Rattle.tabled_size_wrap.specs.Units.{LineUnit, line_units}
use Rattle.tabled_size_wrap.specs.Wrapping.{from_wide, lines_of_runs, before_wide, shown_run}
use Rattle.tabled_size_wrap.specs.Cells.Resizing.{Wrap, Cut, Keep, Resize, wrapped_cell, wrapped_line, cell_width, cut, lines_in, resized}

-- ---- items that are made of others, each for the same character

module _ {X Y : Type 0} (f : X → Y) (character : Y → ℕ) (bare : ℕ → X) where
  abbrev pub character_in : X → ℕ
  character_in x = character (f x)

  abbrev pub bare_in : ℕ → Y
  bare_in n = f (bare n)

  -- ---- a cell

  lines-natural : (cell : List X) → lines_in character bare_in (map f cell) ≡ map (map f) (lines_in character_in bare cell)
  lines-natural cell = slice_split-map f (λ y. is_line_feed (character y)) cell

  width-natural : (cell : List X) → cell_width character bare_in (map f cell) ≡ cell_width character_in bare cell
  width-natural cell =
      let lines = lines_in character_in bare cell in
      ap (λ (found : List (List Y)). greatest (map (λ line. measure (map character line)) found)) (lines-natural cell)
      ∙ ap greatest (map-map (λ (line : List Y). measure (map character line)) (map f) lines ∙ (λ k. map (λ line. measure (map-map character f line k)) lines))

  repeat-natural : (n : ℕ) (xs : List X) → map f (repeat n xs) ≡ repeat n (map f xs)
  repeat-natural zero xs = refl
  repeat-natural (suc n) xs = map-append f xs (repeat n xs) ∙ ap (λ rest. map f xs ++ rest) (repeat-natural n xs)

  slice-natural : (line : List X) (a b : ℕ) → map f (slice_range line a b) ≡ slice_range (map f line) a b
  slice-natural line a b = sym (take-map f (b - a) (drop a line)) ∙ ap (take (b - a)) (sym (drop-map f a line))

  module _ (len : LineUnit → ℕ) (part : ℕ → ℕ → List X) (others : ℕ → ℕ → List Y) (same : (a b : ℕ) → map f (part a b) ≡ others a b) (mark : List X) (width : ℕ) where
    run-natural : (place : ℕ) (run behind : List LineUnit) → map f (shown_run len part mark width place run behind) ≡ shown_run len others (map f mark) width place run behind
    run-natural place run [] = same place (place + sum_by len run)
    run-natural place run (wide ∷ behind) =
        let from = place + sum_by len run in
        let to = from + len wide in
        let end = to + sum_by len behind in
        let marks = repeat (width - run_cost run) mark in
        map-append f (part place from) (marks ++ part to end)
        ∙ ap (λ items. items ++ map f (marks ++ part to end)) (same place from)
        ∙ ap (λ items. others place from ++ items)
        (map-append f marks (part to end) ∙ ap (λ items. items ++ map f (part to end)) (repeat-natural (width - run_cost run) mark) ∙ ap (λ items. repeat (width - run_cost run) (map f mark) ++ items) (same to end))

    shown-natural : (place : ℕ) (runs : List (List LineUnit)) → map (map f) (lines_of_runs len part mark width place runs) ≡ lines_of_runs len others (map f mark) width place runs
    shown-natural place [] = refl
    shown-natural place (run ∷ runs) =
        ap (λ first. first ∷ map (map f) (lines_of_runs len part mark width (place + sum_by len run) runs)) (run-natural place (before_wide width run) (from_wide width run))
        ∙ ap (λ rest. shown_run len others (map f mark) width place (before_wide width run) (from_wide width run) ∷ rest) (shown-natural (place + sum_by len run) runs)

  line-natural : (width : ℕ) (keep_words : Bool) (line : List X) → map (map f) (wrapped_line character_in bare width keep_words line) ≡ wrapped_line character bare_in width keep_words (map f line)
  line-natural width keep_words line =
      shown-natural unit_size (slice_range line) (slice_range (map f line)) (slice-natural line) (bare replacement ∷ []) width 0 (runs_of width (line_units width keep_words (map character_in line)))
      ∙ ap (λ (cs : List ℕ). lines_of_runs unit_size (slice_range (map f line)) (bare_in replacement ∷ []) width 0 (runs_of width (line_units width keep_words cs))) (sym (map-map character f line))

  flat-natural : (g : List X → List (List X)) (h : List Y → List (List Y)) → ((x : List X) → map (map f) (g x) ≡ h (map f x)) → (xs : List (List X)) → map (map f) (flat_map g xs) ≡ flat_map h (map (map f) xs)
  flat-natural g h same [] = refl
  flat-natural g h same (x ∷ xs) =
      map-append (map f) (g x) (flat_map g xs) ∙ ap (λ first. first ++ map (map f) (flat_map g xs)) (same x) ∙ ap (λ rest. h (map f x) ++ rest) (flat-natural g h same xs)

  behind-natural : (sep : List X) (lines : List (List X)) → map f (flat_map (λ line. sep ++ line) lines) ≡ flat_map (λ line. map f sep ++ line) (map (map f) lines)
  behind-natural sep [] = refl
  behind-natural sep (line ∷ lines) =
      map-append f (sep ++ line) (flat_map (λ line. sep ++ line) lines)
      ∙ ap (λ first. first ++ map f (flat_map (λ line. sep ++ line) lines)) (map-append f sep line)
      ∙ ap (λ rest. (map f sep ++ map f line) ++ rest) (behind-natural sep lines)

  join-natural : (sep : List X) (lines : List (List X)) → map f (join_by (λ line. line) sep lines) ≡ join_by (λ line. line) (map f sep) (map (map f) lines)
  join-natural sep [] = refl
  join-natural sep (line ∷ lines) = map-append f line (flat_map (λ line. sep ++ line) lines) ∙ ap (λ rest. map f line ++ rest) (behind-natural sep lines)

  wrapped_cell-natural : (width : ℕ) (keep_words : Bool) (cell : List X) → map f (wrapped_cell character_in bare width keep_words cell) ≡ wrapped_cell character bare_in width keep_words (map f cell)
  wrapped_cell-natural zero keep_words cell = refl
  wrapped_cell-natural (suc n) keep_words cell =
      let lines = lines_in character_in bare cell in
      join-natural (bare line_feed ∷ []) (flat_map (wrapped_line character_in bare (suc n) keep_words) lines)
      ∙ ap (join_by (λ line. line) (bare_in line_feed ∷ []))
      (flat-natural (wrapped_line character_in bare (suc n) keep_words) (wrapped_line character bare_in (suc n) keep_words) (line-natural (suc n) keep_words) lines
      ∙ ap (flat_map (wrapped_line character bare_in (suc n) keep_words)) (sym (lines-natural cell)))

  cut-natural : (width : ℕ) (cell : List X) → map f (cut character_in bare width cell) ≡ cut character bare_in width (map f cell)
  cut-natural width cell =
      let cs = map character_in cell in
      let kept = fitting_front width 0 cs in
      let marks = replicate (lacking width kept (behind_front width 0 cs)) replacement in
      let cut_by : List ℕ → List Y = λ found. take (length (fitting_front width 0 found)) (map f cell) ++ map bare_in (replicate (lacking width (fitting_front width 0 found) (behind_front width 0 found)) replacement) in
      map-append f (take (length kept) cell) (map bare marks)
      ∙ ap (λ first. first ++ map f (map bare marks)) (sym (take-map f (length kept) cell))
      ∙ ap (λ rest. take (length kept) (map f cell) ++ rest) (map-map f bare marks)
      ∙ ap cut_by (sym (map-map character f cell))

  pub resized-natural : (resize : Resize) (cell : List X) → map f (resized character_in bare resize cell) ≡ resized character bare_in resize (map f cell)
  resized-natural Keep cell = refl
  resized-natural (Wrap width keep_words) cell = wrapped_cell-natural width keep_words cell
  resized-natural (Cut width) cell =
      let test : (b : Bool) → map f (if b then cell else cut character_in bare width cell) ≡ (if b then map f cell else cut character bare_in width (map f cell)) =
      λ b. elim b as (λ b. map f (if b then cell else cut character_in bare width cell) ≡ (if b then map f cell else cut character bare_in width (map f cell))) [
        | true ↦ refl
        | false ↦ cut-natural width cell
      ] in
      test (nat_le (cell_width character_in bare cell) width)
      ∙ ap (λ (n : ℕ). if nat_le n width then map f cell else cut character bare_in width (map f cell)) (sym (width-natural cell))

-- ---- characters without their styles

abbrev pub same : ℕ → ℕ
same c = c
