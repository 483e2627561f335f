-- What is wrapped or cut of a text of a class that has U+FFFD is such a text.
use Rattle.std.proofs.Common.{◌&&◌, ◌≡◌, ◌+◌, ◌-◌, ◌||◌, nat_le, ℕ, zero, suc, Bool, true, false, List, [], ◌∷◌, ◌++◌, flat_map, length, map, take, drop, replicate, slice_range, if◌then◌else◌, refl, ap, sym, subst, ◌∙◌}
use Rattle.std.proofs.lemmas.Bool.{and_parts}
use Rattle.std.specs.List.{AllByRecursion, join_by, list_all, repeat, sum_by}
use Rattle.ansi_str.specs.Characters.{shown_chars}
use Rattle.ansi_str_search.proofs.Chars.{hold_both}
use Rattle.grid_records_measure.specs.Cutting.{lacking, replacement}
use Rattle.grid_records_measure.specs.Filling.{behind_front, fitting_front}
use Rattle.grid_records_measure.specs.TextLines.{is_line_feed, line_feed}
use Rattle.papergrid_picture.specs.Shown.{IsWholeText, Styled, character_of, in_plain}
use Rattle.papergrid_picture.proofs.Shown.{All-drop, All-take, characters-styled, styled_of}
use Rattle.tabled_size_wrap.specs.Cells.Resizing.{Wrap, Cut, Keep, Resize, cell_width, cut, lines_in, resized, resized_text, wrapped_line}
use Rattle.tabled_size_wrap.proofs.CellsLemmas.Bridges.{cut-shows_whole, resized-shows}
use Rattle.tabled_size_wrap.proofs.CellsLemmas.Characters.{resized-natural, same}
use Rattle.tabled_size_wrap.specs.Bytes.{cut_at}
use Rattle.tabled_size_wrap.specs.FittingRuns.{run_cost}
use Rattle.tabled_size_wrap.specs.Runs.{runs_of}
use Rattle.tabled_size_wrap.specs.Showing.{unit_size}
use Rattle.tabled_size_wrap.specs.Units.{LineUnit, line_units}
use Rattle.tabled_size_wrap.specs.Wrapping.{from_wide, lines_of_runs, before_wide, shown_run}
use Rattle.tables_laws.specs.Grids.TextsOf.{IsTextOf}
use Rattle.tables_laws.proofs.GridsLemmas.Lists.{all-from, all-test, or-feed, split-of}

module _ (p : ℕ → Bool) (mark : p replacement ≡ true) where
  abbrev IsOf : ℕ → Type 0
  IsOf c = p c ≡ true

  abbrev IsOfOrFeed : ℕ → Type 0
  IsOfOrFeed c = (p c || is_line_feed c) ≡ true

  abbrev AreOf : List ℕ → Type 0
  AreOf cs = AllByRecursion IsOf cs

  abbrev AreShown : List ℕ → Type 0
  AreShown cs = AllByRecursion IsOfOrFeed cs

  all-shown : (cs : List ℕ) → AreOf cs → AreShown cs
  all-shown [] all = tt
  all-shown (c ∷ cs) all = (or-feed p c all.0, all-shown cs all.1)

  or-is_feed : (c : ℕ) → is_line_feed c ≡ true → IsOfOrFeed c
  or-is_feed c feed = by (p c)
    where
      by : (b : Bool) → (b || is_line_feed c) ≡ true
      by true = refl
      by false = feed

  -- ---- lines that are joined

  abbrev joined : List (List ℕ) → List ℕ
  joined lines = join_by (λ line. line) (line_feed ∷ []) lines

  behind-shown : (lines : List (List ℕ)) → AllByRecursion AreOf lines → AreShown (flat_map (λ line. (line_feed ∷ []) ++ line) lines)
  behind-shown [] all = tt
  behind-shown (line ∷ lines) all =
      (or-is_feed line_feed refl, hold_both IsOfOrFeed line (flat_map (λ line. (line_feed ∷ []) ++ line) lines) (all-shown line all.0) (behind-shown lines all.1))

  joined-shown : (lines : List (List ℕ)) → AllByRecursion AreOf lines → AreShown (joined lines)
  joined-shown [] all = tt
  joined-shown (line ∷ lines) all = hold_both IsOfOrFeed line (flat_map (λ line. (line_feed ∷ []) ++ line) lines) (all-shown line all.0) (behind-shown lines all.1)

  -- ---- a line that is wrapped

  marks-of : (n : ℕ) → AreOf (repeat n (replacement ∷ []))
  marks-of zero = tt
  marks-of (suc n) = (mark, marks-of n)

  module _ (cs : List ℕ) (all : AreOf cs) where
    slice-of : (a b : ℕ) → AreOf (slice_range cs a b)
    slice-of a b = All-take IsOf (b - a) (drop a cs) (All-drop IsOf a cs all)

    module _ (width : ℕ) where
      run-of : (place : ℕ) (before behind : List LineUnit) → AreOf (shown_run unit_size (slice_range cs) (replacement ∷ []) width place before behind)
      run-of place before [] = slice-of place (place + sum_by unit_size before)
      run-of place before (wide ∷ behind) =
          let from = place + sum_by unit_size before in
          let to = from + unit_size wide in
          let end = to + sum_by unit_size behind in
          let marks = repeat (width - run_cost before) (replacement ∷ []) in
          hold_both IsOf (slice_range cs place from) (marks ++ slice_range cs to end) (slice-of place from) (hold_both IsOf marks (slice_range cs to end) (marks-of (width - run_cost before)) (slice-of to end))

      lines-of : (place : ℕ) (runs : List (List LineUnit)) → AllByRecursion AreOf (lines_of_runs unit_size (slice_range cs) (replacement ∷ []) width place runs)
      lines-of place [] = tt
      lines-of place (run ∷ runs) = (run-of place (before_wide width run) (from_wide width run), lines-of (place + sum_by unit_size run) runs)

      line-of : (keep_words : Bool) → AllByRecursion AreOf (wrapped_line same same width keep_words cs)
      line-of keep_words = lines-of 0 (runs_of width (line_units width keep_words (map same cs)))

  all-lines : (width : ℕ) (keep_words : Bool) (lines : List (List ℕ)) → AllByRecursion AreOf lines → AllByRecursion AreOf (flat_map (wrapped_line same same width keep_words) lines)
  all-lines width keep_words [] all = tt
  all-lines width keep_words (line ∷ lines) all =
      hold_both AreOf (wrapped_line same same width keep_words line) (flat_map (wrapped_line same same width keep_words) lines) (line-of line all.0 width keep_words) (all-lines width keep_words lines all.1)

  -- ---- a resized cell

  replicated-of : (n : ℕ) → AreShown (map same (replicate n replacement))
  replicated-of zero = tt
  replicated-of (suc n) = (or-feed p replacement mark, replicated-of n)

  cut-of : (width : ℕ) (cs : List ℕ) → AreShown cs → AreShown (cut same same width cs)
  cut-of width cs all =
      let characters = map same cs in
      let kept = fitting_front width 0 characters in
      hold_both IsOfOrFeed (take (length kept) cs) (map same (replicate (lacking width kept (behind_front width 0 characters)) replacement))
      (All-take IsOfOrFeed (length kept) cs all) (replicated-of (lacking width kept (behind_front width 0 characters)))

  pub resized-of : (resize : Resize) (cs : List ℕ) → AreShown cs → AreShown (resized same same resize cs)
  resized-of Keep cs all = all
  resized-of (Wrap zero keep_words) cs all = tt
  resized-of (Wrap (suc n) keep_words) cs all =
      joined-shown (flat_map (wrapped_line same same (suc n) keep_words) (lines_in same same cs)) (all-lines (suc n) keep_words (lines_in same same cs) (split-of p cs all))
  resized-of (Cut width) cs all = by (nat_le (cell_width same same cs) width)
    where
      by : (b : Bool) → AreShown (if b then cs else cut same same width cs)
      by true = all
      by false = cut-of width cs all

  -- ---- a resized text

  module _ (resize : Resize) (text : List ℕ) (is : IsTextOf p text) where
    abbrev out : List ℕ
    out = resized_text resize text

    out-whole : IsWholeText out
    out-whole = (resized-shows resize text is.whole).whole

    shown-is : shown_chars out ≡ resized same same resize (shown_chars text)
    shown-is =
        sym (characters-styled out out-whole.utf8)
        ∙ ap (map character_of) (resized-shows resize text is.whole).shown ∙ resized-natural character_of same in_plain resize (styled_of text)
        ∙ ap (resized same same resize) (characters-styled text is.whole.utf8)

    pub resized-text : IsTextOf p out
    resized-text = record {
      whole = out-whole;
      shown =
          all-test (λ c. p c || is_line_feed c) (shown_chars out)
          (subst AreShown (sym shown-is) (resized-of resize (shown_chars text) (all-from (λ c. p c || is_line_feed c) (shown_chars text) is.shown)));
    }

  -- ---- a cut text

  styled-marks : (n : ℕ) → AllByRecursion (λ (x : Styled). IsOfOrFeed x.0) (map in_plain (replicate n replacement))
  styled-marks zero = tt
  styled-marks (suc n) = (or-feed p replacement mark, styled-marks n)

  letters-of : (xs : List Styled) → AllByRecursion (λ (x : Styled). IsOfOrFeed x.0) xs → list_all (λ c. p c || is_line_feed c) (map character_of xs) ≡ true
  letters-of [] all = refl
  letters-of (x ∷ xs) all = ap (λ b. b && list_all (λ c. p c || is_line_feed c) (map character_of xs)) all.0 ∙ letters-of xs all.1

  styled-of : (xs : List Styled) → list_all (λ c. p c || is_line_feed c) (map character_of xs) ≡ true → AllByRecursion (λ (x : Styled). IsOfOrFeed x.0) xs
  styled-of [] all = tt
  styled-of (x ∷ xs) all = let parts = and_parts (p x.0 || is_line_feed x.0) (list_all (λ c. p c || is_line_feed c) (map character_of xs)) all in (parts.0, styled-of xs parts.1)

  pub cut-text : (width : ℕ) (text : List ℕ) → IsTextOf p text → IsTextOf p (cut_at width text)
  cut-text width text is =
      let xs = styled_of text in
      let characters = map character_of xs in
      let kept = fitting_front width 0 characters in
      let marks = map in_plain (replicate (lacking width kept (behind_front width 0 characters)) replacement) in
      let shows = cut-shows_whole text is.whole width in
      let all = styled-of xs (ap (list_all (λ c. p c || is_line_feed c)) (characters-styled text is.whole.utf8) ∙ is.shown) in
      let kept_all = All-take (λ (x : Styled). IsOfOrFeed x.0) (length kept) xs all in
      record {
        whole = shows.whole;
        shown =
            ap (list_all (λ c. p c || is_line_feed c)) (sym (characters-styled (cut_at width text) shows.whole.utf8) ∙ ap (map character_of) shows.shown)
            ∙ letters-of (take (length kept) xs ++ marks)
            (hold_both (λ (x : Styled). IsOfOrFeed x.0) (take (length kept) xs) marks kept_all (styled-marks (lacking width kept (behind_front width 0 characters))));
      }
