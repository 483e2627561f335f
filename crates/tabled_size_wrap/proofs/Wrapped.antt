-- What a whole text shows that is wrapped.
use Rattle.std.proofs.Common.{◌≡◌, ◌≤◌, ◌<◌, ◌||◌, ℕ, zero, suc, Bool, true, false, All, List, [], ◌∷◌, ◌++◌, length, map, flat_map, slice_range, refl, ap, sym, subst, ◌∙◌, arith, length-append}
use Rattle.std.specs.Prelude.{chars}
use Rattle.std.specs.List.{AllByRecursion, AllZip, join_with_byte, list_all, slice_split}
use Rattle.std.specs.Str.{IsUtf8}
use Rattle.std.proofs.lemmas.Bool.{and_parts}
use Rattle.std.proofs.lemmas.List.Elements.{All-from_recursion, recursion_from_All}
use Rattle.std.proofs.lemmas.List.Splits.{length-slice_split}
use Rattle.ansi_scan.specs.Sequences.{Piece, ArePiecesOf, NoneBroken}
use Rattle.ansi_scan.specs.Pieces.{pieces}
use Rattle.ansi_scan.proofs.Existence.{ArePiecesOf-pieces}
use Rattle.ansi_scan.proofs.Uniqueness.{ArePiecesOf-unique}
use Rattle.ansi_str.specs.StyledText.{strip, styled}
use Rattle.ansi_str.specs.Lines.{IsClosedLine}
use Rattle.ansi_str_search.proofs.TextLemmas.Utf8Pieces.{styled-characters}
use Rattle.ansi_str_search.proofs.Cuts.{shown-parts}
use Rattle.ansi_str_search.proofs.Finds.{IsUtf8-byte}
use Rattle.ansi_str_search.proofs.Utf8.{All-utf8}
use Rattle.grid_records_measure.specs.Cutting.{replacement}
use Rattle.grid_records_measure.specs.Measures.{measure, own_width}
use Rattle.grid_records_measure.specs.PlainCharacters.{is_plain_character}
use Rattle.grid_records_measure.specs.TextLines.{AreLinesOf, is_line_feed, line_feed, line_measure, widest}
use Rattle.grid_records_measure.proofs.LinesAndBlocks.{length-lines, lines-closed, lines-joined, lines-shown, lines-there}
use Rattle.tabled_size_wrap.specs.Units.{LineUnit, line_units, unit_len}
use Rattle.tabled_size_wrap.specs.FittingRuns.{AreRunsOf}
use Rattle.tabled_size_wrap.specs.Wrapping.{AreWrappedLines, IsWrapped, line_part, lines_of_runs, replacement_bytes}
use Rattle.tabled_size_wrap.specs.Showing.{Styled, in_plain, characters_of, unit_size, ends_line, joined_lines, AddsLineFeeds, AreShownLines, ShowsWrapped}
use Rattle.tabled_size_wrap.proofs.Shows.{feeds, Shows, Shows-pieces, ShowsLine, ShowsLine-closed, joined-shows}
use Rattle.tabled_size_wrap.proofs.Parts.{wrapped_line-shows}
use Rattle.tabled_size_wrap.proofs.Added.{FitsCharacter, Fits, of-characters, without-added-all, all-lines-fit}

-- ---- there is a line

runs-some : (width : ℕ) (units : List LineUnit) (runs : List (List LineUnit)) → AreRunsOf width units runs → 0 < length runs
runs-some width [] runs are = omega (arith, ap length are)
runs-some width (u ∷ us) [] are = let long = ap length are in absurd (omega (arith, long))
runs-some width (u ∷ us) (run ∷ runs) are = omega arith

shown-some : {X : Type 0} (len : LineUnit → ℕ) (part : ℕ → ℕ → List X) (mark : List X) (width place : ℕ) (runs : List (List LineUnit)) → 0 < length runs → 0 < length (lines_of_runs len part mark width place runs)
shown-some len part mark width place [] some = absurd (omega (arith, some))
shown-some len part mark width place (run ∷ runs) some = omega arith

-- ---- line by line

module _ (width : ℕ) (keep_words : Bool) where
  abbrev wrapped_into : List ℕ → List (List ℕ) → Type 0
  wrapped_into line others = AreWrappedLines width keep_words (pieces line) others

  record LinesShow (lines : List (List ℕ)) (of_each : List (List (List ℕ))) : Type 0 where
    pub shown : List (List (List Styled))
    pub each : AllZip ShowsLine (flat_map (λ others. others) of_each) (flat_map (λ others. others) shown)
    pub are : AllZip (AreShownLines width keep_words) (map (λ line. styled (pieces line)) lines) shown

  both-show : (ls ms : List (List ℕ)) (xs ys : List (List Styled)) → AllZip ShowsLine ls xs → AllZip ShowsLine ms ys → AllZip ShowsLine (ls ++ ms) (xs ++ ys)
  both-show [] ms [] ys first second = second
  both-show [] ms (x ∷ xs) ys first second = absurd first
  both-show (l ∷ ls) ms [] ys first second = absurd first
  both-show (l ∷ ls) ms (x ∷ xs) ys first second = (first.0, both-show ls ms xs ys first.1 second)

  line-shows : (line : List ℕ) (others : List (List ℕ)) → IsUtf8 line → IsClosedLine line → wrapped_into line others
      → (shown : List (List Styled)) × AllZip ShowsLine others shown × AreShownLines width keep_words (styled (pieces line)) shown
  line-shows line others utf8 closed of_each =
      let of_line = ArePiecesOf-pieces line in
      let same = ArePiecesOf-unique line closed.pieces (pieces line) closed.of_line of_line in
      let whole : NoneBroken (pieces line) = subst NoneBroken same closed.closed.none_broken in
      let one_line : feeds (strip (pieces line)) ≡ false = subst (λ ps. feeds (strip ps) ≡ false) same closed.one_line in
      let runs = of_each.0 in
      let shown = lines_of_runs unit_size (slice_range (styled (pieces line))) (in_plain replacement ∷ []) width 0 runs in (
        shown,
        subst (λ ls. AllZip ShowsLine ls shown) (sym of_each.2) (wrapped_line-shows line (pieces line) utf8 of_line whole one_line width keep_words runs of_each.1),
        (runs, subst (λ cs. AreRunsOf width (line_units width keep_words cs) runs) (sym (styled-characters line (pieces line) utf8 of_line)) of_each.1, refl),
      )

  lines-show : (lines : List (List ℕ)) (of_each : List (List (List ℕ))) → AllByRecursion IsUtf8 lines → AllByRecursion IsClosedLine lines → AllZip wrapped_into lines of_each → LinesShow lines of_each
  lines-show [] [] utf8 closed all = record { shown = []; each = tt; are = tt }
  lines-show [] (others ∷ of_each) utf8 closed all = absurd all
  lines-show (line ∷ lines) [] utf8 closed all = absurd all
  lines-show (line ∷ lines) (others ∷ of_each) utf8 closed all =
      let here = line-shows line others utf8.0 closed.0 all.0 in
      let rest = lines-show lines of_each utf8.1 closed.1 all.1 in
      record {
        shown = here.0 ∷ rest.shown;
        each = both-show others (flat_map (λ ls. ls) of_each) here.0 (flat_map (λ ls. ls) rest.shown) here.1 rest.each;
        are = (here.2, rest.are);
      }

  some-wrapped : (lines : List (List ℕ)) (of_each : List (List (List ℕ))) → 0 < length lines → AllZip wrapped_into lines of_each → 0 < length (flat_map (λ others. others) of_each)
  some-wrapped [] of_each some all = absurd (omega (arith, some))
  some-wrapped (line ∷ lines) [] some all = absurd all
  some-wrapped (line ∷ lines) (others ∷ of_each) some all =
      let first : 0 < length others = subst (λ ls. 0 < length ls) (sym all.0.2)
      (shown-some unit_len (line_part (pieces line)) replacement_bytes width 0 all.0.0 (runs-some width (line_units width keep_words (chars (strip (pieces line)))) all.0.0 all.0.1)) in
      omega (arith, first, length-append others (flat_map (λ ls. ls) of_each))

  -- ---- the text

  pub record TextShows (ps : List Piece) (bytes : List ℕ) : Type 0 where
    pub lines : List (List ℕ)
    pub shown : List (List (List Styled))
    pub some : 0 < length lines
    pub bytes_are : bytes ≡ join_with_byte line_feed lines
    pub each : AllZip ShowsLine lines (flat_map (λ others. others) shown)
    pub are : AllZip (AreShownLines width keep_words) (slice_split ends_line (styled ps)) shown

closed-lines : (lines : List (List ℕ)) (shown : List (List Styled)) → AllZip ShowsLine lines shown → AllByRecursion IsClosedLine lines
closed-lines [] shown all = tt
closed-lines (line ∷ lines) [] all = absurd all
closed-lines (line ∷ lines) (x ∷ xs) all = (ShowsLine-closed line x all.0, closed-lines lines xs all.1)

each-passes : (p : ℕ → Bool) (cs : List ℕ) → list_all p cs ≡ true → AllByRecursion (λ c. p c ≡ true) cs
each-passes p [] all = tt
each-passes p (c ∷ cs) all = let parts = and_parts (p c) (list_all p cs) all in (parts.0, each-passes p cs parts.1)

-- the widest line is one of them
widest-fits : (width : ℕ) (lines : List (List ℕ)) (shown : List (List Styled)) → AllZip ShowsLine lines shown → AllByRecursion (Fits width) shown → widest (map (λ line. strip (pieces line)) lines) ≤ width
widest-fits width [] shown all fit = omega arith
widest-fits width (line ∷ lines) [] all fit = absurd all
widest-fits width (line ∷ lines) (x ∷ xs) all fit =
    let shows = all.0.shows in
    let of_line = ArePiecesOf-pieces line in
    let same : line_measure (strip (pieces line)) ≡ measure (characters_of x) =
    ap measure (sym (styled-characters line (pieces line) shows.utf8 of_line) ∙ ap characters_of (Shows-pieces line x (pieces line) shows of_line)) in
    let others = widest-fits width lines xs all.1 fit.1 in
    let here = fit.0 in
    omega (arith, same, others, here)

module _ (keep_words : Bool) (text bytes : List ℕ) (ps : List Piece) (utf8 : IsUtf8 text) (of_text : ArePiecesOf text ps) (whole : NoneBroken ps) where
  pub text-shows : (width : ℕ) → 0 < width → IsWrapped width keep_words ps bytes → TextShows width keep_words ps bytes
  text-shows zero some wrapped = absurd (omega (arith, some))
  text-shows (suc n) some wrapped =
      let lines = wrapped.0 in
      let of_each = wrapped.1 in
      let are = wrapped.2 in
      let low : line_feed < 128 = omega arith in
      let each-utf8 = subst (All IsUtf8) (sym are.are_parts) (All-utf8 (line_feed ∷ []) text ps are.matches of_text are.are_matches utf8 (IsUtf8-byte line_feed low)) in
      let closed = lines-closed text ps lines of_text whole are in
      let show = lines-show (suc n) keep_words lines of_each (recursion_from_All IsUtf8 lines each-utf8) (recursion_from_All IsClosedLine lines closed) wrapped.3 in
      let some-lines : 0 < length lines = omega (arith, length-lines ps lines are, length-slice_split is_line_feed (strip ps)) in
      let styled-lines : map (λ line. styled (pieces line)) lines ≡ slice_split ends_line (styled ps) =
      ap (map (λ line. styled (pieces line))) are.are_parts ∙ shown-parts line_feed text ps low utf8 of_text whole are.matches are.are_matches in
      record {
        lines = flat_map (λ others. others) of_each;
        shown = show.shown;
        some = some-wrapped (suc n) keep_words lines of_each some-lines wrapped.3;
        bytes_are = wrapped.4;
        each = show.each;
        are = subst (λ xs. AllZip (AreShownLines (suc n) keep_words) xs show.shown) styled-lines show.are;
      }

  module _ (width : ℕ) (some : 0 < width) (wrapped : IsWrapped width keep_words ps bytes) (qs : List Piece) (of_bytes : ArePiecesOf bytes qs) where
    pub wrapped-shows : ShowsWrapped width keep_words (styled ps) (styled qs)
    wrapped-shows =
        let is = text-shows width some wrapped in
        record {
          lines = is.shown;
          each_wrapped = is.are;
          shown = Shows-pieces bytes (joined_lines (flat_map (λ others. others) is.shown)) qs
              (subst (λ all. Shows all (joined_lines (flat_map (λ others. others) is.shown))) (sym is.bytes_are) (joined-shows is.lines (flat_map (λ others. others) is.shown) is.each)) of_bytes;
        }

    -- its lines are closed as they are
    pub wrapped-closed : (lines : List (List ℕ)) → AreLinesOf qs lines → All IsClosedLine lines × (join_with_byte line_feed lines ≡ bytes)
    wrapped-closed lines are =
        let is = text-shows width some wrapped in
        let closed = All-from_recursion IsClosedLine is.lines (closed-lines is.lines (flat_map (λ others. others) is.shown) is.each) in
        let same = lines-joined is.lines lines qs is.some closed (subst (λ all. ArePiecesOf all qs) is.bytes_are of_bytes) are in
        (subst (All IsClosedLine) (sym same) closed, ap (join_with_byte line_feed) same ∙ sym is.bytes_are)

    -- all that it adds are line feeds, where no character is wider than the width
    module _ (narrow : All (λ c. own_width c ≤ width) (chars (strip ps))) where
      narrow-characters : AllByRecursion (FitsCharacter width) (styled ps)
      narrow-characters =
          of-characters (λ c. own_width c ≤ width) (styled ps)
          (subst (AllByRecursion (λ c. own_width c ≤ width)) (sym (styled-characters text ps utf8 of_text)) (recursion_from_All (λ c. own_width c ≤ width) (chars (strip ps)) narrow))

      pub wrapped-adds : AddsLineFeeds (styled ps) (styled qs)
      wrapped-adds =
          let is = wrapped-shows in
          record { lines = is.lines; shown = is.shown; without_added = without-added-all width keep_words (styled ps) is.lines some narrow-characters is.each_wrapped }

      -- and no line of plain characters is wider
      pub wrapped-fits : list_all (λ c. is_plain_character c || is_line_feed c) (chars (strip ps)) ≡ true → widest (slice_split is_line_feed (strip qs)) ≤ width
      wrapped-fits plain_all =
          let is = text-shows width some wrapped in
          let all = flat_map (λ others. others) is.shown in
          let closed = All-from_recursion IsClosedLine is.lines (closed-lines is.lines all is.each) in
          let found = lines-there qs in
          let same = lines-joined is.lines found.0 qs is.some closed (subst (λ bs. ArePiecesOf bs qs) is.bytes_are of_bytes) found.1 in
          let shows = joined-shows is.lines all is.each in
          let whole_there = subst NoneBroken (ArePiecesOf-unique bytes shows.pieces qs (subst (λ bs. ArePiecesOf bs shows.pieces) (sym is.bytes_are) shows.of_bytes) of_bytes) shows.closed.none_broken in
          let plain_characters = of-characters (λ c. (is_plain_character c || is_line_feed c) ≡ true) (styled ps)
          (subst (AllByRecursion (λ c. (is_plain_character c || is_line_feed c) ≡ true)) (sym (styled-characters text ps utf8 of_text)) (each-passes (λ c. is_plain_character c || is_line_feed c) (chars (strip ps)) plain_all)) in
          let fit = all-lines-fit width keep_words (styled ps) is.shown some narrow-characters plain_characters is.are in
          let lines-are : map (λ line. strip (pieces line)) is.lines ≡ slice_split is_line_feed (strip qs) =
          ap (map (λ line. strip (pieces line))) (sym same) ∙ lines-shown bytes qs found.0 of_bytes whole_there found.1 in
          subst (λ ls. widest ls ≤ width) lines-are (widest-fits width is.lines all is.each fit)
