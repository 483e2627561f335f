-- A text that is cut line by line, or wrapped between words, measures at most the columns that it was fitted to.
use Rattle.std.proofs.Common.{◌≡◌, ◌≤◌, ◌<◌, ◌==◌, ◌+◌, ◌-◌, nat_le, nat_lt, ℕ, zero, suc, Bool, true, false, List, [], ◌∷◌, ◌++◌, map, refl, ap, sym, subst, ◌∙◌, arith, append-nil, if◌then◌else◌}
use Rattle.std.specs.Str.{chars}
use Rattle.std.specs.List.{AllByRecursion, filter}
use Rattle.std.proofs.lemmas.Bool.Decides.{nat_tests}
use Rattle.ansi_scan.specs.Pieces.{pieces}
use Rattle.ansi_scan.proofs.Existence.{ArePiecesOf-pieces}
use Rattle.ansi_str_search.specs.Text.Characters.{shown_chars}
use Rattle.ansi_str_search.proofs.TextLemmas.Stripping.{strip-without_escape}
use Rattle.grid_records_measure.specs.TextLines.{line_feed, line_width, text_lines, text_width}
use Rattle.papergrid_picture.specs.Shown.{IsWholeText}
use Rattle.papergrid_picture.proofs.Related.{All-map_of}
use Rattle.tabled_size_wrap.specs.Bytes.{cut_at, wrapped_text}
use Rattle.tabled_size_wrap.specs.Cells.Resizing.{Wrap}
use Rattle.tabled_size_wrap.proofs.CellsLemmas.Bridges.{cut-shows_whole, resized-shows}
use Rattle.basinmug_columns.specs.Fitting.Fitting.{cut_line, ellipsis, is_not_blank, joined_lines, wrapped_line}
use Rattle.basinmug_run.specs.Picture.Fitting.{fitted_text}
use Rattle.columns_laws.proofs.BoundsLemmas.CellBounds.{cut-bounded, nothing-measures, wrapped-bounded}
use Rattle.basinmug_laws.proofs.ShownLemmas.FittedTexts.{ellipsis-whole, filter-all}
use Rattle.basinmug_laws.proofs.ShownLemmas.PlainTexts.{ascii-text}
use Rattle.basinmug_laws.proofs.ShownLemmas.WholeTexts.{whole-append, whole-ascii, whole-nothing}
use Rattle.basinmug_laws.proofs.WidthLemmas.TextWidths.{IsLine, dots, lines-are, lines-within, shown-append, text-width, width-below, width-dots, width_of}

-- a whole text of at most so many columns
record Fits (room : ℕ) (text : List ℕ) : Type 0 where
  whole : IsWholeText text
  within : text_width text ≤ room

-- ---- one below the other

fits-nothing : (room : ℕ) → Fits room []
fits-nothing room = record { whole = whole-nothing; within = omega (arith, nothing-measures) }

feed-whole : IsWholeText (line_feed ∷ [])
feed-whole = whole-ascii (line_feed ∷ []) (ascii-text (line_feed ∷ []) refl)

fits-below : (room : ℕ) (a b : List ℕ) → Fits room a → Fits room b → Fits room (a ++ line_feed ∷ b)
fits-below room a b first second =
    let behind : IsWholeText (line_feed ∷ b) = whole-append (line_feed ∷ []) b feed-whole second.whole in
    let both : IsWholeText (a ++ line_feed ∷ b) = whole-append a (line_feed ∷ b) first.whole behind in
    record { whole = both; within = omega (arith, width-below a b first.whole feed-whole second.whole behind both, first.within, second.within) }

fits-joined : (room : ℕ) (lines : List (List ℕ)) → AllByRecursion (Fits room) lines → Fits room (joined_lines lines)
fits-joined room [] all = fits-nothing room
fits-joined room (line ∷ []) all = subst (Fits room) (sym (append-nil line)) all.0
fits-joined room (line ∷ next ∷ lines) all = fits-below room line (joined_lines (next ∷ lines)) all.0 (fits-joined room (next ∷ lines) all.1)

-- the lines of a text that fits
lines-fit : (room : ℕ) (lines : List (List ℕ)) → AllByRecursion IsLine lines → AllByRecursion (λ line. line_width line ≤ room) lines → AllByRecursion (Fits room) lines
lines-fit room [] are within = tt
lines-fit room (line ∷ lines) are within = (record { whole = are.0.whole; within = omega (arith, are.0.one, within.0) }, lines-fit room lines are.1 within.1)

-- ---- wrapped between words

line-wrapped : (room : ℕ) (line : List ℕ) → IsLine line → Fits room (wrapped_line room line)
line-wrapped room line is =
    let made = wrapped_text room true line in
    let whole : IsWholeText made = (resized-shows (Wrap room true) line is.whole).whole in
    let within : text_width made ≤ room = wrapped-bounded room true line is.whole in
    fits-joined room (filter is_not_blank (text_lines made))
    (filter-all (Fits room) is_not_blank (text_lines made) (lines-fit room (text_lines made) (lines-are made whole) (lines-within made whole room within)))

-- ---- cut

shown-dots : shown_chars ellipsis ≡ dots ∷ []
unfolding chars
shown-dots = ap chars (strip-without_escape ellipsis (pieces ellipsis) (ArePiecesOf-pieces ellipsis) refl)

fits-dots : (room : ℕ) (text : List ℕ) → Fits room text → Fits (room + 1) (text ++ ellipsis)
fits-dots room text fits =
    let both : IsWholeText (text ++ ellipsis) = whole-append text ellipsis fits.whole ellipsis-whole in
    let shown : width_of (shown_chars (text ++ ellipsis)) ≡ width_of (shown_chars text ++ dots ∷ []) =
    ap width_of (shown-append text ellipsis fits.whole ellipsis-whole ∙ ap (λ (cs : List ℕ). shown_chars text ++ cs) shown-dots) in
    record { whole = both; within = omega (arith, text-width (text ++ ellipsis) both, shown, width-dots (shown_chars text), text-width text fits.whole, fits.within) }

pub dots-within : text_width ellipsis ≤ 1
dots-within = (fits-dots 0 [] (fits-nothing 0)).within

-- a line that is wider is cut, and its cut measures no more than the width
cut-fits : (n : ℕ) (line : List ℕ) → IsLine line → suc n < line_width line → Fits n (cut_at n line)
cut-fits n line is wider =
    let more : nat_le (text_width line) n ≡ false = grind (arith, nat_tests, is.one, wider) in
    let same : (if nat_le (text_width line) n then line else cut_at n line) ≡ cut_at n line = ap (λ (b : Bool). if b then line else cut_at n line) more in
    record { whole = (cut-shows_whole line is.whole n).whole; within = subst (λ (text : List ℕ). text_width text ≤ n) same (cut-bounded n line is.whole) }

line-cut : (room : ℕ) (line : List ℕ) → IsLine line → Fits room (cut_line room line)
line-cut room line is = by room (nat_lt room (line_width line)) refl
  where
    by : (room : ℕ) (b : Bool) → nat_lt room (line_width line) ≡ b → Fits room (if b then (if room == 0 then [] else cut_at (room - 1) line ++ ellipsis) else line)
    by room false e = let within : line_width line ≤ room = grind (arith, nat_tests, e) in record { whole = is.whole; within = omega (arith, is.one, within) }
    by zero true e = fits-nothing 0
    by (suc n) true e =
        let wider : suc n < line_width line = grind (arith, nat_tests, e) in
        let some : (suc n == 0) ≡ false = grind (arith, nat_tests) in
        let less : n ≡ suc n - 1 = omega arith in
        let more : n + 1 ≡ suc n = omega arith in
        subst (λ (none : Bool). Fits (suc n) (if none then [] else cut_at (suc n - 1) line ++ ellipsis)) (sym some)
        (subst (λ (k : ℕ). Fits (suc n) (cut_at k line ++ ellipsis)) less
        (subst (λ (k : ℕ). Fits k (cut_at n line ++ ellipsis)) more (fits-dots n (cut_at n line) (cut-fits n line is wider))))

-- ---- a text

pub fitted-within : (truncate : Bool) (room : ℕ) (text : List ℕ) → IsWholeText text → text_width (fitted_text truncate room text) ≤ room
fitted-within true room text whole =
    (fits-joined room (map (cut_line room) (text_lines text)) (All-map_of IsLine (Fits room) (cut_line room) (line-cut room) (text_lines text) (lines-are text whole))).within
fitted-within false room text whole =
    (fits-joined room (map (wrapped_line room) (text_lines text)) (All-map_of IsLine (Fits room) (wrapped_line room) (line-wrapped room) (text_lines text) (lines-are text whole))).within
