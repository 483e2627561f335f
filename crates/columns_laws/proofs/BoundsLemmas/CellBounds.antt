-- A cell that is wrapped or cut at a width measures at most that width.
use Rattle.std.proofs.Common.{◌≡◌, ◌≤◌, ◌<◌, ◌-◌, nat_le, ℕ, zero, suc, Bool, true, false, List, [], ◌∷◌, ◌++◌, flat_map, length, map, replicate, slice_range, take, refl, ap, sym, subst, ◌∙◌, arith, append-nil, if◌then◌else◌}
use Rattle.std.specs.List.{AllByRecursion, join_by, onto_first, slice_split}
use Rattle.std.proofs.Math.Seq.{take-append_seam}
use Rattle.std.proofs.lemmas.Bool.Decides.{nat_tests}
use Rattle.std.proofs.lemmas.List.Elements.{All-from_recursion}
use Rattle.std.proofs.lemmas.Simd.{map-map}
use Rattle.std.proofs.lemmas.Str.{chars-nil}
use Rattle.std.proofs.lemmas.List.Splits.{slice_split-cons_no, slice_split-cons_yes, slice_split_at, slice_split_none}
use Rattle.ansi_str_search.proofs.Chars.{hold_both}
use Rattle.tabled_size_wrap.specs.Cells.Resizing.{Wrap, Cut, Resize, wrapped_cell, wrapped_line, cell_width, cut, lines_in, resized, resized_text}
use Rattle.tabled_size_wrap.proofs.CellsLemmas.Bridges.{resized-shows, width-same}
use Rattle.tabled_size_wrap.proofs.CellsLemmas.Characters.{resized-natural}
use Rattle.grid_records_fronts.proofs.BoundsLemmas.Costs.{bounded}
use Rattle.grid_records_fronts.proofs.BoundsLemmas.Spaces.{measure-marks}
use Rattle.grid_records_estimate.specs.Estimates.{greatest}
use Rattle.grid_records_measure.specs.Cutting.{LinesFit, lacking, last_of, lines_of, replacement}
use Rattle.grid_records_measure.specs.Filling.{behind_front, fitting_front}
use Rattle.grid_records_measure.specs.Measures.{line_cost, measure}
use Rattle.grid_records_measure.specs.TextLines.{is_line_feed, line_feed, shown_lines as text_shown_lines, text_width, widest}
use Rattle.grid_records_measure.proofs.Filling.{IsLongestFront-fitting_front}
use Rattle.papergrid_picture.specs.Shown.{IsWholeText, Styled, character_of, in_plain}
use Rattle.papergrid_picture.proofs.Items.{slice_split-map}
use Rattle.papergrid_picture.proofs.Shown.{pieces-nothing, styled_of}
use Rattle.tabled_size_wrap.specs.Runs.{runs_of}
use Rattle.tabled_size_wrap.specs.Showing.{unit_size}
use Rattle.tabled_size_wrap.specs.Units.{line_units}
use Rattle.tabled_size_wrap.specs.Wrapping.{lines_of_runs}
use Rattle.columns_laws.proofs.BoundsLemmas.LineBounds.{FitsLine, IsInLine, wrapped_lines-fit, marks-inside}

-- ---- characters as themselves

map-self : (cs : List ℕ) → map (λ c. c) cs ≡ cs
map-self [] = refl
map-self (c ∷ cs) = ap (λ (rest : List ℕ). c ∷ rest) (map-self cs)

abbrev widest_of : List (List ℕ) → ℕ
widest_of lines = greatest (map (λ line. measure (map (λ c. c) line)) lines)

widest-fits : (width : ℕ) (lines : List (List ℕ)) → AllByRecursion (λ line. measure line ≤ width) lines → widest_of lines ≤ width
widest-fits width [] all = omega arith
widest-fits width (line ∷ lines) all = omega (arith, ap measure (map-self line), all.0, widest-fits width lines all.1)

-- ---- the lines between line feeds

abbrev splits : List ℕ → List (List ℕ)
splits cs = slice_split is_line_feed cs

onto-inside : (c : ℕ) (lines : List (List ℕ)) → is_line_feed c ≡ false → AllByRecursion (AllByRecursion IsInLine) lines → AllByRecursion (AllByRecursion IsInLine) (onto_first c lines)
onto-inside c [] is all = ((is, tt), tt)
onto-inside c (line ∷ lines) is all = ((is, all.0), all.1)

splits-inside : (cs : List ℕ) → AllByRecursion (AllByRecursion IsInLine) (splits cs)
splits-inside [] = (tt, tt)
splits-inside (c ∷ cs) = by (is_line_feed c) refl (splits-inside cs)
  where
    by : (ends : Bool) → is_line_feed c ≡ ends → AllByRecursion (AllByRecursion IsInLine) (splits cs) → AllByRecursion (AllByRecursion IsInLine) (splits (c ∷ cs))
    by true e rest = subst (AllByRecursion (AllByRecursion IsInLine)) (sym (slice_split-cons_yes is_line_feed c cs e)) (tt, rest)
    by false e rest = subst (AllByRecursion (AllByRecursion IsInLine)) (sym (slice_split-cons_no is_line_feed c cs e)) (onto-inside c (splits cs) e rest)

-- lines that are joined are split into themselves
abbrev joined : List (List ℕ) → List ℕ
joined lines = join_by (λ line. line) (line_feed ∷ []) lines

split-joined : (line : List ℕ) (lines : List (List ℕ)) → AllByRecursion IsInLine line → AllByRecursion (AllByRecursion IsInLine) lines → splits (joined (line ∷ lines)) ≡ line ∷ lines
split-joined line [] here all =
    ap splits (append-nil line) ∙ slice_split_none is_line_feed line (All-from_recursion IsInLine line here)
split-joined line (other ∷ lines) here all =
    slice_split_at is_line_feed line line_feed (joined (other ∷ lines)) (All-from_recursion IsInLine line here) refl
    ∙ ap (λ (rest : List (List ℕ)). line ∷ rest) (split-joined other lines all.0 all.1)

lines-inside : (width : ℕ) (lines : List (List ℕ)) → AllByRecursion (FitsLine width) lines → AllByRecursion (AllByRecursion IsInLine) lines
lines-inside width [] all = tt
lines-inside width (line ∷ lines) all = (all.0.1, lines-inside width lines all.1)

lines-measure : (width : ℕ) (lines : List (List ℕ)) → AllByRecursion (FitsLine width) lines → AllByRecursion (λ line. measure line ≤ width) lines
lines-measure width [] all = tt
lines-measure width (line ∷ lines) all = (all.0.0, lines-measure width lines all.1)

joined-fits : (width : ℕ) (lines : List (List ℕ)) → AllByRecursion (FitsLine width) lines → widest_of (splits (joined lines)) ≤ width
joined-fits width [] all = let none = bounded [] in widest-fits width ([] ∷ []) (omega (arith, none), tt)
joined-fits width (line ∷ lines) all =
    subst (λ (found : List (List ℕ)). widest_of found ≤ width) (sym (split-joined line lines all.0.1 (lines-inside width lines all.1)))
    (widest-fits width (line ∷ lines) (lines-measure width (line ∷ lines) all))

-- ---- a cell that is wrapped

abbrev in_characters : Resize → List ℕ → List ℕ
in_characters resize cell = resized (λ c. c) (λ c. c) resize cell

abbrev width_in : List ℕ → ℕ
width_in cell = cell_width (λ c. c) (λ c. c) cell

one-wrapped : (n : ℕ) (keep_words : Bool) (line : List ℕ) → AllByRecursion IsInLine line → AllByRecursion (FitsLine (suc n)) (wrapped_line (λ c. c) (λ c. c) (suc n) keep_words line)
one-wrapped n keep_words line inside =
    let some : 0 < suc n = omega arith in
    subst (λ (cs : List ℕ). AllByRecursion (FitsLine (suc n)) (lines_of_runs unit_size (slice_range line) (replacement ∷ []) (suc n) 0 (runs_of (suc n) (line_units (suc n) keep_words cs)))) (sym (map-self line))
    (wrapped_lines-fit (suc n) some line inside keep_words)

all-wrapped : (n : ℕ) (keep_words : Bool) (lines : List (List ℕ)) → AllByRecursion (AllByRecursion IsInLine) lines → AllByRecursion (FitsLine (suc n)) (flat_map (wrapped_line (λ c. c) (λ c. c) (suc n) keep_words) lines)
all-wrapped n keep_words [] all = tt
all-wrapped n keep_words (line ∷ lines) all =
    hold_both (FitsLine (suc n)) (wrapped_line (λ c. c) (λ c. c) (suc n) keep_words line) (flat_map (wrapped_line (λ c. c) (λ c. c) (suc n) keep_words) lines)
    (one-wrapped n keep_words line all.0) (all-wrapped n keep_words lines all.1)

wrapped_cell-bounded : (width : ℕ) (keep_words : Bool) (cell : List ℕ) → width_in (wrapped_cell (λ c. c) (λ c. c) width keep_words cell) ≤ width
wrapped_cell-bounded zero keep_words cell = widest-fits 0 ([] ∷ []) (bounded [], tt)
wrapped_cell-bounded (suc n) keep_words cell =
    joined-fits (suc n) (flat_map (wrapped_line (λ c. c) (λ c. c) (suc n) keep_words) (splits cell)) (all-wrapped n keep_words (splits cell) (splits-inside cell))

-- ---- a cell that is cut

-- the last of some lines, with more after it
abbrev onto_last : List ℕ → List (List ℕ) → List (List ℕ)
onto_last more [] = more ∷ []
onto_last more (line ∷ []) = (line ++ more) ∷ []
onto_last more (line ∷ next ∷ lines) = line ∷ onto_last more (next ∷ lines)

onto-both : (c : ℕ) (more : List ℕ) (lines : List (List ℕ)) → onto_first c (onto_last more lines) ≡ onto_last more (onto_first c lines)
onto-both c more [] = refl
onto-both c more (line ∷ []) = refl
onto-both c more (line ∷ next ∷ lines) = refl

no-lines : (more : List ℕ) (lines : List (List ℕ)) → 0 < length lines → [] ∷ onto_last more lines ≡ onto_last more ([] ∷ lines)
no-lines more [] some = absurd (omega (arith, some))
no-lines more (line ∷ lines) some = refl

some-splits : (cs : List ℕ) → 0 < length (splits cs)
some-splits [] = omega arith
some-splits (c ∷ cs) = by (is_line_feed c) refl
  where
    onto-some : (lines : List (List ℕ)) → 0 < length (onto_first c lines)
    onto-some [] = omega arith
    onto-some (line ∷ lines) = omega arith

    by : (ends : Bool) → is_line_feed c ≡ ends → 0 < length (splits (c ∷ cs))
    by true e = subst (λ (lines : List (List ℕ)). 0 < length lines) (sym (slice_split-cons_yes is_line_feed c cs e)) (omega arith)
    by false e = subst (λ (lines : List (List ℕ)). 0 < length lines) (sym (slice_split-cons_no is_line_feed c cs e)) (onto-some (splits cs))

split-more : (cs more : List ℕ) → AllByRecursion IsInLine more → splits (cs ++ more) ≡ onto_last more (splits cs)
split-more [] more inside = slice_split_none is_line_feed more (All-from_recursion IsInLine more inside)
split-more (c ∷ cs) more inside = by (is_line_feed c) refl (split-more cs more inside)
  where
    by : (ends : Bool) → is_line_feed c ≡ ends → splits (cs ++ more) ≡ onto_last more (splits cs) → splits (c ∷ cs ++ more) ≡ onto_last more (splits (c ∷ cs))
    by true e rest =
        slice_split-cons_yes is_line_feed c (cs ++ more) e ∙ ap (λ (lines : List (List ℕ)). [] ∷ lines) rest
        ∙ no-lines more (splits cs) (some-splits cs) ∙ ap (onto_last more) (sym (slice_split-cons_yes is_line_feed c cs e))
    by false e rest =
        slice_split-cons_no is_line_feed c (cs ++ more) e ∙ ap (onto_first c) rest
        ∙ onto-both c more (splits cs) ∙ ap (onto_last more) (sym (slice_split-cons_no is_line_feed c cs e))

-- lines that fit, the last of them with no more marks than it lacks
marked-fit : (width n : ℕ) (lines : List (List ℕ)) → 0 < length lines → LinesFit width lines → n ≤ width - line_cost (last_of lines) → AllByRecursion (λ line. measure line ≤ width) (onto_last (replicate n replacement) lines)
marked-fit width n [] some fit less = absurd (omega (arith, some))
marked-fit width n (line ∷ []) some fit less = (omega (arith, measure-marks line n, bounded line, fit, less), tt)
marked-fit width n (line ∷ next ∷ lines) some fit less = (omega (arith, bounded line, fit.0), marked-fit width n (next ∷ lines) (omega arith) fit.1 less)

lacks : (width : ℕ) (kept left : List ℕ) → lacking width kept left ≤ width - line_cost (last_of (lines_of kept))
lacks width kept [] = omega arith
lacks width kept (c ∷ left) = omega arith

-- the cut of a cell, where these are its characters
abbrev cut_by : ℕ → List ℕ → List ℕ → List ℕ
cut_by width cell characters =
    let kept = fitting_front width 0 characters in
    take (length kept) cell ++ map (λ c. c) (replicate (lacking width kept (behind_front width 0 characters)) replacement)

cut-fits : (width : ℕ) (cell : List ℕ) → width_in (cut (λ c. c) (λ c. c) width cell) ≤ width
cut-fits width cell = subst (λ (found : List ℕ). width_in (cut_by width cell found) ≤ width) (sym (map-self cell)) here
  where
    here : width_in (cut_by width cell cell) ≤ width
    here =
        let kept = fitting_front width 0 cell in
        let left = behind_front width 0 cell in
        let n = lacking width kept left in
        let longest = IsLongestFront-fitting_front width cell in
        let shown : cut_by width cell cell ≡ kept ++ replicate n replacement =
        ap (λ (cs : List ℕ). take (length kept) cs ++ map (λ c. c) (replicate n replacement)) longest.parted
        ∙ ap (λ (cs : List ℕ). cs ++ map (λ c. c) (replicate n replacement)) (take-append_seam kept left)
        ∙ ap (λ (cs : List ℕ). kept ++ cs) (map-self (replicate n replacement)) in
        subst (λ (lines : List (List ℕ)). widest_of lines ≤ width) (sym (ap splits shown ∙ split-more kept (replicate n replacement) (marks-inside n)))
        (widest-fits width (onto_last (replicate n replacement) (splits kept)) (marked-fit width n (splits kept) (some-splits kept) longest.fits (lacks width kept left)))

resized-cut : (width : ℕ) (cell : List ℕ) → width_in (in_characters (Cut width) cell) ≤ width
resized-cut width cell = by (nat_le (width_in cell) width) refl
  where
    by : (b : Bool) → nat_le (width_in cell) width ≡ b → width_in (if b then cell else cut (λ c. c) (λ c. c) width cell) ≤ width
    by true e = grind (arith, nat_tests, e)
    by false e = cut-fits width cell

-- ---- texts

pub nothing-measures : text_width [] ≡ 0
unfolding text_width
nothing-measures =
    let none : measure [] ≤ line_cost [] = bounded [] in
    ap (λ ps. widest (text_shown_lines ps)) pieces-nothing ∙ (let zero-wide : widest ([] ∷ []) ≡ 0 = omega (arith, ap measure chars-nil, none) in zero-wide)

styled-width : (cell : List Styled) → cell_width character_of in_plain cell ≡ width_in (map character_of cell)
styled-width cell =
    let lines = lines_in character_of in_plain cell in
    sym (ap widest_of (slice_split-map character_of is_line_feed cell)
    ∙ ap greatest (map-map (λ (line : List ℕ). measure (map (λ c. c) line)) (map character_of) lines ∙ (λ k. map (λ line. measure (map-map (λ c. c) character_of line k)) lines)))

-- a resized text measures what its resized characters do
text-measures : (resize : Resize) (text : List ℕ) → IsWholeText text → text_width (resized_text resize text) ≡ width_in (in_characters resize (map character_of (styled_of text)))
text-measures resize text whole =
    let shows = resized-shows resize text whole in
    let cell = styled_of text in
    width-same (resized_text resize text) shows.whole
    ∙ ap (λ (found : List Styled). cell_width character_of in_plain found) shows.shown
    ∙ styled-width (resized character_of in_plain resize cell)
    ∙ ap width_in (resized-natural character_of (λ c. c) in_plain resize cell)

pub wrapped-bounded : (width : ℕ) (keep_words : Bool) (text : List ℕ) → IsWholeText text → text_width (resized_text (Wrap width keep_words) text) ≤ width
wrapped-bounded width keep_words text whole =
    omega (arith, text-measures (Wrap width keep_words) text whole, wrapped_cell-bounded width keep_words (map character_of (styled_of text)))

pub cut-bounded : (width : ℕ) (text : List ℕ) → IsWholeText text → text_width (resized_text (Cut width) text) ≤ width
cut-bounded width text whole = omega (arith, text-measures (Cut width) text whole, resized-cut width (map character_of (styled_of text)))
