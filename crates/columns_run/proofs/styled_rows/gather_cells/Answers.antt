-- A step over a cell that is gathered, and the rows at the end of the text.
use Rattle.std.proofs.Common.{◌≡◌, ◌==◌, ◌<◌, ◌≤◌, ◌+◌, ◌-◌, ℕ, zero, suc, Bool, true, false, List, [], ◌∷◌, ◌++◌, drop, length, map, slice_index, string_bytes, sum, take, refl, ap, sym, subst, ◌∙◌, arith, eqb-true, length-drop}
use Rattle.std.proofs.lemmas.Bool.{and_parts}
use Rattle.std.proofs.lemmas.Bool.Decides.{nat_tests}
use Rattle.std.specs.Prelude.{IsTrue, chars}
use Rattle.ansi_scan.specs.Attributes.{Attributes, IsRendition, plain_attributes}
use Rattle.ansi_scan.proofs.Kept.{IsRendition-plain}
use Rattle.ansi_scan.specs.Sequences.{IsWhole, joined}
use Rattle.ansi_scan.specs.Pieces.{pieces}
use Rattle.ansi_str_search.specs.Parts.{before_place, through_place}
use Rattle.ansi_str_search.proofs.Dressed.{IsRendition-after}
use Rattle.grid_records_measure.specs.Measures.{measure}
use Rattle.columns_table.specs.RowEnds.{EndedRows, no_rows, row_ended}
use Rattle.columns_table.specs.Rows.{split_by_lengths}
use Rattle.columns_table.specs.declared.ends.CellEnd.{CellEnd}
use Rattle.columns_table.proofs.SplitByLengths.{split_by_lengths-map}
use Rattle.columns_run.specs.Cells.{part_line}
use Rattle.columns_run.specs.Ends.{cell_size, EndsCell, EndsPass}
use Rattle.columns_run.specs.Rows.{line_feed, stripped, cell_parts}
use Rattle.columns_run.specs.Styled.{AddsCell, EndsRow, GatheredCells, KeptEndsWith, all_gathered, gathered_to, part_between}
use Rattle.columns_run.specs.declared.styled_rows.Gathering.{Gathering}
use Rattle.columns_run.proofs.Gathers.{Gathered, Gathered-start, Gathered-more, ends-longer, length-parts_in, parts-added, parts_in}
use Rattle.columns_run.proofs.Passed.{measure-passed}
use Rattle.columns_run.proofs.Walks.{Walked, Walked-start, Walked-tab, Walked-feed, Walked-last, Walked-none, walked-part, whole-next, separator-ascii, cell-slice, end-fits, part_at}
use Rattle.columns_run.proofs.Whole.{whole-byte, whole-nothing}
use Rattle.columns_run.proofs.styled_rows.gather_cells.Goals as goal
use Rattle.columns_run.proofs.styled_rows.gather_cells.Goals.{then-begins_with_line_feed+in_ok-end_row, else-begins_with_line_feed}

some_of : (n : ℕ) → (n == 0) ≡ false → 0 < n
some_of n e = grind (arith, nat_tests)

abbrev parts_of : GatheredCells → List (List ℕ)
parts_of cells = parts_in cells.text cells.rows.ends

-- what the walk has gathered, before a cell
record IsSoFar (text rest : List ℕ) (style : Attributes) (end : List ℕ) (end_style : Attributes) (cells : GatheredCells) : Type 0 where
  walked : Walked text rest style end end_style cells.rows.counts (sum cells.rows.counts) (parts_of cells)
  gathered : Gathered cells.text cells.rows.ends
  row : sum cells.rows.counts + cells.rows.begun ≡ length cells.rows.ends

-- what is gathered at the end
record IsAll (text : List ℕ) (cells : GatheredCells) : Type 0 where
  gathered : Gathered cells.text cells.rows.ends
  ended : cells.rows.begun ≡ 0
  rows : split_by_lengths cells.rows.counts (parts_of cells) ≡ cell_parts text

-- before the first byte nothing is kept
nothing-kept : (bytes text rest : List ℕ) → bytes ≡ [] → rest ≡ text → bytes ++ take (length text - length rest) text ≡ []
nothing-kept bytes text rest none all =
    let no : length text - length rest ≡ 0 = omega (arith, ap length all) in ap (λ front. front ++ take (length text - length rest) text) none ∙ ap (λ n. take n text) no

-- cells with these rows
abbrev ended_rows : Gathering → EndedRows → Gathering
ended_rows cells rows = record { text = cells.text; rows = rows; kept = cells.kept }

abbrev with_rows : GatheredCells → EndedRows → GatheredCells
with_rows cells rows = record { text = cells.text; rows = rows }

module _ (text rest : List ℕ) (style : Attributes) (end : List ℕ) (end_style : Attributes) (old : GatheredCells) (so_far : IsSoFar text rest style end end_style old) where
  abbrev counts : List ℕ
  counts = old.rows.counts

  abbrev count : ℕ
  count = old.rows.begun

  abbrev parts : List (List ℕ)
  parts = parts_of old

  sized : length parts ≡ sum counts + count
  sized = length-parts_in old.text old.rows.ends ∙ sym so_far.row

  begins-part : (slice : List ℕ) × (rest ≡ slice ++ end)
  begins-part = (joined (through_place (cell_size rest) (pieces rest)), cell-slice rest style end end_style so_far.walked.ends)

  -- what is shown takes a column a byte, where it is printable
  takes-columns : (size : ℕ) (printable : Bool) → EndsPass rest end size printable → IsTrue printable → measure (chars (stripped (part_between rest style end end_style))) ≡ size
  takes-columns size printable passes =
      let known = so_far.walked.known in
      measure-passed rest end style end_style size printable
      (subst IsRendition (sym known) (IsRendition-after plain_attributes (before_place so_far.walked.place (pieces text)) IsRendition-plain)) passes

  -- nothing more is in the last row
  none-more : IsWhole text → length end ≡ 0 → count ≡ 0 → length (stripped rest) ≡ 0 → IsAll text old
  none-more whole gone none bare =
      let full : length parts ≤ sum counts = omega (arith, sized, none) in
      let found = Walked-none text rest style end end_style counts (sum counts) parts so_far.walked gone whole full bare in
      record { gathered = so_far.gathered; ended = none; rows = found.1 }

  -- one more cell
  module _ (new : GatheredCells) (adds : AddsCell old new (part_between rest style end end_style)) where
    abbrev pushed : List (List ℕ)
    pushed = parts_of new

    gathered-new : Gathered new.text new.rows.ends
    gathered-new = Gathered-more old new (part_between rest style end end_style) so_far.gathered adds

    counts-new : new.rows.counts ≡ counts
    counts-new = ap (λ (rows : EndedRows). rows.counts) adds.rows

    begun-new : new.rows.begun ≡ count + 1
    begun-new = ap (λ (rows : EndedRows). rows.begun) adds.rows

    count-new : sum counts + (count + 1) ≡ length new.rows.ends
    count-new = omega (arith, so_far.row, ends-longer old new (part_between rest style end end_style) so_far.gathered adds)

    pushed-is : pushed ≡ parts ++ part_at text so_far.walked.place (so_far.walked.place + cell_size rest) ∷ []
    pushed-is =
        parts-added old new (part_between rest style end end_style) so_far.gathered adds
        ∙ ap (λ part. parts ++ part ∷ []) (walked-part text rest style end end_style counts (sum counts) parts so_far.walked)

    row-size : length pushed - sum counts ≡ count + 1
    row-size = omega (arith, length-parts_in new.text new.rows.ends, count-new)

    -- the row that ends with it
    more-is : new.rows.counts ++ new.rows.begun ∷ [] ≡ counts ++ (length pushed - sum counts) ∷ []
    more-is = ap (λ (found : List ℕ). found ++ new.rows.begun ∷ []) counts-new ∙ ap (λ n. counts ++ n ∷ []) (begun-new ∙ sym row-size)

    all-ended : IsWhole text → length end ≡ 0 → 0 < count + length (stripped rest) → IsAll text (with_rows new (row_ended new.rows))
    all-ended whole gone some =
        let shows : 0 < length parts - sum counts + length (stripped rest) = omega (arith, sized, some) in
        let found = Walked-last text rest style end end_style counts (sum counts) parts so_far.walked gone whole pushed (new.rows.counts ++ new.rows.begun ∷ []) pushed-is more-is shows in
        record { gathered = gathered-new; ended = refl; rows = found.1 }

    module _ (next : List ℕ) (next_style : Attributes) (next_end : List ℕ) (next_end_style : Attributes) (some : 0 < length end) (is_next : next ≡ drop 1 end) (is_style : next_style ≡ end_style) (next_ends : EndsCell next next_style next_end next_end_style) where
      behind-tab : (slice_index end 0 == line_feed) ≡ false → IsSoFar text next next_style next_end next_end_style new
      behind-tab other = record {
        walked = subst (λ (found : List ℕ). Walked text next next_style next_end next_end_style found (sum found) pushed) (sym counts-new)
            (Walked-tab text rest style end end_style counts (sum counts) parts so_far.walked next next_style next_end next_end_style some is_next is_style next_ends pushed pushed-is other);
        gathered = gathered-new;
        row = ap (λ (found : List ℕ). sum found + new.rows.begun) counts-new ∙ ap (λ n. sum counts + n) begun-new ∙ count-new;
      }

      behind-feed : (slice_index end 0 == line_feed) ≡ true → IsSoFar text next next_style next_end next_end_style (with_rows new (row_ended new.rows))
      behind-feed feed =
          let ended : List ℕ = new.rows.counts ++ new.rows.begun ∷ [] in
          let walked = Walked-feed text rest style end end_style counts (sum counts) parts so_far.walked next next_style next_end next_end_style some is_next is_style next_ends pushed ended pushed-is feed more-is in
          let total : sum ended ≡ length pushed = sym walked.counted in
          record {
            walked = subst (λ n. Walked text next next_style next_end next_end_style ended n pushed) walked.counted walked;
            gathered = gathered-new;
            row = omega (arith, total, length-parts_in new.text new.rows.ends);
          }

-- the last row, which shows something or is left out
either : (n : ℕ) {A : Type 0} → (0 < n → A) → (n ≡ 0 → A) → A
either zero some none = none refl
either (suc n) some none = some (omega (arith))

all-or-none : (text rest : List ℕ) (style : Attributes) (end : List ℕ) (end_style : Attributes) (old : GatheredCells) (so_far : IsSoFar text rest style end end_style old) → IsWhole text → length end ≡ 0 → (new : GatheredCells) →
    (0 < old.rows.begun + length (stripped rest) → EndsRow old new (part_between rest style end end_style)) → (old.rows.begun + length (stripped rest) ≡ 0 → new ≡ old) → IsAll text new
all-or-none text rest style end end_style old so_far whole gone new shown left_out =
    either (old.rows.begun + length (stripped rest))
    (λ some. let row = shown some in subst (λ cells. IsAll text cells) (sym row.2) (all-ended text rest style end end_style old so_far row.0 row.1 whole gone some))
    (λ none. subst (λ cells. IsAll text cells) (sym (left_out none)) (none-more text rest style end end_style old so_far whole gone (omega (arith, none)) (omega (arith, none))))

-- ---- the answers

pub loop-end-init : goal.loop-end-init
loop-end-init c =
    let text = c.args.text.now in
    let found = c.args.found.now in
    let place = c.start_of-place.result in
    let end = c.in-Some.end.place in
    let bytes = (gathered_to found place.rest.now).text in
    let all : place.rest.now ≡ found.kept.now = c.start_of-place.ensures.rest ∙ sym c.requires.kept in
    let nothing : bytes ≡ [] = nothing-kept (string_bytes found.text) found.kept.now place.rest.now (ap (λ (cells : GatheredCells). cells.text) c.requires.none) all in
    let rows_are : found.rows ≡ no_rows = ap (λ (cells : GatheredCells). cells.rows) c.requires.none in
    let ends : found.rows.ends ≡ [] = ap (λ (rows : EndedRows). rows.ends) rows_are in
    let counts : found.rows.counts ≡ [] = ap (λ (rows : EndedRows). rows.counts) rows_are in
    let begun : found.rows.begun ≡ 0 = ap (λ (rows : EndedRows). rows.begun) rows_are in
    let none : parts_in bytes found.rows.ends ≡ [] = ap (λ ends. parts_in bytes ends) ends in
    record {
      walked = subst (λ (counts : List ℕ). Walked text place.rest.now place.style end.rest.now end.style counts (sum counts) (parts_in bytes found.rows.ends)) (sym counts)
          (subst (λ (parts : List (List ℕ)). Walked text place.rest.now place.style end.rest.now end.style [] 0 parts) (sym none)
          (Walked-start text place.rest.now place.style end.rest.now end.style c.start_of-place.ensures.rest c.start_of-place.ensures.style c.in-Some.ensures.cell));
      gathered = Gathered-start bytes found.rows.ends nothing ends;
      kept = ([], sym all);
      row = omega (arith, ap sum counts, begun, ap (λ (ends : List CellEnd). length ends) ends);
      whole = subst IsWhole c.start_of-place.ensures.rest;
      closes = c.in-Some.ensures.whole;
      passes = c.in-Some.ensures.passes;
      plain = λ _. c.start_of-place.ensures.style;
    }

pub push_cell-requires-clause-plain : goal.push_cell-requires-clause-plain
push_cell-requires-clause-plain c = λ both.
    let plain = and_parts c.loop-end.begins_plain c.is_plain-ends_plain.result both in
    (c.loop-end.invariant.plain plain.0, c.is_plain-ends_plain.ensures.0 plain.1)

pub push_cell-requires-clause-measured : goal.push_cell-requires-clause-measured
push_cell-requires-clause-measured c =
    takes-columns c.args.text.now c.loop-end.place.rest.now c.loop-end.place.style c.loop-end.end.place.rest.now c.loop-end.end.place.style (gathered_to c.loop-end.found c.loop-end.place.rest.now)
    (record { walked = c.loop-end.invariant.walked; gathered = c.loop-end.invariant.gathered; row = c.loop-end.invariant.row })
    c.loop-end.end.size c.loop-end.end.printable c.loop-end.invariant.passes

pub push_cell-requires-clause-begins : goal.push_cell-requires-clause-begins
push_cell-requires-clause-begins c =
    begins-part c.args.text.now c.loop-end.place.rest.now c.loop-end.place.style c.loop-end.end.place.rest.now c.loop-end.end.place.style (gathered_to c.loop-end.found c.loop-end.place.rest.now)
    (record { walked = c.loop-end.invariant.walked; gathered = c.loop-end.invariant.gathered; row = c.loop-end.invariant.row })

pub behind_separator-requires : goal.behind_separator-requires
behind_separator-requires c =
    let place = c.loop-end.place in
    let end = c.loop-end.end.place in
    let some = some_of (length end.rest.now) (sym c.is_empty.ensures ∙ c.loop-end-test.true) in
    (some, separator-ascii c.args.text.now place.rest.now place.style end.rest.now end.style c.loop-end.found.rows.counts (sum c.loop-end.found.rows.counts) (parts_of (gathered_to c.loop-end.found place.rest.now)) c.loop-end.invariant.walked some)

pub returns-in-None-clause-whole : goal.returns-in-None-clause-whole
returns-in-None-clause-whole c =
    let place = c.loop-end.place in
    let end = c.loop-end.end.place in
    let some = some_of (length end.rest.now) (sym c.is_empty.ensures ∙ c.loop-end-test.true) in (
      λ found. absurd (cc found),
      λ whole. absurd (c.in-None.ensures.broken refl (whole-next c.args.text.now place.rest.now place.style end.rest.now end.style c.loop-end.found.rows.counts (sum c.loop-end.found.rows.counts) (parts_of (gathered_to c.loop-end.found place.rest.now)) c.loop-end.invariant.walked
          c.behind_separator.result.now some c.behind_separator.ensures whole)),
    )

pub loop-end-smaller : goal.loop-end-smaller
loop-end-smaller c =
    let place = c.loop-end.place in
    let end = c.loop-end.end.place in
    let some = some_of (length end.rest.now) (sym c.is_empty.ensures ∙ c.loop-end-test.true) in
    let fits = end-fits place.rest.now place.style end.rest.now end.style c.loop-end.invariant.walked.ends in
    let smaller : length c.behind_separator.result.now < length place.rest.now = omega (arith, ap length c.behind_separator.ensures, length-drop 1 end.rest.now, fits, some) in
    smaller

pub loop-end-preserved : goal.loop-end-preserved
loop-end-preserved c =
    let text = c.args.text.now in
    let place = c.loop-end.place in
    let end = c.loop-end.end.place in
    let old = gathered_to c.loop-end.found place.rest.now in
    let next = c.behind_separator.result.now in
    let pushed = c.push_cell.new.cells in
    let new = gathered_to pushed next in
    let is_next : next ≡ drop 1 end.rest.now = c.behind_separator.ensures in
    let adds : AddsCell old new (part_between place.rest.now place.style end.rest.now end.style) =
    subst (λ bytes. AddsCell old (gathered_to pushed bytes) (part_between place.rest.now place.style end.rest.now end.style)) (sym is_next) c.in_ok-push_cell.ensures.adds in
    let kept : KeptEndsWith pushed next = subst (λ bytes. KeptEndsWith pushed bytes) (sym is_next) c.in_ok-push_cell.ensures.kept in
    let next_end = c.in-Some-cell_end.end.place in
    let some = some_of (length end.rest.now) (sym c.is_empty.ensures ∙ c.loop-end-test.true) in
    let so_far : IsSoFar text place.rest.now place.style end.rest.now end.style old =
    record { walked = c.loop-end.invariant.walked; gathered = c.loop-end.invariant.gathered; row = c.loop-end.invariant.row } in
    let IsLater : Gathering → Type 0 = λ cells. IsSoFar text next end.style next_end.rest.now next_end.style (gathered_to cells next) × KeptEndsWith cells next in
    let later : IsLater c.if-begins_with_line_feed.found =
    elim c.if-begins_with_line_feed.branch [
      | then-begins_with_line_feed+in_ok-end_row w ↦
          subst IsLater (sym (w.found-is ∙ ap (ended_rows pushed) w.in_ok-end_row.ensures.ended)) (
            behind-feed text place.rest.now place.style end.rest.now end.style old so_far new adds next end.style next_end.rest.now next_end.style some is_next refl c.in-Some-cell_end.ensures.cell
                (sym c.begins_with_line_feed.ensures ∙ w.if-begins_with_line_feed.true),
            kept,
          )
      | else-begins_with_line_feed w ↦
          subst IsLater (sym w.found-is) (
            behind-tab text place.rest.now place.style end.rest.now end.style old so_far new adds next end.style next_end.rest.now next_end.style some is_next refl c.in-Some-cell_end.ensures.cell
                (sym c.begins_with_line_feed.ensures ∙ w.if-begins_with_line_feed.false),
            kept,
          )
    ] in
    record {
      walked = later.0.walked;
      gathered = later.0.gathered;
      kept = later.1;
      row = later.0.row;
      whole = λ is. c.loop-end.invariant.whole (c.loop-end.invariant.closes (whole-byte end.rest.now next some so_far.walked.ends.shows_text c.behind_separator.ensures is));
      closes = c.in-Some-cell_end.ensures.whole;
      passes = c.in-Some-cell_end.ensures.passes;
      plain = c.is_plain-ends_plain.ensures.0;
    }

pub end_last_row-requires-clause-measured : goal.end_last_row-requires-clause-measured
end_last_row-requires-clause-measured c =
    takes-columns c.args.text.now c.loop-end.place.rest.now c.loop-end.place.style c.loop-end.end.place.rest.now c.loop-end.end.place.style (gathered_to c.loop-end.found c.loop-end.place.rest.now)
    (record { walked = c.loop-end.invariant.walked; gathered = c.loop-end.invariant.gathered; row = c.loop-end.invariant.row })
    c.loop-end.end.size c.loop-end.end.printable c.loop-end.invariant.passes

pub end_last_row-requires-clause-begins : goal.end_last_row-requires-clause-begins
end_last_row-requires-clause-begins c =
    begins-part c.args.text.now c.loop-end.place.rest.now c.loop-end.place.style c.loop-end.end.place.rest.now c.loop-end.end.place.style (gathered_to c.loop-end.found c.loop-end.place.rest.now)
    (record { walked = c.loop-end.invariant.walked; gathered = c.loop-end.invariant.gathered; row = c.loop-end.invariant.row })

pub end_last_row-requires-clause-kept : goal.end_last_row-requires-clause-kept
end_last_row-requires-clause-kept c = c.loop-end.invariant.kept

-- no sequence was broken up to the end
whole-text : (c : goal.In_ok-end_last_row) → IsWhole c.args.text.now
whole-text c =
    c.loop-end.invariant.whole (c.loop-end.invariant.closes (whole-nothing c.loop-end.end.place.rest.now (eqb-true (length c.loop-end.end.place.rest.now) 0 (sym c.is_empty.ensures ∙ c.loop-end-test.false))))

all : (c : goal.In_ok-end_last_row) → IsAll c.args.text.now (all_gathered c.end_last_row.new.cells)
all c =
    let place = c.loop-end.place in
    let end = c.loop-end.end.place in
    let gone = eqb-true (length end.rest.now) 0 (sym c.is_empty.ensures ∙ c.loop-end-test.false) in
    all-or-none c.args.text.now place.rest.now place.style end.rest.now end.style (gathered_to c.loop-end.found place.rest.now)
    (record { walked = c.loop-end.invariant.walked; gathered = c.loop-end.invariant.gathered; row = c.loop-end.invariant.row })
    (whole-text c) gone (all_gathered c.end_last_row.new.cells) c.in_ok-end_last_row.ensures.shown c.in_ok-end_last_row.ensures.left_out

pub returns-clause-whole : goal.returns-clause-whole
returns-clause-whole c = (λ _. whole-text c, λ _. refl)

pub returns-clause-fit : goal.returns-clause-fit
returns-clause-fit c = λ _. (all c).gathered.fit

pub returns-clause-ended : goal.returns-clause-ended
returns-clause-ended c = λ _. (all c).ended

pub returns-clause-cells : goal.returns-clause-cells
returns-clause-cells c = λ _.
    let found = c.end_last_row.new.cells in
    ap (split_by_lengths found.rows.counts) (all c).gathered.lines
    ∙ split_by_lengths-map part_line found.rows.counts (parts_of (all_gathered found))
    ∙ ap (map (map part_line)) (all c).rows

pub push_cell-requires-clause-kept : goal.push_cell-requires-clause-kept
push_cell-requires-clause-kept c = c.loop-end.invariant.kept

pub push_cell-requires-clause-parted : goal.push_cell-requires-clause-parted
push_cell-requires-clause-parted c =
    let place = c.loop-end.place in
    let end = c.loop-end.end.place in
    let some = some_of (length end.rest.now) (sym c.is_empty.ensures ∙ c.loop-end-test.true) in
    (some, separator-ascii c.args.text.now place.rest.now place.style end.rest.now end.style c.loop-end.found.rows.counts (sum c.loop-end.found.rows.counts) (parts_of (gathered_to c.loop-end.found place.rest.now)) c.loop-end.invariant.walked some)
