-- What the walk over the cells of a styled text knows, and how a cell changes it.
use Rattle.std.proofs.Common.{◌≡◌, ℕ, ◌+◌, ◌-◌, ◌<◌, ◌≤◌, ◌==◌, ◌&&◌, Bool, true, false, not, cond, List, [], ◌∷◌, ◌++◌, length, sum, take, drop, refl, ap, sym, ◌∙◌, arith, append_assoc, length-append, length-drop, eqb-true, eq-eqb, append-nil, if◌then◌else◌}
use Rattle.std.specs.Prelude.{slice_index}
use Rattle.std.specs.List.{prefix_len}
use Rattle.std.proofs.lemmas.Bool.Decides.{nat_tests}
use Rattle.std.proofs.lemmas.List.{drop-append-le, drop_all}
use Rattle.std.proofs.lemmas.List.Sums.{prefix_len-le-length}
use Rattle.ansi_scan.specs.Sequences.{Piece, joined, EachStands, IsWhole, is_not_escape}
use Rattle.ansi_scan.specs.Joining.{is_text_kind}
use Rattle.ansi_scan.specs.Pieces.{pieces, text_len}
use Rattle.ansi_scan.specs.Attributes.{Attributes, plain_attributes}
use Rattle.ansi_scan.specs.StartsAndEnds.{start_bytes, end_bytes}
use Rattle.ansi_scan.proofs.Existence.{ArePiecesOf-pieces}
use Rattle.ansi_scan.proofs.Uniqueness.{pieces-joined}
use Rattle.ansi_scan.proofs.Runs.{prefix_len-pass, prefix_len-drop_run}
use Rattle.ansi_str_search.specs.Text.StyledText.{strip, style_after_all}
use Rattle.ansi_str_search.specs.Parts.{from_place, before_place, through_place, split_part, dressed}
use Rattle.ansi_str_search.specs.Walking.{from_text, begins_with_escape}
use Rattle.ansi_str_search.proofs.Parts.{text_of-sequence}
use Rattle.ansi_str_search.proofs.PiecesAtPlaces.{EachStands-from, from-none, before-none, strip-from}
use Rattle.ansi_str_search.proofs.PlaceSums.{from-from, style-before_sum, style-through_split}
use Rattle.ansi_str_search.proofs.Rests.{rest_slice, slice_part}
use Rattle.ansi_str_search.proofs.Styles.{split_part-slice}
use Rattle.ansi_str_search.proofs.Walks.{from-plain, style-plain}
use Rattle.columns_run.specs.Rows.{line_feed, tab, stripped, cell_parts}
use Rattle.columns_run.specs.Ends.{is_cell_byte, cell_size, EndsCell}
use Rattle.columns_table.specs.Rows.{split_by_lengths}
use Rattle.columns_table.proofs.SplitByLengths.{split_by_lengths-append, split_by_lengths-more, sum-more}
use Rattle.columns_run.proofs.Ends.{shown_first, shown_none}
use Rattle.ansi_str_search.proofs.ByteParts.{from-text, style-text}
use Rattle.columns_run.proofs.Bounds.{cells_from, cells_from-pass, cells_from-start}
use Rattle.columns_run.proofs.Whole.{pieces-whole, whole-from}

-- ---- the sequences at a place are passed on the way after it

strip-text_or : (p : Piece) (ps : List Piece) (is_text : Bool) → is_text_kind p.kind ≡ is_text → strip (from_text ps) ≡ strip ps → strip (from_text (p ∷ ps)) ≡ strip (p ∷ ps)
strip-text_or p ps true e others = ap (λ t. strip (if t then p ∷ ps else from_text ps)) e
strip-text_or p ps false e others =
    ap (λ t. strip (if t then p ∷ ps else from_text ps)) e ∙ others ∙ ap (λ bytes. bytes ++ strip ps) (sym (text_of-sequence p e))

strip-text : (ps : List Piece) → strip (from_text ps) ≡ strip ps
strip-text [] = refl
strip-text (p ∷ ps) = strip-text_or p ps (is_text_kind p.kind) refl (strip-text ps)

-- ---- where a cell ends

module _ (rest : List ℕ) (style : Attributes) (end : List ℕ) (end_style : Attributes) (ends : EndsCell rest style end end_style) where
  abbrev n : ℕ
  n = cell_size rest

  abbrev cut_text : List ℕ
  cut_text = joined (from_place n (pieces rest))

  abbrev cut_style : Attributes
  cut_style = style_after_all style (before_place n (pieces rest))

  cut-stands : EachStands (from_place n (pieces rest))
  cut-stands = EachStands-from n (pieces rest) (ArePiecesOf-pieces rest).stand

  cut-read : pieces cut_text ≡ from_place n (pieces rest)
  cut-read = pieces-joined (from_place n (pieces rest)) cut-stands

  beyond : pieces end ≡ from_text (pieces cut_text)
  beyond = ends.there ∙ ap from_text (sym cut-read)

  opened : end_style ≡ style_after_all cut_style (through_place 0 (pieces cut_text))
  opened = ends.known ∙ style-through_split n style (pieces rest) ∙ ap (λ ps. style_after_all cut_style (through_place 0 ps)) (sym cut-read)

  pub cell-slice : rest ≡ joined (through_place n (pieces rest)) ++ end
  cell-slice = rest_slice rest style n cut_text cut_style cut-read refl end end_style beyond opened

  pub end-fits : length end ≤ length rest
  end-fits = omega (arith, ap length cell-slice, length-append (joined (through_place n (pieces rest))) end)

  -- what is shown after the cell
  end-shown : stripped end ≡ drop n (stripped rest)
  end-shown = ap strip ends.there ∙ strip-text (from_place n (pieces rest)) ∙ strip-from n (pieces rest)

  module _ (some : 0 < length end) where
    one-within : 1 ≤ text_len end
    one-within = by end some ends.shows_text
      where
        by : (end : List ℕ) → 0 < length end → begins_with_escape end ≡ false → 1 ≤ text_len end
        by [] some plain = absurd (omega arith)
        by (b ∷ bs) some plain = let one = prefix_len-pass is_not_escape b bs (ap not plain) in omega (arith, one)

    cell-there : pieces (drop 1 end) ≡ from_place (n + 1) (pieces rest)
    cell-there =
        sym (from-plain end 1 one-within) ∙ ap (from_place 1) ends.there ∙ from-text 1 (from_place n (pieces rest)) (omega arith) ∙ sym (from-from n 1 (pieces rest))

    cell-known : end_style ≡ style_after_all style (before_place (n + 1) (pieces rest))
    cell-known =
        ends.known ∙ style-through_split n style (pieces rest)
        ∙ sym (style-plain end 1 one-within (style_after_all cut_style (through_place 0 (from_place n (pieces rest)))))
        ∙ ap (λ ps. style_after_all (style_after_all cut_style (through_place 0 (from_place n (pieces rest)))) (before_place 1 ps)) ends.there
        ∙ sym (style-text 1 cut_style (from_place n (pieces rest)) cut-stands (omega arith))
        ∙ sym (style-before_sum n 1 style (pieces rest))

-- ---- a row that ends

ended-split : (counts : List ℕ) (before : ℕ) (pushed cells : List (List ℕ)) (cell : List ℕ) → pushed ≡ cells ++ cell ∷ [] → before ≡ sum counts → before ≤ length cells → sum counts + (length pushed - before) ≡ length pushed
    → split_by_lengths (counts ++ (length pushed - before) ∷ []) pushed ≡ split_by_lengths counts cells ++ (drop before cells ++ cell ∷ []) ∷ []
ended-split counts before pushed cells cell is counted fits all =
    let within : sum counts ≤ length cells = omega (arith, fits, counted) in
    split_by_lengths-more counts (length pushed - before) pushed all
    ∙ ap (λ found. split_by_lengths counts found ++ drop (sum counts) found ∷ []) is
    ∙ ap (λ rows. rows ++ drop (sum counts) (cells ++ cell ∷ []) ∷ []) (split_by_lengths-append counts cells (cell ∷ []) within)
    ∙ ap (λ row. split_by_lengths counts cells ++ row ∷ []) (drop-append-le (sum counts) cells (cell ∷ []) within ∙ ap (λ m. drop m cells ++ cell ∷ []) (sym counted))

-- ---- the state of the walk

-- the part of a text from one place of what it shows to another
abbrev pub part_at : List ℕ → ℕ → ℕ → List ℕ
part_at text a b = split_part a b (pieces text)

pub record Walked (text rest : List ℕ) (style : Attributes) (end : List ℕ) (end_style : Attributes) (counts : List ℕ) (before : ℕ) (cells : List (List ℕ)) : Type 0 where
  pub place : ℕ
  pub there : pieces rest ≡ from_place place (pieces text)
  pub known : style ≡ style_after_all plain_attributes (before_place place (pieces text))
  pub ends : EndsCell rest style end end_style
  pub counted : before ≡ sum counts
  pub fits : before ≤ length cells
  pub rows : IsWhole text → split_by_lengths counts cells ++ cells_from (part_at text) (drop before cells) place place (stripped rest) ≡ cell_parts text

pub Walked-start : (text rest : List ℕ) (style : Attributes) (end : List ℕ) (end_style : Attributes) → rest ≡ text → style ≡ plain_attributes → EndsCell rest style end end_style
    → Walked text rest style end end_style [] 0 []
Walked-start text rest style end end_style is_rest is_style ends = record {
  place = 0;
  there = ap pieces is_rest ∙ sym (from-none (pieces text));
  known = is_style ∙ ap (style_after_all plain_attributes) (sym (before-none (pieces text)));
  ends = ends;
  counted = refl;
  fits = omega arith;
  rows = λ whole. ap (λ bytes. cells_from (part_at text) [] 0 0 (stripped bytes)) is_rest ∙ cells_from-start text (pieces-whole text whole);
}

module _ (text rest : List ℕ) (style : Attributes) (end : List ℕ) (end_style : Attributes) (counts : List ℕ) (before : ℕ) (cells : List (List ℕ)) (walked : Walked text rest style end end_style counts before cells) where
  abbrev size : ℕ
  size = cell_size rest

  abbrev cell : List ℕ
  cell = part_at text walked.place (walked.place + size)

  -- the part from here to the end is the cell
  pub walked-part : start_bytes style ++ (take (length rest - length end) rest ++ end_bytes end_style) ≡ cell
  walked-part =
      let up : walked.place ≤ walked.place + size = omega arith in
      let same : size ≡ walked.place + size - walked.place = omega arith in
      slice_part rest style size (cut_text rest style end end_style walked.ends) (cut_style rest style end end_style walked.ends) (cut-read rest style end end_style walked.ends) refl end end_style (beyond rest style end end_style walked.ends) (opened rest style end end_style walked.ends)
      ∙ ap (λ s. dressed s (through_place size (pieces rest))) walked.known
      ∙ ap (λ ps. dressed (style_after_all plain_attributes (before_place walked.place (pieces text))) (through_place size ps)) walked.there
      ∙ ap (λ m. dressed (style_after_all plain_attributes (before_place walked.place (pieces text))) (through_place m (from_place walked.place (pieces text)))) same
      ∙ sym (split_part-slice walked.place (walked.place + size) (pieces text) up)

  -- the rows to come, by what is shown after the cell
  ahead : cells_from (part_at text) (drop before cells) walked.place walked.place (stripped rest) ≡ cells_from (part_at text) (drop before cells) walked.place (walked.place + size) (stripped end)
  ahead =
      cells_from-pass (part_at text) (drop before cells) walked.place walked.place (stripped rest)
      ∙ ap (cells_from (part_at text) (drop before cells) walked.place (walked.place + size)) (sym (end-shown rest style end end_style walked.ends))

  stop : prefix_len is_cell_byte (stripped end) ≡ 0
  stop = ap (prefix_len is_cell_byte) (end-shown rest style end end_style walked.ends) ∙ prefix_len-drop_run is_cell_byte (stripped rest)

  -- the byte that is at the end, and what is shown after it
  end-byte : (end' : List ℕ) → end ≡ end' → 0 < length end' → stripped end ≡ slice_index end' 0 ∷ stripped (drop 1 end')
  end-byte [] same some = absurd (omega arith)
  end-byte (b ∷ bs) same some = ap stripped same ∙ shown_first b bs (ap begins_with_escape (sym same) ∙ walked.ends.shows_text)

  separator : (some : 0 < length end) → is_cell_byte (slice_index end 0) ≡ false
  separator some = by (is_cell_byte (slice_index end 0)) refl
    where
      by : (test : Bool) → is_cell_byte (slice_index end 0) ≡ test → is_cell_byte (slice_index end 0) ≡ false
      by false e = e
      by true e =
          let one = prefix_len-pass is_cell_byte (slice_index end 0) (stripped (drop 1 end)) e in
          let none = ap (prefix_len is_cell_byte) (sym (end-byte end refl some)) ∙ stop in
          absurd (omega (arith, one, none))

  pub separator-ascii : 0 < length end → slice_index end 0 < 128
  separator-ascii some = by (slice_index end 0 == tab) refl (slice_index end 0 == line_feed) refl
    where
      by : (is_tab : Bool) → (slice_index end 0 == tab) ≡ is_tab → (is_feed : Bool) → (slice_index end 0 == line_feed) ≡ is_feed → slice_index end 0 < 128
      by true e is_feed f = let same = eqb-true (slice_index end 0) tab e in omega (arith, same)
      by false e true f = let same = eqb-true (slice_index end 0) line_feed f in omega (arith, same)
      by false e false f =
          let both : true ≡ false = sym (ap (λ t. not t && not (slice_index end 0 == line_feed)) e ∙ ap not f) ∙ separator some in
          cc both

  is-tab : 0 < length end → (slice_index end 0 == line_feed) ≡ false → (slice_index end 0 == tab) ≡ true
  is-tab some other = by (slice_index end 0 == tab) refl
    where
      by : (is_tab : Bool) → (slice_index end 0 == tab) ≡ is_tab → (slice_index end 0 == tab) ≡ true
      by true e = e
      by false e =
          let both : true ≡ false = sym (ap (λ t. not t && not (slice_index end 0 == line_feed)) e ∙ ap not other) ∙ separator some in
          cc both

  -- of a whole text, what comes after the byte at the end is whole
  pub whole-next : (next : List ℕ) → 0 < length end → next ≡ drop 1 end → IsWhole text → IsWhole next
  whole-next next some is_next whole =
      whole-from rest next (size + 1) (ap pieces is_next ∙ cell-there rest style end end_style walked.ends some) (whole-from text rest walked.place walked.there whole)

  module _ (next : List ℕ) (next_style : Attributes) (next_end : List ℕ) (next_end_style : Attributes) (some : 0 < length end) (is_next : next ≡ drop 1 end) (is_style : next_style ≡ end_style) (next_ends : EndsCell next next_style next_end next_end_style) where
    next-there : pieces next ≡ from_place (walked.place + size + 1) (pieces text)
    next-there =
        let sum : walked.place + (size + 1) ≡ walked.place + size + 1 = omega arith in
        ap pieces is_next ∙ cell-there rest style end end_style walked.ends some ∙ ap (from_place (size + 1)) walked.there
        ∙ sym (from-from walked.place (size + 1) (pieces text)) ∙ ap (λ m. from_place m (pieces text)) sum

    next-known : next_style ≡ style_after_all plain_attributes (before_place (walked.place + size + 1) (pieces text))
    next-known =
        let sum : walked.place + (size + 1) ≡ walked.place + size + 1 = omega arith in
        is_style ∙ cell-known rest style end end_style walked.ends some
        ∙ ap (λ s. style_after_all s (before_place (size + 1) (pieces rest))) walked.known
        ∙ ap (λ ps. style_after_all (style_after_all plain_attributes (before_place walked.place (pieces text))) (before_place (size + 1) ps)) walked.there
        ∙ sym (style-before_sum walked.place (size + 1) plain_attributes (pieces text))
        ∙ ap (λ m. style_after_all plain_attributes (before_place m (pieces text))) sum

    left : stripped end ≡ slice_index end 0 ∷ stripped next
    left = end-byte end refl some ∙ ap (λ bytes. slice_index end 0 ∷ stripped bytes) (sym is_next)

    abbrev at_next : List (List ℕ) → List (List (List ℕ))
    at_next row = cells_from (part_at text) row (walked.place + size + 1) (walked.place + size + 1) (stripped next)

    -- a cell that a tab ends
    pub Walked-tab : (pushed : List (List ℕ)) → pushed ≡ cells ++ cell ∷ [] → (slice_index end 0 == line_feed) ≡ false → Walked text next next_style next_end next_end_style counts before pushed
    Walked-tab pushed is other =
        let fits = walked.fits in
        let counted = walked.counted in
        let within : sum counts ≤ length cells = omega (arith, fits, counted) in
        record {
          place = walked.place + size + 1;
          there = next-there;
          known = next-known;
          ends = next_ends;
          counted = walked.counted;
          fits = omega (arith, fits, ap length is, length-append cells (cell ∷ []));
          rows = λ whole.
              ap (λ found. split_by_lengths counts found ++ at_next (drop before found)) is
              ∙ ap (λ rows. rows ++ at_next (drop before (cells ++ cell ∷ []))) (split_by_lengths-append counts cells (cell ∷ []) within)
              ∙ ap (λ row. split_by_lengths counts cells ++ at_next row) (drop-append-le before cells (cell ∷ []) fits)
              ∙ ap (λ rows. split_by_lengths counts cells ++ rows) (
              ap (λ t. cond t (at_next (drop before cells ++ cell ∷ [])) (cells_from (part_at text) (drop before cells) walked.place (walked.place + size + 1) (stripped next))) (sym (is-tab some other))
              ∙ ap (λ t. cond t ((drop before cells ++ cell ∷ []) ∷ at_next []) (cond (slice_index end 0 == tab) (at_next (drop before cells ++ cell ∷ [])) (cells_from (part_at text) (drop before cells) walked.place (walked.place + size + 1) (stripped next)))) (sym other)
              ∙ ap (cells_from (part_at text) (drop before cells) walked.place (walked.place + size)) (sym left)
              ∙ sym ahead)
              ∙ walked.rows whole;
        }

    -- a cell that a line feed ends
    pub Walked-feed : (pushed : List (List ℕ)) (ended : List ℕ) → pushed ≡ cells ++ cell ∷ [] → (slice_index end 0 == line_feed) ≡ true → ended ≡ counts ++ (length pushed - before) ∷ []
        → Walked text next next_style next_end next_end_style ended (length pushed) pushed
    Walked-feed pushed ended is same ends =
        let fits = walked.fits in
        let counted = walked.counted in
        let longer : length pushed ≡ length cells + 1 = omega (arith, ap length is, length-append cells (cell ∷ [])) in
        let within : sum counts ≤ length cells = omega (arith, fits, counted) in
        let all : sum counts + (length pushed - before) ≡ length pushed = omega (arith, fits, counted, longer) in
        let none : length pushed ≤ length pushed = omega arith in
        record {
          place = walked.place + size + 1;
          there = next-there;
          known = next-known;
          ends = next_ends;
          counted = (let total : length pushed ≡ sum ended = omega (arith, ap sum ends, sum-more counts (length pushed - before), all) in total);
          fits = none;
          rows = λ whole.
              ap (λ row. split_by_lengths ended pushed ++ at_next row) (drop_all (length pushed) pushed none)
              ∙ ap (λ found. split_by_lengths found pushed ++ at_next []) ends
              ∙ ap (λ rows. rows ++ at_next []) (ended-split counts before pushed cells cell is walked.counted fits all)
              ∙ append_assoc (split_by_lengths counts cells) ((drop before cells ++ cell ∷ []) ∷ []) (at_next [])
              ∙ ap (λ rows. split_by_lengths counts cells ++ rows) (
              ap (λ t. cond t ((drop before cells ++ cell ∷ []) ∷ at_next []) (cond (slice_index end 0 == tab) (at_next (drop before cells ++ cell ∷ [])) (cells_from (part_at text) (drop before cells) walked.place (walked.place + size + 1) (stripped next)))) (sym same)
              ∙ ap (cells_from (part_at text) (drop before cells) walked.place (walked.place + size)) (sym left)
              ∙ sym ahead)
              ∙ walked.rows whole;
        }

  -- ---- the end of the text

  module _ (gone : length end ≡ 0) where
    none-left : stripped end ≡ []
    none-left = by end gone
      where
        by : (end : List ℕ) → length end ≡ 0 → stripped end ≡ []
        by [] gone = shown_none
        by (b ∷ bs) gone = absurd (omega arith)

    size-all : length (stripped rest) ≤ size
    size-all = omega (arith, ap length (sym (end-shown rest style end end_style walked.ends) ∙ none-left), length-drop size (stripped rest))

    size-within : size ≤ length (stripped rest)
    size-within = prefix_len-le-length is_cell_byte (stripped rest)

    last-rows : IsWhole text → (empty : Bool) → (length (drop before cells) + (walked.place + size - walked.place) == 0) ≡ empty → split_by_lengths counts cells ++ (if empty then [] else (drop before cells ++ cell ∷ []) ∷ []) ≡ cell_parts text
    last-rows whole empty e =
        ap (λ t. split_by_lengths counts cells ++ (if t then [] else (drop before cells ++ cell ∷ []) ∷ [])) (sym e)
        ∙ ap (λ bytes. split_by_lengths counts cells ++ cells_from (part_at text) (drop before cells) walked.place (walked.place + size) bytes) (sym none-left)
        ∙ ap (λ rows. split_by_lengths counts cells ++ rows) (sym ahead)
        ∙ walked.rows whole

    pub Walked-last : IsWhole text → (pushed : List (List ℕ)) (ended : List ℕ) → pushed ≡ cells ++ cell ∷ [] → ended ≡ counts ++ (length pushed - before) ∷ [] → 0 < length cells - before + length (stripped rest)
        → (sum ended ≡ length pushed) × (split_by_lengths ended pushed ≡ cell_parts text)
    Walked-last text_whole pushed ended is ends some =
        let fits = walked.fits in
        let counted = walked.counted in
        let all = size-all in
        let longer : length pushed ≡ length cells + 1 = omega (arith, ap length is, length-append cells (cell ∷ [])) in
        let total : sum counts + (length pushed - before) ≡ length pushed = omega (arith, fits, counted, longer) in
        let more : 0 < length (drop before cells) + (walked.place + size - walked.place) = omega (arith, length-drop before cells, all, some) in
        let test : (length (drop before cells) + (walked.place + size - walked.place) == 0) ≡ false = grind (arith, nat_tests) in (
          (let whole : sum ended ≡ length pushed = omega (arith, ap sum ends, sum-more counts (length pushed - before), total) in whole),
          ap (λ found. split_by_lengths found pushed) ends ∙ ended-split counts before pushed cells cell is walked.counted fits total ∙ last-rows text_whole false test,
        )

    pub Walked-none : IsWhole text → length cells ≤ before → length (stripped rest) ≡ 0 → (sum counts ≡ length cells) × (split_by_lengths counts cells ≡ cell_parts text)
    Walked-none text_whole full none =
        let fits = walked.fits in
        let counted = walked.counted in
        let within = size-within in
        let no_more : length (drop before cells) + (walked.place + size - walked.place) ≡ 0 = omega (arith, length-drop before cells, within, none, full) in
        let test : (length (drop before cells) + (walked.place + size - walked.place) == 0) ≡ true = eq-eqb (length (drop before cells) + (walked.place + size - walked.place)) 0 no_more in (
          (let whole : sum counts ≡ length cells = omega (arith, fits, counted, full) in whole),
          sym (append-nil (split_by_lengths counts cells)) ∙ last-rows text_whole true test,
        )
