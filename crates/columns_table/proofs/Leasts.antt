-- Where each cell takes one column and one row, a column is as wide as its widest cell needs; and where each is one line, all rows are as high.
use Rattle.std.proofs.Common.{◌≡◌, ◌==◌, ◌&&◌, ℕ, zero, suc, ◌+◌, ◌-◌, ◌<◌, ◌≤◌, All, Bool, true, false, if◌then◌else◌, List, [], ◌∷◌, ◌++◌, map, length, sum, take, drop, replicate, get_or, refl, ap, sym, ◌∙◌, arith}
use Rattle.std.specs.List.{filter, flat_map, fold, range_with_len}
use Rattle.std.proofs.lemmas.Bool.Decides.{nat_tests}
use Rattle.std.proofs.Math.Seq.{take-append_seam}
use Rattle.std.proofs.lemmas.List.{get_or-map, length-map}
use Rattle.std.proofs.lemmas.List.Elements.{All-drop, All-take}
use Rattle.std.proofs.lemmas.Simd.{map-map}
use Rattle.ansi_scan.specs.Pieces.{pieces}
use Rattle.ansi_scan.proofs.Existence.{ArePiecesOf-pieces}
use Rattle.grid_config.specs.Compact.{Compact}
use Rattle.grid_config_values.specs.Spans.Spans.{extent_at}
use Rattle.grid_records_estimate.specs.Estimates.{TrackNeeds, greatest, least_size, length_at, meet, need_at, needs_at, needs_of_length, spanning_needs, track_sizes}
use Rattle.grid_records_estimate.specs.Sizes.{table_heights, table_widths}
use Rattle.grid_records_estimate.specs.Sizing.{column_needs, compact_sizing, position_at, row_needs}
use Rattle.grid_records_measure.specs.TextLines.{text_height, text_width}
use Rattle.grid_records_traits.specs.Rows.{evened, evened_row, text_at}
use Rattle.columns_asked.specs.DrawnTables.{heights_of, longest_row_length, widths_of}
use Rattle.columns_asked.proofs.Narrows.{map-below}
use Rattle.columns_table.specs.Least.{padded, width_in}
use Rattle.columns_table.specs.Records.{IsSingleLineCell}
use Rattle.columns_table.specs.Rows.{cell_texts, split_by_lengths}
use Rattle.columns_table.specs.declared.cells.LineCell.{LineCell}
use Rattle.columns_table.proofs.ResizedRows.{width-is}
use Rattle.columns_table.proofs.Records.{empty_single_line, get_or-evened_row}
use Rattle.columns_table.proofs.SplitRows.{columns-split}

-- ---- tracks that nothing spans

nothing-from : {X : Type 0} (f : ℕ → List X) (a n : ℕ) → ((k : ℕ) → a ≤ k → f k ≡ []) → flat_map f (range_with_len a n) ≡ []
nothing-from f a zero h = refl
nothing-from f a (suc n) h = ap (λ xs. xs ++ flat_map f (range_with_len (a + 1) n)) (h a (omega arith)) ∙ nothing-from f (a + 1) n (λ k low. h k (omega (arith, low)))

sized : {N : Type 0} (size : N → ℕ) (make : ℕ → N) (p : ℕ → Bool) (cross_tracks : List ℕ) → filter p cross_tracks ≡ cross_tracks
    → greatest (map size (map make (filter p cross_tracks))) ≡ greatest (map (λ c. size (make c)) cross_tracks)
sized size make p cross_tracks all = ap (λ cs. greatest (map size (map make cs))) all ∙ ap greatest (map-map size make cross_tracks)

module _ (table : TrackNeeds) (seen : (track cross_track : ℕ) → table.is_visible track cross_track ≡ true) (single : (track cross_track : ℕ) → table.span track cross_track ≡ 1) where
  none-longer : (n track : ℕ) → 2 ≤ n → (cross_tracks : List ℕ) → filter (λ c. table.is_visible track c && length_at table track c == n) cross_tracks ≡ []
  none-longer n track long [] = refl
  none-longer n track long (c ∷ cs) =
      let one = single track c in
      let low : length_at table track c ≤ 1 = omega (arith, one) in
      let off : (length_at table track c == n) ≡ false = grind (arith, nat_tests, low, long) in
      rw (seen track c, off) (none-longer n track long cs)

  none-spanning : spanning_needs table ≡ []
  none-spanning =
      nothing-from (needs_of_length table) 2 (table.tracks - 1)
      (λ n long. nothing-from (needs_at table n) 0 table.tracks (λ track _. ap (map (need_at table track)) (none-longer n track long (range_with_len 0 table.cross_tracks))))

  all-single : (track : ℕ) → track < table.tracks → (cross_tracks : List ℕ) → filter (λ c. table.is_visible track c && length_at table track c == 1) cross_tracks ≡ cross_tracks
  all-single track below [] = refl
  all-single track below (c ∷ cs) =
      let one = single track c in
      let whole : length_at table track c ≡ 1 = omega (arith, one, below) in
      let on : (length_at table track c == 1) ≡ true = grind (arith, nat_tests, whole) in
      rw (seen track c, on) (ap (λ xs. c ∷ xs) (all-single track below cs))

  least-single : (track : ℕ) → track < table.tracks → least_size table track ≡ greatest (map (table.need track) (range_with_len 0 table.cross_tracks))
  least-single track below =
      sized _ (need_at table track) _ (range_with_len 0 table.cross_tracks) (all-single track below (range_with_len 0 table.cross_tracks))

  pub single-sizes : 0 < table.cross_tracks → track_sizes table ≡ map (λ track. greatest (map (table.need track) (range_with_len 0 table.cross_tracks))) (range_with_len 0 table.tracks)
  unfolding track_sizes
  single-sizes some =
      let crossed : (table.cross_tracks == 0) ≡ false = grind (arith, nat_tests, some) in
      let start : List ℕ = map (least_size table) (range_with_len 0 table.tracks) in
      ap (λ b. if b then [] else fold (meet table.has_boundary) start (spanning_needs table)) crossed
      ∙ ap (fold (meet table.has_boundary) start) none-spanning
      ∙ map-below (least_size table) (λ track. greatest (map (table.need track) (range_with_len 0 table.cross_tracks))) 0 table.tracks (λ k low high. least-single k (omega (arith, high)))

-- ---- the greatest of numbers

pub map-from : {A B : Type 0} (h : ℕ → B) (f : A → B) (d : A) (xs : List A) (a : ℕ) → ((k : ℕ) → k < length xs → h (a + k) ≡ f (get_or xs k d)) → map h (range_with_len a (length xs)) ≡ map f xs
map-from h f d [] a each = refl
map-from h f d (x ∷ xs) a each =
    let here : a + 0 ≡ a = omega arith in
    ap (λ y. y ∷ map h (range_with_len (a + 1) (length xs))) (ap h (sym here) ∙ each 0 (omega arith))
    ∙ ap (λ ys. f x ∷ ys) (map-from h f d xs (a + 1) (λ k below. let step : a + 1 + k ≡ a + suc k = omega arith in ap h step ∙ each (suc k) (omega (arith, below))))

greatest-more : {A : Type 0} (w : A → ℕ) (p : ℕ) (x : A) (xs : List A) → greatest (map (λ a. w a + p) (x ∷ xs)) ≡ greatest (map w (x ∷ xs)) + p
greatest-more w p x [] = omega arith
greatest-more w p x (y ∷ ys) = let rest = greatest-more w p y ys in omega (arith, rest)

greatest-padded : {A : Type 0} (w : A → ℕ) (before behind : ℕ) (xs : List A) → 0 < length xs → greatest (map (λ a. padded before behind (w a)) xs) ≡ padded before behind (greatest (map w xs))
greatest-padded w before behind [] some = absurd (omega arith)
greatest-padded w before behind (x ∷ xs) some = greatest-more (λ a. w a + before) behind x xs ∙ ap (λ n. n + behind) (greatest-more w before x xs)

greatest-same : (f : ℕ → ℕ) (h a n : ℕ) → 0 < n → ((k : ℕ) → a ≤ k → k < a + n → f k ≡ h) → greatest (map f (range_with_len a n)) ≡ h
greatest-same f h a zero some each = absurd (omega arith)
greatest-same f h a (suc zero) some each = let here = each a (omega arith) (omega arith) in omega (arith, here)
greatest-same f h a (suc (suc n)) some each =
    let here = each a (omega arith) (omega arith) in
    let rest = greatest-same f h (a + 1) (suc n) (omega arith) (λ k low high. each k (omega (arith, low)) (omega (arith, high))) in
    omega (arith, here, rest)

-- ---- cells by their places

none_at : (k : ℕ) → get_or {A = List ℕ} [] k [] ≡ []
none_at zero = refl
none_at (suc k) = refl

height-is : (cell : LineCell) → IsSingleLineCell cell → text_height cell.text.now ≡ 1
unfolding text_height
height-is cell measured = sym (measured.0 (pieces cell.text.now) (ArePiecesOf-pieces cell.text.now))

no-height : text_height [] ≡ 1
unfolding text_height
no-height = sym (empty_single_line.0 (pieces []) (ArePiecesOf-pieces []))

no-width : 0 ≡ text_width []
unfolding text_width
no-width = empty_single_line.1 (pieces []) (ArePiecesOf-pieces [])

height-in : (row : List LineCell) (k : ℕ) → All IsSingleLineCell row → text_height (get_or (cell_texts row) k []) ≡ 1
height-in [] k all = ap text_height (none_at k) ∙ no-height
height-in (cell ∷ row) zero all = height-is cell (all 0 cell (omega arith))
height-in (cell ∷ row) (suc k) all = height-in row k (λ i d below. all (suc i) d (omega (arith, below)))

width-in : (row : List LineCell) (k : ℕ) → All IsSingleLineCell row → width_in k row ≡ text_width (get_or (cell_texts row) k [])
width-in [] zero all = no-width
width-in [] (suc k) all = no-width
width-in (cell ∷ row) zero all = width-is cell (all 0 cell (omega arith))
width-in (cell ∷ row) (suc k) all = width-in row k (λ i d below. all (suc i) d (omega (arith, below)))

rows-measured : (counts : List ℕ) (cells : List LineCell) → All IsSingleLineCell cells → (i : ℕ) (d : List LineCell) → i < length (split_by_lengths counts cells) → All IsSingleLineCell (get_or (split_by_lengths counts cells) i d)
rows-measured [] cells all i d below = absurd (omega (arith, below))
rows-measured (n ∷ ns) cells all zero d below = All-take IsSingleLineCell n cells all
rows-measured (n ∷ ns) cells all (suc i) d below = rows-measured ns (drop n cells) (All-drop IsSingleLineCell n cells all) i d (omega (arith, below))

count-split : {X : Type 0} (counts : List ℕ) (xs : List X) → length (split_by_lengths counts xs) ≡ length counts
count-split [] xs = refl
count-split (n ∷ ns) xs = ap suc (count-split ns (drop n xs))

-- ---- the sizes of a table of measured cells

module _ (style : Compact) (counts : List ℕ) (cells : List LineCell) (measured : All IsSingleLineCell cells) where
  abbrev pub texts : List (List (List ℕ))
  texts = map cell_texts (split_by_lengths counts cells)

  abbrev columns : ℕ
  columns = longest_row_length texts

  -- the text at a place is that of its row
  text-of-row : (i j : ℕ) → i < length (split_by_lengths counts cells) → j < columns → text_at (evened columns texts) (position_at i j) ≡ get_or (cell_texts (get_or (split_by_lengths counts cells) i [])) j []
  text-of-row i j inside below =
      let within : i < length texts = omega (arith, inside, length-map (split_by_lengths counts cells) cell_texts) in
      ap (λ row. get_or row j []) (get_or-map (evened_row columns) texts i [] [] within)
      ∙ get_or-evened_row columns (get_or texts i []) j below
      ∙ ap (λ row. get_or row j []) (get_or-map cell_texts (split_by_lengths counts cells) i [] [] inside)

  rows-are : length (evened columns texts) ≡ length (split_by_lengths counts cells)
  rows-are = length-map texts (evened_row columns) ∙ length-map (split_by_lengths counts cells) cell_texts

  visible : (i j : ℕ) → (column_needs (compact_sizing style) columns (evened columns texts)).is_visible j i ≡ true
  visible i j = refl

  one-column : (i j : ℕ) → (column_needs (compact_sizing style) columns (evened columns texts)).span j i ≡ 1
  unfolding extent_at
  one-column i j = refl

  one-row : (i j : ℕ) → (row_needs (compact_sizing style) columns (evened columns texts)).span i j ≡ 1
  unfolding extent_at
  one-row i j = refl

  width-of : (j : ℕ) → j < columns → 0 < length counts
      → greatest (map ((column_needs (compact_sizing style) columns (evened columns texts)).need j) (range_with_len 0 (length (evened columns texts))))
      ≡ padded style.padding.left.size style.padding.right.size (greatest (map (width_in j) (split_by_lengths counts cells)))
  width-of j below some =
      let need : ℕ → ℕ = (column_needs (compact_sizing style) columns (evened columns texts)).need j in
      let rows : 0 < length (split_by_lengths counts cells) = omega (arith, some, count-split counts cells) in
      ap (λ n. greatest (map need (range_with_len 0 n))) rows-are
      ∙ ap greatest (map-from need (λ row. padded style.padding.left.size style.padding.right.size (width_in j row)) [] (split_by_lengths counts cells) 0
      (λ i inside.
      let here : 0 + i ≡ i = omega arith in
      ap need here
      ∙ ap (λ n. padded style.padding.left.size style.padding.right.size n)
      (ap text_width (text-of-row i j inside below) ∙ sym (width-in (get_or (split_by_lengths counts cells) i []) j (rows-measured counts cells measured i [] inside)))))
      ∙ greatest-padded (width_in j) style.padding.left.size style.padding.right.size (split_by_lengths counts cells) rows

  pub widths-are : 0 < length counts
      → widths_of style texts ≡ map (λ j. padded style.padding.left.size style.padding.right.size (greatest (map (width_in j) (split_by_lengths counts cells)))) (range_with_len 0 columns)
  unfolding table_widths
  widths-are some =
      let rows : 0 < length (evened columns texts) = omega (arith, some, rows-are, count-split counts cells) in
      single-sizes (column_needs (compact_sizing style) columns (evened columns texts)) (λ j i. visible i j) (λ j i. one-column i j) rows
      ∙ map-below _ (λ j. padded style.padding.left.size style.padding.right.size (greatest (map (width_in j) (split_by_lengths counts cells)))) 0 columns (λ j low high. width-of j (omega (arith, high)) some)

  height-of : (i : ℕ) → i < length (split_by_lengths counts cells) → 0 < columns
      → greatest (map ((row_needs (compact_sizing style) columns (evened columns texts)).need i) (range_with_len 0 columns)) ≡ padded style.padding.top.size style.padding.bottom.size 1
  height-of i inside some =
      greatest-same ((row_needs (compact_sizing style) columns (evened columns texts)).need i) (padded style.padding.top.size style.padding.bottom.size 1) 0 columns some
      (λ j low high.
      ap (λ n. padded style.padding.top.size style.padding.bottom.size n)
      (ap text_height (text-of-row i j inside (omega (arith, high))) ∙ height-in (get_or (split_by_lengths counts cells) i []) j (rows-measured counts cells measured i [] inside)))

  same-each : {X : Type 0} (f : ℕ → X) (x : X) (a n : ℕ) → ((k : ℕ) → a ≤ k → k < a + n → f k ≡ x) → map f (range_with_len a n) ≡ replicate n x
  same-each f x a zero each = refl
  same-each f x a (suc n) each =
      ap (λ y. y ∷ map f (range_with_len (a + 1) n)) (each a (omega arith) (omega arith))
      ∙ ap (λ ys. x ∷ ys) (same-each f x (a + 1) n (λ k low high. each k (omega (arith, low)) (omega (arith, high))))

  pub heights-are : 0 < columns → heights_of style texts ≡ replicate (length counts) (padded style.padding.top.size style.padding.bottom.size 1)
  unfolding table_heights
  heights-are some =
      let long : length (evened columns texts) ≡ length counts = rows-are ∙ count-split counts cells in
      single-sizes (row_needs (compact_sizing style) columns (evened columns texts)) (λ i j. visible i j) (λ i j. one-row i j) some
      ∙ same-each _ (padded style.padding.top.size style.padding.bottom.size 1) 0 (length (evened columns texts)) (λ i low high. height-of i (omega (arith, high, rows-are)) some)
      ∙ ap (λ n. replicate n (padded style.padding.top.size style.padding.bottom.size 1)) long

  -- without columns there are none
  pub no-widths : columns ≡ 0 → widths_of style texts ≡ []
  unfolding table_widths track_sizes
  no-widths none = whole (length (evened columns texts) == 0)
    where
      table : TrackNeeds
      table = column_needs (compact_sizing style) columns (evened columns texts)

      whole : (b : Bool) → (if b then [] else fold (meet table.has_boundary) (map (least_size table) (range_with_len 0 columns)) (spanning_needs table)) ≡ []
      whole true = refl
      whole false =
          ap (fold (meet table.has_boundary) (map (least_size table) (range_with_len 0 columns))) (none-spanning table (λ j i. visible i j) (λ j i. one-column i j))
          ∙ ap (λ n. map (least_size table) (range_with_len 0 n)) none

  pub no-heights : columns ≡ 0 → heights_of style texts ≡ []
  unfolding table_heights track_sizes
  no-heights none =
      let table = row_needs (compact_sizing style) columns (evened columns texts) in
      let off : (columns == 0) ≡ true = grind (arith, nat_tests, none) in
      ap (λ b. if b then [] else fold (meet table.has_boundary) (map (least_size table) (range_with_len 0 table.tracks)) (spanning_needs table)) off

  -- those of the widest cells with their paddings
  module _ (whole : sum counts ≡ length cells) (widths : List ℕ) (long : length widths ≡ greatest counts) (each : (k : ℕ) → get_or widths k 0 ≡ greatest (map (width_in k) (split_by_lengths counts cells))) where
    as-many : columns ≡ length widths
    as-many = columns-split counts cells whole ∙ sym long

    some-rows : (ns : List ℕ) → 0 < greatest ns → 0 < length ns
    some-rows [] some = absurd (omega (arith, some))
    some-rows (n ∷ ns) some = omega arith

    pub padded-widths : 0 < length widths → widths_of style texts ≡ map (padded style.padding.left.size style.padding.right.size) widths
    padded-widths some =
        let need : ℕ → ℕ = λ j. padded style.padding.left.size style.padding.right.size (greatest (map (width_in j) (split_by_lengths counts cells))) in
        widths-are (some-rows counts (omega (arith, some, long)))
        ∙ ap (λ n. map need (range_with_len 0 n)) as-many
        ∙ map-from need (padded style.padding.left.size style.padding.right.size) 0 widths 0
        (λ k below. let here : 0 + k ≡ k = omega arith in ap need here ∙ ap (padded style.padding.left.size style.padding.right.size) (sym (each k)))

    map-replicate : (f : ℕ → ℕ) (n x : ℕ) → replicate n (f x) ≡ map f (replicate n x)
    map-replicate f zero x = refl
    map-replicate f (suc n) x = ap (λ ys. f x ∷ ys) (map-replicate f n x)

    pub padded-heights : 0 < length widths → heights_of style texts ≡ map (padded style.padding.top.size style.padding.bottom.size) (replicate (length counts) 1)
    padded-heights some =
        heights-are (omega (arith, some, as-many)) ∙ map-replicate (padded style.padding.top.size style.padding.bottom.size) (length counts) 1

    empty-of : (xs : List ℕ) → length xs ≡ 0 → xs ≡ []
    empty-of [] none = refl
    empty-of (x ∷ xs) none = absurd (omega (arith, none))

    pub empty-widths : length widths ≡ 0 → widths ≡ widths_of style texts
    empty-widths none = empty-of widths none ∙ sym (no-widths (as-many ∙ none))

    pub empty-heights : length widths ≡ 0 → [] ≡ heights_of style texts
    empty-heights none = sym (no-heights (as-many ∙ none))

-- ---- as they are found

-- no number is greater than the greatest
pub at-most-greatest : (ns : List ℕ) (i : ℕ) → i < length ns → get_or ns i 0 ≤ greatest ns
at-most-greatest [] i below = absurd (omega (arith, below))
at-most-greatest (n ∷ ns) zero below = omega arith
at-most-greatest (n ∷ ns) (suc i) below = let rest = at-most-greatest ns i (omega (arith, below)) in omega (arith, rest)

-- what is written into a vector as a slice
pub written : (n : ℕ) (new old : List ℕ) → length new ≡ n → take n (new ++ drop (length new) old) ≡ new
written n new old long = ap (λ m. take m (new ++ drop (length new) old)) (sym long) ∙ take-append_seam new (drop (length new) old)

pub none-of : (n : ℕ) (b : Bool) → b ≡ (n == 0) → b ≡ true → n ≡ 0
none-of n b is on = grind (arith, nat_tests, is, on)
