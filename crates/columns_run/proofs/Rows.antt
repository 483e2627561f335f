-- The rows and cells that one pass over the bytes of a text finds are those of the definition.
use Rattle.std.proofs.Common.{◌≡◌, ℕ, ◌+◌, ◌<◌, ◌≤◌, ◌==◌, Bool, true, false, cond, List, [], ◌∷◌, ◌++◌, map, length, sum, drop, refl, ap, sym, ◌∙◌, arith, append-nil, append_assoc, length-append, length-drop, if◌then◌else◌, ne_eqb}
use Rattle.std.proofs.lemmas.List.{drop-append-le, drop_all}
use Rattle.std.specs.List.{slice_split, onto_first}
use Rattle.ansi_scan.proofs.Comparing.{not_zero}
use Rattle.columns_run.specs.Rows.{line_feed, tab, without_empty_last, rows_of}
use Rattle.columns_table.specs.Rows.{split_by_lengths}
use Rattle.columns_run.specs.Passing.{rows_from, rows_with}
use Rattle.columns_table.proofs.SplitByLengths.{split_by_lengths-append, split_by_lengths-more, sum-more}

abbrev feeds : List ℕ → List (List ℕ)
feeds bytes = slice_split (λ b. b == line_feed) bytes

abbrev tabs : List ℕ → List (List ℕ)
tabs bytes = slice_split (λ b. b == tab) bytes

-- there is a first part
pub slice_split-parts : {X : Type 0} (p : X → Bool) (xs : List X) → (part : List X) × (parts : List (List X)) × (slice_split p xs ≡ part ∷ parts)
slice_split-parts p [] = ([], [], refl)
slice_split-parts {X} p (x ∷ xs) =
    let found = slice_split-parts p xs in
    elim (p x) as (λ b. (part : List X) × (parts : List (List X)) × (cond b ([] ∷ slice_split p xs) (onto_first x (slice_split p xs)) ≡ part ∷ parts)) [
      | true ↦ ([], slice_split p xs, refl)
      | false ↦ (x ∷ found.0, found.1, ap (onto_first x) found.2)
    ]

-- ---- the pass

-- the elements put before the first part
abbrev pub onto_front : {X : Type 0} → List X → List (List X) → List (List X)
onto_front xs [] = xs ∷ []
onto_front xs (part ∷ parts) = (xs ++ part) ∷ parts

-- the present row, which ends with this line
abbrev row : {Y : Type 0} → (List ℕ → Y) → List Y → List ℕ → List ℕ → List Y
row f front cell line = front ++ map f (onto_front cell (tabs line))

-- the rows of lines of which the first ends the present row
abbrev rows_of_lines : {Y : Type 0} → (List ℕ → Y) → List Y → List ℕ → List (List ℕ) → List (List Y)
rows_of_lines f front cell [] = []
rows_of_lines f front cell (line ∷ []) = if length front + length cell + length line == 0 then [] else row f front cell line ∷ []
rows_of_lines f front cell (line ∷ next ∷ lines) = row f front cell line ∷ rows_of_lines f [] [] (next ∷ lines)

row-nil : {Y : Type 0} (f : List ℕ → Y) (front : List Y) (cell : List ℕ) → row f front cell [] ≡ front ++ f cell ∷ []
row-nil f front cell = ap (λ xs. front ++ f xs ∷ []) (append-nil cell)

row-start : {Y : Type 0} (f : List ℕ → Y) (line : List ℕ) → row f [] [] line ≡ map f (tabs line)
row-start f line =
    let found = slice_split-parts (λ b. b == tab) line in
    ap (λ parts. map f (onto_front [] parts)) found.2 ∙ ap (map f) (sym found.2)

row-tab : {Y : Type 0} (f : List ℕ → Y) (front : List Y) (cell : List ℕ) (b : ℕ) (line : List ℕ) → (b == tab) ≡ true
    → row f front cell (b ∷ line) ≡ row f (front ++ f cell ∷ []) [] line
row-tab f front cell b line h =
    ap (λ test. front ++ map f (onto_front cell (cond test ([] ∷ tabs line) (onto_first b (tabs line))))) h
    ∙ ap (λ xs. front ++ f xs ∷ map f (tabs line)) (append-nil cell)
    ∙ ap (λ cells. front ++ f cell ∷ cells) (sym (row-start f line))
    ∙ sym (append_assoc front (f cell ∷ []) (row f [] [] line))

row-other : {Y : Type 0} (f : List ℕ → Y) (front : List Y) (cell : List ℕ) (b : ℕ) (line : List ℕ) → (b == tab) ≡ false
    → row f front cell (b ∷ line) ≡ row f front (cell ++ b ∷ []) line
row-other f front cell b line h =
    let found = slice_split-parts (λ b. b == tab) line in
    ap (λ test. front ++ map f (onto_front cell (cond test ([] ∷ tabs line) (onto_first b (tabs line))))) h
    ∙ ap (λ parts. front ++ map f (onto_front cell (onto_first b parts))) found.2
    ∙ ap (λ xs. front ++ f xs ∷ map f found.1) (sym (append_assoc cell (b ∷ []) found.0))
    ∙ ap (λ parts. front ++ map f (onto_front (cell ++ b ∷ []) parts)) (sym found.2)

-- lines of which only the first differs, and in the same way
rows_of_lines-same : {Y : Type 0} (f : List ℕ → Y) (front other_front : List Y) (cell other_cell line other : List ℕ) (lines : List (List ℕ))
    → 0 < length front + length cell + length line → 0 < length other_front + length other_cell + length other
    → row f front cell line ≡ row f other_front other_cell other
    → rows_of_lines f front cell (line ∷ lines) ≡ rows_of_lines f other_front other_cell (other ∷ lines)
rows_of_lines-same f front other_front cell other_cell line other [] some other_some same =
    ap (λ test. cond test [] (row f front cell line ∷ [])) (not_zero (length front + length cell + length line) some)
    ∙ ap (λ cells. cells ∷ []) same
    ∙ ap (λ test. cond test [] (row f other_front other_cell other ∷ [])) (sym (not_zero (length other_front + length other_cell + length other) other_some))
rows_of_lines-same f front other_front cell other_cell line other (next ∷ lines) some other_some same = ap (λ cells. cells ∷ rows_of_lines f [] [] (next ∷ lines)) same

rows_of_lines-start : {Y : Type 0} (f : List ℕ → Y) (lines : List (List ℕ)) → rows_of_lines f [] [] lines ≡ map (λ line. map f (tabs line)) (without_empty_last lines)
rows_of_lines-start f [] = refl
rows_of_lines-start f ([] ∷ []) = refl
rows_of_lines-start f ((x ∷ xs) ∷ []) =
    let some : 0 < 0 + 0 + length (x ∷ xs) = omega arith in
    ap (λ test. cond test [] (row f [] [] (x ∷ xs) ∷ [])) (not_zero (0 + 0 + length (x ∷ xs)) some) ∙ ap (λ cells. cells ∷ []) (row-start f (x ∷ xs))
rows_of_lines-start f ([] ∷ next ∷ lines) = ap (λ rows. row f [] [] [] ∷ rows) (rows_of_lines-start f (next ∷ lines))
rows_of_lines-start f ((x ∷ xs) ∷ next ∷ lines) =
    ap (λ rows. row f [] [] (x ∷ xs) ∷ rows) (rows_of_lines-start f (next ∷ lines))
    ∙ ap (λ cells. cells ∷ map (λ line. map f (tabs line)) (without_empty_last (next ∷ lines))) (row-start f (x ∷ xs))

-- the pass finds the rows of the lines, whatever it has seen of the first
rows_from-lines : {Y : Type 0} (f : List ℕ → Y) (front : List Y) (cell bytes : List ℕ) → rows_from f front cell bytes ≡ rows_of_lines f front cell (feeds bytes)
rows_from-lines f front cell [] =
    let size : length front + length cell ≡ length front + length cell + 0 = omega arith in
    ap (λ n. if n == 0 then [] else (front ++ f cell ∷ []) ∷ []) size
    ∙ ap (λ cells. if length front + length cell + 0 == 0 then [] else cells ∷ []) (sym (row-nil f front cell))
rows_from-lines {Y} f front cell (b ∷ bs) =
    let found = slice_split-parts (λ b. b == line_feed) bs in
    let pushed = front ++ f cell ∷ [] in
    let rest : (next : List Y) (bytes : List ℕ) → rows_from f next bytes bs ≡ rows_of_lines f next bytes (found.0 ∷ found.1) = λ next bytes. rows_from-lines f next bytes bs ∙ ap (rows_of_lines f next bytes) found.2 in
    let ended : pushed ∷ rows_from f [] [] bs ≡ rows_of_lines f front cell ([] ∷ feeds bs) =
    ap (λ rows. pushed ∷ rows) (rest [] [])
    ∙ ap (λ cells. cells ∷ rows_of_lines f [] [] (found.0 ∷ found.1)) (sym (row-nil f front cell))
    ∙ ap (λ parts. rows_of_lines f front cell ([] ∷ parts)) (sym found.2) in
    let some : 0 < length front + length cell + length (b ∷ found.0) = omega arith in
    let tab_some : 0 < length pushed + 0 + length found.0 = omega (arith, length-append front (f cell ∷ [])) in
    let other_some : 0 < length front + length (cell ++ b ∷ []) + length found.0 = omega (arith, length-append cell (b ∷ [])) in
    let within : (test : Bool) → (b == tab) ≡ test → cond test (rows_from f pushed [] bs) (rows_from f front (cell ++ b ∷ []) bs) ≡ rows_of_lines f front cell ((b ∷ found.0) ∷ found.1) =
    λ test. elim test as (λ test. (b == tab) ≡ test → cond test (rows_from f pushed [] bs) (rows_from f front (cell ++ b ∷ []) bs) ≡ rows_of_lines f front cell ((b ∷ found.0) ∷ found.1)) [
      | true ↦ λ h. rest pushed [] ∙ sym (rows_of_lines-same f front pushed cell [] (b ∷ found.0) found.0 found.1 some tab_some (row-tab f front cell b found.0 h))
      | false ↦ λ h. rest front (cell ++ b ∷ []) ∙ sym (rows_of_lines-same f front front cell (cell ++ b ∷ []) (b ∷ found.0) found.0 found.1 some other_some (row-other f front cell b found.0 h))
    ] in
    elim (b == line_feed) as (λ test. cond test (pushed ∷ rows_from f [] [] bs) (cond (b == tab) (rows_from f pushed [] bs) (rows_from f front (cell ++ b ∷ []) bs))
    ≡ rows_of_lines f front cell (cond test ([] ∷ feeds bs) (onto_first b (feeds bs)))) [
      | true ↦ ended
      | false ↦ within (b == tab) refl ∙ ap (λ parts. rows_of_lines f front cell (onto_first b parts)) (sym found.2)
    ]

map-map_split : {Y : Type 0} (f : List ℕ → Y) (lines : List (List ℕ)) → map (λ line. map f (tabs line)) lines ≡ map (map f) (map tabs lines)
map-map_split f [] = refl
map-map_split f (line ∷ lines) = ap (λ rows. map f (tabs line) ∷ rows) (map-map_split f lines)

pub rows_from-start : {Y : Type 0} (f : List ℕ → Y) (bytes : List ℕ) → rows_from f [] [] bytes ≡ map (map f) (rows_of (λ b. b) bytes)
rows_from-start f bytes = rows_from-lines f [] [] bytes ∙ rows_of_lines-start f (feeds bytes) ∙ map-map_split f (without_empty_last (feeds bytes))

-- ---- the state of the pass

-- a cell that ends its row
split-pushed : {Y : Type 0} (counts : List ℕ) (count : ℕ) (cells : List Y) (y : Y) → sum counts + count ≡ length cells
    → split_by_lengths (counts ++ (count + 1) ∷ []) (cells ++ y ∷ []) ≡ split_by_lengths counts cells ++ (drop (sum counts) cells ++ y ∷ []) ∷ []
split-pushed counts count cells y whole =
    let pushed = cells ++ y ∷ [] in
    let size : sum counts + (count + 1) ≡ length pushed = omega (arith, length-append cells (y ∷ [])) in
    let fits : sum counts ≤ length cells = omega arith in
    split_by_lengths-more counts (count + 1) pushed size
    ∙ ap (λ rows. rows ++ drop (sum counts) pushed ∷ []) (split_by_lengths-append counts cells (y ∷ []) fits)
    ∙ ap (λ front. split_by_lengths counts cells ++ front ∷ []) (drop-append-le (sum counts) cells (y ∷ []) fits)

pub rows_with-tab : {Y : Type 0} (f : List ℕ → Y) (counts : List ℕ) (cells : List Y) (cell : List ℕ) (b : ℕ) (bs : List ℕ)
    → sum counts ≤ length cells → b ≡ tab → rows_with f counts (cells ++ f cell ∷ []) [] bs ≡ rows_with f counts cells cell (b ∷ bs)
rows_with-tab f counts cells cell b bs fits same =
    ap (λ rows. rows ++ rows_from f (drop (sum counts) (cells ++ f cell ∷ [])) [] bs) (split_by_lengths-append counts cells (f cell ∷ []) fits)
    ∙ ap (λ front. split_by_lengths counts cells ++ rows_from f front [] bs) (drop-append-le (sum counts) cells (f cell ∷ []) fits)
    ∙ ap (λ b. rows_with f counts cells cell (b ∷ bs)) (sym same)

pub rows_with-line_feed : {Y : Type 0} (f : List ℕ → Y) (counts : List ℕ) (count : ℕ) (cells : List Y) (cell : List ℕ) (b : ℕ) (bs : List ℕ)
    → sum counts + count ≡ length cells → b ≡ line_feed
    → rows_with f (counts ++ (count + 1) ∷ []) (cells ++ f cell ∷ []) [] bs ≡ rows_with f counts cells cell (b ∷ bs)
rows_with-line_feed f counts count cells cell b bs whole same =
    let pushed = cells ++ f cell ∷ [] in
    let ended = counts ++ (count + 1) ∷ [] in
    let all : length pushed ≤ sum ended = omega (arith, length-append cells (f cell ∷ []), sum-more counts (count + 1)) in
    ap (λ front. split_by_lengths ended pushed ++ rows_from f front [] bs) (drop_all (sum ended) pushed all)
    ∙ ap (λ rows. rows ++ rows_from f [] [] bs) (split-pushed counts count cells (f cell) whole)
    ∙ append_assoc (split_by_lengths counts cells) ((drop (sum counts) cells ++ f cell ∷ []) ∷ []) (rows_from f [] [] bs)
    ∙ ap (λ b. rows_with f counts cells cell (b ∷ bs)) (sym same)

pub rows_with-other : {Y : Type 0} (f : List ℕ → Y) (counts : List ℕ) (cells : List Y) (cell : List ℕ) (b : ℕ) (bs : List ℕ)
    → (b ≡ tab → ⊥) → (b ≡ line_feed → ⊥) → rows_with f counts cells (cell ++ b ∷ []) bs ≡ rows_with f counts cells cell (b ∷ bs)
rows_with-other f counts cells cell b bs no_tab no_feed =
    let front = drop (sum counts) cells in
    let tabbed = rows_from f (front ++ f cell ∷ []) [] bs in
    let longer = rows_from f front (cell ++ b ∷ []) bs in
    ap (λ test. split_by_lengths counts cells ++ cond test tabbed longer) (sym (ne_eqb b tab no_tab))
    ∙ ap (λ test. split_by_lengths counts cells ++ cond test ((front ++ f cell ∷ []) ∷ rows_from f [] [] bs) (cond (b == tab) tabbed longer)) (sym (ne_eqb b line_feed no_feed))

-- a last row that no line feed ends
pub rows_with-last : {Y : Type 0} (f : List ℕ → Y) (counts : List ℕ) (count : ℕ) (cells : List Y) (cell : List ℕ)
    → sum counts + count ≡ length cells → 0 < count + length cell
    → split_by_lengths (counts ++ (count + 1) ∷ []) (cells ++ f cell ∷ []) ≡ rows_with f counts cells cell []
rows_with-last f counts count cells cell whole some =
    let front = drop (sum counts) cells in
    let there : 0 < length front + length cell = omega (arith, length-drop (sum counts) cells) in
    split-pushed counts count cells (f cell) whole
    ∙ ap (λ test. split_by_lengths counts cells ++ cond test [] ((front ++ f cell ∷ []) ∷ [])) (sym (not_zero (length front + length cell) there))

-- none, where no character is left
pub rows_with-none : {Y : Type 0} (f : List ℕ → Y) (counts : List ℕ) (count : ℕ) (cells : List Y) (cell : List ℕ)
    → sum counts + count ≡ length cells → count + length cell ≡ 0 → split_by_lengths counts cells ≡ rows_with f counts cells cell []
rows_with-none f counts count cells cell whole none =
    let front = drop (sum counts) cells in
    let gone : length front + length cell ≡ 0 = omega (arith, length-drop (sum counts) cells) in
    sym (append-nil (split_by_lengths counts cells)) ∙ ap (λ n. split_by_lengths counts cells ++ cond (n == 0) [] ((front ++ f cell ∷ []) ∷ [])) (sym gone)
