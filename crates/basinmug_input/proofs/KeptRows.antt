-- Rows that come one after the other, of which the first ones and the last ones are kept.
use Rattle.std.proofs.Common.{◌≡◌, ◌∙◌, ◌+◌, ◌-◌, ℕ, List, [], ◌∷◌, ◌++◌, drop, inl, inr, length, map, refl, sym, ap, subst, take, arith}
use Rattle.std.proofs.lemmas.Bool.{cases_lt}
use Rattle.std.proofs.lemmas.List.{append-nil, append_assoc, drop-append-le, drop-drop, drop_all, length-append, length-drop, length-take, length_push, map_push, take-append-drop, take-append-le, take_all}
use Rattle.std.proofs.Math.Seq.{drop-append_seam, take-append_seam}
use Rattle.std.specs.Prelude.{max, min}
use Rattle.tabled_text.specs.Rows.{longest}
use Rattle.program_options.specs.declared.basinmug.Escapes.{Escapes}
use Rattle.basinmug_cells.specs.Held.{Held, first_and_last, last_of, row_ended}
use Rattle.basinmug_input.specs.Cleaning.{cleaned}
use Rattle.basinmug_input.specs.Kept.{HasKept, IsReadRows, LeavesOutOneRun, StandsFor, kept_rows, rows_before}
use Rattle.basinmug_input.specs.declared.kept.KeptRows.{KeptRows}
use Rattle.basinmug_input.specs.declared.kept.ReadRows.{ReadRows}
use Rattle.basinmug_input.specs.declared.kept.RowChoice.{RowChoice}
use Rattle.basinmug_input.specs.declared.kept.RowChoice.TheVariants.{All, Ends}

-- ---- the last ones of a list

last-length : {X : Type 0} (most : ℕ) (xs : List X) → length (last_of most xs) ≡ min most (length xs)
last-length most xs = omega (arith, length-drop (length xs - most) xs)

-- with others after them they are the last ones of all
last-again : {X : Type 0} (most : ℕ) (xs after : List X) → last_of most (last_of most xs ++ after) ≡ last_of most (xs ++ after)
last-again most xs after =
    let k = length xs - most in
    let cut : last_of most xs ++ after ≡ drop k (xs ++ after) = sym (drop-append-le k xs after (omega arith)) in
    let sizes = length-append (last_of most xs) after in
    let all = length-append xs after in
    let size = last-length most xs in
    let m = length (last_of most xs ++ after) - most in
    let same : k + m ≡ length (xs ++ after) - most = omega (arith, sizes, all, size) in
    ap (drop m) cut ∙ drop-drop m k (xs ++ after) ∙ ap (λ (n : ℕ). drop n (xs ++ after)) same

-- ---- rows some of which are gone

-- the first and the last of the first and the last of a list with others after them are those of all
ends-again : {X : Type 0} (first last : ℕ) (xs after : List X) → first_and_last first last (first_and_last first last xs ++ after) ≡ first_and_last first last (xs ++ after)
ends-again first last xs after =
    elim (cases_lt (length xs) first) [
      | inl few ↦
          let none : drop first xs ≡ [] = drop_all first xs (omega (arith, few)) in
          let same : first_and_last first last xs ≡ xs =
          ap (λ (tail : List _). take first xs ++ last_of last tail) none ∙ ap (λ (end : List _). take first xs ++ end) (drop_all (0 - last) [] (omega arith))
          ∙ append-nil (take first xs) ∙ take_all first xs (omega (arith, few)) in
          ap (λ (of : List _). first_and_last first last (of ++ after)) same
      | inr many ↦
          let front = take first xs in
          let tail = drop first xs in
          let end = last_of last tail in
          let size : first ≡ length front = omega (arith, length-take first xs, many) in
          let joined : (front ++ end) ++ after ≡ front ++ (end ++ after) = append_assoc front end after in
          let taken : take first ((front ++ end) ++ after) ≡ front = ap (take first) joined ∙ ap (λ n. take n (front ++ (end ++ after))) size ∙ take-append_seam front (end ++ after) in
          let left : drop first ((front ++ end) ++ after) ≡ end ++ after = ap (drop first) joined ∙ ap (λ n. drop n (front ++ (end ++ after))) size ∙ drop-append_seam front (end ++ after) in
          ap (λ (of : List _). of ++ last_of last (drop first ((front ++ end) ++ after))) taken
          ∙ ap (λ (of : List _). front ++ last_of last of) left
          ∙ ap (λ (of : List _). front ++ of) (last-again last tail after)
          ∙ sym (ap (λ (of : List _). of ++ last_of last (drop first (xs ++ after))) (take-append-le first xs after many)
          ∙ ap (λ (of : List _). front ++ last_of last of) (drop-append-le first xs after many))
    ]

pub stands-same : (choice : RowChoice) (rows : Held) → StandsFor choice rows rows
stands-same choice rows = record { text = refl; begun = refl; kept = λ after. refl }

pub stands-without : (first last : ℕ) (rows : Held) → StandsFor (Ends first last) rows (record rows { rows = first_and_last first last rows.rows })
stands-without first last rows = record { text = refl; begun = refl; kept = λ after. ends-again first last rows.rows after }

pub stands-on : (choice : RowChoice) (old rows new : Held) → StandsFor choice old rows → StandsFor choice rows new → StandsFor choice old new
stands-on choice old rows new one other = record {
  text = other.text ∙ one.text;
  begun = other.begun ∙ one.begun;
  kept = λ after. other.kept after ∙ one.kept after;
}

-- ---- one row more

pub stands-ended : (choice : RowChoice) (old new : Held) → StandsFor choice old new → StandsFor choice (row_ended old) (row_ended new)
stands-ended choice old new is = record {
  text = is.text;
  begun = refl;
  kept = λ after.
      ap (kept_rows choice) (append_assoc new.rows (new.begun ∷ []) after)
      ∙ is.kept (new.begun ∷ after)
      ∙ ap (λ (begun : List (List ℕ)). kept_rows choice (old.rows ++ begun ∷ after)) is.begun
      ∙ ap (kept_rows choice) (sym (append_assoc old.rows (old.begun ∷ []) after));
}

longest-push : {X : Type 0} (rows : List (List X)) (row : List X) → longest (rows ++ row ∷ []) ≡ max (longest rows) (length row)
longest-push [] row = omega arith
longest-push (other ∷ rows) row = let more = longest-push rows row in omega (arith, more)

-- the next row is ended, and some that are not kept may be gone
pub kept-ended : (choice : RowChoice) (text : List ℕ) (rows : List (List (List ℕ))) (begun : List (List ℕ)) (old new : KeptRows) → HasKept choice text rows begun old → new.choice ≡ old.choice
    → StandsFor old.choice (row_ended old.rows) new.rows → new.count ≡ old.count + 1 → new.columns ≡ max old.columns (length old.rows.begun) → HasKept choice text (rows ++ begun ∷ []) [] new
kept-ended choice text rows begun old new has by stands counted columns =
    let before : Held = record { text = text; rows = rows; begun = begun } in
    let size = length_push rows begun in
    let here = ap length has.stands.begun in
    record {
      by = by ∙ has.by;
      stands = stands-on choice (row_ended before) (row_ended old.rows) new.rows (stands-ended choice before old.rows has.stands)
          (subst (λ (choice : RowChoice). StandsFor choice (row_ended old.rows) new.rows) has.by stands);
      counted = counted ∙ ap (λ (n : ℕ). n + 1) has.counted ∙ sym size;
      columns = omega (arith, columns, has.columns, here, longest-push rows begun);
    }

-- ---- rows that are kept

-- none has come
pub none-kept : (choice : RowChoice) (text : List ℕ) (kept : KeptRows) → kept.choice ≡ choice → kept.rows ≡ record { text = text; rows = []; begun = [] } → kept.count ≡ 0 → kept.columns ≡ 0 → HasKept choice text [] [] kept
none-kept choice text kept by none counted columns = record {
  by = by;
  stands = subst (λ (rows : Held). StandsFor choice (record { text = text; rows = []; begun = [] }) rows) (sym none) (stands-same choice (record { text = text; rows = []; begun = [] }));
  counted = counted;
  columns = columns;
}

-- all have come
pub kept-all : (choice : RowChoice) (text : List ℕ) (rows : List (List (List ℕ))) (kept : KeptRows) (read : ReadRows) → HasKept choice text rows [] kept
    → read.rows.rows ≡ kept_rows kept.choice kept.rows.rows → read.before ≡ rows_before kept.choice kept.count → read.left_out ≡ kept.count - length read.rows.rows → read.columns ≡ kept.columns
    → IsReadRows choice rows read
kept-all choice text rows kept read has all before left_out columns =
    let same : read.rows.rows ≡ kept_rows choice rows =
    all ∙ ap (λ (choice : RowChoice). kept_rows choice kept.rows.rows) has.by
    ∙ ap (kept_rows choice) (sym (append-nil kept.rows.rows)) ∙ has.stands.kept [] ∙ ap (kept_rows choice) (append-nil rows) in
    record {
      kept = same;
      before = before ∙ ap (λ (choice : RowChoice). rows_before choice kept.count) has.by ∙ ap (rows_before choice) has.counted;
      left_out = left_out ∙ ap (λ (n : ℕ). n - length read.rows.rows) has.counted ∙ ap (λ (of : List (List (List ℕ))). length rows - length of) same;
      columns = columns ∙ has.columns;
    }

-- one record more
pub kept-more : (escapes : Escapes) (choice : RowChoice) (text : List ℕ) (raw : List (List (List ℕ))) (here : List (List ℕ)) (kept : KeptRows)
    → HasKept choice text (map (map (cleaned escapes)) raw ++ map (cleaned escapes) here ∷ []) [] kept → HasKept choice text (map (map (cleaned escapes)) (raw ++ here ∷ [])) [] kept
kept-more escapes choice text raw here kept is =
    subst (λ (rows : List (List (List ℕ))). HasKept choice text rows [] kept) (sym (map_push (map (cleaned escapes)) raw here)) is

-- with cells of the next row, which isn't ended
pub kept-begun : (choice : RowChoice) (text : List ℕ) (rows : List (List (List ℕ))) (cells : List (List ℕ)) (old new : KeptRows) → HasKept choice text rows [] old → new.choice ≡ old.choice
    → new.rows ≡ record old.rows { begun = old.rows.begun ++ cells } → new.count ≡ old.count → new.columns ≡ old.columns → HasKept choice text rows cells new
kept-begun choice text rows cells old new has by more counted columns =
    let before : Held = record { text = text; rows = rows; begun = [] } in
    record {
      by = by ∙ has.by;
      stands = record {
        text = ap (λ (rows : Held). rows.text) more ∙ has.stands.text;
        begun = ap (λ (rows : Held). rows.begun) more ∙ ap (λ (begun : List (List ℕ)). begun ++ cells) has.stands.begun;
        kept = λ after. ap (λ (rows : Held). kept_rows choice (rows.rows ++ after)) more ∙ has.stands.kept after;
      };
      counted = counted ∙ has.counted;
      columns = columns ∙ has.columns;
    }

-- so many first ones, and none of the last, are the first
pub kept-first-ones : {X : Type 0} (first : ℕ) (rows : List X) → kept_rows (Ends first 0) rows ≡ take first rows
kept-first-ones first rows =
    ap (λ (none : List _). take first rows ++ none) (drop_all (length (drop first rows) - 0) (drop first rows) (omega arith)) ∙ append-nil (take first rows)

-- ---- those that are left out come one after the other

-- rows in three parts, of which the second goes
between-parts : {X : Type 0} (first last : ℕ) (rows : List X) → let tail = drop first rows in rows ≡ take first rows ++ take (length tail - last) tail ++ last_of last tail
between-parts first last rows =
    let tail = drop first rows in
    sym (take-append-drop first rows)
    ∙ ap (λ (of : List _). take first rows ++ of) (sym (take-append-drop (length tail - last) tail))
    ∙ sym (append_assoc (take first rows) (take (length tail - last) tail) (last_of last tail))

pub one-run : {X : Type 0} (choice : RowChoice) (rows : List X) → LeavesOutOneRun choice rows
one-run All rows = record {
  between = [];
  parts = sym (take-append-drop (length rows) rows) ∙ ap (λ (of : List _). of ++ drop (length rows) rows) (sym (append-nil (take (length rows) rows)));
  size = omega arith;
}
one-run (Ends first last) rows =
    let tail = drop first rows in
    let front = take first rows in
    let end = last_of last tail in
    let before : min first (length rows) ≡ length front = sym (length-take first rows) in
    let taken : take (min first (length rows)) (front ++ end) ≡ front = ap (λ n. take n (front ++ end)) before ∙ take-append_seam front end in
    let left : drop (min first (length rows)) (front ++ end) ≡ end = ap (λ n. drop n (front ++ end)) before ∙ drop-append_seam front end in
    record {
      between = take (length tail - last) tail;
      parts = between-parts first last rows
          ∙ ap (λ (of : List _). of ++ take (length tail - last) tail ++ end) (sym taken)
          ∙ ap (λ (of : List _). take (min first (length rows)) (front ++ end) ++ take (length tail - last) tail ++ of) (sym left);
      size = omega (arith, length-take (length tail - last) tail, length-append front end, length-take first rows, length-drop first rows, last-length last tail);
    }
