-- Cells one after another, cell by cell, and in rows.
use Rattle.std.proofs.Common.{◌≡◌, ◌∙◌, ◌+◌, ◌-◌, ◌*◌, ◌<◌, ◌≤◌, ◌==◌, ◌/◌, ◌%◌, ◌↔◌, inl, inr, ℕ, zero, suc, List, [], ◌∷◌, ◌++◌, Option, None, Some, Bool, true, false, IsTrue, ap, append-nil, append_assoc, arith, drop, eqb-true, length, length-append, length-take-le, refl, subst, sum, sym, take, zero-add}
use Rattle.std.proofs.Math.Nat.{mod-add-div', mul-mod_left, mul-zero}
use Rattle.std.proofs.lemmas.Grind.{flat_map-append}
use Rattle.std.proofs.lemmas.Bool.{cases_lt, eqb-false}
use Rattle.std.proofs.lemmas.List.{length-drop, length_push, nil_from_length, take_all}
use Rattle.std.proofs.lemmas.List.Sums.{sum_by-take-le}
use Rattle.std.proofs.lemmas.Nat.{mod-mul-add, mul-le}
use Rattle.std.specs.List.{AllByRecursion}
use Rattle.std.specs.Prelude.{flat_map, if◌then◌else◌}
use Rattle.basinmug_bounded.specs.Cells.{AreRecords, AreWhole, AreWholeRows, Given, HasFlawed, IsCellFault, cells_in, cells_read, fault_at, lengths_read}
use Rattle.basinmug_bounded.specs.declared.refusal.CellFault.{CellFault}
use Rattle.basinmug_bounded.specs.declared.refusal.Refusal.TheVariants.{Cell}
use Rattle.basinmug_cells.specs.Held.{Held, row_ended, with_cell}
use Rattle.basinmug_input.proofs.Rows.{all-push}
use Rattle.basinmug_input.specs.declared.cells.Flaw.{Flaw}
use Rattle.basinmug_input.specs.declared.cells.Flaw.TheVariants.{Escape, NotText}
use Rattle.program_options.specs.declared.basinmug.Escapes.{Escapes}

-- ---- one cell more

-- what begins after so many is one more of what is before
pub next-taken : {A : Type 0} (i : ℕ) (xs : List A) (y : A) (ys : List A) → drop i xs ≡ y ∷ ys → take (suc i) xs ≡ take i xs ++ y ∷ []
next-taken zero xs y ys is = ap (take 1) is
next-taken (suc i) [] y ys is = cc is
next-taken (suc i) (x ∷ xs) y ys is = ap (λ rest. x ∷ rest) (next-taken i xs y ys is)

pub next-dropped : {A : Type 0} (i : ℕ) (xs : List A) (y : A) (ys : List A) → drop i xs ≡ y ∷ ys → drop (suc i) xs ≡ ys
next-dropped zero xs y ys is = ap (drop 1) is
next-dropped (suc i) [] y ys is = cc is
next-dropped (suc i) (x ∷ xs) y ys is = next-dropped i xs y ys is

-- ---- whole records

-- no cells are left after whole records
pub whole-of-some : (count per_record : ℕ) → IsTrue (count % per_record == 0) ↔ AreWhole count per_record
whole-of-some count per_record = (
  λ is. (
    count / per_record,
    sym (mod-add-div' count per_record) ∙ ap (λ (n : ℕ). n + count / per_record * per_record) (eqb-true (count % per_record) 0 is) ∙ zero-add (count / per_record * per_record),
  ),
  λ whole. ap (λ (n : ℕ). n == 0) (ap (λ (n : ℕ). n % per_record) whole.1 ∙ mul-mod_left whole.0 per_record),
)

-- ---- rows

-- whole rows have so many cells together
pub whole-length : (per_record : ℕ) (rows : List (List (List ℕ))) → AllByRecursion (λ row. (length row ≡ per_record) × (0 < per_record)) rows → length (flat_map (λ row. row) rows) ≡ length rows * per_record
whole-length per_record [] all = grind arith
whole-length per_record (row ∷ rows) all =
    let here : length row ≡ per_record = all.0.0 in
    let more = whole-length per_record rows all.1 in
    let both = length-append row (flat_map (λ row. row) rows) in grind (arith, here, more, both)

-- a part of a row is left over from whole rows only if there are not so many
pub no-part : (per_record count : ℕ) (rows : List (List (List ℕ))) (part : List (List ℕ)) → AllByRecursion (λ row. (length row ≡ per_record) × (0 < per_record)) rows → length part < per_record
    → length (flat_map (λ row. row) rows ++ part) ≡ count → count % per_record ≡ 0 → length part ≡ 0
no-part per_record count rows part all short is none =
    let total : length (flat_map (λ row. row) rows ++ part) ≡ length rows * per_record + length part =
    length-append (flat_map (λ row. row) rows) part ∙ ap (λ n. n + length part) (whole-length per_record rows all) in
    sym (mod-mul-add (length rows) per_record (length part) short) ∙ ap (λ n. n % per_record) (sym total ∙ is) ∙ none

-- a row that is full comes after the others
pub row-after : (rows : List (List (List ℕ))) (row : List (List ℕ)) → flat_map (λ row. row) (rows ++ row ∷ []) ≡ flat_map (λ row. row) rows ++ row
row-after rows row = flat_map-append (λ row. row) rows (row ∷ []) ∙ ap (λ rest. flat_map (λ row. row) rows ++ rest) (append-nil row)

-- there is no part of a row after so many cells as whole rows have
no-rest : (per_record count : ℕ) (rows : List (List (List ℕ))) (part : List (List ℕ)) → AllByRecursion (λ row. (length row ≡ per_record) × (0 < per_record)) rows → (0 < per_record → length part < per_record)
    → length (flat_map (λ row. row) rows ++ part) ≡ count → AreWhole count per_record → length part ≡ 0
no-rest zero count rows part all short is whole =
    let total = length-append (flat_map (λ row. row) rows) part in
    let empty : count ≡ 0 = whole.1 ∙ mul-zero whole.0 in omega (arith, total, is, empty)
no-rest (suc more) count rows part all short is whole =
    let some : 0 < suc more = omega arith in
    no-part (suc more) count rows part all (short some) is (ap (λ n. n % suc more) whole.1 ∙ mul-mod_left whole.0 (suc more))

pub whole-rows : (per_record : ℕ) (cells : List (List ℕ)) (rows : List (List (List ℕ))) (part : List (List ℕ)) → flat_map (λ row. row) rows ++ part ≡ cells
    → AllByRecursion (λ row. (length row ≡ per_record) × (0 < per_record)) rows → (0 < per_record → length part < per_record) → AreWhole (length cells) per_record → AreWholeRows per_record cells rows
whole-rows per_record cells rows part joined all short whole =
    let none = nil_from_length part (no-rest per_record (length cells) rows part all short (ap length joined) whole) in
    record {
      joined = sym (append-nil (flat_map (λ row. row) rows)) ∙ ap (λ rest. flat_map (λ row. row) rows ++ rest) (sym none) ∙ joined;
      whole = all;
    }

-- cells in whole rows, and in one that is not full
pub record AreInRows (per_record : ℕ) (cells : List (List ℕ)) (rows : Held) : Type 0 where
  pub joined : flat_map (λ row. row) rows.rows ++ rows.begun ≡ cells
  pub whole : AllByRecursion (λ row. (length row ≡ per_record) × (0 < per_record)) rows.rows
  pub part : 0 < per_record → length rows.begun < per_record

-- with one more
module _ (per_record : ℕ) (cells : List (List ℕ)) (rows : Held) (cell : List ℕ) (are : AreInRows per_record cells rows) where
  longer : length (rows.begun ++ cell ∷ []) ≡ length rows.begun + 1
  longer = length_push rows.begun cell

  more-joined : flat_map (λ row. row) rows.rows ++ (rows.begun ++ cell ∷ []) ≡ cells ++ cell ∷ []
  more-joined = sym (append_assoc (flat_map (λ row. row) rows.rows) rows.begun (cell ∷ [])) ∙ ap (λ (of : List (List ℕ)). of ++ cell ∷ []) are.joined

  next-full : (b : Bool) → (length (rows.begun ++ cell ∷ []) == per_record) ≡ b → AreInRows per_record (cells ++ cell ∷ []) (if b then row_ended (with_cell rows cell) else with_cell rows cell)
  next-full true full =
      let same = eqb-true (length (rows.begun ++ cell ∷ [])) per_record full in
      let size = longer in
      record {
        joined = append-nil (flat_map (λ row. row) (rows.rows ++ (rows.begun ++ cell ∷ []) ∷ [])) ∙ row-after rows.rows (rows.begun ++ cell ∷ []) ∙ more-joined;
        whole = all-push (λ row. (length row ≡ per_record) × (0 < per_record)) rows.rows (rows.begun ++ cell ∷ []) are.whole (same, omega (arith, same, size));
        part = λ some. some;
      }
  next-full false few = record {
    joined = more-joined;
    whole = are.whole;
    part = λ some.
        let other = eqb-false (length (rows.begun ++ cell ∷ [])) per_record few in
        let short = are.part some in
        let size = longer in omega (arith, other, short, size);
  }

  pub in_rows-more : (more full : Held) → more ≡ with_cell rows cell → full ≡ (if length more.begun == per_record then row_ended more else more) → AreInRows per_record (cells ++ cell ∷ []) full
  in_rows-more more full is ends =
      subst (AreInRows per_record (cells ++ cell ∷ []))
      (sym (ends ∙ ap (λ (more : Held). if length more.begun == per_record then row_ended more else more) is))
      (next-full (length (rows.begun ++ cell ∷ []) == per_record) refl)

-- ---- all cells

-- all of what is after a place
pub rest-taken : (place : ℕ) (bytes : List ℕ) → take (length bytes - place) (drop place bytes) ≡ drop place bytes
rest-taken place bytes = take_all (length bytes - place) (drop place bytes) (let l = length-drop place bytes in omega (arith, l))

-- there are as many cells as lengths
pub cells-length : (lengths bytes : List ℕ) → length (cells_in lengths bytes) ≡ length lengths
cells-length [] bytes = refl
cells-length (count ∷ lengths) bytes = let more = cells-length lengths (drop count bytes) in omega (arith, more)

-- the first cells are those of the first lengths
pub first-cells : (count : ℕ) (lengths bytes : List ℕ) → cells_in (take count lengths) bytes ≡ take count (cells_in lengths bytes)
first-cells zero lengths bytes = refl
first-cells (suc count) [] bytes = refl
first-cells (suc count) (size ∷ lengths) bytes = ap (λ (rest : List (List ℕ)). take size bytes ∷ rest) (first-cells count lengths (drop size bytes))

-- ---- those that are read

-- the cells of so many records, or of all
first-whole : (records all per_record : ℕ) (lengths : List ℕ) → length lengths ≡ all * per_record → AreWhole (length (take (records * per_record) lengths)) per_record
first-whole records all per_record lengths is =
    elim (cases_lt all records) [
      | inl past ↦
          let low : length lengths ≤ records * per_record = subst (λ (n : ℕ). n ≤ records * per_record) (sym is) (mul-le all per_record records per_record (omega (arith, past)) (omega arith)) in
          (all, ap length (take_all (records * per_record) lengths low) ∙ is)
      | inr within ↦
          let low : records * per_record ≤ length lengths = subst (λ (n : ℕ). records * per_record ≤ n) (sym is) (mul-le records per_record all per_record within (omega arith)) in
          (records, length-take-le (records * per_record) lengths low)
    ]

-- they are whole records
pub read-whole : (records : Option ℕ) (given : Given) → AreRecords given → AreWhole (length (lengths_read records given)) given.per_record
read-whole None given are = are.whole
read-whole (Some records) given are = first-whole records are.whole.0 given.per_record given.lengths are.whole.1

-- and have no more bytes than there are
pub read-within : (records : Option ℕ) (given : Given) → AreRecords given → sum (lengths_read records given) ≤ length given.bytes
read-within None given are = let all = are.all in omega (arith, all)
read-within (Some records) given are =
    let all = are.all in
    let some = sum_by-take-le (λ x. x) given.lengths (records * given.per_record) in omega (arith, all, some)

-- a cell with a flaw is in a column
pub in-column : (escapes : Escapes) (records : Option ℕ) (given : Given) (place : ℕ) (which : Flaw) → AreRecords given → HasFlawed escapes (cells_read records given) place which → 0 < given.per_record
in-column escapes records given place which are flawed = by given.per_record refl
  where
    by : (n : ℕ) → given.per_record ≡ n → 0 < given.per_record
    by zero none =
        let whole = read-whole records given are in
        let empty : length (lengths_read records given) ≡ 0 = whole.1 ∙ ap (λ (n : ℕ). whole.0 * n) none ∙ mul-zero whole.0 in
        let count = cells-length (lengths_read records given) given.bytes in
        let parts : length (cells_read records given) ≡ length flawed.before + length (flawed.here ∷ flawed.after) = ap length flawed.of_cells ∙ length-append flawed.before (flawed.here ∷ flawed.after) in
        absurd (omega (arith, empty, count, parts))
    by (suc n) some = omega (arith, some)

-- how it is reported
pub flawed-fault : (escapes : Escapes) (records : Option ℕ) (given : Given) (place : ℕ) (which : Flaw) (fault : CellFault) → AreRecords given → HasFlawed escapes (cells_read records given) place which
    → fault ≡ fault_at place which given.per_record → IsCellFault escapes records given (Cell fault)
flawed-fault escapes records given place (NotText byte) fault are flawed is =
    subst (λ (fault : CellFault). IsCellFault escapes records given (Cell fault)) (sym is) (record { are = are; place = place; which = NotText byte; flawed = flawed; is_fault = refl })
flawed-fault escapes records given place (Escape byte) fault are flawed is =
    subst (λ (fault : CellFault). IsCellFault escapes records given (Cell fault)) (sym is) (record { are = are; place = place; which = Escape byte; flawed = flawed; is_fault = refl })
